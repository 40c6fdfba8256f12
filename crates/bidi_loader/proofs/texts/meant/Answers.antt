use Rattle.std.specs.Prelude.{Err}
use Rattle.std.proofs.Common.{◌≡◌, ap, sym, subst, ◌∙◌, IfOk, option_map, string_bytes}
use Rattle.bidi_loader.proofs.TextLemmas.{unescaped-is, unescaped-none}
use Rattle.bidi_loader.proofs.texts.meant.Goals as goal

pub returns-in-Ok : goal.returns-in-Ok
returns-in-Ok c =
    let e = unescaped-is c.args.text.now c.deref.result.now _ (c.deref.ensures ∙ c.in_ok-quoted.ensures) c.in-Ok.ensures.ok in
    subst (λ u. IfOk c.string_of.result (λ found. option_map string_bytes found ≡ u)) (sym e) c.string_of.ensures

pub returns-in-Err-Invalid : goal.returns-in-Err-Invalid
returns-in-Err-Invalid c =
    sym (unescaped-none c.args.text.now c.deref.result.now (c.deref.ensures ∙ c.in_ok-quoted.ensures) (c.in-Err-Invalid.ensures.invalid (ap (λ e. Err e) c.in-Err-Invalid.field-0-is)))
