use Rattle.std.proofs.Common.{◌≡◌, ◌∙◌, drop, ap, sym}
use Rattle.std.proofs.Common.{true}
use Rattle.bidi_cddl.specs.Steps.{is_also, level_of}
use Rattle.bidi_cddl.proofs.ReadLemmas.{lift}
use Rattle.bidi_cddl.proofs.level.part.Goals as goal

pub returns : goal.returns
returns c =
    let s = c.in_ok-step.step in
    let also : is_also (level_of s.form) c.args.level ≡ true =
    ap (λ l. is_also l c.args.level) (sym c.level_of.ensures) ∙ (sym c.is_also.ensures ∙ c.if-not-is_also.false) in
    λ nodes ts all. lift (level_of s.form) c.args.level nodes s.node (drop s.from ts) (drop s.to ts) also (all c.args.place s (sym c.in_ok-step.ensures))
