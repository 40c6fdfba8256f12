use Rattle.std.proofs.Common.{◌∙◌, sym, ap}
use Rattle.std.specs.List.{position}
use Rattle.std.specs.Prelude.{◌==◌}
use Rattle.bidi_contexts.specs.declared.context.Context.{Context}
use Rattle.bidi_contexts.specs.ContextRows.{row_of, without_in}
use Rattle.bidi_contexts.proofs.MoveLemmas.{changed-at, changed-none}
use Rattle.bidi_handles.proofs.ListLemmas.{no_value}
use Rattle.bidi_contexts.proofs.contexts.Contexts.disown.Goals as goal

pub returns-in-Some : goal.returns-in-Some
returns-in-Some c =
    let items = c.args.self.now.live.items in
    let number = c.args.number in
    let at = ap (position (λ (x : Context). x.number == number)) (sym c.deref.ensures.value) ∙ (sym c.place_of.ensures ∙ c.in-Some.is) in
    changed-at row_of (without_in c.args.numbers.items) number items c.in-Some.place c.disown.new.self c.index_mut.result.now at
    (c.disown.ensures ∙ (ap (λ ns. without_in ns (row_of c.index_mut.result.now)) c.deref-in-Some.ensures.value
    ∙ ap (λ x. without_in c.args.numbers.items (row_of x)) c.index_mut.ensures.value))

pub returns : goal.returns
returns c =
    let items = c.args.self.now.live.items in
    let number = c.args.number in
    let at = ap (position (λ (x : Context). x.number == number)) (sym c.deref.ensures.value)
    ∙ (sym c.place_of.ensures ∙ no_value c.place_of.result c.in_default.not-Some) in
    changed-none row_of (without_in c.args.numbers.items) number items at
