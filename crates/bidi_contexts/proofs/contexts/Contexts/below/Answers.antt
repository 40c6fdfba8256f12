use Rattle.std.proofs.Common.{◌∙◌, ap, map, sym}
use Rattle.bidi_contexts.specs.ContextRows.{ContextRow, row_of}
use Rattle.bidi_contexts.proofs.SubtreeLemmas.{below-place, below-none}
use Rattle.bidi_contexts.proofs.contexts.Contexts.below.Goals as goal

pub returns-in-Some : goal.returns-in-Some
returns-in-Some c = λ past k table is.
    below-place past c.deref.result.now c.deref-in-Some.result.now c.args.context.now.number k c.in-Some.start c.in-Some.end
    (ap (map row_of) c.deref.ensures.value ∙ table.rows) table.accepted (c.deref.ensures.value ∙ sym c.deref-in-Some.ensures.value)
    (ap (λ (r : ContextRow). r.number) is) c.in-Some.ensures.0 c.in-Some.ensures.1

pub returns-in-None : goal.returns-in-None
returns-in-None c = λ past k table is.
    below-none past c.deref.result.now c.args.context.now.number k (ap (map row_of) c.deref.ensures.value ∙ table.rows) table.accepted
    (ap (λ (r : ContextRow). r.number) is) c.in-None.ensures
