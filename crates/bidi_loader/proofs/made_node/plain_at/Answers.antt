use Rattle.std.proofs.Common.{ap, sym, subst, ◌∙◌}
use Rattle.bidi_cddl.specs.declared.written.Node.TheVariants as node
use Rattle.bidi_grammar.specs.Source.{exactly}
use Rattle.bidi_loader.specs.Meaning.{text_type}
use Rattle.bidi_loader.specs.Readings.{AreTexts, IsNode}
use Rattle.bidi_loader.proofs.NodeLemmas.{type-is}
use Rattle.bidi_loader.proofs.ReadingLemmas.{text-here}
use Rattle.bidi_loader.proofs.MadeLemmas.{bounded_some}
use Rattle.bidi_loader.proofs.made_node.plain_at.Goals as goal

pub returns-in-Number : goal.returns-in-Number
returns-in-Number c = λ h e.
    let w = c.args.written.now in
    type-is w c.args.k (node.Number c.in-Number.number) (subst (λ n. IsNode w c.args.k n) c.in-Number.is h) ∙ sym c.range.ensures

pub returns-in-Range : goal.returns-in-Range
returns-in-Range c = λ h e.
    let w = c.args.written.now in
    type-is w c.args.k (node.Range c.in-Range.least c.in-Range.most c.in-Range.is_open) (subst (λ n. IsNode w c.args.k n) c.in-Range.is h) ∙ sym c.range-in-Range.ensures

pub returns-in-Bounded : goal.returns-in-Bounded
returns-in-Bounded c = λ h e.
    let w = c.args.written.now in
    let b = c.in-Bounded in
    bounded_some c.bounded.result w c.args.k b.base b.control b.number (subst (λ n. IsNode w c.args.k n) b.is h) c.bounded.ensures

pub returns-in-Some : goal.returns-in-Some
returns-in-Some c = λ h e.
    let w = c.args.written.now in
    let k = c.args.k in
    let texts = c.deref.result.now in
    let here = subst (λ n. IsNode w k n) c.in-Text.is h in
    let known = subst (λ ts. AreTexts w ts) (sym c.deref.ensures.value) e in
    type-is w k (node.Text c.in-Text.field-0) here ∙ ap text_type (text-here w texts k (node.Text c.in-Text.field-0) known here c.in-Some.ensures.0)
    ∙ ap exactly (sym c.in-Some.ensures.1)
