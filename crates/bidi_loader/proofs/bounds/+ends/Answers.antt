use Rattle.std.proofs.Common.{ap, subst, ◌∙◌}
use Rattle.bidi_cddl.specs.declared.written.Node.TheVariants as node
use Rattle.bidi_loader.specs.Plain.{bounded}
use Rattle.bidi_loader.specs.Readings.{IsNode}
use Rattle.bidi_loader.proofs.NodeLemmas.{type-is, bounded-is}
use Rattle.bidi_loader.proofs.MadeLemmas.{eq_some}
use Rattle.bidi_loader.proofs.bounds.+ends.Goals as goal

pub ends_of-returns-in-Name : goal.ends_of-returns-in-Name
ends_of-returns-in-Name t c = λ h.
    let w = c.args.written.now in
    eq_some c.prelude_type.result _ _ (type-is w c.args.k (node.Name c.in-Name.name) (subst (λ n. IsNode w c.args.k n) c.in-Name.is h)) c.prelude_type.ensures

pub ends_of-returns-in_ok-ends-in-Bounded : goal.ends_of-returns-in_ok-ends-in-Bounded
ends_of-returns-in_ok-ends-in-Bounded t c = λ h.
    let w = c.args.written.now in
    let k = c.args.k in
    let b = c.in-Bounded in
    let e = c.in_ok-ends-in-Bounded.ensures in
    eq_some c.with_bound.result _ _
    (bounded-is w k b.base b.control b.number (subst (λ n. IsNode w k n) b.is h) e.0 ∙ ap (λ σ. bounded σ b.control.now b.number.now) e.1)
    c.with_bound.ensures
