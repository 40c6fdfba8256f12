use Rattle.std.proofs.Common.{subst, arith}
use Rattle.bidi_link.proofs.LinkFateLemmas.{AreLost, are_numbered, lost-next, all_lost, no_length}
use Rattle.bidi_link.proofs.link_end.lose.Goals as goal

pub loop-id-preserved : goal.loop-id-preserved
loop-id-preserved c = (
  λ numbered all.
      lost-next c.args.commands.now.items c.loop-id.commands.items c.settle.new.commands.items c.in-Some.id c.next.new.self.rest.items
      (subst (AreLost c.args.commands.now.items c.loop-id.commands.items) c.in-Some.ensures.steps.0 (c.loop-id.invariant.0 numbered all))
      c.settle.ensures.set,
  λ well. c.settle.ensures.well tt (c.loop-id.invariant.1 well),
)

pub returns-clause-entries : goal.returns-clause-entries
returns-clause-entries c = λ v whole is all.
    all_lost c.args.commands.now.items c.loop-id.commands.items v (subst (AreLost c.args.commands.now.items c.loop-id.commands.items)
    (no_length c.loop-id.id-iterator.rest.items (omega (arith, c.in-None.ensures.steps.0, c.loop-id.id-iterator.rest.ok)))
    (c.loop-id.invariant.0 (are_numbered 1 v c.args.commands.now.items v.commands is) all)) whole is

pub returns-clause-well : goal.returns-clause-well
returns-clause-well c = c.loop-id.invariant.1
