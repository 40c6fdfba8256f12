use Rattle.std.proofs.Common.{sym, subst, arith}
use Rattle.bidi_tree.specs.Node.{IsSound, IsWritable}
use Rattle.bidi_tree.proofs.OutlineLemmas.{IsSound-outline_node}
use Rattle.bidi_handles.proofs.ShowingLemmas.{remote-writable}
use Rattle.bidi_handles.proofs.holding.measured_and_written.Goals as goal

pub append_outline-requires : goal.append_outline-requires
append_outline-requires c = subst IsWritable (sym c.in_ok-outline.ensures) (remote-writable c.args.value.now c.requires)

pub returns-clause-sound : goal.returns-clause-sound
returns-clause-sound c = subst IsSound c.in_ok-outline.ensures (IsSound-outline_node c.in_ok-outline.outline)
