use Rattle.std.proofs.Common.{subst}
use Rattle.bidi_tree.specs.Node.{IsSound}
use Rattle.bidi_tree.proofs.OutlineLemmas.{IsSound-outline_node}
use Rattle.bidi_messages.proofs.StraightLemmas.{if-ok}
use Rattle.bidi_messages.proofs.straight_entry.append_args.Goals as goal

pub returns-clause-sound : goal.returns-clause-sound
returns-clause-sound c = if-ok c.append_outline.result (subst IsSound c.in_ok-outline.ensures (IsSound-outline_node c.in_ok-outline.outline))
