use Rattle.std.proofs.Common.{◌≡◌}
use Rattle.bidi_tree.specs.View.{members_node}
use Rattle.bidi_shape.specs.Parts.{has_named, texts_in}
use Rattle.bidi_shape.proofs.members.has_listed.Given as goal

abbrev pub invariant-loop-name : goal.invariant-loop-name
invariant-loop-name l = has_named (texts_in l.names) (members_node l.members.entries) ≡ has_named (texts_in l.names) (members_node l.name-iterator)
