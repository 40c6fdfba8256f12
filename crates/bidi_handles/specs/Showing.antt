-- What a value is shown as: the tree of a remote value, whose first member is its type unless it has a name. Defined by this project.
use Rattle.std.specs.Prelude.{◌≡◌, codes}
use Rattle.bidi_tree.specs.Node.{Node, map, Members, member, IsSound}
use Rattle.bidi_values.specs.RemoteView.{remote_tree}
use Rattle.bidi_values.specs.declared.held.Held.{Held}
use Rattle.bidi_values.specs.declared.kinds.ListKind.{ListKind}
use Rattle.bidi_values.specs.declared.kinds.PairsKind.{PairsKind}
use Rattle.bidi_values.specs.declared.nested.Nested.{Nested}
use Rattle.bidi_values.specs.declared.remote_value.RemotePlain.{RemotePlain}

-- the tree is that of a remote value, and its text reads back
abbrev pub IsRemote : Node → Type 0
IsRemote t = (v : Nested RemotePlain (Held ListKind) (Held PairsKind)) × (remote_tree v ≡ t) × IsSound t

-- the tree is an object whose first member is `type`
abbrev pub BeginsWithType : Node → Type 0
BeginsWithType t = (kind : Node) × (others : Members) × (t ≡ map (member (codes "type") kind others))
