-- The values of the code as contracts see them: their trees, and the contents of handles. After WebDriver BiDi, "The script.RemoteValue Type".
use Rattle.std.specs.Prelude.{ℕ, map, Vec}
use Rattle.std.specs.declared.alloc.Global.{Global}
use Rattle.std.specs.declared.rc.Rc.{Rc}
use Rattle.bidi_tree.specs.Node.{Node, Items}
use Rattle.bidi_tree.specs.View.{items_of}
use Rattle.bidi_values.specs.RemoteView.{remote_tree, remote_pair_tree}
use Rattle.bidi_values.specs.View.{nested_tree, nested_pair_tree, nested_key_tree}
use Rattle.bidi_values.specs.declared.nested.Nested.{Nested}
use Rattle.bidi_values.specs.declared.nested.NestedPair.{NestedPair}
use Rattle.bidi_values.specs.declared.nested.NestedKey.{NestedKey}
use Rattle.bidi_values.specs.declared.kinds.ListKind.{ListKind}
use Rattle.bidi_values.specs.declared.kinds.PairsKind.{PairsKind}
use Rattle.bidi_values.specs.declared.local_value.LocalPlain.{LocalPlain}
use Rattle.bidi_values.specs.contracts.local_value.LocalPlainNestsListKindPairsKind.TheImpl as local
use Rattle.bidi_values.specs.declared.remote_value.RemotePlain.{RemotePlain}
use Rattle.bidi_values.specs.declared.held.Held.{Held as HeldBy}
use Rattle.bidi_handles.specs.declared.handle.Handle.{Handle}
use Rattle.bidi_handles.specs.declared.handle.HeldValue.{HeldValue}

-- the tree of a local value
abbrev pub local_tree : Nested LocalPlain ListKind PairsKind → Node
local_tree v = nested_tree local.ghosts.nesting v

-- the tree of a pair of a local object or map
abbrev pub local_pair_tree : NestedPair LocalPlain ListKind PairsKind → Node
local_pair_tree p = nested_pair_tree local.ghosts.nesting p

-- the tree of the key of a pair of a local object or map
abbrev pub local_key_tree : NestedKey LocalPlain ListKind PairsKind → Node
local_key_tree k = nested_key_tree local.ghosts.nesting k

-- the trees of some remote values
abbrev pub remote_trees : Vec (Nested RemotePlain (HeldBy ListKind) (HeldBy PairsKind)) Global → Items
remote_trees vs = items_of (map remote_tree vs.items)

-- the trees of some pairs of a remote object or map
abbrev pub remote_pair_trees : Vec (NestedPair RemotePlain (HeldBy ListKind) (HeldBy PairsKind)) Global → Items
remote_pair_trees ps = items_of (map remote_pair_tree ps.items)

-- the tree of a value that handles and table rows hold
abbrev pub held_tree : HeldValue → Node
held_tree held = remote_tree held.value

-- the tree of a value that is shared
abbrev pub shared_tree : Rc HeldValue Global → Node
shared_tree shared = held_tree shared.value

-- a handle by its number, with the tree of its value
abbrev pub handle_seen : Handle → ℕ × Node
handle_seen handle = (handle.number, held_tree handle.value.value)
