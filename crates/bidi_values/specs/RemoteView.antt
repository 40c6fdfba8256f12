-- Remote values of Rust: their trees, and when they are well.
use Rattle.bidi_tree.specs.Node.{Node}
use Rattle.bidi_values.specs.Content.{content}
use Rattle.bidi_values.specs.NestedLaws.{IsWell}
use Rattle.bidi_values.specs.View.{nested_tree, nested_pair_tree, nested_key_tree}
use Rattle.bidi_values.specs.contracts.remote_value.RemotePlainNestsRemoteListRemotePairs.TheImpl as remote
use Rattle.bidi_values.specs.declared.held.Held.{Held}
use Rattle.bidi_values.specs.declared.kinds.ListKind.{ListKind}
use Rattle.bidi_values.specs.declared.kinds.PairsKind.{PairsKind}
use Rattle.bidi_values.specs.declared.nested.Nested.{Nested}
use Rattle.bidi_values.specs.declared.nested.NestedKey.{NestedKey}
use Rattle.bidi_values.specs.declared.nested.NestedPair.{NestedPair}
use Rattle.bidi_values.specs.declared.remote_value.RemotePlain.{RemotePlain}

-- the tree of a remote value of the code
abbrev pub remote_tree : Nested RemotePlain (Held ListKind) (Held PairsKind) → Node
remote_tree v = nested_tree remote.ghosts.nesting v

-- the tree of a pair of remote values
abbrev pub remote_pair_tree : NestedPair RemotePlain (Held ListKind) (Held PairsKind) → Node
remote_pair_tree p = nested_pair_tree remote.ghosts.nesting p

-- the tree of a key of a remote object or map
abbrev pub remote_key_tree : NestedKey RemotePlain (Held ListKind) (Held PairsKind) → Node
remote_key_tree k = nested_key_tree remote.ghosts.nesting k

-- a remote value is well-formed: each part is, and its tree has at most 60 levels
abbrev pub RemoteIsWell : Nested RemotePlain (Held ListKind) (Held PairsKind) → Type 0
RemoteIsWell v = IsWell remote.ghosts.nesting (content v)
