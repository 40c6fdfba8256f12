-- The members that are kept, compared with filters of lists; and requests that are eased one by one.
use Rattle.std.proofs.Common.{◌≡◌, ℕ, Bool, true, false, not, cond, List, [], ◌∷◌, map, filter, refl, ap, string_bytes}
use Rattle.bidi_tree.specs.Node.{Node, Members, member, item}
use Rattle.bidi_tree.specs.View.{node, items_of, members_node}
use Rattle.bidi_tree.specs.declared.tree.Tree.{Tree}
use Rattle.bidi_tree.proofs.TreeLemmas.{Entry}
use Rattle.bidi_lenient.specs.Members.{members_kept}
use Rattle.bidi_lenient.specs.Eased.{request_eased, items_eased}

member_step : (b : Bool) (e : Entry) (es : List Entry) (kept : Members) → members_node es ≡ kept
    → members_node (cond (not b) (e ∷ es) es) ≡ cond b kept (member (string_bytes e.0) (node e.1) kept)
member_step true e es kept h = h
member_step false e es kept h = ap (member (string_bytes e.0) (node e.1)) h

-- the members that stay are those of the entries that stay
pub members_kept-filter : (p : List ℕ → Node → Bool) (es : List Entry)
    → members_node (filter (λ e. not (p (string_bytes e.0) (node e.1))) es) ≡ members_kept p (members_node es)
members_kept-filter p [] = refl
members_kept-filter p (e ∷ es) =
    member_step (p (string_bytes e.0) (node e.1)) e (filter (λ x. not (p (string_bytes x.0) (node x.1))) es) _ (members_kept-filter p es)

-- each request is eased by itself
pub items_eased-map : (ts : List Tree) → items_of (map (λ t. request_eased (node t)) ts) ≡ items_eased (items_of (map node ts))
items_eased-map [] = refl
items_eased-map (t ∷ ts) = ap (item (request_eased (node t))) (items_eased-map ts)
