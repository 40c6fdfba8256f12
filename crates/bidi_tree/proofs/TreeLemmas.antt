-- Trees of the code, compared with the values that they were read from.
use Rattle.std.proofs.Common.{◌≡◌, ℕ, List, [], ◌∷◌, ◌++◌, String, Global, Ordering, Less, Equal, Greater, string_bytes, string_cmp}
use Rattle.std.proofs.Common.{map, Option, Some, None, option_map, cond, is_eq, Bor, BTreeMap, Vec, rules, refl, ap, ◌∙◌}
use Rattle.std.proofs.lemmas.Cmp.{nat_list_cmp_total}
use Rattle.std.specs.List.{AllByRecursion}
use Rattle.std.specs.List.Sorted.{IsStrictlySortedBy}
use Rattle.std.specs.Map.{keys_of, lookup}
use Rattle.std.specs.Ordering.{match_ordering, ordering_reverse, nat_cmp}
use Rattle.std.specs.Cmp.Lexicographic.{slice_cmp}
use Rattle.std.specs.BTreeMap.{insert_entry, is_at}
use Rattle.serde_json.specs.Data as json
use Rattle.bidi_tree.specs.Node as tree
use Rattle.bidi_tree.specs.Node.{get_member, Node, Members, no_members, member, put}
use Rattle.bidi_tree.specs.Text.{of_data, of_members}
use Rattle.bidi_tree.specs.View.{node, items_node, members_node}
use Rattle.bidi_tree.specs.declared.tree.Tree.{Tree, List as ListOf, Map, the_lemmas}

abbrev pub Entry : Type 0
Entry = String Global × Tree

members_node-match_ordering : (o : Ordering) (a b c : List Entry)
    → members_node (match_ordering o a b c) ≡ match_ordering o (members_node a) (members_node b) (members_node c)
members_node-match_ordering Less a b c = refl
members_node-match_ordering Equal a b c = refl
members_node-match_ordering Greater a b c = refl

pub members_node-insert_entry : (es : List Entry) (k : String Global) (t : Tree)
    → members_node (insert_entry string_cmp es k t) ≡ put (string_bytes k) (node t) (members_node es)
members_node-insert_entry [] k t = refl
members_node-insert_entry (e ∷ es) k t = members_node-match_ordering (string_cmp k e.0) _ _ _ ∙ rw (members_node-insert_entry es k t)

of_members-match_ordering : (o : Ordering) (a b c : json.Members)
    → of_members (match_ordering o a b c) ≡ match_ordering o (of_members a) (of_members b) (of_members c)
of_members-match_ordering Less a b c = refl
of_members-match_ordering Equal a b c = refl
of_members-match_ordering Greater a b c = refl

-- the conversion goes member by member
pub of_members-put : (k : List ℕ) (d : json.Data) (ms : json.Members) → of_members (json.put k d ms) ≡ put k (of_data d) (of_members ms)
of_members-put k d json.no_members = refl
of_members-put k d (json.member l e ms) = of_members-match_ordering (slice_cmp nat_cmp k l) _ _ _ ∙ rw (of_members-put k d ms)

below_middle : (first : Entry) (es : List Entry) (e : Entry) (more : List Entry)
    → AllByRecursion (λ y. string_cmp first.0 y ≡ Less) (keys_of (es ++ e ∷ more)) → string_cmp first.0 e.0 ≡ Less
below_middle first [] e more h = h.0
below_middle first (x ∷ es) e more h = below_middle first es e more h.1

-- a name that is above those before it goes last
pub put_last : (done : List Entry) (e : Entry) (more : List Entry) → IsStrictlySortedBy string_cmp (keys_of (done ++ e ∷ more))
    → put (string_bytes e.0) (node e.1) (members_node done) ≡ members_node (done ++ e ∷ [])
unfolding IsStrictlySortedBy
put_last [] e more h = refl
put_last (first ∷ done) e more h =
    let above : slice_cmp nat_cmp (string_bytes e.0) (string_bytes first.0) ≡ Greater =
    nat_list_cmp_total.antisymm (string_bytes e.0) (string_bytes first.0) ∙ ap ordering_reverse (below_middle first done e more h.0) in
    rw above (ap (member (string_bytes first.0) (node first.1)) (put_last done e more h.1))

found_or : (o : Ordering) (t : Tree) (rest : Option Tree) (n : Option Node)
    → option_map node rest ≡ n → option_map node (cond (is_eq o) (Some t) rest) ≡ match_ordering o n (Some (node t)) n
found_or Less t rest n e = e
found_or Equal t rest n e = refl
found_or Greater t rest n e = e

pub node-lookup : (name : List ℕ) (es : List Entry)
    → option_map node (lookup (is_at (λ k. slice_cmp nat_cmp name (string_bytes k))) es) ≡ get_member name (members_node es)
node-lookup name [] = refl
node-lookup name (e ∷ es) = found_or (slice_cmp nat_cmp name (string_bytes e.0)) e.1 _ _ (node-lookup name es)

pub node-Map : (m : BTreeMap (String Global) Tree) → node (Map m) ≡ tree.map (members_node m.entries)
node-Map m = search (rules, the_lemmas)

pub node-List : (v : Vec Tree Global) → node (ListOf v) ≡ tree.list (items_node v.items)
node-List v = search (rules, the_lemmas)

pub node_of_ref : (r : Option (Bor Tree)) → option_map (λ x. node x.now) r ≡ option_map node (option_map (λ x. x.now) r)
node_of_ref None = refl
node_of_ref (Some x) = refl
