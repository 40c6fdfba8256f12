-- A part of a tree has fewer levels.
use Rattle.std.proofs.Common.{◌≡◌, ℕ, List, Option, Some, Ordering, Less, Equal, Greater, arith}
use Rattle.std.specs.Prelude.{max, ◌≤◌}
use Rattle.std.specs.Cmp.Lexicographic.{slice_cmp}
use Rattle.std.specs.Ordering.{nat_cmp, match_ordering}
use Rattle.bidi_tree.specs.Node.{Node, Members, no_members, member, get_member, levels, members_levels}

at_most : (c : Ordering) (rest : Option Node) (n t : Node) (l : ℕ) → ((u : Node) → rest ≡ Some u → levels u ≤ l)
    → match_ordering c rest (Some n) rest ≡ Some t → levels t ≤ max (levels n) l
at_most Less rest n t l h e = let below : levels t ≤ l = h t e in omega (arith, below)
at_most Equal rest n t l h e = let same : n ≡ t = cc in rw (← same) (omega arith)
at_most Greater rest n t l h e = let below : levels t ≤ l = h t e in omega (arith, below)

-- a member has at most the levels of the members
pub levels-get_member : (k : List ℕ) (ms : Members) (t : Node) → get_member k ms ≡ Some t → levels t ≤ members_levels ms
levels-get_member k no_members t e = absurd (cc)
levels-get_member k (member l n ms) t e = at_most (slice_cmp nat_cmp k l) (get_member k ms) n t (members_levels ms) (λ u f. levels-get_member k ms u f) e
