-- A value whose parts are whole has a whole tree, even if some of its members have the same name.
use Rattle.std.proofs.Common.{ℕ, List, Ordering, Less, Equal, Greater, arith}
use Rattle.std.proofs.lemmas.Bool.{or_parts, or_from}
use Rattle.std.specs.Cmp.Lexicographic.{slice_cmp}
use Rattle.std.specs.Ordering.{nat_cmp, match_ordering}
use Rattle.json.specs.Json as json
use Rattle.bidi_tree.specs.Json.{json_node, put_all}
use Rattle.bidi_tree.specs.Node.{Node, Members, no_members, member, put, has_odd, members_have_odd, IsWhole, MembersAreWhole}

-- a member more, and one fewer
pub whole-more : (k : List ℕ) (t : Node) (ms : Members) (n : ℕ) → IsWhole t n → MembersAreWhole ms n → MembersAreWhole (member k t ms) n
whole-more k t ms n w h = (or_from (has_odd t) (members_have_odd ms) w.0 h.0, omega (arith, w.1, h.1))

pub whole-head : (k : List ℕ) (t : Node) (ms : Members) (n : ℕ) → MembersAreWhole (member k t ms) n → IsWhole t n
whole-head k t ms n h = ((or_parts (has_odd t) (members_have_odd ms) h.0).0, omega (arith, h.1))

pub whole-rest : (k : List ℕ) (t : Node) (ms : Members) (n : ℕ) → MembersAreWhole (member k t ms) n → MembersAreWhole ms n
whole-rest k t ms n h = ((or_parts (has_odd t) (members_have_odd ms) h.0).1, omega (arith, h.1))

whole_at : (c : Ordering) (k l : List ℕ) (t m : Node) (ms : Members) (n : ℕ) → IsWhole t n → MembersAreWhole (member l m ms) n → MembersAreWhole (put k t ms) n
    → MembersAreWhole (match_ordering c (member k t (member l m ms)) (member l t ms) (member l m (put k t ms))) n
whole_at Less k l t m ms n w h later = whole-more k t (member l m ms) n w h
whole_at Equal k l t m ms n w h later = whole-more l t ms n w (whole-rest l m ms n h)
whole_at Greater k l t m ms n w h later = whole-more l m (put k t ms) n (whole-head l m ms n h) later

-- a whole member, put among whole members
pub whole-put : (k : List ℕ) (t : Node) (found : Members) (n : ℕ) → MembersAreWhole found n → IsWhole t n → MembersAreWhole (put k t found) n
whole-put k t no_members n h w = whole-more k t no_members n w h
whole-put k t (member l m ms) n h w =
    whole_at (slice_cmp nat_cmp k l) k l t m ms n w h (whole-put k t ms n (whole-rest l m ms n h) w)

-- whole members stay so with these put among them
abbrev pub PutsWhole : json.Members → ℕ → Type 0
PutsWhole ms n = (found : Members) → MembersAreWhole found n → MembersAreWhole (put_all ms found) n

pub puts-whole : (k : List ℕ) (j : json.Json) (ms : json.Members) (n : ℕ) → IsWhole (json_node j) n → PutsWhole ms n → PutsWhole (json.member k j ms) n
puts-whole k j ms n w h found f = h (put k (json_node j) found) (whole-put k (json_node j) found n f w)
