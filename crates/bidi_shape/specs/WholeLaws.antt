-- Laws of the trees of values: they have no Odd, and at most so many levels. Defined by this project.
use Rattle.std.proofs.Common.{◌≡◌, ◌≤◌, ℕ, suc, max, List, [], ◌∷◌, Option, Some, None, Ordering, Less, Equal}
use Rattle.std.proofs.Common.{Greater, nat_cmp, ◌||◌, false, refl, map, option_map, sym, subst, arith}
use Rattle.std.proofs.lemmas.Bool.{or_parts, or_from}
use Rattle.std.specs.Prelude.{IfSome}
use Rattle.std.specs.Cmp.Lexicographic.{slice_cmp}
use Rattle.std.specs.Ordering.{match_ordering}
use Rattle.std.specs.List.{AllByRecursion}
use Rattle.bidi_tree.specs.Node as tree
use Rattle.bidi_tree.specs.Node.{Node, Members, no_members, member, put, levels, items_levels, members_levels}
use Rattle.bidi_tree.specs.Node.{has_odd, items_have_odd, members_have_odd, IsWhole, MembersAreWhole}
use Rattle.bidi_tree.specs.View.{items_of}
use Rattle.bidi_shape.specs.Term.{Openness, extensible, closed, Rows, no_more, row}
use Rattle.bidi_shape.specs.Fits.{OthersFit}
use Rattle.bidi_shape.specs.Parts.{joined}
use Rattle.bidi_shape.specs.ListLaws.{list_tree, pair_tree}
use Rattle.bidi_shape.specs.Limits.{most_levels}

-- each part that is there has no Odd and at most n levels
abbrev pub PartsAreWhole : List (Option Node) → ℕ → Type 0
PartsAreWhole [] n = Unit {0}
PartsAreWhole (None ∷ ps) n = PartsAreWhole ps n
PartsAreWhole (Some t ∷ ps) n = IsWhole t n × PartsAreWhole ps n

-- the most levels of a member that no row names
abbrev pub deepest_other : Openness → ℕ
deepest_other extensible = most_levels
deepest_other closed = 0

-- a bound on levels may be raised
pub whole_within : (t : Node) (m n : ℕ) → m ≤ n → IsWhole t m → IsWhole t n
whole_within t m n h w = let deep : levels t ≤ m = w.1 in (w.0, omega arith)

pub parts_within : (ps : List (Option Node)) (m n : ℕ) → m ≤ n → PartsAreWhole ps m → PartsAreWhole ps n
parts_within [] m n h w = tt
parts_within (None ∷ ps) m n h w = parts_within ps m n h w
parts_within (Some t ∷ ps) m n h w = (whole_within t m n h w.0, parts_within ps m n h w.1)

-- ---- members

no_odd_at : (o : Ordering) (k l : List ℕ) (t u : Node) (ms ns : Members)
    → has_odd t ≡ false → has_odd u ≡ false → members_have_odd ms ≡ false → members_have_odd ns ≡ false
    → members_have_odd (match_ordering o (member k t (member l u ms)) (member l t ms) (member l u ns)) ≡ false
no_odd_at Less k l t u ms ns a b c d = or_from (has_odd t) (members_have_odd (member l u ms)) a (or_from (has_odd u) (members_have_odd ms) b c)
no_odd_at Equal k l t u ms ns a b c d = or_from (has_odd t) (members_have_odd ms) a c
no_odd_at Greater k l t u ms ns a b c d = or_from (has_odd u) (members_have_odd ns) b d

pub no_odd-put : (k : List ℕ) (t : Node) (ms : Members) → has_odd t ≡ false → members_have_odd ms ≡ false → members_have_odd (put k t ms) ≡ false
no_odd-put k t no_members a b = or_from (has_odd t) false a refl
no_odd-put k t (member l u ms) a b =
    let p = or_parts (has_odd u) (members_have_odd ms) b in
    no_odd_at (slice_cmp nat_cmp k l) k l t u ms (put k t ms) a p.0 p.1 (no_odd-put k t ms a p.1)

levels_at : (o : Ordering) (k l : List ℕ) (t u : Node) (ms ns : Members) (n : ℕ) → levels t ≤ n → levels u ≤ n → members_levels ms ≤ n → members_levels ns ≤ n
    → members_levels (match_ordering o (member k t (member l u ms)) (member l t ms) (member l u ns)) ≤ n
levels_at Less k l t u ms ns n a b c d = omega arith
levels_at Equal k l t u ms ns n a b c d = omega arith
levels_at Greater k l t u ms ns n a b c d = omega arith

levels-put : (k : List ℕ) (t : Node) (ms : Members) (n : ℕ) → levels t ≤ n → members_levels ms ≤ n → members_levels (put k t ms) ≤ n
levels-put k t no_members n a b = omega arith
levels-put k t (member l u ms) n a b =
    let both : max (levels u) (members_levels ms) ≤ n = b in
    levels_at (slice_cmp nat_cmp k l) k l t u ms (put k t ms) n a (omega arith) (omega arith) (levels-put k t ms n a (omega arith))

-- an object has no Odd if its parts and others have none
pub no_odd-joined : (rs : Rows) (ps : List (Option Node)) (others : Members) (n : ℕ)
    → PartsAreWhole ps n → members_have_odd others ≡ false → members_have_odd (joined rs ps others) ≡ false
no_odd-joined no_more ps others n w o = o
no_odd-joined (row k need τ rs) [] others n w o = o
no_odd-joined (row k need τ rs) (None ∷ ps) others n w o = no_odd-joined rs ps others n w o
no_odd-joined (row k need τ rs) (Some t ∷ ps) others n w o = no_odd-put k t (joined rs ps others) w.0.0 (no_odd-joined rs ps others n w.1 o)

levels-joined : (rs : Rows) (ps : List (Option Node)) (others : Members) (n : ℕ)
    → PartsAreWhole ps n → members_levels others ≤ n → members_levels (joined rs ps others) ≤ n
levels-joined no_more ps others n w o = o
levels-joined (row k need τ rs) [] others n w o = o
levels-joined (row k need τ rs) (None ∷ ps) others n w o = levels-joined rs ps others n w o
levels-joined (row k need τ rs) (Some t ∷ ps) others n w o = levels-put k t (joined rs ps others) n w.0.1 (levels-joined rs ps others n w.1 o)

pub others_whole : (o : Openness) (ms : Members) → OthersFit o ms → MembersAreWhole ms (deepest_other o)
others_whole extensible ms h = h
others_whole closed ms h = subst (λ x. MembersAreWhole x 0) (sym h) (refl, omega arith)

-- an object has at most one level more than its parts and others
pub map_whole : (rs : Rows) (o : Openness) (ps : List (Option Node)) (others : Members) (n : ℕ) → PartsAreWhole ps n → OthersFit o others
    → IsWhole (tree.map (joined rs ps others)) (suc (max n (deepest_other o)))
map_whole rs o ps others n w h =
    let rest = others_whole o others h in
    let most = max n (deepest_other o) in
    let deep : members_levels others ≤ deepest_other o = rest.1 in
    let inside : members_levels (joined rs ps others) ≤ most = levels-joined rs ps others most (parts_within ps n most (omega arith) w) (omega arith) in
    (no_odd-joined rs ps others n w rest.0, omega arith)

-- ---- optional parts

pub optional_whole : {X : Type 0} (tree_of : X → Node) (well : X → Type 0) (n : ℕ) → ((v : X) → well v → IsWhole (tree_of v) n) → (o : Option X) → IfSome o well
    → (ps : List (Option Node)) → PartsAreWhole ps n → PartsAreWhole (option_map tree_of o ∷ ps) n
optional_whole tree_of well n whole None w ps more = more
optional_whole tree_of well n whole (Some v) w ps more = (whole v w, more)

-- ---- arrays and pairs

items_no_odd : {X : Type 0} (tree_of : X → Node) (well : X → Type 0) (n : ℕ)
    → ((v : X) → well v → IsWhole (tree_of v) n) → (xs : List X) → AllByRecursion well xs
    → items_have_odd (items_of (map tree_of xs)) ≡ false
items_no_odd tree_of well n whole [] w = refl
items_no_odd tree_of well n whole (x ∷ xs) w =
    or_from (has_odd (tree_of x)) (items_have_odd (items_of (map tree_of xs))) (whole x w.0).0 (items_no_odd tree_of well n whole xs w.1)

items_deep : {X : Type 0} (tree_of : X → Node) (well : X → Type 0) (n : ℕ) → ((v : X) → well v → IsWhole (tree_of v) n) → (xs : List X) → AllByRecursion well xs
    → items_levels (items_of (map tree_of xs)) ≤ n
items_deep tree_of well n whole [] w = omega arith
items_deep tree_of well n whole (x ∷ xs) w =
    let first : levels (tree_of x) ≤ n = (whole x w.0).1 in
    let rest : items_levels (items_of (map tree_of xs)) ≤ n = items_deep tree_of well n whole xs w.1 in
    omega arith

-- an array has at most one level more than its items
pub list_whole : {X : Type 0} (tree_of : X → Node) (well : X → Type 0) (n : ℕ)
    → ((v : X) → well v → IsWhole (tree_of v) n) → (xs : List X) → AllByRecursion well xs
    → IsWhole (list_tree tree_of xs) (suc n)
list_whole tree_of well n whole xs w =
    let deep : items_levels (items_of (map tree_of xs)) ≤ n = items_deep tree_of well n whole xs w in
    (items_no_odd tree_of well n whole xs w, omega arith)

pub pair_whole : (t u : Node) (m n : ℕ) → IsWhole t m → IsWhole u n → IsWhole (pair_tree t u) (suc (max m n))
pair_whole t u m n v w =
    let first : levels t ≤ m = v.1 in
    let second : levels u ≤ n = w.1 in
    (or_from (has_odd t) (has_odd u || false) v.0 (or_from (has_odd u) false w.0 refl), omega arith)
