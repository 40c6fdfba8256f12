-- What each act makes of the tree order of its past.
use Rattle.std.proofs.Common.{◌≡◌, ◌∙◌, ◌≤◌, ◌<◌, ◌+◌, ◌-◌, ℕ, zero, suc, Bool, true, false, List, [], ◌∷◌, ◌++◌, map, take, drop, cond}
use Rattle.std.proofs.Common.{Option, Some, append-nil, refl, sym, ap, ap₂, arith}
use Rattle.std.specs.Prelude.{◌==◌, nat_eq, ◌&&◌, ◌||◌, not, if◌then◌else◌, filter, flat_map, is_none}
use Rattle.std.specs.List.{position}
use Rattle.std.specs.Option.{option_eq}
use Rattle.std.proofs.lemmas.Bool.Decides.{nat_tests, Decides-eqb}
use Rattle.std.proofs.lemmas.List.{append_assoc}
use Rattle.std.proofs.lemmas.List.Elements.{filter-append}
use Rattle.std.proofs.lemmas.Grind.{flat_map-append}
use Rattle.url.specs.Parts.{Parts}
use Rattle.bidi_handles.specs.declared.id.IdKind.TheVariants.{Context}
use Rattle.bidi_contexts.specs.Acts.{Act, Made, Framed, Removed, Moved, UserRemoved, Move, given, next_number}
use Rattle.bidi_contexts.specs.Accepted.{AreAccepted}
use Rattle.bidi_contexts.specs.Contexts.{parent_of, level_of, is_under, user_of, is_born, is_gone, is_alive, up_to}
use Rattle.bidi_contexts.specs.Contexts.{contexts, tops, children_of, subtree_within, subtree_of, tree_order}
use Rattle.bidi_contexts.specs.Subtrees.{end_in}
use Rattle.bidi_contexts.proofs.AcceptedLemmas.{act-sound, levels-accepted, parent-born, under-parent, user-child, alive-below}
use Rattle.bidi_contexts.proofs.BirthLemmas.{contexts-born, parent-unborn, same-number}
use Rattle.bidi_contexts.proofs.RemovalLemmas.{any-contexts, under-self, level-above, option-same, same-option}
use Rattle.bidi_contexts.proofs.MemberLemmas.{has, has-first, has-later, has-filter, by-cases, no-truth, fails, flat-same, filter-in, filter-both, filter-none}
use Rattle.bidi_contexts.proofs.ForestLemmas.{tree, all-swapped, all-without, tree-same}
use Rattle.bidi_contexts.proofs.TreeLemmas.{flat-is, child-of, no-parent, children-at, tops-at, under-child, under-top, subtrees-are, order-placed}

-- where the subtree of a context ends in tree order that begins at a place
abbrev pub end_at : List Act → ℕ → ℕ
end_at past i = end_in (map (level_of past) (tree_order past)) i

-- no context has a parent that is younger
childless : (past : List Act) → AreAccepted past → (c : ℕ) → next_number past Context ≤ suc c → children_of past c ≡ []
childless past acc c young =
    filter-none (λ d. option_eq nat_eq (parent_of past d) (Some c)) (contexts past)
    (λ d listed. fails (option_eq nat_eq (parent_of past d) (Some c)) (λ is.
    let born = parent-born past acc d c (option-same (parent_of past d) c is) in
    let older = born.smaller in
    let below = born.below in
    absurd (omega (arith, older, below, young))))

-- ---- a removal

removed-step : (p b g u s : Bool) → (p ≡ true → u ≡ s) → ((b && not (u || g)) && p) ≡ (((b && not g) && p) && not s)
removed-step true b g u s same = grind (arith, same refl)
removed-step false b g u s same = grind arith

-- of those that pass, only the context itself goes, where no other passes that stands below it
filter-removed : (past : List Act) (a : ℕ) (p : ℕ → Bool) → ((d : ℕ) → p d ≡ true → is_under past a d ≡ (d == a))
    → filter p (contexts (Removed a ∷ past)) ≡ filter (λ d. not (d == a)) (filter p (contexts past))
filter-removed past a p test =
    let xs = up_to (given past Context) in
    filter-both p (is_alive (Removed a ∷ past)) xs
    ∙ (filter-in (λ d. is_alive (Removed a ∷ past) d && p d) (λ d. (is_alive past d && p d) && not (d == a)) xs
    (λ d listed. removed-step (p d) (is_born past d) (is_gone past d) (is_under past a d) (d == a) (test d))
    ∙ sym (ap (filter (λ d. not (d == a))) (filter-both p (is_alive past) xs) ∙ filter-both (λ d. not (d == a)) (λ d. is_alive past d && p d) xs))

-- a removal takes out a range
pub order-removed : (past : List Act) (a i : ℕ) → AreAccepted (Removed a ∷ past) → position (λ x. x == a) (tree_order past) ≡ Some i
    → tree_order (Removed a ∷ past) ≡ take i (tree_order past) ++ drop (end_at past i) (tree_order past)
order-removed past a i accepted at =
    let acc = accepted.2 in
    let lives = act-sound past accepted.0 (Removed a) accepted.1 in
    let after = Removed a ∷ past in
    let others = children_of after in
    let place = order-placed past acc a lives others [] i
    (λ n c is other level. ap (flat_map (tree others n)) (filter-removed past a (λ d. option_eq nat_eq (parent_of past d) (Some c))
    (λ d child. under-child past acc a c d (option-same (parent_of past d) c child) (is.1 other))) ∙ all-without others a n (children_of past c)) at in
    flat-is after 16 (tops after)
    ∙ (ap (flat_map (tree others 16)) (filter-removed past a (λ d. is_none (parent_of past d)) (λ d top. under-top past acc a d (no-parent (parent_of past d) top)))
    ∙ (all-without others a 16 (tops past) ∙ place.with))

-- ---- a navigation

moved-step : (p b g u : Bool) (a d : ℕ) → (p ≡ true → u ≡ (d == a)) → ((b && not ((u && not (a == d)) || g)) && p) ≡ ((b && not g) && p)
moved-step true b g u a d same = let here = same refl in grind (arith, nat_tests, here)
moved-step false b g u a d same = grind (arith, nat_tests)

-- of those that pass none goes, where none passes that stands below the context
filter-moved : (past : List Act) (a : ℕ) (move : Move) (p : ℕ → Bool) → ((d : ℕ) → p d ≡ true → is_under past a d ≡ (d == a))
    → filter p (contexts (Moved a move ∷ past)) ≡ filter p (contexts past)
filter-moved past a move p test =
    let xs = up_to (given past Context) in
    filter-both p (is_alive (Moved a move ∷ past)) xs
    ∙ (filter-in (λ d. is_alive (Moved a move ∷ past) d && p d) (λ d. is_alive past d && p d) xs
    (λ d listed. moved-step (p d) (is_born past d) (is_gone past d) (is_under past a d) a d (test d))
    ∙ sym (filter-both p (is_alive past) xs))

-- what stands below goes
below-goes : (b g u : Bool) (a d : ℕ) → u ≡ true → a < d → (b && not ((u && not (a == d)) || g)) ≡ false
below-goes b g u a d up less = grind (arith, nat_tests, up, less)

-- so the context has no children
children-moved : (past : List Act) (a : ℕ) (move : Move) → AreAccepted past → children_of (Moved a move ∷ past) a ≡ []
children-moved past a move acc =
    filter-none (λ d. option_eq nat_eq (parent_of past d) (Some a)) (contexts (Moved a move ∷ past))
    (λ d listed. fails (option_eq nat_eq (parent_of past d) (Some a)) (λ is.
    let child = option-same (parent_of past d) a is in
    no-truth (is_alive (Moved a move ∷ past) d) (sym (any-contexts (Moved a move ∷ past) d) ∙ listed)
    (below-goes (is_born past d) (is_gone past d) (is_under past a d) a d (under-parent past acc a d a (under-self past a) child)
    (parent-born past acc d a child).smaller)))

-- a navigation takes out what stands behind its context in that range
pub order-moved : (past : List Act) (a i : ℕ) (move : Move) → AreAccepted (Moved a move ∷ past) → position (λ x. x == a) (tree_order past) ≡ Some i
    → tree_order (Moved a move ∷ past) ≡ take i (tree_order past) ++ (a ∷ drop (end_at past i) (tree_order past))
order-moved past a i move accepted at =
    let acc = accepted.2 in
    let lives = act-sound past accepted.0 (Moved a move) accepted.1 in
    let after = Moved a move ∷ past in
    let others = children_of after in
    let place = order-placed past acc a lives others (a ∷ []) i
    (λ n c is other level. ap (flat_map (tree others n)) (filter-moved past a move (λ d. option_eq nat_eq (parent_of past d) (Some c))
    (λ d child. under-child past acc a c d (option-same (parent_of past d) c child) (is.1 other)))
    ∙ all-swapped others a (a ∷ []) n (children_of past c)
    (λ d listed here. let lower = (children-at past acc c d listed).1 in alone acc n d here (omega (arith, level, lower)))) at in
    flat-is after 16 (tops after)
    ∙ (ap (flat_map (tree others 16)) (filter-moved past a move (λ d. is_none (parent_of past d)) (λ d top. under-top past acc a d (no-parent (parent_of past d) top)))
    ∙ (all-swapped others a (a ∷ []) 16 (tops past) (λ d listed here. let top = (tops-at past d listed).1 in alone acc 16 d here (omega (arith, top))) ∙ place.with))
  where
    alone : AreAccepted past → (n d : ℕ) → d ≡ a → n + level_of past d ≡ 17 → tree (children_of (Moved a move ∷ past)) n d ≡ a ∷ []
    alone acc zero d here level = let low = levels-accepted past acc d in absurd (omega (arith, level, low))
    alone acc (suc n) d here level =
        ap (tree (children_of (Moved a move ∷ past)) (suc n)) here
        ∙ ap (λ ds. a ∷ flat_map (tree (children_of (Moved a move ∷ past)) n) ds) (children-moved past a move acc)

-- ---- a birth

-- what lives was born before
lives-older : (past : List Act) (d : ℕ) → has (contexts past) d ≡ true → (d == next_number past Context) ≡ false
lives-older past d listed =
    older d (next_number past Context) (alive-below d (next_number past Context) (is_gone past d) (sym (any-contexts past d) ∙ listed))
  where
    older : (d n : ℕ) → d < n → (d == n) ≡ false
    older d n less = grind (arith, nat_tests, less)

-- the children of a context, with the new one where it is its parent
children-framed : (past : List Act) (p : ℕ) (url : Parts) → AreAccepted past
    → (c : ℕ) → children_of (Framed p url ∷ past) c ≡ children_of past c ++ cond (option_eq nat_eq (Some p) (Some c)) (next_number past Context ∷ []) []
children-framed past p url acc c =
    let k = next_number past Context in
    let is : ℕ → Bool = λ d. option_eq nat_eq (if d == k then Some p else parent_of past d) (Some c) in
    ap (filter is) (contexts-born past (Framed p url) acc refl)
    ∙ (filter-append is (contexts past) (k ∷ [])
    ∙ ap₂ (λ xs ys. xs ++ ys)
    (filter-in is (λ d. option_eq nat_eq (parent_of past d) (Some c)) (contexts past)
    (λ d listed. ap (λ b. option_eq nat_eq (if b then Some p else parent_of past d) (Some c)) (lives-older past d listed)))
    (ap (λ b. cond (option_eq nat_eq (if b then Some p else parent_of past k) (Some c)) (k ∷ []) []) (same-number k)))

tops-framed : (past : List Act) (p : ℕ) (url : Parts) → AreAccepted past → tops (Framed p url ∷ past) ≡ tops past
tops-framed past p url acc =
    let k = next_number past Context in
    let is : ℕ → Bool = λ d. is_none (if d == k then Some p else parent_of past d) in
    ap (filter is) (contexts-born past (Framed p url) acc refl)
    ∙ (filter-append is (contexts past) (k ∷ [])
    ∙ (ap₂ (λ xs ys. xs ++ ys)
    (filter-in is (λ d. is_none (parent_of past d)) (contexts past)
    (λ d listed. ap (λ b. is_none (if b then Some p else parent_of past d)) (lives-older past d listed)))
    (ap (λ b. cond (is_none (if b then Some p else parent_of past k)) (k ∷ []) []) (same-number k))
    ∙ append-nil (tops past)))

-- the others have the children that they had
children-kept : (past : List Act) (p : ℕ) (url : Parts) → AreAccepted past
    → (c : ℕ) → (c == p) ≡ false → children_of (Framed p url ∷ past) c ≡ children_of past c
children-kept past p url acc c other =
    children-framed past p url acc c
    ∙ (ap (λ b. children_of past c ++ cond b (next_number past Context ∷ []) [])
    (fails (option_eq nat_eq (Some p) (Some c)) (λ is. no-truth (c == p) ((Decides-eqb c p).1 (sym (some-eq (option-same (Some p) c is)))) other))
    ∙ append-nil (children_of past c))
  where
    some-eq : (e : Some p ≡ Some c) → p ≡ c
    some-eq e = cc

-- the new subtree of the parent: its own, and then the new context
framed-tree : (past : List Act) (p : ℕ) (url : Parts) → AreAccepted (Framed p url ∷ past)
    → tree (children_of (Framed p url ∷ past)) (17 - level_of past p) p ≡ (p ∷ flat_map (subtree_of past) (children_of past p)) ++ next_number past Context ∷ []
framed-tree past p url accepted =
    let acc = accepted.2 in
    let high = (act-sound past accepted.0 (Framed p url) accepted.1).high in
    let above = level-above past p in
    let k = next_number past Context in
    let l = level_of past p in
    let j = 15 - l in
    let others = children_of (Framed p url ∷ past) in
    let depth : 17 - l ≡ suc (suc j) = omega (arith, high, above) in
    let kids : others p ≡ children_of past p ++ k ∷ [] =
    children-framed past p url acc p ∙ ap (λ b. children_of past p ++ cond b (k ∷ []) []) (same-option (Some p) p refl) in
    let olds : flat_map (tree others (suc j)) (children_of past p) ≡ flat_map (subtree_of past) (children_of past p) =
    flat-same (tree others (suc j)) (tree (children_of past) (suc j)) (children_of past p)
    (λ d listed.
    let child = children-at past acc p d listed in
    let lower = child.1 in
    tree-same (children_of past) (level_of past) 17 (λ c. Unit {0}) (one-lower acc) (any-below-17 acc) others l
    (λ c u deeper. children-kept past p url acc c (deeper-other c p deeper)) (suc j) d tt (omega (arith, lower)))
    ∙ subtrees-are past acc (suc j) (suc l) (children_of past p) (λ d listed. (children-at past acc p d listed).1) (omega (arith, high, above)) in
    let one : flat_map (tree others (suc j)) (k ∷ []) ≡ k ∷ [] =
    ap (λ ds. (k ∷ flat_map (tree others j) ds) ++ []) (childless (Framed p url ∷ past) accepted k (omega arith)) in
    ap (λ n. tree others n p) depth
    ∙ ap (λ xs. p ∷ xs) (ap (flat_map (tree others (suc j))) kids ∙ (flat_map-append (tree others (suc j)) (children_of past p) (k ∷ [])
    ∙ ap₂ (λ xs ys. xs ++ ys) olds one))
  where
    one-lower : AreAccepted past → (c d : ℕ) → Unit {0} → has (children_of past c) d ≡ true → Unit {0} × (level_of past d ≡ suc (level_of past c))
    one-lower acc c d u listed = (tt, (children-at past acc c d listed).1)

    any-below-17 : AreAccepted past → (c : ℕ) → Unit {0} → level_of past c < 17
    any-below-17 acc c u = let le = levels-accepted past acc c in omega (arith, le)

    deeper-other : (c p : ℕ) → level_of past p < level_of past c → (c == p) ≡ false
    deeper-other c p deeper = fails (c == p) (λ is. let same = ap (level_of past) ((Decides-eqb c p).0 is) in absurd (omega (arith, same, deeper)))

-- a frame goes in where the subtree of its parent ends
pub order-framed : (past : List Act) (p i : ℕ) (url : Parts) → AreAccepted (Framed p url ∷ past) → position (λ x. x == p) (tree_order past) ≡ Some i
    → tree_order (Framed p url ∷ past) ≡ take (end_at past i) (tree_order past) ++ (next_number past Context ∷ drop (end_at past i) (tree_order past))
order-framed past p i url accepted at =
    let acc = accepted.2 in
    let lives = (act-sound past accepted.0 (Framed p url) accepted.1).alive in
    let after = Framed p url ∷ past in
    let others = children_of after in
    let k = next_number past Context in
    let old = p ∷ flat_map (subtree_of past) (children_of past p) in
    let new = old ++ k ∷ [] in
    let rest = drop (end_at past i) (tree_order past) in
    let place = order-placed past acc p lives others new i
    (λ n c is other level. ap (flat_map (tree others n)) (children-kept past p url acc c other)
    ∙ all-swapped others p new n (children_of past c)
    (λ d listed here. let lower = (children-at past acc c d listed).1 in whole n d here (omega (arith, level, lower)))) at in
    flat-is after 16 (tops after)
    ∙ (ap (flat_map (tree others 16)) (tops-framed past p url acc)
    ∙ (all-swapped others p new 16 (tops past) (λ d listed here. let top = (tops-at past d listed).1 in whole 16 d here (omega (arith, top)))
    ∙ (place.with ∙ (ap (λ xs. take i (tree_order past) ++ xs) (append_assoc old (k ∷ []) rest)
    ∙ (sym (append_assoc (take i (tree_order past)) old (k ∷ rest)) ∙ ap (λ xs. xs ++ (k ∷ rest)) (sym place.front))))))
  where
    whole : (n d : ℕ) → d ≡ p → n + level_of past d ≡ 17
        → tree (children_of (Framed p url ∷ past)) n d ≡ (p ∷ flat_map (subtree_of past) (children_of past p)) ++ next_number past Context ∷ []
    whole n d here level =
        let same = ap (level_of past) here in
        let depth : n ≡ 17 - level_of past p = omega (arith, level, same) in
        ap₂ (λ m c. tree (children_of (Framed p url ∷ past)) m c) depth here ∙ framed-tree past p url accepted

-- a new top-level context changes no children
children-made : (past : List Act) (w : Option ℕ) (u : ℕ) → AreAccepted past → (c : ℕ) → children_of (Made w u ∷ past) c ≡ children_of past c
children-made past w u acc c =
    let k = next_number past Context in
    let is : ℕ → Bool = λ d. option_eq nat_eq (parent_of past d) (Some c) in
    ap (filter is) (contexts-born past (Made w u) acc refl)
    ∙ (filter-append is (contexts past) (k ∷ [])
    ∙ (ap (λ o. children_of past c ++ cond (option_eq nat_eq o (Some c)) (k ∷ []) []) (parent-unborn past k (omega arith)) ∙ append-nil (children_of past c)))

tops-made : (past : List Act) (w : Option ℕ) (u : ℕ) → AreAccepted past → tops (Made w u ∷ past) ≡ tops past ++ next_number past Context ∷ []
tops-made past w u acc =
    let k = next_number past Context in
    let is : ℕ → Bool = λ d. is_none (parent_of past d) in
    ap (filter is) (contexts-born past (Made w u) acc refl)
    ∙ (filter-append is (contexts past) (k ∷ [])
    ∙ ap (λ o. tops past ++ cond (is_none o) (k ∷ []) []) (parent-unborn past k (omega arith)))

-- and stands at the end
pub order-made : (past : List Act) (w : Option ℕ) (u : ℕ) → AreAccepted (Made w u ∷ past) → tree_order (Made w u ∷ past) ≡ tree_order past ++ next_number past Context ∷ []
order-made past w u accepted =
    let acc = accepted.2 in
    let after = Made w u ∷ past in
    let k = next_number past Context in
    let olds : flat_map (subtree_of after) (tops past) ≡ tree_order past =
    flat-is after 16 (tops past)
    ∙ (flat-same (tree (children_of after) 16) (tree (children_of past) 16) (tops past) (λ d listed. same acc 16 d) ∙ sym (flat-is past 16 (tops past))) in
    let one : flat_map (subtree_of after) (k ∷ []) ≡ k ∷ [] =
    ap (λ ds. (k ∷ flat_map (subtree_within 15 after) ds) ++ []) (childless after accepted k (omega arith)) in
    ap (flat_map (subtree_of after)) (tops-made past w u acc)
    ∙ (flat_map-append (subtree_of after) (tops past) (k ∷ []) ∙ ap₂ (λ xs ys. xs ++ ys) olds one)
  where
    same : AreAccepted past → (n c : ℕ) → tree (children_of (Made w u ∷ past)) n c ≡ tree (children_of past) n c
    same acc zero c = refl
    same acc (suc n) c =
        ap (λ xs. c ∷ xs) (ap (flat_map (tree (children_of (Made w u ∷ past)) n)) (children-made past w u acc c)
        ∙ flat-same (tree (children_of (Made w u ∷ past)) n) (tree (children_of past) n) (children_of past c) (λ d listed. same acc n d))

-- ---- the removal of a user context

-- it stays where its user context is another
abbrev pub stays : List Act → ℕ → ℕ → Bool
stays past u c = not (user_of past c == u)

left-step : (p b g s : Bool) → ((b && not (s || g)) && p) ≡ (((b && not g) && p) && not s)
left-step p b g s = grind arith

-- of those that pass, those of the user context go
filter-left : (past : List Act) (u : ℕ) (p : ℕ → Bool) → filter p (contexts (UserRemoved u ∷ past)) ≡ filter (stays past u) (filter p (contexts past))
filter-left past u p =
    let xs = up_to (given past Context) in
    filter-both p (is_alive (UserRemoved u ∷ past)) xs
    ∙ (filter-in (λ d. is_alive (UserRemoved u ∷ past) d && p d) (λ d. (is_alive past d && p d) && stays past u d) xs
    (λ d listed. left-step (p d) (is_born past d) (is_gone past d) (user_of past d == u))
    ∙ sym (ap (filter (stays past u)) (filter-both p (is_alive past) xs) ∙ filter-both (stays past u) (λ d. is_alive past d && p d) xs))

-- of a list in which each passes, none is taken out
filter-whole : (p : ℕ → Bool) (xs : List ℕ) → ((x : ℕ) → has xs x ≡ true → p x ≡ true) → filter p xs ≡ xs
filter-whole p [] each = refl
filter-whole p (x ∷ xs) each =
    ap (λ b. cond b (x ∷ filter p xs) (filter p xs)) (each x (has-first x xs))
    ∙ ap (λ ys. x ∷ ys) (filter-whole p xs (λ y listed. each y (has-later x y xs listed)))

-- what passes among lists end to end
filter-flat : (p : ℕ → Bool) (g : ℕ → List ℕ) (ds : List ℕ) → filter p (flat_map g ds) ≡ flat_map (λ d. filter p (g d)) ds
filter-flat p g [] = refl
filter-flat p g (d ∷ ds) = filter-append p (g d) (flat_map g ds) ∙ ap (λ xs. filter p (g d) ++ xs) (filter-flat p g ds)

-- lists that are empty, end to end
flat-none : (g : ℕ → List ℕ) (ds : List ℕ) → ((d : ℕ) → has ds d ≡ true → g d ≡ []) → flat_map g ds ≡ []
flat-none g [] each = refl
flat-none g (d ∷ ds) each =
    ap (λ xs. xs ++ flat_map g ds) (each d (has-first d ds)) ∙ flat-none g ds (λ e listed. each e (has-later d e ds listed))

module _ (past : List Act) (acc : AreAccepted past) (u : ℕ) where
  -- a child stays where its parent does
  stays-child : (c d : ℕ) → has (children_of past c) d ≡ true → stays past u d ≡ stays past u c
  stays-child c d listed = ap (λ v. not (v == u)) (user-child past d c acc (child-of past c d listed).0)

  -- of a subtree all stay, or none
  tree-stays : (n c : ℕ) → stays past u c ≡ true → filter (stays past u) (tree (children_of past) n c) ≡ tree (children_of past) n c
  tree-stays zero c here = refl
  tree-stays (suc n) c here =
      ap (λ b. cond b (c ∷ filter (stays past u) (flat_map (tree (children_of past) n) (children_of past c)))
      (filter (stays past u) (flat_map (tree (children_of past) n) (children_of past c)))) here
      ∙ ap (λ xs. c ∷ xs) (filter-flat (stays past u) (tree (children_of past) n) (children_of past c)
      ∙ flat-same (λ d. filter (stays past u) (tree (children_of past) n d)) (tree (children_of past) n) (children_of past c)
      (λ d listed. tree-stays n d (stays-child c d listed ∙ here)))

  tree-goes : (n c : ℕ) → stays past u c ≡ false → filter (stays past u) (tree (children_of past) n c) ≡ []
  tree-goes zero c gone = refl
  tree-goes (suc n) c gone =
      ap (λ b. cond b (c ∷ filter (stays past u) (flat_map (tree (children_of past) n) (children_of past c)))
      (filter (stays past u) (flat_map (tree (children_of past) n) (children_of past c)))) gone
      ∙ (filter-flat (stays past u) (tree (children_of past) n) (children_of past c)
      ∙ flat-none (λ d. filter (stays past u) (tree (children_of past) n d)) (children_of past c) (λ d listed. tree-goes n d (stays-child c d listed ∙ gone)))

  -- so of subtrees those stay whose roots do
  trees-left : (n : ℕ) (ds : List ℕ)
      → filter (stays past u) (flat_map (tree (children_of past) n) ds) ≡ flat_map (tree (children_of past) n) (filter (stays past u) ds)
  trees-left n [] = refl
  trees-left n (d ∷ ds) =
      filter-append (stays past u) (tree (children_of past) n d) (flat_map (tree (children_of past) n) ds)
      ∙ by-cases (stays past u d)
      (λ here. ap₂ (λ xs ys. xs ++ ys) (tree-stays n d here) (trees-left n ds)
      ∙ sym (ap (λ b. flat_map (tree (children_of past) n) (cond b (d ∷ filter (stays past u) ds) (filter (stays past u) ds))) here))
      (λ gone. ap₂ (λ xs ys. xs ++ ys) (tree-goes n d gone) (trees-left n ds)
      ∙ sym (ap (λ b. flat_map (tree (children_of past) n) (cond b (d ∷ filter (stays past u) ds) (filter (stays past u) ds))) gone))

  -- what stays keeps its children
  children-left : (c : ℕ) → stays past u c ≡ true → children_of (UserRemoved u ∷ past) c ≡ children_of past c
  children-left c here =
      filter-left past u (λ d. option_eq nat_eq (parent_of past d) (Some c))
      ∙ filter-whole (stays past u) (children_of past c) (λ d listed. stays-child c d listed ∙ here)

  tree-left : (n c : ℕ) → stays past u c ≡ true → tree (children_of (UserRemoved u ∷ past)) n c ≡ tree (children_of past) n c
  tree-left zero c here = refl
  tree-left (suc n) c here =
      ap (λ xs. c ∷ xs) (ap (flat_map (tree (children_of (UserRemoved u ∷ past)) n)) (children-left c here)
      ∙ flat-same (tree (children_of (UserRemoved u ∷ past)) n) (tree (children_of past) n) (children_of past c)
      (λ d listed. tree-left n d (stays-child c d listed ∙ here)))

  -- the removal of a user context takes out all in it, and no other
  pub order-left : tree_order (UserRemoved u ∷ past) ≡ filter (stays past u) (tree_order past)
  order-left =
      let after = UserRemoved u ∷ past in
      flat-is after 16 (tops after)
      ∙ (ap (flat_map (tree (children_of after) 16)) (filter-left past u (λ d. is_none (parent_of past d)))
      ∙ (flat-same (tree (children_of after) 16) (tree (children_of past) 16) (filter (stays past u) (tops past))
      (λ d listed. tree-left 16 d (passes (stays past u d) (has (tops past) d) (sym (has-filter d (stays past u) (tops past)) ∙ listed)))
      ∙ (sym (trees-left 16 (tops past)) ∙ ap (filter (stays past u)) (sym (flat-is past 16 (tops past))))))
    where
      passes : (a b : Bool) → (a && b) ≡ true → a ≡ true
      passes true b e = refl
      passes false b e = absurd (cc)
