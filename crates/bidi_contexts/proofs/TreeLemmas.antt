-- The tree order of a past: what stands in it, and what each act makes of it.
use Rattle.std.proofs.Common.{◌≡◌, ◌∙◌, ◌≤◌, ◌<◌, ◌+◌, ◌-◌, ℕ, zero, suc, Bool, true, false, List, [], ◌∷◌, length}
use Rattle.std.proofs.Common.{Option, Some, None, refl, sym, ap, subst, arith, inl, inr}
use Rattle.std.specs.Prelude.{◌==◌, nat_eq, ◌&&◌, nat_lt, if◌then◌else◌, flat_map, is_none}
use Rattle.std.specs.List.{list_any, position}
use Rattle.std.specs.Option.{option_eq}
use Rattle.std.proofs.lemmas.Bool.Decides.{nat_tests, Decides-eqb}
use Rattle.std.proofs.lemmas.List.{length-map}
use Rattle.bidi_handles.specs.declared.id.IdKind.TheVariants.{Context}
use Rattle.bidi_handles.proofs.ListLemmas.{agree}
use Rattle.bidi_contexts.specs.Acts.{Act, Framed, given, next_number}
use Rattle.bidi_contexts.specs.Accepted.{AreAccepted}
use Rattle.bidi_contexts.specs.Contexts.{parent_of, level_of, is_under, is_alive, up_to}
use Rattle.bidi_contexts.specs.Contexts.{contexts, tops, children_of, subtree_within, subtree_of, tree_order}
use Rattle.bidi_contexts.specs.ContextRows.{row_at, rows}
use Rattle.bidi_contexts.proofs.AcceptedLemmas.{levels-accepted, level-child, parent-born, parents-alive, under-parent}
use Rattle.bidi_contexts.proofs.RemovalLemmas.{any-contexts, any-subtree, subtree-under, under-up, under-self, level-above, and-both, option-same}
use Rattle.bidi_contexts.proofs.MemberLemmas.{has, AreApart, any-up-to, by-cases, has-cases, no-truth, apart-append, piece-of, piece-in}
use Rattle.bidi_contexts.proofs.MemberLemmas.{flat-same, has-filter, apart-filter, length-same}
use Rattle.bidi_contexts.proofs.ForestLemmas.{tree, swapped, Swap, EndsAt, flat-ends, level-below, deep-to, apart-flat, swap-flat}
use Rattle.bidi_contexts.proofs.ForestLemmas.{Placed, placed}

-- ---- the definitions as trees of children

pub within-is : (past : List Act) (n c : ℕ) → subtree_within n past c ≡ tree (children_of past) n c
within-is past zero c = refl
within-is past (suc n) c = λ i. c ∷ flat_map (λ d. within-is past n d i) (children_of past c)

-- several end to end
pub flat-is : (past : List Act) (n : ℕ) (ds : List ℕ) → flat_map (subtree_within n past) ds ≡ flat_map (tree (children_of past) n) ds
flat-is past n ds = λ i. flat_map (λ d. within-is past n d i) ds

-- ---- children and top-level contexts

-- a child has its parent, and lives
pub child-of : (past : List Act) (c d : ℕ) → has (children_of past c) d ≡ true → (parent_of past d ≡ Some c) × (is_alive past d ≡ true)
child-of past c d listed =
    let is : ℕ → Bool = λ e. option_eq nat_eq (parent_of past e) (Some c) in
    let both = and-both (is d) (is_alive past d)
    (sym (has-filter d is (contexts past) ∙ ap (λ b. is d && b) (any-contexts past d)) ∙ listed) in
    (option-same (parent_of past d) c both.0, both.1)

-- a top-level context has none, and lives
pub no-parent : (o : Option ℕ) → is_none o ≡ true → o ≡ None
no-parent None e = refl
no-parent (Some p) e = absurd (cc)

pub top-of : (past : List Act) (d : ℕ) → has (tops past) d ≡ true → (parent_of past d ≡ None) × (is_alive past d ≡ true)
top-of past d listed =
    let is : ℕ → Bool = λ e. is_none (parent_of past e) in
    let both = and-both (is d) (is_alive past d)
    (sym (has-filter d is (contexts past) ∙ ap (λ b. is d && b) (any-contexts past d)) ∙ listed) in
    (no-parent (parent_of past d) both.0, both.1)

-- and whoever lives and has none is one
top-in : (past : List Act) (d : ℕ) → parent_of past d ≡ None → is_alive past d ≡ true → has (tops past) d ≡ true
top-in past d none alive =
    has-filter d (λ e. is_none (parent_of past e)) (contexts past) ∙ (ap (λ o. is_none o && list_any (λ x. x == d) (contexts past)) none ∙ (any-contexts past d ∙ alive))

-- it is at level 1
level-top : (past : List Act) (c : ℕ) → parent_of past c ≡ None → level_of past c ≡ 1
level-top [] c none = refl
level-top (Framed p url ∷ past) c none = step (c == next_number past Context) (level-top past c) none
  where
    step : (b : Bool) → (parent_of past c ≡ None → level_of past c ≡ 1) → (if b then Some p else parent_of past c) ≡ None
        → (if b then suc (level_of past p) else level_of past c) ≡ 1
    step true ih none = absurd (cc)
    step false ih none = ih none
level-top (act ∷ past) c none = level-top past c none

abbrev pub Lives : List Act → ℕ → Type 0
Lives past c = is_alive past c ≡ true

pub children-at : (past : List Act) → AreAccepted past → (c d : ℕ) → has (children_of past c) d ≡ true → Lives past d × (level_of past d ≡ suc (level_of past c))
children-at past acc c d listed = let child = child-of past c d listed in (child.1, level-child past d c acc child.0)

pub kids-below : (past : List Act) → AreAccepted past → (c d : ℕ) → Lives past c → has (children_of past c) d ≡ true
    → Lives past d × (level_of past d ≡ suc (level_of past c))
kids-below past acc c d lives listed = children-at past acc c d listed

low : (past : List Act) → AreAccepted past → (c : ℕ) → Lives past c → level_of past c < 17
low past acc c lives = let le = levels-accepted past acc c in omega (arith, le)

pub tops-at : (past : List Act) (d : ℕ) → has (tops past) d ≡ true → Lives past d × (level_of past d ≡ 1)
tops-at past d listed = let top = top-of past d listed in (top.1, level-top past d top.0)

-- ---- a context and its ancestors

-- an ancestor stands no lower
under-level : (k : ℕ) (past : List Act) → AreAccepted past → (a c : ℕ) → c < k → is_under past a c ≡ true → level_of past a ≤ level_of past c
under-level zero past acc a c few up = absurd (omega (arith, few))
under-level (suc k) past acc a c few up =
    elim (under-up past acc a c up) [
      | inl same ↦ (let eq = ap (level_of past) same in omega (arith, eq))
      | inr w ↦ (let less = (parent-born past acc c w.0 w.1).smaller in
          let level = level-child past c w.0 acc w.1 in
          let ih = under-level k past acc a w.0 (omega (arith, less, few)) w.2 in
          omega (arith, level, ih))
    ]

-- an ancestor by the parent stands higher
higher : {A : Type 0} (past : List Act) → AreAccepted past
    → (c x p : ℕ) → parent_of past x ≡ Some p → is_under past c p ≡ true → level_of past x ≡ level_of past c → A
higher past acc c x p is up same =
    let level = level-child past x p acc is in
    let le = under-level (suc p) past acc c p (omega arith) up in
    absurd (omega (arith, level, le, same))

some-same : (a b : ℕ) → Some a ≡ Some b → a ≡ b
some-same a b e = cc

-- one ancestor stands at a level
one-at-level : (k : ℕ) (past : List Act) → AreAccepted past
    → (c d x : ℕ) → x < k → is_under past c x ≡ true → is_under past d x ≡ true → level_of past c ≡ level_of past d → c ≡ d
one-at-level zero past acc c d x few up other same = absurd (omega (arith, few))
one-at-level (suc k) past acc c d x few up other same =
    elim (under-up past acc c x up) [
      | inl is ↦ elim (under-up past acc d x other) [
        | inl eq ↦ is ∙ sym eq
        | inr w ↦ higher past acc d x w.0 w.1 w.2 (sym (ap (level_of past) is) ∙ same)
      ]
      | inr v ↦ elim (under-up past acc d x other) [
        | inl eq ↦ higher past acc c x v.0 v.1 v.2 (sym (ap (level_of past) eq) ∙ sym same)
        | inr w ↦ (let less = (parent-born past acc x v.0 v.1).smaller in
            let one : v.0 ≡ w.0 = some-same v.0 w.0 (sym v.1 ∙ w.1) in
            one-at-level k past acc c d v.0 (omega (arith, less, few)) v.2 (subst (λ q. is_under past d q ≡ true) (sym one) w.2) same)
      ]
    ]

-- a child of a context that is not below another is below that only where it is that one
pub under-child : (past : List Act) → AreAccepted past → (a c d : ℕ) → parent_of past d ≡ Some c → is_under past a c ≡ false → is_under past a d ≡ (d == a)
under-child past acc a c d child none =
    agree (is_under past a d) (d == a)
    (λ up. elim (under-up past acc a d up) [
      | inl same ↦ (Decides-eqb d a).1 (sym same)
      | inr w ↦ no-truth (is_under past a c) (subst (λ q. is_under past a q ≡ true) (some-same w.0 c (sym w.1 ∙ child)) w.2) none
    ])
    (λ here. subst (λ q. is_under past q d ≡ true) ((Decides-eqb d a).0 here) (under-self past d))

-- so is a top-level context
pub under-top : (past : List Act) → AreAccepted past → (a d : ℕ) → parent_of past d ≡ None → is_under past a d ≡ (d == a)
under-top past acc a d top =
    agree (is_under past a d) (d == a)
    (λ up. elim (under-up past acc a d up) [
      | inl same ↦ (Decides-eqb d a).1 (sym same)
      | inr w ↦ not-both w.0 (sym top ∙ w.1)
    ])
    (λ here. subst (λ q. is_under past q d ≡ true) ((Decides-eqb d a).0 here) (under-self past d))
  where
    not-both : {A : Type 0} (p : ℕ) → None ≡ Some p → A
    not-both p e = absurd (cc)

-- ---- what stands in tree order

-- a subtree has what lives
lives-in : (n : ℕ) (past : List Act) (c x : ℕ) → Lives past c → has (subtree_within n past c) x ≡ true → Lives past x
lives-in zero past c x lives there = absurd (cc)
lives-in (suc n) past c x lives there =
    has-cases c x (flat_map (subtree_within n past) (children_of past c)) there
    (λ same. subst (Lives past) same lives)
    (λ later.
    let piece = piece-of (subtree_within n past) (children_of past c) x later in
    lives-in n past piece.of x (child-of past c piece.of piece.listed).1 piece.there)

-- above each context stands a top-level one
record Top (past : List Act) (c : ℕ) : Type 0 where
  pub top : ℕ
  pub listed : has (tops past) top ≡ true
  pub lives : Lives past top
  pub above : is_under past top c ≡ true

top-above : (k : ℕ) (past : List Act) → AreAccepted past → (c : ℕ) → c < k → Lives past c → Top past c
top-above zero past acc c few lives = absurd (omega (arith, few))
top-above (suc k) past acc c few lives =
    elim (parent_of past c) as (λ o. parent_of past c ≡ o → Top past c) [
      | None ↦ λ none. record { top = c; listed = top-in past c none lives; lives = lives; above = under-self past c }
      | Some p ↦ λ is.
          let less = (parent-born past acc c p is).smaller in
          let ih = top-above k past acc p (omega (arith, less, few)) (parents-alive past acc c p lives is) in
          record { top = ih.top; listed = ih.listed; lives = ih.lives; above = under-parent past acc ih.top c p ih.above is }
    ] refl

-- just the contexts that are alive
pub order-has : (past : List Act) → AreAccepted past → (c : ℕ) → has (tree_order past) c ≡ is_alive past c
order-has past acc c =
    agree (has (tree_order past) c) (is_alive past c)
    (λ there.
    let piece = piece-of (subtree_of past) (tops past) c there in
    lives-in 16 past piece.of c (top-of past piece.of piece.listed).1 piece.there)
    (λ lives.
    let t = top-above (suc c) past acc c (omega arith) lives in
    piece-in (subtree_of past) (tops past) t.top c t.listed (any-subtree past t.top c acc t.lives lives ∙ t.above))

-- the numbers up to n
apart-up-to : (n : ℕ) → AreApart (up_to n)
apart-up-to zero = tt
apart-up-to (suc n) =
    apart-append (up_to n) (suc n ∷ []) (apart-up-to n) (refl, tt)
    (λ c there. let older = any-up-to c n in grind (arith, nat_tests, older, there))

apart-contexts : (past : List Act) → AreApart (contexts past)
apart-contexts past = apart-filter (is_alive past) (up_to (given past Context)) (apart-up-to (given past Context))

module _ (past : List Act) (acc : AreAccepted past) where
  abbrev kids : ℕ → List ℕ
  kids = children_of past

  -- what stands in a tree stands below its root
  under-root : (n c x : ℕ) → Lives past c → has (tree kids n c) x ≡ true → is_under past c x ≡ true
  under-root n c x lives there = subtree-under n past acc c c x (under-self past c) (ap (λ xs. has xs x) (within-is past n c) ∙ there)

  -- none stands twice
  apart-trees : AreApart (flat_map (tree kids 16) (tops past))
  apart-trees =
      apart-flat kids (level_of past) 17 (Lives past) (kids-below past acc) (low past acc) (λ c x. is_under past c x ≡ true) under-root
      (λ c d x up other same. one-at-level (suc x) past acc c d x (omega arith) up other same)
      (λ c. apart-filter (λ d. option_eq nat_eq (parent_of past d) (Some c)) (contexts past) (apart-contexts past))
      16 1 (tops past) (tops-at past) (apart-filter (λ d. is_none (parent_of past d)) (contexts past) (apart-contexts past))

  pub order-apart : AreApart (tree_order past)
  order-apart = subst AreApart (sym (flat-is past 16 (tops past))) apart-trees

  -- as many as there are live contexts
  pub order-length : length (tree_order past) ≡ length (contexts past)
  order-length = length-same (tree_order past) (contexts past) order-apart (apart-contexts past) (λ c. order-has past acc c ∙ sym (any-contexts past c))

  -- every context stands higher than level 17, and a child one level below its parent
  any-below-17 : (c : ℕ) → Unit {0} → level_of past c < 17
  any-below-17 c u = let le = levels-accepted past acc c in omega (arith, le)

  one-lower : (c d : ℕ) → Unit {0} → has (children_of past c) d ≡ true → Unit {0} × (level_of past d ≡ suc (level_of past c))
  one-lower c d u listed = (tt, (children-at past acc c d listed).1)

  -- a subtree, as deep as its contexts go
  pub subtree-is : (n c : ℕ) → 17 ≤ n + level_of past c → tree kids n c ≡ subtree_of past c
  subtree-is n c enough =
      by-cases (nat_lt n 16)
      (λ less. deep-to kids (level_of past) 17 (λ c. Unit {0}) one-lower any-below-17 n 16 c tt enough (lower n less))
      (λ more. sym (deep-to kids (level_of past) 17 (λ c. Unit {0}) one-lower any-below-17 16 n c tt
      (let above = level-above past c in omega (arith, above)) (not-lower n more)))
      ∙ sym (within-is past 16 c)
    where
      lower : (n : ℕ) → nat_lt n 16 ≡ true → n ≤ 16
      lower n e = grind (arith, nat_tests, e)

      not-lower : (n : ℕ) → nat_lt n 16 ≡ false → 16 ≤ n
      not-lower n e = grind (arith, nat_tests, e)

  -- those of several
  pub subtrees-are : (n l : ℕ) (ds : List ℕ) → ((d : ℕ) → has ds d ≡ true → level_of past d ≡ l) → 17 ≤ n + l
      → flat_map (tree kids n) ds ≡ flat_map (subtree_of past) ds
  subtrees-are n l ds each enough =
      flat-same (tree kids n) (subtree_of past) ds (λ d listed. let level = each d listed in subtree-is n d (omega (arith, enough, level)))

  -- below a context stand the subtrees of its children
  pub below-is : (c : ℕ) → flat_map (subtree_within 15 past) (children_of past c) ≡ flat_map (subtree_of past) (children_of past c)
  below-is c =
      flat-is past 15 (children_of past c)
      ∙ subtrees-are 15 (suc (level_of past c)) (children_of past c) (λ d listed. (children-at past acc c d listed).1)
      (let above = level-above past c in omega (arith, above))

  pub subtree-parts : (c : ℕ) → subtree_of past c ≡ c ∷ flat_map (subtree_of past) (children_of past c)
  subtree-parts c = ap (λ xs. c ∷ xs) (below-is c)

  -- and they stand lower
  pub lower-in : (c x : ℕ) → has (flat_map (subtree_of past) (children_of past c)) x ≡ true → level_of past c < level_of past x
  lower-in c x there =
      level-below kids (level_of past) 17 (λ c. Unit {0}) one-lower any-below-17 16 c x tt
      (ap (λ xs. has xs x) (sym (flat-is past 16 (children_of past c))) ∙ there)

  -- subtrees of one level end at that level
  pub subtrees-end : (l : ℕ) (ds : List ℕ) → ((d : ℕ) → has ds d ≡ true → level_of past d ≡ l) → EndsAt (level_of past) l (flat_map (subtree_of past) ds)
  subtrees-end l ds each =
      subst (EndsAt (level_of past) l) (sym (flat-is past 16 ds))
      (flat-ends kids (level_of past) 17 (λ c. Unit {0}) one-lower any-below-17 16 l l ds (λ d listed. (tt, each d listed)) (omega arith))

  -- ---- one subtree gives way to a list

  module _ (a : ℕ) (lives : Lives past a) where
    -- it lives, and is not below a
    abbrev pub Beside : ℕ → Type 0
    Beside c = Lives past c × ((c == a) ≡ false → is_under past a c ≡ false)

    pub beside-child : (c d : ℕ) → Beside c → (c == a) ≡ false → has (children_of past c) d ≡ true → Beside d
    beside-child c d is other listed =
        let child = child-of past c d listed in
        (child.1, λ apart. under-child past acc a c d child.0 (is.1 other) ∙ apart)

    pub beside-top : (d : ℕ) → has (tops past) d ≡ true → Beside d × (level_of past d ≡ 1)
    beside-top d listed =
        let top = top-of past d listed in
        ((top.1, λ apart. under-top past acc a d top.0 ∙ apart), level-top past d top.0)

    -- in tree order, where each other context has the children that it had, but perhaps for a
    pub order-swapped : (others : ℕ → List ℕ) (new : List ℕ)
        → ((n c : ℕ) → Beside c → (c == a) ≡ false → n + suc (level_of past c) ≡ 17 → flat_map (tree others n) (others c) ≡ flat_map (swapped others a new n) (children_of past c))
        → Swap (level_of past) a (a ∷ flat_map (subtree_of past) (children_of past a)) new (tree_order past) (flat_map (swapped others a new 16) (tops past))
    order-swapped others new same =
        let swap = swap-flat kids (level_of past) 17 (Lives past) (kids-below past acc) (low past acc) others a new Beside (λ c is. is.0) beside-child
        same 16 1 (tops past) beside-top refl apart-trees
        (ap (λ xs. has xs a) (sym (flat-is past 16 (tops past))) ∙ (order-has past acc a ∙ lives)) in
        let high = level-above past a in
        let deep = low past acc a lives in
        let whole : tree kids (17 - level_of past a) a ≡ a ∷ flat_map (subtree_of past) (children_of past a) =
        subtree-is (17 - level_of past a) a (omega (arith, high, deep)) ∙ subtree-parts a in
        subst (λ xs. Swap (level_of past) a (a ∷ flat_map (subtree_of past) (children_of past a)) new xs (flat_map (swapped others a new 16) (tops past)))
        (sym (flat-is past 16 (tops past)))
        (subst (λ old. Swap (level_of past) a old new (flat_map (tree kids 16) (tops past)) (flat_map (swapped others a new 16) (tops past))) whole swap)

    -- so at the place where it stands
    pub order-placed : (others : ℕ → List ℕ) (new : List ℕ) (i : ℕ)
        → ((n c : ℕ) → Beside c → (c == a) ≡ false → n + suc (level_of past c) ≡ 17 → flat_map (tree others n) (others c) ≡ flat_map (swapped others a new n) (children_of past c))
        → position (λ x. x == a) (tree_order past) ≡ Some i
        → Placed (level_of past) i (a ∷ flat_map (subtree_of past) (children_of past a)) new (tree_order past) (flat_map (swapped others a new 16) (tops past))
    order-placed others new i same at =
        placed (level_of past) a i (flat_map (subtree_of past) (children_of past a)) new (tree_order past) (flat_map (swapped others a new 16) (tops past))
        (order-swapped others new same) (lower-in a) order-apart at

-- as many rows as live contexts
pub length-rows : (past : List Act) → AreAccepted past → length (rows past) ≡ length (contexts past)
length-rows past acc = length-map (tree_order past) (row_at past) ∙ order-length past acc
