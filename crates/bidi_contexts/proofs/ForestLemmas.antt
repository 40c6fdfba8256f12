-- Tree order, of any children and levels: each context before its children's subtrees.
use Rattle.std.proofs.Common.{◌≡◌, ◌∙◌, ◌≤◌, ◌<◌, ◌+◌, ◌-◌, ℕ, zero, suc, Bool, true, false, List, [], ◌∷◌, ◌++◌, length, map, take, drop, cond, Some, None, append-nil, refl, sym, ap, ap₂, subst, arith}
use Rattle.std.specs.Prelude.{◌==◌, ◌||◌, not, nat_le, nat_lt, if◌then◌else◌, filter, flat_map}
use Rattle.std.specs.List.{position, position_or_len}
use Rattle.std.proofs.lemmas.Bool.Decides.{nat_tests, Decides-eqb}
use Rattle.std.proofs.lemmas.List.{append_assoc, length-append}
use Rattle.std.proofs.Math.Seq.{take-append_seam, drop-append_seam, drop-append-add}
use Rattle.bidi_contexts.specs.Subtrees.{end_in}
use Rattle.bidi_contexts.proofs.MemberLemmas.{has, AreApart, has-first, has-later, no-truth, fails, by-cases, has-cases, joined-cases, apart-append, apart-left, apart-right, apart-first, apart-second}
use Rattle.bidi_contexts.proofs.MemberLemmas.{piece-of, piece-in, flat-same}

-- a context and all below it, as far as n levels
abbrev pub tree : (ℕ → List ℕ) → ℕ → ℕ → List ℕ
tree kids zero c = []
tree kids (suc n) c = c ∷ flat_map (tree kids n) (kids c)

-- a list ends, or goes on no deeper than a level
abbrev pub EndsAt : (ℕ → ℕ) → ℕ → List ℕ → Type 0
EndsAt lv l [] = Unit {0}
EndsAt lv l (x ∷ xs) = lv x ≤ l

ends-append : (lv : ℕ → ℕ) (l : ℕ) (xs ys : List ℕ) → EndsAt lv l xs → EndsAt lv l ys → EndsAt lv l (xs ++ ys)
ends-append lv l [] ys first second = second
ends-append lv l (x ∷ xs) ys first second = first

-- what the others make a tree of, but for one context, which has a new list
abbrev pub swapped : (ℕ → List ℕ) → ℕ → List ℕ → ℕ → ℕ → List ℕ
swapped others a new n d = if d == a then new else tree others n d

-- two lists that are the same, but that the first has an old subtree where the second has a new list
pub record Swap (lv : ℕ → ℕ) (a : ℕ) (old new xs ys : List ℕ) : Type 0 where
  pub before : List ℕ
  pub after : List ℕ
  pub is : xs ≡ before ++ (old ++ after)
  pub with : ys ≡ before ++ (new ++ after)
  pub ends : EndsAt lv (lv a) after

-- where all are trees of the others, but for that one
pub all-swapped : (others : ℕ → List ℕ) (a : ℕ) (new : List ℕ) (n : ℕ) (ds : List ℕ)
    → ((d : ℕ) → has ds d ≡ true → d ≡ a → tree others n d ≡ new) → flat_map (tree others n) ds ≡ flat_map (swapped others a new n) ds
all-swapped others a new n ds one =
    flat-same (tree others n) (swapped others a new n) ds
    (λ d listed. by-cases (d == a)
    (λ here. one d listed ((Decides-eqb d a).0 here) ∙ sym (ap (λ b. if b then new else tree others n d) here))
    (λ other. sym (ap (λ b. if b then new else tree others n d) other)))

-- and where that one is left out
pub all-without : (others : ℕ → List ℕ) (a n : ℕ) (ds : List ℕ)
    → flat_map (tree others n) (filter (λ d. not (d == a)) ds) ≡ flat_map (swapped others a [] n) ds
all-without others a n [] = refl
all-without others a n (d ∷ ds) = step (d == a) (all-without others a n ds)
  where
    step : (b : Bool) → flat_map (tree others n) (filter (λ d. not (d == a)) ds) ≡ flat_map (swapped others a [] n) ds
        → flat_map (tree others n) (cond (not b) (d ∷ filter (λ d. not (d == a)) ds) (filter (λ d. not (d == a)) ds))
        ≡ (if b then [] else tree others n d) ++ flat_map (swapped others a [] n) ds
    step true ih = ih
    step false ih = ap (λ xs. tree others n d ++ xs) ih

-- ---- levels

module _ (kids : ℕ → List ℕ) (lv : ℕ → ℕ) (m : ℕ) (Lives : ℕ → Type 0)
    (below : (c d : ℕ) → Lives c → has (kids c) d ≡ true → Lives d × (lv d ≡ suc (lv c))) (low : (c : ℕ) → Lives c → lv c < m) where
  -- these live, at one level
  abbrev pub AreAt : ℕ → List ℕ → Type 0
  AreAt l ds = (d : ℕ) → has ds d ≡ true → Lives d × (lv d ≡ l)

  pub children-at : (c : ℕ) → Lives c → AreAt (suc (lv c)) (kids c)
  children-at c lives d listed = below c d lives listed

  at-rest : (l d : ℕ) (ds : List ℕ) → AreAt l (d ∷ ds) → AreAt l ds
  at-rest l d ds each e listed = each e (has-later d e ds listed)

  -- no context of subtrees stands higher than their roots, where it is so of each
  level-each : (g : ℕ → List ℕ) (l x : ℕ) (ds : List ℕ) → AreAt l ds → ((d : ℕ) → Lives d → has (g d) x ≡ true → lv d ≤ lv x)
      → has (flat_map g ds) x ≡ true → l ≤ lv x
  level-each g l x ds each one there =
      let piece = piece-of g ds x there in
      let at = each piece.of piece.listed in
      let deeper = one piece.of at.0 piece.there in
      let level = at.1 in
      omega (arith, deeper, level)

  -- no context of a subtree stands higher than its root
  pub level-in : (n c x : ℕ) → Lives c → has (tree kids n c) x ≡ true → lv c ≤ lv x
  level-in zero c x lives there = absurd (cc)
  level-in (suc n) c x lives there =
      has-cases c x (flat_map (tree kids n) (kids c)) there
      (λ is. let same = ap lv is in omega (arith, same))
      (λ later.
      let deeper = level-each (tree kids n) (suc (lv c)) x (kids c) (children-at c lives) (λ d lives there. level-in n d x lives there) later in
      omega (arith, deeper))

  pub level-in-flat : (n l x : ℕ) (ds : List ℕ) → AreAt l ds → has (flat_map (tree kids n) ds) x ≡ true → l ≤ lv x
  level-in-flat n l x ds each there = level-each (tree kids n) l x ds each (λ d lives there. level-in n d x lives there) there

  -- subtrees of one level end at that level
  pub flat-ends : (n l k : ℕ) (ds : List ℕ) → AreAt l ds → l ≤ k → EndsAt lv k (flat_map (tree kids n) ds)
  flat-ends n l k [] each le = tt
  flat-ends zero l k (d ∷ ds) each le = flat-ends zero l k ds (at-rest l d ds each) le
  flat-ends (suc n) l k (d ∷ ds) each le = let level = (each d (has-first d ds)).1 in omega (arith, level, le)

  -- a subtree that goes deep enough goes no deeper
  pub deep : (n c : ℕ) → Lives c → m ≤ n + lv c → tree kids n c ≡ tree kids (suc n) c
  deep zero c lives enough = let lower = low c lives in absurd (omega (arith, lower, enough))
  deep (suc n) c lives enough =
      ap (λ xs. c ∷ xs) (flat-same (tree kids n) (tree kids (suc n)) (kids c)
      (λ d listed. let child = below c d lives listed in let level = child.1 in deep n d child.0 (omega (arith, enough, level))))

  -- what stands below a root stands lower
  pub level-below : (n c x : ℕ) → Lives c → has (flat_map (tree kids n) (kids c)) x ≡ true → lv c < lv x
  level-below n c x lives there = let deeper = level-in-flat n (suc (lv c)) x (kids c) (children-at c lives) there in omega (arith, deeper)

  -- so do all that go deeper
  pub deep-to : (n k c : ℕ) → Lives c → m ≤ n + lv c → n ≤ k → tree kids n c ≡ tree kids k c
  deep-to n zero c lives enough le = let none : n ≡ 0 = omega (arith, le) in ap (λ i. tree kids i c) none
  deep-to n (suc k) c lives enough le =
      by-cases (nat_le n k)
      (λ less. let le = is-le n k less in deep-to n k c lives enough le ∙ deep k c lives (omega (arith, enough, le)))
      (λ more. ap (λ i. tree kids i c) (last n k le more))
    where
      is-le : (a b : ℕ) → nat_le a b ≡ true → a ≤ b
      is-le a b e = grind (arith, nat_tests, e)

      last : (a b : ℕ) → a ≤ suc b → nat_le a b ≡ false → a ≡ suc b
      last a b le e = grind (arith, nat_tests, le, e)

  -- other children that are the same below a level
  pub tree-same : (others : ℕ → List ℕ) (l : ℕ) → ((c : ℕ) → Lives c → l < lv c → others c ≡ kids c)
      → (n c : ℕ) → Lives c → l < lv c → tree others n c ≡ tree kids n c
  tree-same others l same zero c lives deeper = refl
  tree-same others l same (suc n) c lives deeper =
      ap (λ xs. c ∷ xs) (ap (flat_map (tree others n)) (same c lives deeper)
      ∙ flat-same (tree others n) (tree kids n) (kids c)
      (λ d listed. let child = below c d lives listed in let level = child.1 in tree-same others l same n d child.0 (omega (arith, level, deeper))))

  -- ---- none stands twice

  module _ (Under : ℕ → ℕ → Type 0) (under : (n c x : ℕ) → Lives c → has (tree kids n c) x ≡ true → Under c x)
      (one : (c d x : ℕ) → Under c x → Under d x → lv c ≡ lv d → c ≡ d) (kids-apart : (c : ℕ) → AreApart (kids c)) where
    apart-each : (g : ℕ → List ℕ) (l : ℕ) (ds : List ℕ) → AreAt l ds → AreApart ds → ((d : ℕ) → Lives d → AreApart (g d))
        → ((d x : ℕ) → Lives d → has (g d) x ≡ true → Under d x) → AreApart (flat_map g ds)
    apart-each g l [] each apart pieces within = tt
    apart-each g l (d ∷ ds) each apart pieces within =
        let at = each d (has-first d ds) in
        apart-append (g d) (flat_map g ds) (pieces d at.0) (apart-each g l ds (at-rest l d ds each) apart.1 pieces within)
        (λ x here. fails (has (flat_map g ds) x) (λ there.
        let piece = piece-of g ds x there in
        let other = each piece.of (has-later d piece.of ds piece.listed) in
        let same : d ≡ piece.of = one d piece.of x (within d x at.0 here) (within piece.of x other.0 piece.there) (at.1 ∙ sym other.1) in
        no-truth (has ds d) (subst (λ e. has ds e ≡ true) (sym same) piece.listed) apart.0))

    pub apart-tree : (n c : ℕ) → Lives c → AreApart (tree kids n c)
    apart-tree zero c lives = tt
    apart-tree (suc n) c lives = (
      fails (has (flat_map (tree kids n) (kids c)) c) (λ there. let deeper = level-below n c c lives there in absurd (omega (arith, deeper))),
      apart-each (tree kids n) (suc (lv c)) (kids c) (children-at c lives) (kids-apart c) (λ d lives. apart-tree n d lives) (under n),
    )

    pub apart-flat : (n l : ℕ) (ds : List ℕ) → AreAt l ds → AreApart ds → AreApart (flat_map (tree kids n) ds)
    apart-flat n l ds each apart = apart-each (tree kids n) l ds each apart (apart-tree n) (under n)

  -- ---- one subtree gives way to another

  module _ (others : ℕ → List ℕ) (a : ℕ) (new : List ℕ) (Beside : ℕ → Type 0) (lives : (c : ℕ) → Beside c → Lives c)
      (beside : (c d : ℕ) → Beside c → (c == a) ≡ false → has (kids c) d ≡ true → Beside d) where
    module _ (same : (n c : ℕ) → Beside c → (c == a) ≡ false → n + suc (lv c) ≡ m → flat_map (tree others n) (others c) ≡ flat_map (swapped others a new n) (kids c)) where
      -- where a does not stand, nothing changes
      stays : (n c : ℕ) → Beside c → n + lv c ≡ m → has (tree kids n c) a ≡ false → swapped others a new n c ≡ tree kids n c
      stays zero c is level none = let lower = low c (lives c is) in absurd (omega (arith, lower, level))
      stays (suc n) c is level none =
          let parts = neither (c == a) (has (flat_map (tree kids n) (kids c)) a) none in
          ap (λ b. if b then new else tree others (suc n) c) parts.0
          ∙ ap (λ xs. c ∷ xs) (same n c is parts.0 (omega (arith, level))
          ∙ flat-same (swapped others a new n) (tree kids n) (kids c)
          (λ d listed.
          let child = below c d (lives c is) listed in
          let lower = child.1 in
          stays n d (beside c d is parts.0 listed) (omega (arith, level, lower))
          (fails (has (tree kids n d) a) (λ there. no-truth (has (flat_map (tree kids n) (kids c)) a) (piece-in (tree kids n) (kids c) d a listed there) parts.1))))
        where
          neither : (x y : Bool) → (x || y) ≡ false → (x ≡ false) × (y ≡ false)
          neither true y e = absurd (cc)
          neither false y e = (refl, e)

      -- behind some
      swap-behind : (ws xs ys : List ℕ) → Swap lv a (tree kids (m - lv a) a) new xs ys → Swap lv a (tree kids (m - lv a) a) new (ws ++ xs) (ws ++ ys)
      swap-behind ws xs ys s = record {
        before = ws ++ s.before;
        after = s.after;
        is = ap (λ zs. ws ++ zs) s.is ∙ sym (append_assoc ws s.before (tree kids (m - lv a) a ++ s.after));
        with = ap (λ zs. ws ++ zs) s.with ∙ sym (append_assoc ws s.before (new ++ s.after));
        ends = s.ends;
      }

      -- before some
      swap-before : (xs ys zs : List ℕ) → Swap lv a (tree kids (m - lv a) a) new xs ys → EndsAt lv (lv a) zs → Swap lv a (tree kids (m - lv a) a) new (xs ++ zs) (ys ++ zs)
      swap-before xs ys zs s ends = record {
        before = s.before;
        after = s.after ++ zs;
        is = ap (λ ws. ws ++ zs) s.is ∙ (append_assoc s.before (tree kids (m - lv a) a ++ s.after) zs
            ∙ ap (λ ws. s.before ++ ws) (append_assoc (tree kids (m - lv a) a) s.after zs));
        with = ap (λ ws. ws ++ zs) s.with ∙ (append_assoc s.before (new ++ s.after) zs ∙ ap (λ ws. s.before ++ ws) (append_assoc new s.after zs));
        ends = ends-append lv (lv a) s.after zs s.ends ends;
      }

      -- subtrees end to end, where it is so of each
      swap-each : (n l : ℕ) (ds : List ℕ) → ((d : ℕ) → has ds d ≡ true → Beside d × (lv d ≡ l)) → n + l ≡ m
          → ((d : ℕ) → Beside d → n + lv d ≡ m → AreApart (tree kids n d) → has (tree kids n d) a ≡ true → Swap lv a (tree kids (m - lv a) a) new (tree kids n d) (swapped others a new n d))
          → AreApart (flat_map (tree kids n) ds) → has (flat_map (tree kids n) ds) a ≡ true
          → Swap lv a (tree kids (m - lv a) a) new (flat_map (tree kids n) ds) (flat_map (swapped others a new n) ds)
      swap-each n l [] each level one apart there = absurd (cc)
      swap-each n l (d ∷ ds) each level one apart there =
          let t = tree kids n d in
          let ts = flat_map (tree kids n) ds in
          let at = each d (has-first d ds) in
          let same_level = at.1 in
          let rest : (e : ℕ) → has ds e ≡ true → Beside e × (lv e ≡ l) = (λ e listed. each e (has-later d e ds listed)) in
          by-cases (has t a)
          (λ here.
          let none = apart-right t ts a apart here in
          let deeper = level-in n d a (lives d at.0) here in
          let staying = flat-same (swapped others a new n) (tree kids n) ds
          (λ e listed. let other = rest e listed in let other_level = other.1 in
          stays n e other.0 (omega (arith, level, other_level))
          (fails (has (tree kids n e) a) (λ inner. no-truth (has ts a) (piece-in (tree kids n) ds e a listed inner) none))) in
          subst (λ zs. Swap lv a (tree kids (m - lv a) a) new (t ++ ts) (swapped others a new n d ++ zs)) (sym staying)
          (swap-before t (swapped others a new n d) ts (one d at.0 (omega (arith, level, same_level)) (apart-first t ts apart) here)
          (flat-ends n l (lv a) ds (λ e listed. let other = rest e listed in (lives e other.0, other.1)) (omega (arith, deeper, same_level)))))
          (λ none.
          subst (λ zs. Swap lv a (tree kids (m - lv a) a) new (t ++ ts) (zs ++ flat_map (swapped others a new n) ds)) (sym (stays n d at.0 (omega (arith, level, same_level)) none))
          (swap-behind t ts (flat_map (swapped others a new n) ds) (swap-each n l ds rest level one (apart-second t ts apart)
          (joined-cases t ts a there (λ here. no-truth (has t a) here none) (λ later. later)))))

      -- a subtree that has a
      pub swap-tree : (n c : ℕ) → Beside c → n + lv c ≡ m → AreApart (tree kids n c) → has (tree kids n c) a ≡ true → Swap lv a (tree kids (m - lv a) a) new (tree kids n c) (swapped others a new n c)
      swap-tree zero c is level apart there = absurd (cc)
      swap-tree (suc n) c is level apart there =
          by-cases (c == a)
          (λ here.
          let eq = (Decides-eqb c a).0 here in
          let depth : suc n ≡ m - lv a = (let same = ap lv eq in omega (arith, level, same)) in
          record {
            before = [];
            after = [];
            is = (λ i. tree kids (depth i) (eq i)) ∙ sym (append-nil (tree kids (m - lv a) a));
            with = ap (λ b. if b then new else tree others (suc n) c) here ∙ sym (append-nil new);
            ends = tt;
          })
          (λ other.
          let flat = flat_map (tree kids n) (kids c) in
          let inner : has flat a ≡ true = has-cases c a flat there (λ eq. no-truth (c == a) ((Decides-eqb c a).1 eq) other) (λ later. later) in
          subst (λ zs. Swap lv a (tree kids (m - lv a) a) new (c ∷ flat) zs)
          (sym (ap (λ b. if b then new else tree others (suc n) c) other ∙ ap (λ xs. c ∷ xs) (same n c is other (omega (arith, level)))))
          (swap-behind (c ∷ []) flat (flat_map (swapped others a new n) (kids c))
          (swap-each n (suc (lv c)) (kids c) (λ d listed. (beside c d is other listed, (below c d (lives c is) listed).1)) (omega (arith, level))
          (λ d at depth apart there. swap-tree n d at depth apart there) apart.1 inner)))

      -- and subtrees end to end of which one has a
      pub swap-flat : (n l : ℕ) (ds : List ℕ) → ((d : ℕ) → has ds d ≡ true → Beside d × (lv d ≡ l)) → n + l ≡ m
          → AreApart (flat_map (tree kids n) ds) → has (flat_map (tree kids n) ds) a ≡ true
          → Swap lv a (tree kids (m - lv a) a) new (flat_map (tree kids n) ds) (flat_map (swapped others a new n) ds)
      swap-flat n l ds each level = swap-each n l ds each level (swap-tree n)

-- ---- places

-- where a number stands that does not stand before
pub position-joined : (a : ℕ) (before after : List ℕ) → has before a ≡ false → position (λ x. x == a) (before ++ (a ∷ after)) ≡ Some (length before)
position-joined a before after none =
    ap (λ n. cond (nat_lt n (length (before ++ (a ∷ after)))) (Some n) None) (first before none)
    ∙ ap (λ b. cond b (Some (length before)) None) (less (length before) (length after) (length (before ++ (a ∷ after))) (length-append before (a ∷ after)))
  where
    first : (before : List ℕ) → has before a ≡ false → position_or_len (λ x. x == a) (before ++ (a ∷ after)) ≡ length before
    first [] none = rw ((Decides-eqb a a).1 refl) refl
    first (x ∷ before) none = let ih = first before in grind (arith, nat_tests, ih, none)

    less : (m k n : ℕ) → n ≡ m + suc k → nat_lt m n ≡ true
    less m k n is = grind (arith, nat_tests, is)

-- how many stand deeper, where a list goes on no deeper
pub deeper-joined : (lv : ℕ → ℕ) (l : ℕ) (xs ys : List ℕ) → ((x : ℕ) → has xs x ≡ true → l < lv x) → EndsAt lv l ys
    → position_or_len (λ k. nat_le k l) (map lv (xs ++ ys)) ≡ length xs
deeper-joined lv l [] [] deeper ends = refl
deeper-joined lv l [] (y ∷ ys) deeper ends = rw (is-le (lv y) l ends) refl
  where
    is-le : (a b : ℕ) → a ≤ b → nat_le a b ≡ true
    is-le a b le = grind (arith, nat_tests, le)
deeper-joined lv l (x ∷ xs) ys deeper ends =
    let here = deeper x (has-first x xs) in
    let ih = deeper-joined lv l xs ys (λ y there. deeper y (has-later x y xs there)) ends in
    step (nat_le (lv x) l) (not-le (lv x) l here) ih
  where
    not-le : (a b : ℕ) → b < a → nat_le a b ≡ false
    not-le a b less = grind (arith, nat_tests, less)

    step : (b : Bool) → b ≡ false → position_or_len (λ k. nat_le k l) (map lv (xs ++ ys)) ≡ length xs
        → cond (not b) (1 + position_or_len (λ k. nat_le k l) (map lv (xs ++ ys))) 0 ≡ suc (length xs)
    step true is ih = absurd (cc)
    step false is ih = omega (arith, ih)

-- where the subtree ends whose root stands behind others
pub end-joined : (lv : ℕ → ℕ) (a : ℕ) (before xs after : List ℕ) → ((x : ℕ) → has xs x ≡ true → lv a < lv x) → EndsAt lv (lv a) after
    → end_in (map lv (before ++ (a ∷ (xs ++ after)))) (length before) ≡ length before + length (a ∷ xs)
end-joined lv a [] xs after deeper ends = ap suc (deeper-joined lv (lv a) xs after deeper ends) ∙ (omega arith)
end-joined lv a (x ∷ before) xs after deeper ends = let ih = end-joined lv a before xs after deeper ends in omega (arith, ih)

-- lists joined, parted at places
drop-two : (xs ys zs : List ℕ) → drop (length xs + length ys) (xs ++ (ys ++ zs)) ≡ zs
drop-two xs ys zs = drop-append-add xs (ys ++ zs) (length ys) ∙ drop-append_seam ys zs

take-two : (xs ys zs : List ℕ) → take (length xs + length ys) (xs ++ (ys ++ zs)) ≡ xs ++ ys
take-two xs ys zs =
    ap (λ n. take n (xs ++ (ys ++ zs))) (sym (length-append xs ys)) ∙ (ap (take (length (xs ++ ys))) (sym (append_assoc xs ys zs)) ∙ take-append_seam (xs ++ ys) zs)

-- a subtree at its place: it begins where its root stands, and ends where the levels say so
pub record Placed (lv : ℕ → ℕ) (i : ℕ) (old new xs ys : List ℕ) : Type 0 where
  pub start : take i ys ≡ take i xs
  pub with : ys ≡ take i xs ++ (new ++ drop (end_in (map lv xs) i) xs)
  pub front : take (end_in (map lv xs) i) xs ≡ take i xs ++ old
  pub rest : drop i xs ≡ old ++ drop (end_in (map lv xs) i) xs
  pub end : end_in (map lv xs) i ≡ i + length old

pub placed : (lv : ℕ → ℕ) (a i : ℕ) (deeper new xs ys : List ℕ) → Swap lv a (a ∷ deeper) new xs ys → ((x : ℕ) → has deeper x ≡ true → lv a < lv x)
    → AreApart xs → position (λ x. x == a) xs ≡ Some i → Placed lv i (a ∷ deeper) new xs ys
placed lv a i deeper new xs ys s lower apart at =
    let old = a ∷ deeper in
    let none : has s.before a ≡ false =
    apart-left s.before (old ++ s.after) a (subst AreApart s.is apart) (has-first a (deeper ++ s.after)) in
    let found : Some (length s.before) ≡ Some i =
    sym (position-joined a s.before (deeper ++ s.after) none) ∙ (ap (position (λ x. x == a)) (sym s.is) ∙ at) in
    let here : length s.before ≡ i = cc in
    let end : end_in (map lv xs) i ≡ length s.before + length old =
    ap (λ zs. end_in (map lv zs) i) s.is ∙ (ap (end_in (map lv (s.before ++ (old ++ s.after)))) (sym here) ∙ end-joined lv a s.before deeper s.after lower s.ends) in
    let first : take i xs ≡ s.before = ap (take i) s.is ∙ (ap (λ n. take n (s.before ++ (old ++ s.after))) (sym here) ∙ take-append_seam s.before (old ++ s.after)) in
    let last : drop (end_in (map lv xs) i) xs ≡ s.after = ap₂ drop end s.is ∙ drop-two s.before old s.after in
    record {
      start = ap (take i) s.with ∙ (ap (λ n. take n (s.before ++ (new ++ s.after))) (sym here) ∙ (take-append_seam s.before (new ++ s.after) ∙ sym first));
      with = s.with ∙ sym (ap₂ (λ ws zs. ws ++ (new ++ zs)) first last);
      front = ap₂ take end s.is ∙ (take-two s.before old s.after ∙ ap (λ ws. ws ++ old) (sym first));
      rest = ap (drop i) s.is ∙ (ap (λ n. drop n (s.before ++ (old ++ s.after))) (sym here) ∙ (drop-append_seam s.before (old ++ s.after)
          ∙ ap (λ ws. old ++ ws) (sym last)));
      end = end ∙ ap (λ n. n + length old) here;
    }
