-- The first line feed.
use Rattle.std.proofs.Common.{◌≡◌, ℕ, zero, suc, ◌+◌, ◌-◌, ◌<◌, ◌≤◌, Bool, true, false, ◌||◌, ltb, cond, List, [], ◌∷◌, ◌++◌, length, take}
use Rattle.std.proofs.Common.{drop, refl, sym, ◌∙◌, ap, ap₂, subst, length-drop, take_all, true≢false, take-append-drop, arith, Option, Some, None}
use Rattle.std.proofs.Math.Nat.{lt_of_not-le}
use Rattle.std.proofs.lemmas.List.{drop-drop, drop-take, take-take, length-take}
use Rattle.std.specs.Prelude.{◌==◌, position, slice_index}
use Rattle.std.specs.List.{list_any, position_or_len}
use Rattle.std.proofs.lemmas.Bool.{eqb-true, eq-eqb}
use Rattle.std.proofs.lemmas.Bool.Decides.{nat_tests}
use Rattle.memchr.specs.Find.{IsFirstByte, is_byte}
use Rattle.std.proofs.lemmas.List.Folds.{list_any-append}
use Rattle.bidi_lines.proofs.ResultLemmas.{no_truth}
use Rattle.std.proofs.Common.{append_assoc}
use Rattle.bidi_lines.specs.Feeds.{has_feed, ended}

abbrev place : List ℕ → ℕ
place [] = 0
place (b ∷ bs) = cond (b == 10) 0 (suc (place bs))

place_is : (bs : List ℕ) → position_or_len (λ b. b == 10) bs ≡ place bs
place_is [] = refl
place_is (b ∷ bs) = let ih = place_is bs in grind (arith, nat_tests, ih)

split : (bs : List ℕ) → place bs < length bs → bs ≡ take (place bs) bs ++ 10 ∷ drop (suc (place bs)) bs
split [] lt = absurd (omega arith)
split (b ∷ bs) lt = let ih = split bs in grind (arith, nat_tests, ih)

before : (bs : List ℕ) → has_feed (take (place bs) bs) ≡ false
before [] = refl
before (b ∷ bs) = let ih = before bs in grind (arith, nat_tests, ih)

none : (bs : List ℕ) → length bs ≤ place bs → has_feed bs ≡ false
none [] le = refl
none (b ∷ bs) le = let ih = none bs in grind (arith, nat_tests, ih)

found_at : (bs : List ℕ) → position (λ b. b == 10) bs ≡ cond (ltb (place bs) (length bs)) (Some (place bs)) None
found_at bs = ap (λ n. cond (ltb n (length bs)) (Some n) None) (place_is bs)

some_cond : (b : Bool) (i n : ℕ) → Some i ≡ cond b (Some n) None → (b ≡ true) × (i ≡ n)
some_cond true i n e = (refl, cc)
some_cond false i n e = cc

none_cond : (b : Bool) (n : ℕ) → None ≡ cond b (Some n) None → b ≡ false
none_cond true n e = cc
none_cond false n e = refl

-- the first line feed has no line feed before it
first-place : (bs : List ℕ) (k : ℕ) → k < length bs → slice_index bs k ≡ 10 → ((j : ℕ) → j < k → slice_index bs j ≡ 10 → ⊥) → place bs ≡ k
first-place [] k less is before = absurd (omega arith)
first-place (b ∷ bs) zero less is before = grind (arith, nat_tests, is)
first-place (b ∷ bs) (suc k) less is before =
    let here : b ≡ 10 → ⊥ = before 0 (omega arith) in
    let ih = first-place bs k (omega arith) is (λ j lower. before (suc j) (omega arith)) in
    grind (arith, nat_tests, here, ih)

no-place : (bs : List ℕ) → ((j : ℕ) → j < length bs → slice_index bs j ≡ 10 → ⊥) → place bs ≡ length bs
no-place [] none = refl
no-place (b ∷ bs) none =
    let here : b ≡ 10 → ⊥ = none 0 (omega arith) in
    let ih = no-place bs (λ j lower. none (suc j) (omega arith)) in
    grind (arith, nat_tests, here, ih)

-- a search for the first line feed finds its place
pub feed_found : (bs : List ℕ) (r : Option ℕ) → IsFirstByte (is_byte 10) bs r → r ≡ position (λ b. b == 10) bs
feed_found bs None none =
    let at = no-place bs (λ j lower is. none j (omega arith) lower (eq-eqb (slice_index bs j) 10 is)) in
    sym (found_at bs ∙ ap (λ b. cond b (Some (place bs)) None) (not-below at))
  where
    not-below : place bs ≡ length bs → ltb (place bs) (length bs) ≡ false
    not-below at = grind (arith, nat_tests, at)
feed_found bs (Some k) (first, is) =
    let at = first-place bs k first.high (eqb-true (slice_index bs k) 10 is)
    (λ j lower same. first.before j (omega arith) lower (eq-eqb (slice_index bs j) 10 same)) in
    let high = first.high in
    let less : ltb (place bs) (length bs) ≡ true = grind (arith, nat_tests, at, high) in
    sym (found_at bs ∙ (ap (λ b. cond b (Some (place bs)) None) less ∙ ap Some at))

pub feed_some : (bs : List ℕ) (i : ℕ)
    → Some i ≡ position (λ b. b == 10) bs → (bs ≡ take i bs ++ 10 ∷ drop (i + 1) bs) × (has_feed (take i bs) ≡ false) × (i < length bs)
feed_some bs i e =
    let h = some_cond (ltb (place bs) (length bs)) i (place bs) (e ∙ found_at bs) in
    let t = h.0 in
    let lt : place bs < length bs = grind (arith, nat_tests, t) in
    let one : suc (place bs) ≡ place bs + 1 = omega arith in
    let whole : bs ≡ take (place bs) bs ++ 10 ∷ drop (place bs + 1) bs = split bs lt ∙ ap (λ n. take (place bs) bs ++ 10 ∷ drop n bs) one in
    subst (λ (k : ℕ). (bs ≡ take k bs ++ 10 ∷ drop (k + 1) bs) × (has_feed (take k bs) ≡ false) × (k < length bs)) (sym h.1) (whole, before bs, lt)

pub feed_none : (bs : List ℕ) → None ≡ position (λ b. b == 10) bs → has_feed bs ≡ false
feed_none bs e = let t = none_cond (ltb (place bs) (length bs)) (place bs) (e ∙ found_at bs) in none bs (grind (arith, nat_tests, t))

-- the rest of a list is as long as it is
pub rest_whole : (bs : List ℕ) (i : ℕ) → take (length bs - i) (drop i bs) ≡ drop i bs
rest_whole bs i = let l = length-drop i bs in take_all (length bs - i) (drop i bs) (omega (arith, l))

-- the parts before and after the first separator are determined
pub one_front : (sep : ℕ) (xs ys us vs : List ℕ) → list_any (λ b. b == sep) xs ≡ false → list_any (λ b. b == sep) us ≡ false
    → xs ++ sep ∷ ys ≡ us ++ sep ∷ vs → (xs ≡ us) × (ys ≡ vs)
one_front sep [] ys [] vs a b e = (refl, cc)
one_front sep [] ys (u ∷ us) vs a b e = let h : sep ≡ u = cc in absurd (no_truth (grind (arith, nat_tests, h)))
one_front sep (x ∷ xs) ys [] vs a b e = let h : x ≡ sep = cc in absurd (no_truth (grind (arith, nat_tests, h)))
one_front sep (x ∷ xs) ys (u ∷ us) vs a b e =
    let h : x ≡ u = cc in
    let t : xs ++ sep ∷ ys ≡ us ++ sep ∷ vs = cc in
    let ih = one_front sep xs ys us vs (grind (arith, nat_tests)) (grind (arith, nat_tests)) t in
    let i = ih.0 in (cc, ih.1)

-- bytes with a line feed are those before the first one, the line feed, and those after it
pub first_feed : (bs : List ℕ) → has_feed bs ≡ true
    → (line : List ℕ) × (more : List ℕ) × (bs ≡ line ++ 10 ∷ more) × (has_feed line ≡ false) × (length line < length bs)
first_feed bs some =
    let within : place bs < length bs = lt_of_not-le (λ past. true≢false (sym some ∙ none bs past)) in
    let short = length-take (place bs) bs in
    (take (place bs) bs, drop (suc (place bs)) bs, split bs within, before bs, omega (arith, short, within))

-- a line feed after a line
pub feed_there : (line more bytes : List ℕ) → bytes ≡ line ++ 10 ∷ more → has_feed bytes ≡ true
feed_there line more bytes e = ap (λ (bs : List ℕ). has_feed bs) e ∙ (list_any-append (λ b. b == 10) line (10 ∷ more) ∙ grind (arith, nat_tests))

-- the first bytes are those of a beginning, and the first of the rest
take_sum : (bs : List ℕ) (n i : ℕ) → take (n + i) bs ≡ take n bs ++ take i (drop n bs)
take_sum bs n i = sym (take-append-drop n (take (n + i) bs)) ∙ ap₂ (λ (a b : List ℕ). a ++ b) (take-take n (n + i) bs (omega arith)) (drop-take n i bs)

-- two parts without a line feed have none together
pub no_feed_append : (a b : List ℕ) → has_feed a ≡ false → has_feed b ≡ false → has_feed (a ++ b) ≡ false
no_feed_append a b p q = let whole = list_any-append (λ b. b == 10) a b in grind (arith, whole, p, q)

-- the first line feed after a beginning that has none
pub feed_behind_some : (bs : List ℕ) (n i : ℕ) → has_feed (take n bs) ≡ false → Some i ≡ position (λ b. b == 10) (drop n bs)
    → (bs ≡ take (n + i) bs ++ 10 ∷ drop (n + i + 1) bs) × (has_feed (take (n + i) bs) ≡ false)
feed_behind_some bs n i seen e =
    let found = feed_some (drop n bs) i e in
    let front = take_sum bs n i in
    let back : drop (i + 1) (drop n bs) ≡ drop (n + i + 1) bs = drop-drop (i + 1) n bs ∙ ap (λ (k : ℕ). drop k bs) (omega arith) in (
      sym (take-append-drop n bs) ∙ (ap (λ (r : List ℕ). take n bs ++ r) found.0
          ∙ (sym (append_assoc (take n bs) (take i (drop n bs)) (10 ∷ drop (i + 1) (drop n bs)))
          ∙ ap₂ (λ (a b : List ℕ). a ++ 10 ∷ b) (sym front) back)),
      ap has_feed front ∙ no_feed_append (take n bs) (take i (drop n bs)) seen found.1,
    )

pub feed_behind_none : (bs : List ℕ) (n : ℕ) → has_feed (take n bs) ≡ false → None ≡ position (λ b. b == 10) (drop n bs) → has_feed bs ≡ false
feed_behind_none bs n seen e = ap has_feed (sym (take-append-drop n bs)) ∙ no_feed_append (take n bs) (drop n bs) seen (feed_none (drop n bs) e)

left_false : (a b : Bool) → (a || b) ≡ false → a ≡ false
left_false true b e = e
left_false false b e = refl

-- if the first bytes have no line feed, neither do fewer of them
pub no_feed_front : (bs : List ℕ) (m n : ℕ) → m ≤ n → has_feed (take n bs) ≡ false → has_feed (take m bs) ≡ false
no_feed_front bs m n le none =
    let front = take m (take n bs) in
    let back = drop m (take n bs) in
    let whole : has_feed (front ++ back) ≡ false = ap has_feed (take-append-drop m (take n bs)) ∙ none in
    ap has_feed (sym (take-take m n bs le)) ∙ left_false (has_feed front) (has_feed back) (sym (list_any-append (λ b. b == 10) front back) ∙ whole)

-- a line with its line feed after other bytes, grouped to the right
pub regroup : (front line more : List ℕ) → (front ++ (ended line ++ [])) ++ more ≡ front ++ (line ++ 10 ∷ more)
regroup front line more =
    append_assoc front (ended line ++ []) more
    ∙ ap (λ (z : List ℕ). front ++ z) (append_assoc (ended line) [] more ∙ append_assoc line (10 ∷ []) more)

-- ---- bytes that are added by a read

take-front : (s post tail : List ℕ) (n : ℕ) → n ≤ length s → take n ((s ++ post) ++ tail) ≡ take n s
take-front s post tail zero le = refl
take-front [] post tail (suc n) le = absurd (omega arith)
take-front (b ∷ s) post tail (suc n) le = ap (λ bs. b ∷ bs) (take-front s post tail n (omega arith))

take-behind : (old s post tail : List ℕ) (n k : ℕ) → k ≡ length old + n → n ≤ length s → take k ((old ++ (s ++ post)) ++ tail) ≡ old ++ take n s
take-behind [] s post tail n k is le = ap (λ (j : ℕ). take j ((s ++ post) ++ tail)) (omega (arith, is)) ∙ take-front s post tail n le
take-behind (b ∷ old) s post tail n zero is le = absurd (omega (arith, is))
take-behind (b ∷ old) s post tail n (suc k) is le = ap (λ bs. b ∷ bs) (take-behind old s post tail n k (omega (arith, is)) le)

-- those that were there, and the first of those that were read
pub read_behind : (old grown s post tail : List ℕ) (h n most : ℕ) → take h grown ≡ old → length old ≡ h → n ≤ length s → h + n ≤ most
    → take (h + n) (take most ((take h grown ++ (s ++ post)) ++ tail)) ≡ old ++ take n s
read_behind old grown s post tail h n most front len le within =
    take-take (h + n) most _ within
    ∙ (ap (λ (bs : List ℕ). take (h + n) ((bs ++ (s ++ post)) ++ tail)) front ∙ take-behind old s post tail n (h + n) (omega (arith, len)) le)

take-whole : (old rest : List ℕ) → take (length old) (old ++ rest) ≡ old
take-whole [] rest = refl
take-whole (b ∷ old) rest = ap (λ bs. b ∷ bs) (take-whole old rest)

-- the bytes that were there, before those that were added
pub filled : (old rest : List ℕ) (h most : ℕ) → length old ≡ h → h ≤ most → take h (take most old ++ rest) ≡ old
filled old rest h most len le =
    ap (λ bs. take h (bs ++ rest)) (take_all most old (omega (arith, len)))
    ∙ (ap (λ (k : ℕ). take k (old ++ rest)) (sym len) ∙ take-whole old rest)
