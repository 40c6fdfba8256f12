-- Lists of ascending numbers are equal if they have the same members.
use Rattle.std.proofs.Common.{◌≡◌, ◌∙◌, ◌<◌, ◌+◌, ◌^◌, ℕ, suc, Bool, true, false, List, [], ◌∷◌}
use Rattle.std.proofs.Common.{length, get_or, map, take, filter, refl, sym, ap, ap₂, subst, arith}
use Rattle.std.specs.Prelude.{◌==◌, ◌&&◌, ◌||◌, not, if◌then◌else◌, find, is_some, Some}
use Rattle.std.specs.List.{list_any, dedup, dedup_from}
use Rattle.std.specs.List.Sorted.{IsStrictlyIncreasing}
use Rattle.std.proofs.Math.Dec.{eqb}
use Rattle.std.proofs.lemmas.Bool.Decides.{nat_tests, Decides-eqb}
use Rattle.std.proofs.lemmas.List.Folds.{list_any_more}
use Rattle.std.proofs.lemmas.List.Kept.{AllPairs-from_increasing, IsStrictlyIncreasing-filter}
use Rattle.std.proofs.lemmas.Map.Views.{any-filter_same}
use Rattle.bidi_tree.specs.Node.{Node}
use Rattle.bidi_handles.specs.declared.handle.Handle.{Handle}
use Rattle.bidi_handles.specs.ValuesInHand.{handle_seen}
use Rattle.bidi_handles.proofs.ListLemmas.{agree, filter-map}

-- a number is one of these
abbrev pub among : ℕ → List ℕ → Bool
among n xs = list_any (λ m. m == n) xs

-- ---- each once

-- a number is in a list if it is the first item, or in the rest
either : (a b c : Bool) → (b ≡ true → a ≡ true) → (a || c) ≡ (a || (b || c))
either true b c same = refl
either false true c same = absurd (let wrong = same refl in cc)
either false false c same = refl

among-from : (n k : ℕ) (xs : List ℕ) → among n (dedup_from eqb k xs) ≡ (k == n || among n xs)
among-from n k [] = refl
among-from n k (x ∷ xs) = by (x == k) refl (among-from n k xs) (among-from n x xs)
  where
    by : (b : Bool) → (x == k) ≡ b → among n (dedup_from eqb k xs) ≡ (k == n || among n xs) → among n (dedup_from eqb x xs) ≡ (x == n || among n xs)
        → among n (if b then dedup_from eqb k xs else k ∷ dedup_from eqb x xs) ≡ (k == n || (x == n || among n xs))
    by true e kept first = kept ∙ either (k == n) (x == n) (among n xs) (λ t. grind (arith, nat_tests, e, t))
    by false e kept first = ap (λ b. k == n || b) first

-- removing duplicates keeps the same numbers
pub among-dedup : (n : ℕ) (xs : List ℕ) → among n (dedup eqb xs) ≡ among n xs
among-dedup n [] = refl
among-dedup n (x ∷ xs) = among-from n x xs

-- ---- those that ascend

-- every number after the first is greater
module _ (x : ℕ) (xs : List ℕ) (ascend : IsStrictlyIncreasing (x ∷ xs)) where
  first-below : (k : ℕ) → k < length xs → x < get_or xs k 0
  first-below k less = AllPairs-from_increasing (x ∷ xs) ascend 0 (suc k) 0 (omega arith) (omega arith)

  others-ascend : IsStrictlyIncreasing xs
  others-ascend k less =
      let next : suc k + 1 ≡ suc (k + 1) = omega arith in
      subst (λ j. get_or xs k 0 < get_or (x ∷ xs) j 0) next (ascend (suc k) (omega arith))

above : (x : ℕ) (xs : List ℕ) → ((k : ℕ) → k < length xs → x < get_or xs k 0) → (n : ℕ) → among n xs ≡ true → x < n
above x [] low n e = absurd (cc)
above x (y ∷ ys) low n e =
    let here = low 0 (omega arith) in
    let later = above x ys (λ k less. low (suc k) (omega arith)) n in
    grind (arith, nat_tests, here, later, e)

-- ascending lists are equal if the same numbers are in them
same-numbers : (xs ys : List ℕ) → IsStrictlyIncreasing xs → IsStrictlyIncreasing ys → ((n : ℕ) → among n xs ≡ among n ys) → xs ≡ ys
same-numbers [] [] ascend too same = refl
same-numbers [] (y ∷ ys) ascend too same = let e = same y in grind (arith, nat_tests, e)
same-numbers (x ∷ xs) [] ascend too same = let e = same x in grind (arith, nat_tests, e)
same-numbers (x ∷ xs) (y ∷ ys) ascend too same = ap₂ (λ m ms. m ∷ ms) first (same-numbers xs ys (others-ascend x xs ascend) (others-ascend y ys too) rest)
  where
    over : (n : ℕ) → among n xs ≡ true → x < n
    over = above x xs (first-below x xs ascend)

    beyond : (n : ℕ) → among n ys ≡ true → y < n
    beyond = above y ys (first-below y ys too)

    first : x ≡ y
    first = let a = same x in let b = same y in let c = beyond x in let d = over y in grind (arith, nat_tests, a, b, c, d)

    rest : (n : ℕ) → among n xs ≡ among n ys
    rest n =
        let e = same n in
        let a = over n in
        let b = beyond n in
        let one = first in
        agree (among n xs) (among n ys) (λ t. grind (arith, nat_tests, e, a, one, t)) (λ t. grind (arith, nat_tests, e, b, one, t))

-- ---- of two lists

-- a number that is left by a filter is in the list, and passes
among-filter : (n : ℕ) (p : ℕ → Bool) (xs : List ℕ) → among n (filter p xs) ≡ (p n && among n xs)
among-filter n p xs = any-filter_same (λ m. m == n) p (p n) (λ k e. ap p ((Decides-eqb k n).0 e)) xs

-- of two lists that ascend, those of the one that are in the other are those of the other that are in the one
both-ways : (ns ms : List ℕ) → IsStrictlyIncreasing ns → IsStrictlyIncreasing ms → filter (λ n. among n ms) ns ≡ filter (λ m. among m ns) ms
both-ways ns ms ascend too =
    same-numbers (filter (λ n. among n ms) ns) (filter (λ m. among m ns) ms) (IsStrictlyIncreasing-filter (λ n. among n ms) ns ascend)
    (IsStrictlyIncreasing-filter (λ m. among m ns) ms too)
    (λ n. among-filter n (λ m. among m ms) ns ∙ (turned (among n ms) (among n ns) ∙ sym (among-filter n (λ m. among m ns) ms)))
  where
    turned : (a b : Bool) → (a && b) ≡ (b && a)
    turned true true = refl
    turned true false = refl
    turned false true = refl
    turned false false = refl

-- ---- of handles

-- if some number passes, there is one
pub find-any : {X : Type 0} (p : X → Bool) (xs : List X) → is_some (find p xs) ≡ list_any p xs
find-any p [] = refl
find-any p (x ∷ xs) = by (p x) (find-any p xs)
  where
    by : (b : Bool) → is_some (find p xs) ≡ list_any p xs → is_some (if b then Some x else find p xs) ≡ (b || list_any p xs)
    by true rest = refl
    by false rest = rest

any-number : (n : ℕ) (hs : List Handle) → list_any (λ h. h.number == n) hs ≡ among n (map (λ h. h.number) hs)
any-number n [] = refl
any-number n (h ∷ hs) = ap (λ b. h.number == n || b) (any-number n hs)

numbers-seen : (hs : List Handle) → map (λ s. s.0) (map handle_seen hs) ≡ map (λ h. h.number) hs
numbers-seen [] = refl
numbers-seen (h ∷ hs) = ap (λ ns. h.number ∷ ns) (numbers-seen hs)

-- the numbers that handles have are those of the handles that pass
pub numbers-picked : (t : ℕ → Bool) (ns : List ℕ) (hs : List Handle) → IsStrictlyIncreasing ns → IsStrictlyIncreasing (map (λ h. h.number) hs)
    → ((n : ℕ) → n < 2 ^ 48 → among n ns ≡ t n)
    → filter (λ n. list_any (λ h. h.number == n) hs) ns ≡ map (λ s. s.0) (filter (λ s. t s.0) (map handle_seen hs))
numbers-picked t ns hs ascend too named =
    let number = λ (h : Handle). h.number in
    (λ i. filter (λ n. any-number n hs i) ns)
    ∙ (both-ways ns (map number hs) ascend too
    ∙ (filter-map number (λ m. among m ns) hs
    ∙ ((λ i. map number (filter (λ h. named h.number h.number_fits i) hs))
    ∙ sym (ap (map (λ s. s.0)) (filter-map handle_seen (λ s. t s.0) hs) ∙ numbers-seen (filter (λ h. t h.number) hs)))))

-- ---- one after another

-- filtering twice
left-of : {X : Type 0} (p q : X → Bool) (xs : List X) → filter q (filter p xs) ≡ filter (λ x. p x && q x) xs
left-of p q [] = refl
left-of p q (x ∷ xs) = by (p x) (left-of p q xs)
  where
    by : (b : Bool) → filter q (filter p xs) ≡ filter (λ x. p x && q x) xs → filter q (if b then x ∷ filter p xs else filter p xs)
        ≡ (if b && q x then x ∷ filter (λ x. p x && q x) xs else filter (λ x. p x && q x) xs)
    by true rest = ap (λ ys. if q x then x ∷ ys else ys) rest
    by false rest = rest

-- none of no numbers is left out
pub none-left_out : (all : List (ℕ × Node)) → all ≡ filter (λ s. not (among s.0 [])) all
none-left_out [] = refl
none-left_out (s ∷ all) = ap (λ ss. s ∷ ss) (none-left_out all)

-- without one more number
pub left-more : (ns : List ℕ) (i d : ℕ) (all now after : List (ℕ × Node)) → i < length ns
    → now ≡ filter (λ s. not (among s.0 (take i ns))) all → after ≡ filter (λ s. not (get_or ns i d == s.0)) now
    → after ≡ filter (λ s. not (among s.0 (take (i + 1) ns))) all
left-more ns i d all now after less held is =
    is ∙ (ap (filter (λ s. not (get_or ns i d == s.0))) held ∙ (left-of (λ s. not (among s.0 (take i ns))) (λ s. not (get_or ns i d == s.0)) all
    ∙ (λ j. filter (λ s. one s.0 j) all)))
  where
    neither : (a b : Bool) → (not a && not b) ≡ not (a || b)
    neither true b = refl
    neither false b = refl

    one : (m : ℕ) → (not (among m (take i ns)) && not (get_or ns i d == m)) ≡ not (among m (take (i + 1) ns))
    one m = neither (among m (take i ns)) (get_or ns i d == m) ∙ ap not (sym (list_any_more (λ k. k == m) ns i d less))
