-- Handles whose numbers ascend: adding one, and a binary search among them.
use Rattle.std.proofs.Common.{◌≡◌, ◌∙◌, ◌<◌, ◌≤◌, ◌+◌, ◌^◌, ◌||◌, ℕ, zero, suc, Bool, true, false, List, [], ◌∷◌, ◌++◌}
use Rattle.std.proofs.Common.{length, get_or, map, take, filter, All, Option, Some, None, IfSome, option_to_list, Result, Ok, Err}
use Rattle.std.proofs.Common.{String, Global, string_bytes, refl, sym, ap, ap₂, subst, arith}
use Rattle.std.specs.Prelude.{◌==◌, bytes_eq, find, not, option_map}
use Rattle.std.specs.List.{list_any, remove}
use Rattle.std.specs.List.Sorted.{IsSearchInRange, IsBinarySearchResult, IsNonDecreasingBy, IsStrictlyIncreasing}
use Rattle.std.specs.Ordering.{nat_cmp, ordering_index}
use Rattle.std.proofs.lemmas.Bool.Decides.{nat_tests}
use Rattle.std.proofs.lemmas.Cmp.{ranked}
use Rattle.std.proofs.Math.Seq.{get_or-append_seam}
use Rattle.std.proofs.lemmas.List.{get_or-map, get_or_append_left, get_or_default, length-map, length-append, map-append, take_more}
use Rattle.std.proofs.lemmas.List.Folds.{list_any-append}
use Rattle.std.proofs.lemmas.List.Kept.{AllPairs-from_increasing, IsStrictlyIncreasing-filter}
use Rattle.bidi_tree.specs.Node.{Node}
use Rattle.bidi_handles.specs.declared.id.IdKind.TheVariants as kind
use Rattle.bidi_handles.specs.declared.handle.Handle.{Handle}
use Rattle.bidi_handles.specs.Ids.{id_of, has_id}
use Rattle.bidi_handles.specs.ValuesInHand.{handle_seen, held_tree}
use Rattle.bidi_handles.proofs.ListLemmas.{find-map, find-none, filter-map}
use Rattle.bidi_handles.proofs.NumberedLemmas.{numbered}
use Rattle.bidi_handles.proofs.ValueLemmas.{same-either}

-- ---- the first that passes a test

-- the item is the first one that passes
find-here : {X : Type 0} (p : X → Bool) (xs : List X) (i : ℕ) (d : X)
    → i < length xs → ((k : ℕ) → k < i → p (get_or xs k d) ≡ false) → p (get_or xs i d) ≡ true → find p xs ≡ Some (get_or xs i d)
find-here p [] i d less before here = absurd (omega arith)
find-here p (x ∷ xs) zero d less before here = rw here refl
find-here p (x ∷ xs) (suc i) d less before here = rw (before 0 (omega arith)) (find-here p xs i d (omega arith) (λ k lower. before (suc k) (omega arith)) here)

-- if all items pass, a filter keeps them all; if only one fails, it removes that one
all-kept : {X : Type 0} (p : X → Bool) (xs : List X) → ((k : ℕ) (d : X) → k < length xs → p (get_or xs k d) ≡ true) → filter p xs ≡ xs
all-kept p [] pass = refl
all-kept p (x ∷ xs) pass = rw (pass 0 x (omega arith)) (ap (λ ys. x ∷ ys) (all-kept p xs (λ k d less. pass (suc k) d (omega arith))))

taken-here : {X : Type 0} (p : X → Bool) (xs : List X) (i : ℕ) (d : X) → i < length xs → p (get_or xs i d) ≡ false
    → ((k : ℕ) → k < i → p (get_or xs k d) ≡ true) → ((k : ℕ) → i < k → k < length xs → p (get_or xs k d) ≡ true) → remove xs i ≡ filter p xs
taken-here p [] i d less fails before after = absurd (omega arith)
taken-here p (x ∷ xs) zero d less fails before after =
    rw fails (sym (all-kept p xs (λ k e inside. subst (λ y. p y ≡ true) (get_or_default xs k d e inside) (after (suc k) (omega arith) (omega arith)))))
taken-here p (x ∷ xs) (suc i) d less fails before after =
    rw (before 0 (omega arith)) (ap (λ ys. x ∷ ys)
    (taken-here p xs i d (omega arith) fails (λ k lower. before (suc k) (omega arith)) (λ k higher inside. after (suc k) (omega arith) (omega arith))))

-- ---- by number

module _ {X : Type 0} (number : X → ℕ) (xs : List X) (ascend : IsStrictlyIncreasing (map number xs)) where
  -- each number is less than those after it
  below-later : (i j : ℕ) (d : X) → i < j → j < length xs → number (get_or xs i d) < number (get_or xs j d)
  below-later i j d less within =
      let all = AllPairs-from_increasing (map number xs) ascend i j 0 less (omega (arith, length-map xs number)) in
      omega (arith, all, get_or-map number xs i d 0 (omega arith), get_or-map number xs j d 0 within)

  module _ (n : ℕ) where
    -- so the comparisons with a number do not fall
    comparisons-rise : IsNonDecreasingBy (λ x. ordering_index (nat_cmp (number x) n)) xs
    comparisons-rise i j d le within =
        let later : i < j → number (get_or xs i d) < number (get_or xs j d) = λ less. below-later i j d less within in
        let same : i ≡ j → number (get_or xs i d) ≡ number (get_or xs j d) = ap (λ k. number (get_or xs k d)) in
        grind (arith, nat_tests, later, same)

    module _ (i : ℕ) (within : IsSearchInRange (Err i) (length xs)) (parted : IsBinarySearchResult (λ x. nat_cmp (number x) n) xs (Err i)) where
      -- if nothing is found, no handle has the number
      apart : (k : ℕ) (d : X) → k < length xs → (number (get_or xs k d) == n) ≡ false
      apart k d inside =
          let before : k < i → number (get_or xs k d) < n = λ lower. ranked _ n _ (sym ((parted comparisons-rise).0 k d (omega arith) lower)) in
          let after : i ≤ k → n < number (get_or xs k d) = λ higher. ranked _ n _ (sym ((parted comparisons-rise).1 k d higher inside)) in
          grind (arith, nat_tests, before, after)

    -- the handle that is found is the one with that number
    pub found : (i : ℕ) (d : X) → IsSearchInRange (Ok i) (length xs)
        → IsBinarySearchResult (λ x. nat_cmp (number x) n) xs (Ok i) → find (λ x. number x == n) xs ≡ Some (get_or xs i d)
    found i d within at =
        let here : number (get_or xs i d) ≡ n = ranked _ n _ (sym (at d)) in
        find-here (λ x. number x == n) xs i d within
        (λ k lower. let less = below-later k i d lower within in grind (arith, nat_tests, less, here))
        (grind (arith, nat_tests, here))

    -- the handles with other numbers are left when it is removed
    pub taken : (i : ℕ) (d : X) → IsSearchInRange (Ok i) (length xs)
        → IsBinarySearchResult (λ x. nat_cmp (number x) n) xs (Ok i) → remove xs i ≡ filter (λ x. not (n == number x)) xs
    taken i d within at =
        let here : number (get_or xs i d) ≡ n = ranked _ n _ (sym (at d)) in
        taken-here (λ x. not (n == number x)) xs i d within (grind (arith, nat_tests, here))
        (λ k lower. let less = below-later k i d lower within in grind (arith, nat_tests, less, here))
        (λ k higher inside. let more = below-later i k d higher inside in grind (arith, nat_tests, more, here))

    -- if nothing is found, there is no such handle
    pub not-found : (i : ℕ) → IsSearchInRange (Err i) (length xs)
        → IsBinarySearchResult (λ x. nat_cmp (number x) n) xs (Err i) → find (λ x. number x == n) xs ≡ None
    not-found i within parted = find-none (λ x. number x == n) xs (apart i within parted)

    -- so all are left
    pub not-taken : (r : Result ℕ ℕ) → ((i : ℕ) → r ≡ Ok i → ⊥) → IsSearchInRange r (length xs)
        → IsBinarySearchResult (λ x. nat_cmp (number x) n) xs r → xs ≡ filter (λ x. not (n == number x)) xs
    not-taken (Ok i) none within at = absurd (none i refl)
    not-taken (Err i) none within parted =
        sym (all-kept (λ x. not (n == number x)) xs
        (λ k d inside. let other = apart i within parted k d inside in grind (arith, nat_tests, other)))

-- ---- by id

-- the value of a handle that was looked for is the one that is seen
pub value-seen : (t : ℕ → Bool) (hs : List Handle) (o : Option Handle) → o ≡ find (λ h. t h.number) hs
    → option_map (λ h. held_tree h.value.value) o ≡ option_map (λ held. held.1) (find (λ held. t held.0) (map handle_seen hs))
value-seen t hs o is = seen o ∙ ap (option_map (λ held. held.1)) (ap (option_map handle_seen) is ∙ find-map handle_seen (λ held. t held.0) hs)
  where
    seen : (o : Option Handle) → option_map (λ h. held_tree h.value.value) o ≡ option_map (λ held. held.1) (option_map handle_seen o)
    seen None = refl
    seen (Some h) = refl

-- ---- the numbers of handles

-- a fact about each handle as contracts see it holds of each handle
pub all-seen : (P : ℕ × Node → Type 0) (hs : List Handle) → All P (map handle_seen hs) → All (λ h. P (handle_seen h)) hs
all-seen P hs all k d less = subst P (get_or-map handle_seen hs k d (handle_seen d) less) (all k (handle_seen d) (omega (arith, length-map hs handle_seen)))

number_at : (hs : List Handle) (k : ℕ) (d : ℕ × Node) → (get_or (map handle_seen hs) k d).0 ≡ get_or (map (λ h. h.number) hs) k d.0
number_at [] k d = refl
number_at (h ∷ hs) zero d = refl
number_at (h ∷ hs) (suc k) d = number_at hs k d

-- a number that comes after those of handles in ascending order is greater than them
pub all-below : (hs : List Handle) (n : ℕ) → IsStrictlyIncreasing (map (λ h. h.number) hs ++ n ∷ []) → All (λ held. held.0 < n) (map handle_seen hs)
all-below hs n up k d less =
    let ns : List ℕ = map (λ h. h.number) hs in
    let within : k < length ns = omega (arith, less, length-map hs handle_seen, length-map hs (λ (h : Handle). h.number)) in
    let last : length ns < length (ns ++ n ∷ []) = omega (arith, length-append ns (n ∷ [])) in
    let lower : get_or (ns ++ n ∷ []) k d.0 < get_or (ns ++ n ∷ []) (length ns) d.0 =
    AllPairs-from_increasing (ns ++ n ∷ []) up k (length ns) d.0 within last in
    let here : get_or ns k d.0 < get_or (ns ++ n ∷ []) (length ns) d.0 =
    subst (λ x. x < get_or (ns ++ n ∷ []) (length ns) d.0) (get_or_append_left ns (n ∷ []) d.0 k within) lower in
    subst (λ x. x < n) (sym (number_at hs k d)) (subst (λ y. get_or ns k d.0 < y) (get_or-append_seam ns n [] d.0) here)

-- those without some of them ascend too
pub ascend-filter : (p : ℕ → Bool) (hs : List Handle)
    → IsStrictlyIncreasing (map (λ h. h.number) hs) → IsStrictlyIncreasing (map (λ h. h.number) (filter (λ h. p h.number) hs))
ascend-filter p hs up = subst IsStrictlyIncreasing (filter-map (λ (h : Handle). h.number) p hs) (IsStrictlyIncreasing-filter p (map (λ h. h.number) hs) up)

-- ---- the numbers of texts

-- among the numbers of some texts is that of each text that has one, and that of the next
pub numbers-more : (texts : List (String Global)) (i : ℕ) (s : String Global) (r : Option ℕ) (now after : List ℕ) → i < length texts → s ≡ get_or texts i s
    → IfSome r (λ n. (n < 2 ^ 48) × (bytes_eq (string_bytes s) (id_of kind.Handle n) ≡ true))
    → ((n : ℕ) → n < 2 ^ 48 → bytes_eq (string_bytes s) (id_of kind.Handle n) ≡ true → r ≡ Some n)
    → ((n : ℕ) → n < 2 ^ 48 → list_any (λ m. m == n) now ≡ has_id (map string_bytes (take i texts)) n) → after ≡ now ++ option_to_list r
    → (n : ℕ) → n < 2 ^ 48 → list_any (λ m. m == n) after ≡ has_id (map string_bytes (take (i + 1) texts)) n
numbers-more texts i s r now after less at some every held is n fits =
    let p = bytes_eq (id_of kind.Handle n) in
    let more : map string_bytes (take (i + 1) texts) ≡ map string_bytes (take i texts) ++ string_bytes s ∷ [] =
    ap (map string_bytes) (take_more texts i s less ∙ ap (λ x. take i texts ++ x ∷ []) (sym at)) ∙ map-append string_bytes (take i texts) (s ∷ []) in
    let one : list_any (λ m. m == n) (option_to_list r) ≡ list_any p (string_bytes s ∷ []) =
    numbered (λ m. bytes_eq (string_bytes s) (id_of kind.Handle m)) r some every n fits
    ∙ (same-either (string_bytes s) (id_of kind.Handle n) ∙ sym (or-false (p (string_bytes s)))) in
    ap (list_any (λ m. m == n)) is
    ∙ (list_any-append (λ m. m == n) now (option_to_list r)
    ∙ (ap₂ (λ a b. a || b) (held n fits) one
    ∙ (sym (list_any-append p (map string_bytes (take i texts)) (string_bytes s ∷ [])) ∙ ap (list_any p) (sym more))))
  where
    or-false : (b : Bool) → (b || false) ≡ b
    or-false true = refl
    or-false false = refl
