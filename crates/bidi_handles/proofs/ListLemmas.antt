-- Laws of finding and filtering in lists.
use Rattle.std.proofs.Common.{◌≡◌, ◌∙◌, ◌+◌, ◌<◌, ℕ, suc, Bool, true, false, List, [], ◌∷◌, ◌++◌, length, get_or}
use Rattle.std.proofs.Common.{take, map, filter, append-nil, Option, Some, None, refl, sym, ap, arith}
use Rattle.std.specs.Prelude.{find, option_map, if◌then◌else◌}
use Rattle.std.proofs.lemmas.List.{map-append, take_more}
use Rattle.std.proofs.lemmas.List.Elements.{filter-append}

-- two tests agree if each implies the other
pub agree : (x y : Bool) → (x ≡ true → y ≡ true) → (y ≡ true → x ≡ true) → x ≡ y
agree true y there back = sym (there refl)
agree false true there back = back refl
agree false false there back = refl

-- no value is there
pub no_value : {X : Type 0} (o : Option X) → ((x : X) → o ≡ Some x → ⊥) → o ≡ None
no_value None none = refl
no_value (Some x) none = absurd (none x refl)

-- what a look-up by what f gives finds
pub find-map : {A B : Type 0} (f : A → B) (p : B → Bool) (xs : List A) → option_map f (find (λ x. p (f x)) xs) ≡ find p (map f xs)
find-map f p [] = refl
find-map f p (x ∷ xs) = let ih = find-map f p xs in grind (arith, ih)

-- if each item fails, none is found
pub find-none : {X : Type 0} (p : X → Bool) (xs : List X) → ((k : ℕ) (d : X) → k < length xs → p (get_or xs k d) ≡ false) → find p xs ≡ None
find-none p [] fails = refl
find-none p (x ∷ xs) fails = rw (fails 0 x (omega arith)) (find-none p xs (λ k d less. fails (suc k) d (omega arith)))

-- two tests that agree find the same item
pub find-same : {A : Type 0} (p q : A → Bool) (xs : List A) → ((x : A) → p x ≡ q x) → find p xs ≡ find q xs
find-same p q [] same = refl
find-same p q (x ∷ xs) same = let ih = find-same p q xs same in let here = same x in grind (arith, ih, here)

-- a filter by what f gives
pub filter-map : {A B : Type 0} (f : A → B) (p : B → Bool) (xs : List A) → filter p (map f xs) ≡ map f (filter (λ x. p (f x)) xs)
filter-map f p [] = refl
filter-map f p (x ∷ xs) = let ih = filter-map f p xs in grind (arith, ih)

-- of those that pass, what g gives of the next item too
pub picked-more : {X Y Z : Type 0} (f : X → Y) (p : Y → Bool) (g : Y → Z) (items : List X) (i : ℕ) (x : X) (b : Bool) (now after : List Z)
    → i < length items → x ≡ get_or items i x → p (f x) ≡ b
    → now ≡ map g (filter p (map f (take i items))) → after ≡ (if b then now ++ g (f x) ∷ [] else now) → after ≡ map g (filter p (map f (take (i + 1) items)))
picked-more f p g items i x b now after less at passes held is =
    is ∙ (by b passes ∙ sym (ap (λ xs. map g (filter p (map f xs))) (take_more items i x less ∙ ap (λ y. take i items ++ y ∷ []) (sym at))
    ∙ (ap (λ ys. map g (filter p ys)) (map-append f (take i items) (x ∷ [])) ∙ (ap (map g) (filter-append p (map f (take i items)) (f x ∷ []))
    ∙ map-append g (filter p (map f (take i items))) (filter p (f x ∷ []))))))
  where
    by : (b : Bool) → p (f x) ≡ b → (if b then now ++ g (f x) ∷ [] else now) ≡ map g (filter p (map f (take i items))) ++ map g (filter p (f x ∷ []))
    by true e = rw e (ap (λ zs. zs ++ g (f x) ∷ []) held)
    by false e = rw e (held ∙ sym (append-nil (map g (filter p (map f (take i items))))))
