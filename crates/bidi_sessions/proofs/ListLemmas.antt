-- Lists that are looked at through a function.
use Rattle.std.proofs.Common.{◌≡◌, ◌∙◌, ◌<◌, ◌≤◌, ◌+◌, ℕ, suc, Bool, true, false, cond, Option, Some, None, ◌&&◌, ◌||◌, length, get_or}
use Rattle.std.proofs.Common.{drop, drop-cons, add-one, option_map, unwrap_or, List, [], ◌∷◌, ◌++◌, map, refl, sym, ap, ap₂, arith}
use Rattle.std.specs.Prelude.{◌==◌, if◌then◌else◌, filter, find, flat_map, nat_lt}
use Rattle.std.specs.List.{AllByRecursion, list_any, list_all, dedup, dedup_from, position, position_or_len}
use Rattle.std.proofs.Math.Dec.{eqb}
use Rattle.std.proofs.lemmas.Bool.Decides.{nat_tests, Decides-eqb}

-- a test of what is seen
pub map-filter : {X Y : Type 0} (g : X → Y) (p : Y → Bool) (xs : List X) → map g (filter (λ x. p (g x)) xs) ≡ filter p (map g xs)
map-filter g p [] = refl
map-filter g p (x ∷ xs) = let ih = map-filter g p xs in grind (arith, nat_tests, ih)

-- no item passes
pub filter-none : {X : Type 0} (p : X → Bool) (xs : List X) → ((x : X) → p x ≡ false) → filter p xs ≡ []
filter-none p [] fails = refl
filter-none p (x ∷ xs) fails = rw (fails x) (filter-none p xs fails)

-- some item passes, as it is seen
pub any-map : {X Y : Type 0} (g : X → Y) (p : Y → Bool) (xs : List X) → list_any p (map g xs) ≡ list_any (λ x. p (g x)) xs
any-map g p [] = refl
any-map g p (x ∷ xs) = ap (λ b. p (g x) || b) (any-map g p xs)

-- some number passes among those that are left once each
either-first : (a b c : Bool) → (b ≡ true → a ≡ true) → (a || c) ≡ (a || (b || c))
either-first true b c same = refl
either-first false true c same = absurd (let wrong = same refl in cc)
either-first false false c same = refl

any-dedup_from : (p : ℕ → Bool) (k : ℕ) (ns : List ℕ) → list_any p (dedup_from eqb k ns) ≡ (p k || list_any p ns)
any-dedup_from p k [] = refl
any-dedup_from p k (n ∷ ns) = by (n == k) refl (any-dedup_from p k ns) (any-dedup_from p n ns)
  where
    by : (b : Bool) → (n == k) ≡ b → list_any p (dedup_from eqb k ns) ≡ (p k || list_any p ns) → list_any p (dedup_from eqb n ns) ≡ (p n || list_any p ns)
        → list_any p (if b then dedup_from eqb k ns else k ∷ dedup_from eqb n ns) ≡ (p k || (p n || list_any p ns))
    by true e kept first = kept ∙ either-first (p k) (p n) (list_any p ns) (λ t. sym (ap p ((Decides-eqb n k).0 e)) ∙ t)
    by false e kept first = ap (λ b. p k || b) first

pub any-dedup : (p : ℕ → Bool) (ns : List ℕ) → list_any p (dedup eqb ns) ≡ list_any p ns
any-dedup p [] = refl
any-dedup p (n ∷ ns) = any-dedup_from p n ns

-- tests that agree
pub all-same : {X : Type 0} (p q : X → Bool) (xs : List X) → ((x : X) → p x ≡ q x) → list_all p xs ≡ list_all q xs
all-same p q [] same = refl
all-same p q (x ∷ xs) same = ap₂ (λ b c. b && c) (same x) (all-same p q xs same)

-- the first item that passes, as it is seen
pub find-map : {X Y Z : Type 0} (g : X → Y) (f : Y → Z) (p : Y → Bool) (xs : List X)
    → option_map f (find p (map g xs)) ≡ option_map (λ x. f (g x)) (find (λ x. p (g x)) xs)
find-map g f p [] = refl
find-map g f p (x ∷ xs) = let ih = find-map g f p xs in grind (arith, nat_tests, ih)

-- the same, of the item itself
pub find-seen : {X Y : Type 0} (g : X → Y) (p : Y → Bool) (xs : List X) → find p (map g xs) ≡ option_map g (find (λ x. p (g x)) xs)
find-seen g p [] = refl
find-seen g p (x ∷ xs) = let ih = find-seen g p xs in grind (arith, nat_tests, ih)

-- no item passes
pub position-none : {X : Type 0} (p : X → Bool) (xs : List X) → (let none : Option ℕ = None in position p xs ≡ none) → find p xs ≡ None
position-none p xs none = fails p xs (past-end (nat_lt (position_or_len p xs) (length xs)) refl none)
  where
    past-end : (b : Bool) → nat_lt (position_or_len p xs) (length xs) ≡ b
        → (let none : Option ℕ = None in cond (nat_lt (position_or_len p xs) (length xs)) (Some (position_or_len p xs)) None ≡ none)
        → length xs ≤ position_or_len p xs
    past-end b e is = grind (arith, nat_tests, e, is)

    fails : {X : Type 0} (p : X → Bool) (xs : List X) → length xs ≤ position_or_len p xs → find p xs ≡ None
    fails p [] le = refl
    fails p (x ∷ xs) le = let ih = fails p xs in grind (arith, nat_tests, ih, le)

-- an item, and those behind it
pub from-item : {X : Type 0} (xs : List X) (i : ℕ) (x : X) → i < length xs → x ≡ get_or xs i x → drop i xs ≡ x ∷ drop (i + 1) xs
from-item xs i x less is = rw (add-one, drop-cons xs i x) (ap (λ y. y ∷ drop (suc i) xs) (sym is))

-- tests that agree
pub filter-same : {X : Type 0} (p q : X → Bool) (xs : List X) → ((x : X) → p x ≡ q x) → filter p xs ≡ filter q xs
filter-same p q [] same = refl
filter-same p q (x ∷ xs) same = let ih = filter-same p q xs same in let here = same x in grind (arith, nat_tests, ih, here)

-- functions that agree
pub flat_map-same : {X Y : Type 0} (f g : X → List Y) (xs : List X) → ((x : X) → f x ≡ g x) → flat_map f xs ≡ flat_map g xs
flat_map-same f g [] same = refl
flat_map-same f g (x ∷ xs) same = ap₂ (λ ys zs. ys ++ zs) (same x) (flat_map-same f g xs same)

-- an option that has no value
pub no_value : {X : Type 0} (o : Option X) → ((x : X) → o ≡ Some x → ⊥) → o ≡ None
no_value None h = refl
no_value (Some x) h = absurd (h x refl)

-- so nothing is seen of it
pub not-found : {X Y : Type 0} (g : X → Y) (o : Option X) (y : Y) → o ≡ None → option_map g o ≡ Some y → ⊥
not-found g None y none some = cc
not-found g (Some x) y none some = cc

-- one value is the other
pub some-same : {X : Type 0} (x y : X) → Some x ≡ Some y → x ≡ y
some-same x y e = ap (λ o. unwrap_or o x) e

-- an option that is seen twice
pub map-now : {X Y Z : Type 0} (g : Y → Z) (f : X → Y) (o : Option X) → option_map (λ x. g (f x)) o ≡ option_map g (option_map f o)
map-now g f None = refl
map-now g f (Some x) = refl

-- what is so of each that passes
passes-next : {X : Type 0} (f g : ℕ → X) (p : ℕ → Bool) (n : ℕ) (ns : List ℕ) (b : Bool)
    → p n ≡ b → (p n ≡ true → f n ≡ g n) → map f (filter p ns) ≡ map g (filter p ns) → map f (filter p (n ∷ ns)) ≡ map g (filter p (n ∷ ns))
passes-next f g p n ns true is same rest = rw is (ap₂ (λ x xs. x ∷ xs) (same is) rest)
passes-next f g p n ns false is same rest = rw is rest

pub each-passing : {X : Type 0} (f g : ℕ → X) (p : ℕ → Bool) (ns : List ℕ) → ((n : ℕ) → p n ≡ true → f n ≡ g n) → map f (filter p ns) ≡ map g (filter p ns)
each-passing f g p [] same = refl
each-passing f g p (n ∷ ns) same = passes-next f g p n ns (p n) refl (same n) (each-passing f g p ns same)

-- one function after another
pub map-twice : {A B C : Type 0} (f : B → C) (g : A → B) (xs : List A) → map f (map g xs) ≡ map (λ x. f (g x)) xs
map-twice f g [] = refl
map-twice f g (x ∷ xs) = ap (λ ys. f (g x) ∷ ys) (map-twice f g xs)

-- each of two lists, one behind the other
pub all-append : {X : Type 0} (P : X → Type 0) (xs ys : List X) → AllByRecursion P xs → AllByRecursion P ys → AllByRecursion P (xs ++ ys)
all-append P [] ys a b = b
all-append P (x ∷ xs) ys a b = (a.0, all-append P xs ys a.1 b)

-- a list for each, seen by g
pub flat_map-map : {X Y Z : Type 0} (f : Y → List Z) (g : X → Y) (xs : List X) → flat_map f (map g xs) ≡ flat_map (λ x. f (g x)) xs
flat_map-map f g [] = refl
flat_map-map f g (x ∷ xs) = ap (λ ys. f (g x) ++ ys) (flat_map-map f g xs)
