-- Lists of numbers: what stands in them, and that none stands twice.
use Rattle.std.proofs.Common.{◌≡◌, ◌∙◌, ◌≤◌, ℕ, zero, suc, Bool, true, false, List, [], ◌∷◌, ◌++◌, length, map, Option, Some, None, cond, refl, sym, ap, subst, arith}
use Rattle.std.specs.Prelude.{◌==◌, ◌&&◌, ◌||◌, not, nat_lt, if◌then◌else◌, filter, find, flat_map}
use Rattle.std.specs.List.{list_any}
use Rattle.std.proofs.lemmas.Bool.Decides.{nat_tests, Decides-eqb}
use Rattle.std.proofs.lemmas.List.Folds.{list_any-append}
use Rattle.bidi_contexts.specs.Contexts.{up_to}

-- a number stands in a list
abbrev pub has : List ℕ → ℕ → Bool
has xs c = list_any (λ x. x == c) xs

-- no number stands twice
abbrev pub AreApart : List ℕ → Type 0
AreApart [] = Unit {0}
AreApart (x ∷ xs) = (has xs x ≡ false) × AreApart xs

-- it is the first, or one of the others
pub has-first : (c : ℕ) (xs : List ℕ) → has (c ∷ xs) c ≡ true
has-first c xs = rw ((Decides-eqb c c).1 refl) refl

pub has-later : (x c : ℕ) (xs : List ℕ) → has xs c ≡ true → has (x ∷ xs) c ≡ true
has-later x c xs later = step (x == c) later
  where
    step : (b : Bool) → has xs c ≡ true → (b || has xs c) ≡ true
    step true later = refl
    step false later = later

-- what stands in two lists joined stands in one of them
pub has-left : (xs ys : List ℕ) (c : ℕ) → has xs c ≡ true → has (xs ++ ys) c ≡ true
has-left xs ys c left = list_any-append (λ x. x == c) xs ys ∙ rw left refl

pub has-right : (xs ys : List ℕ) (c : ℕ) → has ys c ≡ true → has (xs ++ ys) c ≡ true
has-right [] ys c right = right
has-right (x ∷ xs) ys c right = has-later x c (xs ++ ys) (has-right xs ys c right)

-- a test passes or fails
pub by-cases : {A : Type 0} (b : Bool) → (b ≡ true → A) → (b ≡ false → A) → A
by-cases true passes fails = passes refl
by-cases false passes fails = fails refl

-- one of two tests passes
pub or-cases : {A : Type 0} (a b : Bool) → (a || b) ≡ true → (a ≡ true → A) → (b ≡ true → A) → A
or-cases true b e first second = first refl
or-cases false b e first second = second e

-- it is the first, or one of the others
pub has-cases : {A : Type 0} (x c : ℕ) (xs : List ℕ) → has (x ∷ xs) c ≡ true → (x ≡ c → A) → (has xs c ≡ true → A) → A
has-cases x c xs there first later = or-cases (x == c) (has xs c) there (λ e. first ((Decides-eqb x c).0 e)) later

-- it stands in the first of two lists joined, or in the second
pub joined-cases : {A : Type 0} (xs ys : List ℕ) (c : ℕ) → has (xs ++ ys) c ≡ true → (has xs c ≡ true → A) → (has ys c ≡ true → A) → A
joined-cases xs ys c there = or-cases (has xs c) (has ys c) (sym (list_any-append (λ x. x == c) xs ys) ∙ there)

-- nothing both passes and fails
pub no-truth : {A : Type 0} (b : Bool) → b ≡ true → b ≡ false → A
no-truth b is isnt = absurd (cc)

-- what cannot pass fails
pub fails : (b : Bool) → (b ≡ true → b ≡ false) → b ≡ false
fails true not = not refl
fails false not = refl

-- in two lists joined none stands twice where none does in either, and none in both
pub apart-append : (xs ys : List ℕ) → AreApart xs → AreApart ys → ((c : ℕ) → has xs c ≡ true → has ys c ≡ false) → AreApart (xs ++ ys)
apart-append [] ys first second none = second
apart-append (x ∷ xs) ys first second none = (
  list_any-append (λ y. y == x) xs ys ∙ rw (first.0, none x (has-first x xs)) refl,
  apart-append xs ys first.1 second (λ c there. none c (has-later x c xs there)),
)

-- and the other way
pub apart-right : (xs ys : List ℕ) (c : ℕ) → AreApart (xs ++ ys) → has xs c ≡ true → has ys c ≡ false
apart-right [] ys c apart there = absurd (cc)
apart-right (x ∷ xs) ys c apart there =
    has-cases x c xs there
    (λ same. fails (has ys c) (λ second. no-truth (has (xs ++ ys) x) (has-right xs ys x (subst (λ d. has ys d ≡ true) (sym same) second)) apart.0))
    (λ later. apart-right xs ys c apart.1 later)

pub apart-left : (xs ys : List ℕ) (c : ℕ) → AreApart (xs ++ ys) → has ys c ≡ true → has xs c ≡ false
apart-left xs ys c apart there = fails (has xs c) (λ first. no-truth (has ys c) there (apart-right xs ys c apart first))

pub apart-first : (xs ys : List ℕ) → AreApart (xs ++ ys) → AreApart xs
apart-first [] ys apart = tt
apart-first (x ∷ xs) ys apart = (
  fails (has xs x) (λ there. no-truth (has (xs ++ ys) x) (has-left xs ys x there) apart.0),
  apart-first xs ys apart.1,
)

pub apart-second : (xs ys : List ℕ) → AreApart (xs ++ ys) → AreApart ys
apart-second [] ys apart = apart
apart-second (x ∷ xs) ys apart = apart-second xs ys apart.1

-- what stands in lists end to end stands in one of them
pub record Piece (g : ℕ → List ℕ) (ds : List ℕ) (x : ℕ) : Type 0 where
  pub of : ℕ
  pub listed : has ds of ≡ true
  pub there : has (g of) x ≡ true

pub piece-of : (g : ℕ → List ℕ) (ds : List ℕ) (x : ℕ) → has (flat_map g ds) x ≡ true → Piece g ds x
piece-of g [] x there = absurd (cc)
piece-of g (d ∷ ds) x there =
    joined-cases (g d) (flat_map g ds) x there
    (λ here. record { of = d; listed = has-first d ds; there = here })
    (λ later. let piece = piece-of g ds x later in record { of = piece.of; listed = has-later d piece.of ds piece.listed; there = piece.there })

-- and the other way
pub piece-in : (g : ℕ → List ℕ) (ds : List ℕ) (d x : ℕ) → has ds d ≡ true → has (g d) x ≡ true → has (flat_map g ds) x ≡ true
piece-in g [] d x listed there = absurd (cc)
piece-in g (e ∷ ds) d x listed there =
    has-cases e d ds listed
    (λ same. has-left (g e) (flat_map g ds) x (subst (λ y. has (g y) x ≡ true) (sym same) there))
    (λ later. has-right (g e) (flat_map g ds) x (piece-in g ds d x later there))

-- two functions that agree on what stands in a list
pub flat-same : (f g : ℕ → List ℕ) (ds : List ℕ) → ((d : ℕ) → has ds d ≡ true → f d ≡ g d) → flat_map f ds ≡ flat_map g ds
flat-same f g [] same = refl
flat-same f g (d ∷ ds) same = λ i. same d (has-first d ds) i ++ flat-same f g ds (λ e there. same e (has-later d e ds there)) i

-- two functions that agree on what stands in a list
pub map-in : {B : Type 0} (f g : ℕ → B) (xs : List ℕ) → ((c : ℕ) → has xs c ≡ true → f c ≡ g c) → map f xs ≡ map g xs
map-in f g [] same = refl
map-in f g (x ∷ xs) same = λ i. same x (has-first x xs) i ∷ map-in f g xs (λ c there. same c (has-later x c xs there)) i

-- two tests that agree on what stands in a list keep the same
pub filter-in : (p q : ℕ → Bool) (xs : List ℕ) → ((x : ℕ) → has xs x ≡ true → p x ≡ q x) → filter p xs ≡ filter q xs
filter-in p q [] same = refl
filter-in p q (x ∷ xs) same =
    let ih = filter-in p q xs (λ y there. same y (has-later x y xs there)) in
    let here = same x (has-first x xs) in
    grind (arith, ih, here)

-- a filter of a filter
pub filter-both : (p q : ℕ → Bool) (xs : List ℕ) → filter p (filter q xs) ≡ filter (λ x. q x && p x) xs
filter-both p q [] = refl
filter-both p q (x ∷ xs) = let ih = filter-both p q xs in grind (arith, ih)

-- what no test passes
pub filter-none : (p : ℕ → Bool) (xs : List ℕ) → ((x : ℕ) → has xs x ≡ true → p x ≡ false) → filter p xs ≡ []
filter-none p [] none = refl
filter-none p (x ∷ xs) none =
    let ih = filter-none p xs (λ y there. none y (has-later x y xs there)) in
    let here = none x (has-first x xs) in
    grind (arith, ih, here)

-- a filter has just those of a list that pass
pub has-filter : (c : ℕ) (p : ℕ → Bool) (xs : List ℕ) → has (filter p xs) c ≡ (p c && has xs c)
has-filter c p [] = grind (arith, nat_tests)
has-filter c p (x ∷ xs) = grind (arith, nat_tests, has-filter c p xs)

-- none stands twice in it
pub apart-filter : (p : ℕ → Bool) (xs : List ℕ) → AreApart xs → AreApart (filter p xs)
apart-filter p [] apart = tt
apart-filter p (x ∷ xs) apart = step (p x) (apart-filter p xs apart.1)
  where
    none : (b : Bool) → (b && false) ≡ false
    none true = refl
    none false = refl

    step : (b : Bool) → AreApart (filter p xs) → AreApart (cond b (x ∷ filter p xs) (filter p xs))
    step true rest = (has-filter x p xs ∙ (ap (λ b. p x && b) apart.0 ∙ none (p x)), rest)
    step false rest = rest

-- ---- how many there are

-- without the first of a number
abbrev without : ℕ → List ℕ → List ℕ
without c [] = []
without c (x ∷ xs) = if x == c then xs else x ∷ without c xs

length-without : (c : ℕ) (xs : List ℕ) → has xs c ≡ true → length xs ≡ suc (length (without c xs))
length-without c [] there = absurd (cc)
length-without c (x ∷ xs) there = let ih = length-without c xs in grind (arith, nat_tests, ih, there)

has-without : (c d : ℕ) (xs : List ℕ) → has xs d ≡ true → (c == d) ≡ false → has (without c xs) d ≡ true
has-without c d [] there other = absurd (cc)
has-without c d (x ∷ xs) there other = let ih = has-without c d xs in grind (arith, nat_tests, ih, there, other)

-- of which none stands twice, and each stands in another list, there are no more
length-le : (xs ys : List ℕ) → AreApart xs → ((c : ℕ) → has xs c ≡ true → has ys c ≡ true) → length xs ≤ length ys
length-le [] ys apart every = omega arith
length-le (x ∷ xs) ys apart every =
    let one = length-without x ys (every x (has-first x xs)) in
    let rest = length-le xs (without x ys) apart.1
    (λ c there. has-without x c ys (every c (has-later x c xs there))
    (fails (x == c) (λ is. no-truth (has xs x) (subst (λ d. has xs d ≡ true) (sym ((Decides-eqb x c).0 is)) there) apart.0))) in
    omega (arith, one, rest)

-- two such lists of the same numbers have as many
pub length-same : (xs ys : List ℕ) → AreApart xs → AreApart ys → ((c : ℕ) → has xs c ≡ has ys c) → length xs ≡ length ys
length-same xs ys first second same =
    let le = length-le xs ys first (λ c there. sym (same c) ∙ there) in
    let ge = length-le ys xs second (λ c there. same c ∙ there) in
    omega (arith, le, ge)

-- ---- the first that passes

-- it passes, and stands in the list
pub find-passes : (p : ℕ → Bool) (xs : List ℕ) (x : ℕ) → find p xs ≡ Some x → (p x ≡ true) × (has xs x ≡ true)
find-passes p [] x found = absurd (cc)
find-passes p (y ∷ xs) x found =
    by-cases (p y)
    (λ passes. let same : y ≡ x = first (p y) passes found in (ap p (sym same) ∙ passes, subst (λ z. has (y ∷ xs) z ≡ true) same (has-first y xs)))
    (λ no. let later = find-passes p xs x (rest (p y) no found) in (later.0, has-later y x xs later.1))
  where
    first : (b : Bool) → b ≡ true → (if b then Some y else find p xs) ≡ Some x → y ≡ x
    first true is e = cc
    first false is e = absurd (cc)

    rest : (b : Bool) → b ≡ false → (if b then Some y else find p xs) ≡ Some x → find p xs ≡ Some x
    rest true is e = absurd (cc)
    rest false is e = e

-- where none is found, none passes
pub find-none : (p : ℕ → Bool) (xs : List ℕ) (x : ℕ) → find p xs ≡ None → has xs x ≡ true → p x ≡ false
find-none p [] x none there = absurd (cc)
find-none p (y ∷ xs) x none there =
    by-cases (p y)
    (λ passes. absurd (both (p y) passes none))
    (λ no. has-cases y x xs there (λ same. ap p (sym same) ∙ no) (λ later. find-none p xs x (rest (p y) no none) later))
  where
    both : (b : Bool) → b ≡ true → (if b then Some y else find p xs) ≡ None → ⊥
    both true is e = absurd (cc)
    both false is e = absurd (cc)

    rest : (b : Bool) → b ≡ false → (if b then Some y else find p xs) ≡ None → find p xs ≡ None
    rest true is e = absurd (cc)
    rest false is e = e

-- in lists of the same numbers, of which one passes at most, the same is found
pub find-one : (p : ℕ → Bool) (xs ys : List ℕ) → ((c : ℕ) → has xs c ≡ has ys c)
    → ((c d : ℕ) → has xs c ≡ true → has xs d ≡ true → p c ≡ true → p d ≡ true → c ≡ d) → find p xs ≡ find p ys
find-one p xs ys same one = step (find p xs) (find p ys) refl refl
  where
    step : (x y : Option ℕ) → find p xs ≡ x → find p ys ≡ y → x ≡ y
    step None None first second = refl
    step (Some x) None first second =
        let found = find-passes p xs x first in
        no-truth (p x) found.0 (find-none p ys x second (sym (same x) ∙ found.1))
    step None (Some y) first second =
        let found = find-passes p ys y second in
        no-truth (p y) found.0 (find-none p xs y first (same y ∙ found.1))
    step (Some x) (Some y) first second =
        let one_found = find-passes p xs x first in
        let other_found = find-passes p ys y second in
        ap Some (one x y one_found.1 (same y ∙ other_found.1) one_found.0 other_found.0)

-- the first of those that pass is the first that passes
abbrev pub first : List ℕ → Option ℕ
first [] = None
first (x ∷ xs) = Some x

pub find-first : (p : ℕ → Bool) (xs : List ℕ) → find p xs ≡ first (filter p xs)
find-first p [] = refl
find-first p (x ∷ xs) = step (p x) (find-first p xs)
  where
    step : (b : Bool) → find p xs ≡ first (filter p xs) → cond b (Some x) (find p xs) ≡ first (cond b (x ∷ filter p xs) (filter p xs))
    step true ih = refl
    step false ih = ih

-- the numbers up to n are those from 1 to n
pub any-up-to : (c n : ℕ) → has (up_to n) c ≡ (nat_lt 0 c && nat_lt c (suc n))
any-up-to c zero = grind (arith, nat_tests)
any-up-to c (suc n) = grind (arith, nat_tests, any-up-to c n, list_any-append (λ x. x == c) (up_to n) (suc n ∷ []))
