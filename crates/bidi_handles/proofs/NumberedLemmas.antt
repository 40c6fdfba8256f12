-- Things of one kind, each of a number of its own, and a text that may be the id of one of them. `t` says of a number whether
-- the text is its id, and `r` is the number that `id_number` reads in the text.
use Rattle.std.proofs.Common.{◌≡◌, ◌∙◌, ◌<◌, ◌^◌, ◌||◌, ℕ, Bool, true, false, true≢false, List, get_or}
use Rattle.std.proofs.Common.{Option, Some, None, IfSome, option_and_then, option_to_list, sym, ap, arith}
use Rattle.std.specs.Prelude.{◌==◌, find}
use Rattle.std.specs.List.{list_any}
use Rattle.std.proofs.lemmas.Bool.Decides.{nat_tests}
use Rattle.bidi_handles.proofs.ListLemmas.{agree, find-none, find-same}

-- the number of a text that has one is a number that passes, and no other does
pub numbered : (t : ℕ → Bool) (r : Option ℕ) → IfSome r (λ n. (n < 2 ^ 48) × (t n ≡ true))
    → ((n : ℕ) → n < 2 ^ 48 → t n ≡ true → r ≡ Some n) → (n : ℕ) → n < 2 ^ 48 → list_any (λ m. m == n) (option_to_list r) ≡ t n
numbered t (Some m) some every n fits =
    agree ((m == n) || false) (t n)
    (λ e. let same : m ≡ n = grind (arith, nat_tests, e) in ap t (sym same) ∙ some.1)
    (λ e. let one = every n fits e in let same : m ≡ n = cc in grind (arith, nat_tests, same))
numbered t None some every n fits =
    agree false (t n) (λ e. absurd (true≢false (sym e))) (λ e. let wrong = every n fits e in absurd (cc))

-- so the first whose id is the text is the first of its number, and there is none where the text has none
pub named-by : {X : Type 0} (number : X → ℕ) (t : ℕ → Bool) (r : Option ℕ) → ((x : X) → number x < 2 ^ 48) → IfSome r (λ n. (n < 2 ^ 48) × (t n ≡ true))
    → ((n : ℕ) → n < 2 ^ 48 → t n ≡ true → r ≡ Some n)
    → (xs : List X) → find (λ x. t (number x)) xs ≡ option_and_then (λ n. find (λ x. number x == n) xs) r
named-by number t (Some n) fits some every xs =
    find-same _ _ xs (λ x. let here = numbered t (Some n) some every (number x) (fits x) in grind (arith, nat_tests, here))
named-by number t None fits some every xs =
    find-none _ xs (λ k x less. sym (numbered t None some every (number (get_or xs k x)) (fits (get_or xs k x))))
