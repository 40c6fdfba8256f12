-- The number that digits write, up to a bound.
use Rattle.std.proofs.Common.{◌≡◌, ◌∙◌, ◌*◌, ◌+◌, ◌-◌, ◌<◌, ℕ, List, [], ◌∷◌, true, ap, arith, drop, get_or, length, min, sym}
use Rattle.std.specs.Char.{digit_value, is_ascii_digit}
use Rattle.std.specs.Str.Parse.{digits_value_after}
use Rattle.std.proofs.lemmas.Bool.Decides.{nat_tests}
use Rattle.std.proofs.lemmas.List.{drop_more}

step-same : (n k : ℕ) → min (min n 65537 * 10 + k) 65537 ≡ min (n * 10 + k) 65537
step-same n k = omega arith

-- a number past the bound may be cut to the bound before further digits
capped : (n : ℕ) (ds : List ℕ) → min (digits_value_after 10 (min n 65537) ds) 65537 ≡ min (digits_value_after 10 n ds) 65537
capped n [] = omega arith
capped n (d ∷ ds) =
    sym (capped (min n 65537 * 10 + digit_value d) ds) ∙ ap (λ x. min (digits_value_after 10 x ds) 65537) (step-same n (digit_value d)) ∙ capped (n * 10 + digit_value d) ds

-- the value of a decimal digit
digit-is : (b : ℕ) → is_ascii_digit b ≡ true → digit_value b ≡ b - 48
digit-is b digit = grind (arith, nat_tests)

-- one digit more
pub digit-step : (v value i d : ℕ) (digits : List ℕ) → i < length digits → get_or digits i 0 ≡ d → is_ascii_digit d ≡ true → value ≡ min (v * 10 + (d - 48)) 65537
    → min (digits_value_after 10 v (drop i digits)) 65537 ≡ min (digits_value_after 10 value (drop (i + 1) digits)) 65537
digit-step v value i d digits inside there digit is =
    let number : digit_value (get_or digits i 0) ≡ d - 48 = ap digit_value there ∙ digit-is d digit in
    ap (λ l. min (digits_value_after 10 v l) 65537) (drop_more digits i 0 inside)
    ∙ ap (λ k. min (digits_value_after 10 (v * 10 + k) (drop (i + 1) digits)) 65537) number
    ∙ sym (capped (v * 10 + (d - 48)) (drop (i + 1) digits))
    ∙ ap (λ x. min (digits_value_after 10 x (drop (i + 1) digits)) 65537) (sym is)
