-- The digits of a number have no space, no plus sign and no leading zeros.
use Rattle.std.proofs.Common.{◌≡◌, ◌≢◌, ℕ, zero, suc, ◌+◌, ◌%◌, ◌<◌, ◌^◌, ◌&&◌, ◌||◌, Bool, true, false, List, [], ◌∷◌, length, get_or, Result, Ok, Err, ◌∙◌, sym, ap, arith}
use Rattle.std.specs.Prelude.{◌==◌, decimal, nat_lt, slice_index}
use Rattle.std.specs.List.{list_any}
use Rattle.std.specs.Str.Parse.{AllDigits, ParsesUnsigned}
use Rattle.std.proofs.lemmas.Bool.Decides.{nat_tests}
use Rattle.std.proofs.lemmas.Fmt.{decimal_by_steps, decimal_digit, decimal-digits_value, first_decimal}
use Rattle.std.proofs.lemmas.List.Folds.{list_any-append}
use Rattle.std.proofs.lemmas.Str.Parse.{numerals_by_value, parse_plain, tells_digits}

pub no_space : (n : ℕ) → n < 2 ^ 64 → list_any (λ b. b == 32) (decimal n) ≡ false
no_space n lt =
    decimal_by_steps (λ n ds. list_any (λ b. b == 32) ds ≡ false) (λ n small. grind (arith, nat_tests))
    (λ n ds le ih. grind (arith, nat_tests, ih, list_any-append (λ b. b == 32) ds ((48 + n % 10) ∷ []))) n lt

pub no_space_at : (xs : List ℕ) → list_any (λ b. b == 32) xs ≡ false → (i : ℕ) → i < length xs → get_or xs i 0 ≢ 32
no_space_at [] e i lt = absurd (omega arith)
no_space_at (x ∷ xs) e zero lt = grind (arith, nat_tests)
no_space_at (x ∷ xs) e (suc i) lt = let ih = no_space_at xs (grind (arith, nat_tests)) i (omega arith) in ih

-- a plus sign, or a zero before another byte
abbrev pub has_plus_or_zeros : List ℕ → Bool
has_plus_or_zeros text = (slice_index text 0 == 43) || ((slice_index text 0 == 48) && nat_lt 1 (length text))

-- a number has neither
pub no_plus_or_zeros : (n : ℕ) → n < 2 ^ 64 → (text : List ℕ) → text ≡ decimal n → has_plus_or_zeros text ≡ true → ⊥
no_plus_or_zeros zero lt text is padded = let digit : text ≡ 48 ∷ [] = is ∙ decimal_digit 0 (omega arith) in grind (arith, nat_tests, digit, padded)
no_plus_or_zeros (suc n) lt text is padded = let first = first_decimal (suc n) (omega arith) lt in grind (arith, nat_tests, first, is, padded)

-- and a text with neither is what is written of the number that is read
pub is_decimal : {E : Type 0} (text : List ℕ) (r : Result ℕ E) (n : ℕ) → has_plus_or_zeros text ≡ false → ParsesUnsigned 64 10 text r → r ≡ Ok n → text ≡ decimal n
is_decimal text (Err e) n plain reads is = cc
is_decimal {E = E} text (Ok m) n plain reads is =
    let own = numerals_by_value (AllDigits 10) tells_digits in
    let digits = parse_plain own {E = E} 64 text (Ok m) reads (λ plus. grind (arith, nat_tests, plain, plus)) in
    let written = decimal-digits_value own text digits.0.0 digits.0.1 (λ zero. grind (arith, nat_tests, plain, zero)) digits.0.2 in
    let same : m ≡ n = cc in
    sym written ∙ ap decimal (sym digits.1 ∙ same)
