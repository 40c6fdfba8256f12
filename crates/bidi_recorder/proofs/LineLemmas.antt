-- The line of a short text fits.
use Rattle.std.proofs.Common.{◌≡◌, false, ℕ, ◌<◌, ◌≤◌, ◌^◌, ◌∷◌, ◌++◌, ◌||◌, ◌==◌, Bool, codes, decimal, List, [], length, refl, ap₂, ◌∙◌, arith}
use Rattle.std.proofs.lemmas.List.{length-append}
use Rattle.std.proofs.lemmas.List.Folds.{list_any-append}
use Rattle.std.proofs.lemmas.Bool.{ne_eqb}
use Rattle.std.proofs.lemmas.Fmt.{length-decimal-le, decimal_is_IsNumeral}
use Rattle.std.proofs.lemmas.Str.Parse.{digit_from_value}
use Rattle.std.specs.Str.Parse.{AllDigits}
use Rattle.bidi_lines.specs.Feeds.{has_feed}

digits_one_line : (ds : List ℕ) → AllDigits 10 ds → has_feed ds ≡ false
digits_one_line [] h = refl
digits_one_line (d ∷ ds) h =
    let r = digit_from_value d h.0 in
    ap₂ (λ (x y : Bool). x || y) (ne_eqb d 10 (λ same. let is : d ≡ 10 = same in absurd (omega (arith, r.0, is)))) (digits_one_line ds h.1)

pub one_line : (c : ℕ) (said : List ℕ) → c < 2 ^ 53 → has_feed said ≡ false → has_feed (codes "> " ++ decimal c ++ 32 ∷ said) ≡ false
one_line c said small none =
    list_any-append (λ b. b == 10) (decimal c) (32 ∷ said) ∙ ap₂ (λ (x y : Bool). x || y) (digits_one_line (decimal c) (decimal_is_IsNumeral c (omega (arith, small))).0.1) none

pub short : (c : ℕ) (said : List ℕ) → c < 2 ^ 53 → length said ≤ 1048576 → length (codes "> " ++ decimal c ++ 32 ∷ said) ≤ 2097152
short c said small few =
    let digits : length (decimal c) ≤ 16 = length-decimal-le 16 c (omega arith) (omega (arith, small)) (omega (arith, small)) in
    omega (arith, digits, length-append (decimal c) (32 ∷ said))
