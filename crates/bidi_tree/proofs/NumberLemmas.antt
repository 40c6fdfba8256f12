-- Numbers that are written by digits only.
use Rattle.std.proofs.Common.{◌≡◌, ◌<◌, ◌-◌, ◌^◌, ℕ, List, [], ◌∷◌, append-nil, length, take_all, false, Some, refl, ◌∙◌, arith}
use Rattle.std.specs.Prelude.{◌==◌, slice_index}
use Rattle.std.specs.Str.Parse.{AllDigits, digits_value}
use Rattle.std.specs.Float.Numeral.{Parts, digits_len, digits_end, scan_numeral}
use Rattle.std.proofs.lemmas.Bool.{ne_eqb, lt-ltb}
use Rattle.std.proofs.lemmas.Str.Parse.{digit_from_value}
use Rattle.bidi_tree.proofs.JsonLemmas.{plain_read}
use Rattle.fast_float.proofs.Integers.{digits_len_all}
use Rattle.fast_float.specs.Text.{scan}
use Rattle.serde_json.specs.Data.{unsigned}
use Rattle.serde_json.specs.Read.{number_from, number_of}

past_end : (bs : List ℕ) → slice_index bs (length bs) ≡ 0
past_end [] = refl
past_end (b ∷ bs) = past_end bs

all_digits : (bs : List ℕ) → AllDigits 10 bs → digits_end bs 0 ≡ length bs
all_digits bs h = let same : digits_len bs ≡ length bs = digits_len_all bs h in omega (arith, same)

pub scan-digits : (bs : List ℕ) → AllDigits 10 bs → ((scan bs).whole ≡ bs) × ((scan bs).point ≡ false) × ((scan bs).fraction ≡ []) × ((scan bs).exponent ≡ [])
unfolding scan_numeral
scan-digits bs h = rw (all_digits bs h, past_end bs) (take_all (length bs - 0) bs (omega arith), refl, refl, rw (past_end bs) refl)

no_minus : (s : List ℕ) → 0 < length s → AllDigits 10 s → (slice_index s 0 == 45) ≡ false
no_minus [] few h = absurd (omega (arith, few))
no_minus (d ∷ ds) few h = let r = digit_from_value d h.0 in ne_eqb d 45 (λ same. let is : d ≡ 45 = same in absurd (omega (arith, r.0, is)))

integer : (p : Parts) (bs : List ℕ) (n : ℕ) → p.whole ≡ bs → p.point ≡ false
    → p.fraction ≡ [] → p.exponent ≡ [] → 0 < length bs → digits_value 10 bs ≡ n → n < 2 ^ 64 → number_from false p ≡ Some (unsigned n)
integer p bs n whole point fraction exponent few is fits =
    rw (whole, point, fraction, exponent, append-nil bs, is, lt-ltb 0 (length bs) few, lt-ltb n (2 ^ 64) fits) refl

-- if there are few enough digits, they write a whole number
pub number_of-digits : (s : List ℕ) (n : ℕ) → 0 < length s → AllDigits 10 s → digits_value 10 s ≡ n → n < 2 ^ 64 → number_of s ≡ Some (unsigned n)
number_of-digits s n few h is fits =
    let p = scan-digits s h in
    plain_read s (no_minus s few h) ∙ integer (scan s) s n p.0 p.1 p.2 p.3 few is fits
