-- The bytes behind the last line feed.
use Rattle.std.proofs.Common.{◌≡◌, ◌∙◌, ℕ, ◌+◌, ◌<◌, Bool, List, [], ◌∷◌, ap, get_or, length, take, true}
use Rattle.std.specs.List.{prefix_len, suffix_len}
use Rattle.std.specs.Prelude.{cond}
use Rattle.std.proofs.lemmas.List.{reverse-append, take_more}
use Rattle.bidi_cddl.specs.Sizes.{is_in_line}

-- with one byte more
pub suffix_more : (s : List ℕ) (i : ℕ) → i < length s → suffix_len is_in_line (take (i + 1) s)
    ≡ cond (is_in_line (get_or s i 0)) (1 + suffix_len is_in_line (take i s)) 0
suffix_more s i lt =
    ap (suffix_len is_in_line) (take_more s i 0 lt) ∙ ap (prefix_len is_in_line) (reverse-append (take i s) (get_or s i 0 ∷ []))

-- with a line feed more
pub suffix_feed : (s : List ℕ) (i : ℕ) → i < length s → get_or s i 0 ≡ 10 → suffix_len is_in_line (take (i + 1) s) ≡ 0
suffix_feed s i lt e = suffix_more s i lt ∙ ap (λ (b : ℕ). cond (is_in_line b) (1 + suffix_len is_in_line (take i s)) 0) e

-- with another byte more
pub suffix_other : (s : List ℕ) (i : ℕ) → i < length s → is_in_line (get_or s i 0) ≡ true → suffix_len is_in_line (take (i + 1) s) ≡ 1 + suffix_len is_in_line (take i s)
suffix_other s i lt e = suffix_more s i lt ∙ ap (λ (b : Bool). cond b (1 + suffix_len is_in_line (take i s)) 0) e
