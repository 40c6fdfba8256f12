-- One byte more of what is left of a text.
use Rattle.std.proofs.Common.{◌≡◌, ◌∙◌, ℕ, ◌+◌, ◌-◌, ◌<◌, ◌≤◌, Bool, List, [], ◌∷◌, ◌++◌, append_assoc, arith, length, drop, get_or, ap, ap₂, sym, if◌then◌else◌, ◌==◌, ◌&&◌, Some}
use Rattle.std.proofs.lemmas.List.{drop_more}
use Rattle.bidi_syntax.specs.Surrogates.{is_lone, lone_from, mended, mended_from, replacement, rest_of_character}
use Rattle.bidi_syntax.specs.Numbers.{begins_number, is_large, large_from, next_mode}
use Rattle.bidi_syntax.specs.declared.numbers.Mode.{Mode}

-- the first lone surrogate, from a byte on
pub lone_from_next : (n left : ℕ) (text : List ℕ) (i : ℕ) → i < length text → lone_from n left (drop i text)
    ≡ (if left == 0 then (if is_lone (drop i text) then Some n else lone_from (n + 1) (rest_of_character (drop i text)) (drop (i + 1) text))
    else lone_from (n + 1) (left - 1) (drop (i + 1) text))
lone_from_next n left text i lt =
    let e = drop_more text i 0 lt in
    let bs = drop (i + 1) text in
    ap (lone_from n left) e
    ∙ ap (λ (s : List ℕ). if left == 0 then (if is_lone s then Some n else lone_from (n + 1) (rest_of_character s) bs) else lone_from (n + 1) (left - 1) bs) (sym e)

-- the first number that is too large, from a byte on
pub large_from_next : (mode : Mode) (n : ℕ) (text : List ℕ) (i : ℕ) → i < length text → large_from mode n (drop i text)
    ≡ (if begins_number mode (get_or text i 0) && is_large (drop i text) then Some n else large_from (next_mode mode (get_or text i 0)) (n + 1) (drop (i + 1) text))
large_from_next mode n text i lt =
    let e = drop_more text i 0 lt in
    let b = get_or text i 0 in
    let bs = drop (i + 1) text in
    ap (large_from mode n) e ∙ ap (λ (s : List ℕ). if begins_number mode b && is_large s then Some n else large_from (next_mode mode b) (n + 1) bs) (sym e)

-- the text without lone surrogates, from a byte on
pub mended_from_next : (r : Bool) (left : ℕ) (text : List ℕ) (i : ℕ) → i < length text → mended_from r left (drop i text)
    ≡ (if left == 0 then get_or text i 0 ∷ mended_from (is_lone (drop i text)) (rest_of_character (drop i text)) (drop (i + 1) text)
    else (if r then replacement left (get_or text i 0) else get_or text i 0) ∷ mended_from r (left - 1) (drop (i + 1) text))
mended_from_next r left text i lt =
    let e = drop_more text i 0 lt in
    let b = get_or text i 0 in
    let bs = drop (i + 1) text in
    ap (mended_from r left) e
    ∙ ap (λ (s : List ℕ). if left == 0 then b ∷ mended_from (is_lone s) (rest_of_character s) bs else (if r then replacement left b else b) ∷ mended_from r (left - 1) bs) (sym e)

-- what was written of a text, when a character begins
pub mended_on : (text done done' : List ℕ) (r : Bool) (left i : ℕ) (rest : List ℕ) (lone : Bool) (more : ℕ) → i < length text → left ≤ 0 → rest ≡ drop i text
    → done' ≡ done ++ get_or text i 0 ∷ [] → lone ≡ is_lone rest → more ≡ rest_of_character rest → done ++ mended_from r left (drop i text) ≡ mended text
    → done' ++ mended_from lone more (drop (i + 1) text) ≡ mended text
mended_on text done done' r left i rest lone more lt none back grown lone_is more_is before =
    let b = get_or text i 0 in
    let bs = drop (i + 1) text in
    let zero : left ≡ 0 = omega (arith, none) in
    let written : mended_from lone more bs ≡ mended_from (is_lone (drop i text)) (rest_of_character (drop i text)) bs =
    ap₂ (λ (l : Bool) (k : ℕ). mended_from l k bs) (lone_is ∙ ap is_lone back) (more_is ∙ ap rest_of_character back) in
    let here : mended_from r left (drop i text) ≡ b ∷ mended_from (is_lone (drop i text)) (rest_of_character (drop i text)) bs =
    ap (λ (k : ℕ). mended_from r k (drop i text)) zero ∙ mended_from_next r 0 text i lt in
    ap (λ (xs : List ℕ). xs ++ mended_from lone more bs) grown
    ∙ (append_assoc done (b ∷ []) (mended_from lone more bs)
    ∙ (ap (λ (m : List ℕ). done ++ b ∷ m) written ∙ (ap (λ (m : List ℕ). done ++ m) (sym here) ∙ before)))
