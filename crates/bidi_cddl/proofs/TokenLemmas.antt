-- One byte more of a text.
use Rattle.std.proofs.Common.{◌≡◌, ◌∙◌, ℕ, ◌+◌, ◌-◌, ◌<◌, ◌≤◌, Bool, true, false, List, [], ◌∷◌, ◌++◌, append_assoc, arith, length, drop, get_or, ap, sym, refl, if◌then◌else◌, ◌==◌}
use Rattle.std.specs.Prelude.{Option, Some, None, Result, Ok, Err}
use Rattle.std.proofs.lemmas.Bool.Decides.{nat_tests}
use Rattle.std.proofs.lemmas.List.{drop_more}
use Rattle.bidi_cddl.specs.Bytes.{is_name_start}
use Rattle.bidi_cddl.specs.Sizes.{begins_number, gap_size}
use Rattle.bidi_cddl.specs.Token.{Token, Placed, placed, token_size}
use Rattle.bidi_cddl.specs.Tokens.{IfWrongAt, before, string_at, token_at, tokens_from}
use Rattle.bidi_cddl.specs.declared.fault.LoadFault.{LoadFault}
use Rattle.bidi_cddl.specs.declared.fault.LoadFault.TheVariants.{NoMemory, Wrong}

-- a number begins with an ASCII byte
pub begins_ascii : (a b : ℕ) → begins_number a b ≡ true → a < 128
begins_ascii a b h = grind (arith, nat_tests)

-- a name begins with an ASCII byte
pub starts_ascii : (b : ℕ) → is_name_start b ≡ true → b < 128
starts_ascii b h = grind (arith, nat_tests)

-- the token after a quotation mark is a string
pub token_at_string : (s : List ℕ) → get_or s 0 0 ≡ 34 → token_at s ≡ string_at (drop 1 s)
token_at_string s e = rw e refl

-- ---- the tokens from a byte on

-- some tokens with others before them
abbrev pub behind : List Placed → Result (List Placed) ℕ → Result (List Placed) ℕ
behind ts (Ok us) = Ok (ts ++ us)
behind ts (Err n) = Err n

-- one token more behind others
pub behind_one : (ts : List Placed) (t : Placed) (r : Result (List Placed) ℕ) → behind (ts ++ t ∷ []) r ≡ behind ts (before t r)
behind_one ts t (Ok us) = ap Ok (append_assoc ts (t ∷ []) us)
behind_one ts t (Err n) = refl

-- the token that begins here, if one does, and the tokens behind it
abbrev pub from_token : Option Token → ℕ → List ℕ → Result (List Placed) ℕ
from_token (Some t) n bs = before (placed t n) (tokens_from (n + 1) (token_size t - 1) bs)
from_token None n bs = Err n

-- what is here: the rest of a token, a blank or a comment, or a token
abbrev pub from_here : ℕ → ℕ → ℕ → Option Token → List ℕ → Result (List Placed) ℕ
from_here n left gap t bs =
    if left == 0 then (if gap == 0 then from_token t n bs else tokens_from (n + 1) (gap - 1) bs) else tokens_from (n + 1) (left - 1) bs

-- the tokens of what is not empty
pub tokens_from_cons : (n left b : ℕ) (bs : List ℕ) → tokens_from n left (b ∷ bs) ≡ from_here n left (gap_size (b ∷ bs)) (token_at (b ∷ bs)) bs
tokens_from_cons n left b bs = by_token n left (gap_size (b ∷ bs)) (token_at (b ∷ bs)) bs
  where
    by_token : (n left gap : ℕ) (t : Option Token) (bs : List ℕ)
        → (if left == 0 then (if gap == 0 then elim t as (λ _. Result (List Placed) ℕ) [
          | Some t ↦ before (placed t n) (tokens_from (n + 1) (token_size t - 1) bs)
          | None ↦ Err n
        ] else tokens_from (n + 1) (gap - 1) bs) else tokens_from (n + 1) (left - 1) bs) ≡ from_here n left gap t bs
    by_token n left gap (Some t) bs = refl
    by_token n left gap None bs = refl

-- the tokens from a byte on
pub tokens_from_next : (n left : ℕ) (s : List ℕ) (i : ℕ) → i < length s
    → tokens_from n left (drop i s) ≡ from_here n left (gap_size (drop i s)) (token_at (drop i s)) (drop (i + 1) s)
tokens_from_next n left s i lt =
    let e = drop_more s i 0 lt in
    let bs = drop (i + 1) s in
    ap (tokens_from n left) e
    ∙ (tokens_from_cons n left (get_or s i 0) bs ∙ ap (λ (xs : List ℕ). from_here n left (gap_size xs) (token_at xs) bs) (sym e))

-- a number that is not above 0 is 0
pub is_zero : (n : ℕ) → n ≤ 0 → (n == 0) ≡ true
is_zero n h = let e : n ≡ 0 = omega arith in ap (λ (k : ℕ). k == 0) e

-- a number above 0 is not 0
pub is_not_zero : (n : ℕ) → 0 < n → (n == 0) ≡ false
is_not_zero n h = grind (arith, nat_tests)

-- a choice of which the test is known
abbrev pub pick : Bool → Result (List Placed) ℕ → Result (List Placed) ℕ → Result (List Placed) ℕ
pick b x y = if b then x else y

-- the rest of a token, a blank or a comment
pub on_left : (n left : ℕ) (s : List ℕ) (i : ℕ) → i < length s → 0 < left
    → tokens_from n left (drop i s) ≡ tokens_from (n + 1) (left - 1) (drop (i + 1) s)
on_left n left s i lt some =
    let bs = drop (i + 1) s in
    let gap = gap_size (drop i s) in
    tokens_from_next n left s i lt
    ∙ ap (λ (b : Bool). pick b (pick (gap == 0) (from_token (token_at (drop i s)) n bs) (tokens_from (n + 1) (gap - 1) bs)) (tokens_from (n + 1) (left - 1) bs))
    (is_not_zero left some)

-- a blank or a comment begins
pub on_gap : (n left : ℕ) (s : List ℕ) (i gap : ℕ) → i < length s → left ≤ 0 → gap ≡ gap_size (drop i s) → 0 < gap
    → tokens_from n left (drop i s) ≡ tokens_from (n + 1) (gap - 1) (drop (i + 1) s)
on_gap n left s i gap lt none is some =
    let bs = drop (i + 1) s in
    tokens_from_next n left s i lt
    ∙ (ap (λ (b : Bool). pick b (pick (gap_size (drop i s) == 0) (from_token (token_at (drop i s)) n bs) (tokens_from (n + 1) (gap_size (drop i s) - 1) bs)) (tokens_from (n + 1) (left - 1) bs))
    (is_zero left none)
    ∙ (ap (λ (g : ℕ). pick (g == 0) (from_token (token_at (drop i s)) n bs) (tokens_from (n + 1) (g - 1) bs)) (sym is)
    ∙ ap (λ (b : Bool). pick b (from_token (token_at (drop i s)) n bs) (tokens_from (n + 1) (gap - 1) bs)) (is_not_zero gap some)))

-- a token begins, or none does
pub on_token : (n left : ℕ) (s : List ℕ) (i gap : ℕ) (t : Option Token) → i < length s → left ≤ 0 → gap ≡ gap_size (drop i s) → gap ≤ 0
    → t ≡ token_at (drop i s) → tokens_from n left (drop i s) ≡ from_token t n (drop (i + 1) s)
on_token n left s i gap t lt none is no_gap there =
    let bs = drop (i + 1) s in
    tokens_from_next n left s i lt
    ∙ (ap (λ (b : Bool). pick b (pick (gap_size (drop i s) == 0) (from_token (token_at (drop i s)) n bs) (tokens_from (n + 1) (gap_size (drop i s) - 1) bs)) (tokens_from (n + 1) (left - 1) bs))
    (is_zero left none)
    ∙ (ap (λ (g : ℕ). pick (g == 0) (from_token (token_at (drop i s)) n bs) (tokens_from (n + 1) (g - 1) bs)) (sym is)
    ∙ (ap (λ (b : Bool). pick b (from_token (token_at (drop i s)) n bs) (tokens_from (n + 1) (gap - 1) bs)) (is_zero gap no_gap)
    ∙ ap (λ (o : Option Token). from_token o n bs) (sym there))))

-- what holds of the place of a fault
pub wrong_at : (f : LoadFault) (P Q : ℕ → Type 0) → ((n : ℕ) → P n → Q n) → IfWrongAt f P → IfWrongAt f Q
wrong_at NoMemory P Q map h = tt
wrong_at (Wrong w) P Q map h = map w.at h
