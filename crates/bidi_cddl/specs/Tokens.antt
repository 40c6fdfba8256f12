-- The tokens of a text. After RFC 8610, appendix B.
use Rattle.std.specs.Prelude.{⊤, ℕ, ◌+◌, ◌-◌, ◌==◌, ◌&&◌, if◌then◌else◌, List, [], ◌∷◌, map, take, drop, slice_index}
use Rattle.std.specs.Prelude.{Option, Some, None, option_map, Result, Ok, Err}
use Rattle.bidi_cddl.specs.Bytes.{is_name_start}
use Rattle.bidi_cddl.specs.Sizes.{begins_number, gap_size, name_size, number_size, string_size}
use Rattle.bidi_cddl.specs.Token.{Token, a_name, a_number, a_string, a_control, a_sign, token_size, sign_at, Placed, placed, bare}
use Rattle.bidi_cddl.specs.declared.fault.LoadFault.{LoadFault}
use Rattle.bidi_cddl.specs.declared.fault.LoadFault.TheVariants.{NoMemory, Wrong}

-- the string that is left of a text after its first quotation mark
abbrev pub string_at : List ℕ → Option Token
string_at s = option_map (λ n. a_string (take n s)) (string_size s)

-- the token at the front of a text: a string, a number, a name, a control operator or a sign
abbrev pub token_at : List ℕ → Option Token
token_at s =
    if slice_index s 0 == 34 then string_at (drop 1 s)
    else (if begins_number (slice_index s 0) (slice_index s 1) then Some (a_number (take (number_size s) s))
    else (if is_name_start (slice_index s 0) then Some (a_name (take (name_size s) s))
    else (if (slice_index s 0 == 46) && is_name_start (slice_index s 1) then Some (a_control (take (1 + name_size (drop 1 s)) s))
    else option_map a_sign (sign_at (slice_index s 0) (slice_index s 1) (slice_index s 2)))))

-- some tokens with one before them
abbrev pub before : Placed → Result (List Placed) ℕ → Result (List Placed) ℕ
before t (Ok ts) = Ok (t ∷ ts)
before t (Err n) = Err n

-- the tokens of the bytes that are left, from the place of the next byte, and from how many bytes are left of a token, a blank or a comment that has
-- begun
abbrev pub tokens_from : ℕ → ℕ → List ℕ → Result (List Placed) ℕ
tokens_from n left [] = Ok []
tokens_from n left (b ∷ bs) =
    if left == 0 then (if gap_size (b ∷ bs) == 0 then
    elim (token_at (b ∷ bs)) as (λ _. Result (List Placed) ℕ) [
      | Some t ↦ before (placed t n) (tokens_from (n + 1) (token_size t - 1) bs)
      | None ↦ Err n
    ]
    else tokens_from (n + 1) (gap_size (b ∷ bs) - 1) bs)
    else tokens_from (n + 1) (left - 1) bs

-- the size of a byte order mark at the front
abbrev pub mark_size : List ℕ → ℕ
mark_size s = if (slice_index s 0 == 239) && (slice_index s 1 == 187) && (slice_index s 2 == 191) then 3 else 0

-- the tokens of a text, each with the byte at which it begins; or the first byte at which no token begins
abbrev pub placed_tokens : List ℕ → Result (List Placed) ℕ
placed_tokens s = tokens_from 0 (mark_size s) s

-- the tokens alone, if there is no such byte
abbrev pub bare_tokens : Result (List Placed) ℕ → Option (List Token)
bare_tokens (Ok ts) = Some (map bare ts)
bare_tokens (Err n) = None

-- the tokens of a text, if each of its bytes belongs to a token, a blank or a comment
abbrev pub tokens : List ℕ → Option (List Token)
tokens s = bare_tokens (placed_tokens s)

-- a fault of the text is at a place of which something holds
abbrev pub IfWrongAt : LoadFault → (ℕ → Type 0) → Type 0
IfWrongAt NoMemory P = ⊤
IfWrongAt (Wrong w) P = P w.at
