-- The limit of an argument: 1,048,576 bytes of compact text are accepted, and one more is refused.
use Rattle.std.proofs.Common.{◌≡◌, ℕ, zero, suc, ◌+◌, ◌≤◌, ◌<◌, [], ◌∷◌, ◌++◌, length, replicate, Ok, Err, refl, ap, arith, length-append}
use Rattle.std.proofs.lemmas.List.{length-replicate}
use Rattle.std.proofs.lemmas.Bool.Decides.{leb_tells}
use Rattle.json.specs.Print.{escape_byte, escape}
use Rattle.bidi_tree.specs.Node.{Node, text, no_members}
use Rattle.bidi_tree.specs.Text.{compact_text}
use Rattle.bidi_params.specs.declared.error_code.ErrorCode.TheVariants.{UnknownError}
use Rattle.bidi_handles.specs.Maps.{◌being◌and◌, mapped, word}
use Rattle.bidi_handles.specs.Values.{Held, argument}

-- a string value of so many letters
abbrev pub letters : ℕ → Node
letters n = mapped ("type" being word "string" and "value" being text (replicate n 97) and no_members)

escape-replicate : (n : ℕ) → escape (replicate n 97) ≡ replicate n 97
unfolding escape_byte
escape-replicate zero = refl
escape-replicate (suc n) = ap (λ s. 97 ∷ s) (escape-replicate n)

-- its compact text has 28 bytes more
length-letters : (n : ℕ) → length (compact_text (letters n)) ≡ n + 28
unfolding escape_byte
length-letters n =
    rw (escape-replicate n) (omega
    (arith, length-append {A = ℕ} (replicate n 97 ++ 34 ∷ []) (125 ∷ []), length-append {A = ℕ} (replicate n 97) (34 ∷ []), length-replicate {A = ℕ} n 97))

pub text_within_the_limit_is_taken : (held : Held) (n : ℕ) → n + 28 ≤ 1048576 → argument held (letters n) ≡ Ok (letters n)
text_within_the_limit_is_taken held n within =
    let few = length-letters n in
    let test = leb_tells (length (compact_text (letters n))) 1048576 in
    grind (arith, few, test, within)

pub text_past_the_limit_is_refused : (held : Held) (n : ℕ) → 1048576 < n + 28 → argument held (letters n) ≡ Err UnknownError
text_past_the_limit_is_refused held n past =
    let few = length-letters n in
    let test = leb_tells (length (compact_text (letters n))) 1048576 in
    grind (arith, few, test, past)
