-- What is read of a text.
use Rattle.std.proofs.Common.{◌≡◌, ◌∙◌, ℕ, List, [], ◌∷◌, ap, map, refl, sym}
use Rattle.std.specs.Prelude.{Result, Ok, Err, IfOk, IfErr}
use Rattle.bidi_cddl.specs.Steps.{tokens_of}
use Rattle.bidi_cddl.specs.Token.{Token, Placed, bare, placed_of, token_of}
use Rattle.bidi_cddl.specs.Tokens.{IfWrongAt, placed_tokens}
use Rattle.bidi_cddl.specs.declared.fault.LoadFault.{LoadFault}
use Rattle.bidi_cddl.specs.declared.fault.LoadFault.TheVariants.{NoMemory, Wrong}
use Rattle.bidi_cddl.specs.declared.token.Placed as code
use Rattle.bidi_cddl.specs.declared.written.Written.{Written}

-- tokens without their places
pub bare_placed : (ps : List code.Placed) → map bare (map placed_of ps) ≡ tokens_of ps
bare_placed [] = refl
bare_placed (p ∷ ps) = ap (λ (ts : List Token). token_of p.token ∷ ts) (bare_placed ps)

-- what holds of what is written, if something is
pub ok_map : (r : Result Written LoadFault) (P Q : Written → Type 0) → ((w : Written) → P w → Q w) → IfOk r P → IfOk r Q
ok_map (Ok w) P Q f h = f w h
ok_map (Err e) P Q f h = tt

-- a text that has tokens does not have a byte at which none begins
pub any_place : (e : LoadFault) (text : List ℕ) (ts : List Placed) → placed_tokens text ≡ Ok ts
    → IfWrongAt e (λ at. (n : ℕ) → placed_tokens text ≡ Err n → at ≡ n)
any_place NoMemory text ts found = tt
any_place (Wrong w) text ts found = λ n wrong. let both : Ok ts ≡ Err n = sym found ∙ wrong in absurd (cc)

-- a fault of a text that has tokens
pub no_fault : (r : Result Written LoadFault) (text : List ℕ) (ts : List Placed) → placed_tokens text ≡ Ok ts
    → IfErr r (λ fault. IfWrongAt fault (λ at. (n : ℕ) → placed_tokens text ≡ Err n → at ≡ n))
no_fault (Ok w) text ts found = tt
no_fault (Err e) text ts found = any_place e text ts found

-- the fault of a text at the first byte at which no token begins
pub only_place : (e : LoadFault) (text : List ℕ) → IfWrongAt e (λ at. placed_tokens text ≡ Err at)
    → IfWrongAt e (λ at. (n : ℕ) → placed_tokens text ≡ Err n → at ≡ n)
only_place NoMemory text h = tt
only_place (Wrong w) text h = λ n wrong. let both : Err w.at ≡ Err n = sym h ∙ wrong in cc
