-- The table that stands for running scripts, by the past.
use Rattle.std.proofs.Common.{◌≡◌, ◌∙◌, ◌+◌, ℕ, Bool, true, false, cond, List, ◌∷◌, length, Option}
use Rattle.std.proofs.Common.{Some, None, Result, Ok, Err, String, Global, IfOk, sym, ap, arith}
use Rattle.std.specs.Prelude.{if◌then◌else◌, is_some, option_map, IsOk, OnOk}
use Rattle.std.specs.String.{string_eq}
use Rattle.std.specs.HashMap.{HashMap, get, hash_map_len, Updates}
use Rattle.bidi_contexts.specs.Acts.{Act, Tabled, ScriptEffect}
use Rattle.bidi_contexts.specs.Realms.{row_of, tabled_texts}

-- what an insert does that succeeds
pub inserted : {R S E : Type 0} (m n : HashMap (String Global) R S) (key : String Global) (row : R) (r : Result (Option R) E)
    → IsOk r → IfOk r (λ old. old ≡ get string_eq m key) → OnOk r (Updates string_eq m n key (Some row))
    → IfOk r (λ old. hash_map_len n ≡ hash_map_len m + (if is_some old then 0 else 1))
    → Updates string_eq m n key (Some row) × (hash_map_len n ≡ hash_map_len m + (if is_some (get string_eq m key) then 0 else 1))
inserted m n key row (Ok old) done was updates len = (updates, len ∙ ap (λ o. hash_map_len m + (if is_some o then 0 else 1)) was)
inserted m n key row (Err e) done was updates len = absurd (cc)

module _ {R : Type 0} (see : R → ScriptEffect) (past : List Act) (row : R) where
  -- the row of each text after it
  pub row-set : (b : Bool) (script : List ℕ) (was now : Option R) → now ≡ cond b (Some row) was
      → option_map see was ≡ row_of past script → option_map see now ≡ (if b then Some (see row) else row_of past script)
  row-set true script was now is same = ap (option_map see) is
  row-set false script was now is same = ap (option_map see) is ∙ same

  -- how many texts have one
  pub count-set : (script : List ℕ) (was : Option R) (m n : ℕ) → n ≡ m + (if is_some was then 0 else 1)
      → option_map see was ≡ row_of past script → m ≡ length (tabled_texts past) → n ≡ length (tabled_texts (Tabled script (see row) ∷ past))
  count-set script (Some r) m n is same all = let there = ap is_some (sym same) in rw there (let more : m + 0 ≡ m = omega arith in is ∙ (more ∙ all))
  count-set script None m n is same all = let there = ap is_some (sym same) in rw there (omega (arith, is, all))
