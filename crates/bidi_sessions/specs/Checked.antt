-- What it means that a check in the code gives the answer of its definition.
use Rattle.std.specs.Prelude.{◌≡◌, ⊤, List, ◌++◌, Result, Ok, Err}
use Rattle.bidi_params.specs.declared.error_code.ErrorCode.{ErrorCode}
use Rattle.bidi_handles.specs.Checks.{◌>>=◌}
use Rattle.bidi_handles.specs.declared.refusal.Refusal.{Refusal}
use Rattle.bidi_handles.specs.declared.refusal.Refusal.TheVariants.{Code, NoMemory}

-- The check gives the value of the definition as the view shows it, or its error code, unless an allocation failed.
abbrev pub IfChecked : {A B : Type 0} → Result A Refusal → (A → B) → Result B ErrorCode → Type 0
IfChecked (Ok x) view answer = answer ≡ Ok (view x)
IfChecked (Err (Code code)) view answer = answer ≡ Err code
IfChecked (Err NoMemory) view answer = ⊤

-- the values of earlier checks, followed by those of one more check
abbrev pub behind : {A : Type 0} → List A → Result (List A) ErrorCode → Result (List A) ErrorCode
behind held given = given >>= λ more. Ok (held ++ more)
