-- Checks in order: the first one that fails gives its error code. The notation is defined by this project.
use Rattle.std.specs.Prelude.{Bool, true, false, Option, Some, None, Result, Ok, Err}
use Rattle.bidi_params.specs.declared.error_code.ErrorCode.{ErrorCode}

-- a check, and then those after it if it succeeds
infixl 10 ◌>>=◌
abbrev pub ◌>>=◌ : {A B : Type 0} → Result A ErrorCode → (A → Result B ErrorCode) → Result B ErrorCode
(Ok x) >>= next = next x
(Err code) >>= next = Err code

-- the condition holds, or the check fails with this code
abbrev pub need : Bool → ErrorCode → Result (Unit {0}) ErrorCode
need true code = Ok tt
need false code = Err code

-- the value is there, or the check fails with this code
abbrev pub found : {A : Type 0} → Option A → ErrorCode → Result A ErrorCode
found None code = Err code
found (Some x) code = Ok x
