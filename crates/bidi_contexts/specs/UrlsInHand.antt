-- What contracts see of a URL that the code parsed.
use Rattle.std.specs.Prelude.{◌≡◌, Option, Some, None, Result, Ok, Err, ⊤}
use Rattle.url.specs.Parts.{Parts}
use Rattle.bidi_params.specs.declared.error_code.ErrorCode.TheVariants.{InvalidArgument}
use Rattle.bidi_handles.specs.declared.refusal.Refusal.{Refusal}
use Rattle.bidi_handles.specs.declared.refusal.Refusal.TheVariants.{Code, NoMemory}

-- The result is the URL of the string; or `invalid argument` if the string has none; or an allocation failed.
abbrev pub IsUrlOf : Result Parts Refusal → Option Parts → Type 0
IsUrlOf (Ok url) read = read ≡ Some url
IsUrlOf (Err (Code code)) read = (code ≡ InvalidArgument) × (read ≡ None)
IsUrlOf (Err NoMemory) read = ⊤
