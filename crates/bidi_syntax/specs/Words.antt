-- What is said of a place where a text is no JSON text. The words are this project's own.
use Rattle.std.specs.Prelude.{ℕ, List, codes}
use Rattle.bidi_syntax.specs.declared.wants.Wants.{Wants}
use Rattle.bidi_syntax.specs.declared.wants.Wants.TheVariants.{Value, ValueOrEnd, NameOrEnd, Name, Colon, CommaOrArrayEnd, CommaOrObjectEnd, End}
use Rattle.bidi_syntax.specs.declared.wants.Wants.TheVariants.{StringRest, EscapeRest, HexDigit, TrueRest, FalseRest, NullRest, Digit}

-- what may stand there, in words
abbrev pub wants_words : Wants → List ℕ
wants_words Value = codes "a value"
wants_words ValueOrEnd = codes "a value or \"]\""
wants_words NameOrEnd = codes "a name or \"}\""
wants_words Name = codes "a name"
wants_words Colon = codes "\":\""
wants_words CommaOrArrayEnd = codes "\",\" or \"]\""
wants_words CommaOrObjectEnd = codes "\",\" or \"}\""
wants_words End = codes "the end"
wants_words StringRest = codes "the rest of a string"
wants_words EscapeRest = codes "the rest of an escape"
wants_words HexDigit = codes "a hexadecimal digit"
wants_words TrueRest = codes "the rest of true"
wants_words FalseRest = codes "the rest of false"
wants_words NullRest = codes "the rest of null"
wants_words Digit = codes "a digit"
