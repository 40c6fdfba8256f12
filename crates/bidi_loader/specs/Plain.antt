-- Strings, numbers and types of the prelude, as they are meant. After RFC 8610: 2.2.2.1 ranges, 3.8 controls, appendix D; and RFC 8259, 7.
use Rattle.std.specs.Prelude.{ℕ, ℤ, pos, negsuc, ◌-ℤ◌, List, [], ◌∷◌, ◌++◌, Bool, true, false, ◌||◌, Option, Some, None, option_and_then, if◌then◌else◌, codes}
use Rattle.std.specs.Str.{bytes_eq}
use Rattle.json.specs.Json.{document}
use Rattle.json.specs.Find.{as_str}
use Rattle.bidi_grammar.specs.Number.{whole_in}
use Rattle.bidi_grammar.specs.Term.{Bound, unbounded, including, excluding}
use Rattle.bidi_grammar.specs.Source as source
use Rattle.bidi_grammar.specs.Source.{Written}

-- the text between quotation marks
abbrev pub quoted : List ℕ → List ℕ
quoted s = 34 ∷ (s ++ 34 ∷ [])

-- a string without its escapes: the string that JSON reads between quotation marks
unfoldable pub unescaped : List ℕ → Option (List ℕ)
unescaped s = option_and_then as_str (document (quoted s))

-- the last whole number of a range
abbrev pub last_of : ℤ → Bool → ℤ
last_of b true = b -ℤ pos 1
last_of b false = b

-- the upper end of a range of numbers
abbrev pub end_of : List ℕ → Bool → Bound
end_of b true = excluding b
end_of b false = including b

-- the whole numbers from a to b, or the numbers from a to b if an end is no whole number
abbrev pub range_of : List ℕ → List ℕ → Bool → Option ℤ → Option ℤ → Written
range_of a b is_open (Some m) (Some n) = source.whole m (last_of n is_open)
range_of a b is_open (Some m) None = source.number (including a) (end_of b is_open)
range_of a b is_open None n = source.number (including a) (end_of b is_open)

-- `a..b`, or with true `a...b`, which is without b
abbrev pub range : List ℕ → List ℕ → Bool → Written
range a b is_open = range_of a b is_open (whole_in a) (whole_in b)

-- numbers without a lower bound, with one; other types with a bound are left out
abbrev pub with_least : Bound → Written → Written
with_least a (source.number unbounded b) = source.number a b
with_least a σ = source.null

-- numbers without an upper bound, with one; other types with a bound are left out
abbrev pub with_most : Bound → Written → Written
with_most b (source.number a unbounded) = source.number a b
with_most b σ = source.null

-- `X .ge n`, `X .gt n`, `X .le n`, `X .lt n`; other controls are left out
abbrev pub bounded : Written → List ℕ → List ℕ → Written
bounded σ control n =
    if bytes_eq control (codes ".ge") then with_least (including n) σ
    else (if bytes_eq control (codes ".gt") then with_least (excluding n) σ
    else (if bytes_eq control (codes ".le") then with_most (including n) σ
    else (if bytes_eq control (codes ".lt") then with_most (excluding n) σ else source.null)))

-- a type of numbers of the prelude
abbrev pub numeric : List ℕ → Option Written
numeric s =
    if bytes_eq s (codes "float") || bytes_eq s (codes "number") then Some (source.number unbounded unbounded)
    else (if bytes_eq s (codes "uint") then Some (source.whole (pos 0) (pos 18446744073709551615))
    else (if bytes_eq s (codes "nint") then Some (source.whole (negsuc 18446744073709551615) (negsuc 0))
    else (if bytes_eq s (codes "int") then Some (source.whole (negsuc 18446744073709551615) (pos 18446744073709551615)) else None)))

-- a type of the prelude; those of CBOR that JSON does not have are left out
abbrev pub prelude : List ℕ → Option Written
prelude s =
    if bytes_eq s (codes "text") || bytes_eq s (codes "tstr") then Some source.text
    else (if bytes_eq s (codes "bool") then Some source.bool
    else (if bytes_eq s (codes "true") then Some (source.truth true)
    else (if bytes_eq s (codes "false") then Some (source.truth false)
    else (if bytes_eq s (codes "null") || bytes_eq s (codes "nil") then Some source.null
    else (if bytes_eq s (codes "any") then Some source.any else numeric s)))))
