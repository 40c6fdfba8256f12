-- The source URL at the end of a script. After the source map format of ECMA-426, "Linking generated code to source maps".
use Rattle.std.specs.Prelude.{ℕ, ◌==◌, Bool, true, ◌&&◌, if◌then◌else◌, List, [], ◌∷◌, length, codes, Option, Some, None, option_map, eqb}
use Rattle.std.specs.List.{starts_with}

-- the bytes are one line: a line feed may only be the last of them
abbrev pub is_one_line : List ℕ → Bool
is_one_line [] = true
is_one_line (b ∷ bs) = if b == 10 then length bs == 0 else is_one_line bs

-- the bytes are one line that begins with `//# sourceURL=`
abbrev pub is_source : List ℕ → Bool
is_source s = starts_with eqb s (codes "//# sourceURL=") && is_one_line s

-- what stands before the line feed that such a line follows, or None if there is no such line after a line feed
-- example: `1 + 1\n//# sourceURL=a` gives `1 + 1`
abbrev pub before_feed : List ℕ → Option (List ℕ)
before_feed [] = None
before_feed (b ∷ bs) = if (b == 10) && is_source bs then Some [] else option_map (λ rest. b ∷ rest) (before_feed bs)

-- what is left of a script whose last line begins with `//# sourceURL=`, or None for any other script
abbrev pub before_source : List ℕ → Option (List ℕ)
before_source s = if is_source s then Some [] else before_feed s
