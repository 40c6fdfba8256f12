-- Line feeds, which end the lines of an input. The form of lines is this project's own.
use Rattle.std.specs.Prelude.{◌==◌, ℕ, List, [], ◌∷◌, ◌++◌, Bool}
use Rattle.std.specs.List.{list_any}

-- the bytes have a line feed in them
abbrev pub has_feed : List ℕ → Bool
has_feed bytes = list_any (λ b. b == 10) bytes

-- the line followed by a line feed
abbrev pub ended : List ℕ → List ℕ
ended line = line ++ 10 ∷ []
