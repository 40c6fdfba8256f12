-- A text without line feeds. Defined by this project.
use Rattle.std.specs.Prelude.{◌==◌, ℕ, List, map, if◌then◌else◌}

-- a carriage return for a line feed, and any other byte unchanged
abbrev pub return_for : ℕ → ℕ
return_for b = if b == 10 then 13 else b

-- the text with a carriage return in place of each line feed
abbrev pub with_returns : List ℕ → List ℕ
with_returns text = map return_for text
