-- What is read of a text.
use Rattle.std.specs.Prelude.{◌≡◌, ℕ, List, Some}
use Rattle.bidi_cddl.specs.Token.{Token}
use Rattle.bidi_cddl.specs.Tokens.{tokens}
use Rattle.bidi_cddl.specs.Node.{Node}
use Rattle.bidi_cddl.specs.Definition.{Rule, RulesRead}

-- the most bytes of a text
abbrev pub most_bytes : ℕ
most_bytes = 1048576

-- the text has tokens, and these are read as the rules, with the types and groups of the nodes
abbrev pub IsRead : List ℕ → List Node → List Rule → Type 0
IsRead text nodes rules = (ts : List Token) × ((tokens text ≡ Some ts) × RulesRead nodes rules ts)
