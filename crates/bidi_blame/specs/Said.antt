-- The words of an alternative, and of several.
use Rattle.std.specs.Prelude.{ℕ, List, map}
use Rattle.json.specs.Print.{quoted}
use Rattle.bidi_blame.specs.declared.wanting.Alternatives.{Alternatives}
use Rattle.bidi_blame.specs.declared.wanting.Said.{Said}
use Rattle.bidi_blame.specs.declared.wanting.Said.TheVariants.{Plain, Quoted}

-- as they stand, or a text as JSON writes it
abbrev pub said_text : Said → List ℕ
said_text (Plain words) = words.now
said_text (Quoted text) = quoted text.now

-- the words of each alternative, in their order
abbrev pub told_by : Alternatives → List (List ℕ)
told_by a = map said_text a.said.items
