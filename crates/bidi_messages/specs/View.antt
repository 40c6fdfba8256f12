-- The verdict of the code, as contracts see it. After WebDriver BiDi, "Transport".
use Rattle.std.specs.Prelude.{◌≡◌, ℕ, List, Some, option_map}
use Rattle.bidi_shape.specs.Value.{ShapeOf}
use Rattle.bidi_messages.specs.declared.command.Command.{Command}
use Rattle.bidi_messages.specs.declared.judging.Verdict.{Verdict}
use Rattle.bidi_messages.specs.declared.judging.Verdict.TheVariants.{Accepted, Refused}
use Rattle.bidi_messages.specs.Verdict as judged

-- a verdict of the code: a command by its tree, a refusal by its id and code
abbrev pub verdict_of : ShapeOf Command → Verdict → judged.Verdict
verdict_of shape (Accepted c) = judged.Accepted (shape.tree_of c)
verdict_of shape (Refused id code) = judged.Refused (option_map (λ n. n.value) id) code

-- if the verdict accepts a command, that command is valid
abbrev pub IsWell : ShapeOf Command → Verdict → Type 0
IsWell shape (Accepted c) = shape.well c
IsWell shape (Refused id code) = Unit {0}

-- the text of a valid command is accepted as that command
abbrev pub AcceptsAs : ShapeOf Command → List ℕ → Command → Verdict → Type 0
AcceptsAs shape s c (Accepted d) = shape.well c → judged.command_tree s ≡ Some (shape.tree_of c) → shape.same d c
AcceptsAs shape s c (Refused id code) = shape.well c → judged.command_tree s ≡ Some (shape.tree_of c) → ⊥
