-- A result that is there as its text. After WebDriver BiDi, "Protocol".
use Rattle.std.specs.Prelude.{◌≡◌, ℕ, List}
use Rattle.bidi_tree.specs.Node.{Node, IsSound, IsWhole}
use Rattle.bidi_tree.specs.Text.{compact_text}
use Rattle.bidi_shape.specs.Term.{rule}
use Rattle.bidi_shape.specs.Fits.{Fits}
use Rattle.bidi_methods.specs.Method.{result_of}
use Rattle.bidi_methods.specs.declared.method.Method.{Method}

-- The most levels of a result, since the members of a response have at most 60.
abbrev pub most_result_levels : ℕ
most_result_levels = 61

-- The text is that of this tree, it reads back, and the tree fits the rule of the method's results and has few levels.
abbrev pub IsResultText : Method → List ℕ → Node → Type 0
IsResultText method s t = (s ≡ compact_text t) × IsSound t × IsWhole t most_result_levels × Fits t (rule (result_of method))
