-- Results that do not fit the rule of their command's method.
use Rattle.std.specs.Prelude.{◌≡◌, ℕ, List, Some}
use Rattle.bidi_tree.specs.Node.{Node}
use Rattle.bidi_tree.specs.Text.{tree_of}
use Rattle.bidi_shape.specs.Term.{rule}
use Rattle.bidi_shape.specs.Fits.{Fits}
use Rattle.bidi_methods.specs.declared.method.Method.{Method}
use Rattle.bidi_methods.specs.Method.{method_text, result_of}
use Rattle.bidi_local.specs.Received.{result_in}
use Rattle.bidi_remarks.specs.Trouble.{HasMisfit, Misfit}
use Rattle.bidi_remarks.specs.Remark.{Remark, bad_result}

-- the text is a response whose result does not fit the rule of the method
abbrev pub HasBadResult : List ℕ → Method → Type 0
HasBadResult text method = (t : Node) × (tree_of text ≡ Some t) × (Fits (result_in t) (rule (result_of method)) → ⊥)

-- a reason why this result does not fit the rule of the method, in words
abbrev pub HasResultMisfit : Node → ℕ → Method → Misfit → Type 0
HasResultMisfit outcome id method m = HasMisfit (result_of method) (Some id) (Some (method_text method)) outcome m

-- it is told so
abbrev pub TellsBadResult : List ℕ → ℕ → Method → Remark → Type 0
TellsBadResult text id method o =
    (t : Node) × (m : Misfit) × (tree_of text ≡ Some t) × HasResultMisfit (result_in t) id method m × (o ≡ bad_result id method m)
