-- The verdict on a text from the local end. After WebDriver BiDi, "Transport"; the limit on an echoed id is this project's own.
use Rattle.std.specs.Prelude.{◌≡◌, ℕ, pos, negsuc, ◌^◌, List, Option, Some, None, option_and_then, is_some, if◌then◌else◌, nat_lt, codes}
use Rattle.bidi_tree.specs.Node.{Node, null, boolean, whole, odd, text, list, map, get_of}
use Rattle.bidi_tree.specs.Kind.{text_in}
use Rattle.bidi_tree.specs.Text.{tree_of_text}
use Rattle.bidi_shape.specs.Name.{command}
use Rattle.bidi_shape.specs.Term.{rule}
use Rattle.bidi_shape.specs.Fits.{Fits}
use Rattle.bidi_shape.specs.WordLaws.{value_named}
use Rattle.bidi_methods.specs.Method.{method_words}
use Rattle.bidi_shape.specs.Limits.{most_bytes}
use Rattle.bidi_params.specs.declared.error_code.ErrorCode.{ErrorCode}
use Rattle.bidi_params.specs.declared.error_code.ErrorCode.TheVariants.{InvalidArgument, UnknownCommand}
use Rattle.bidi_tree.specs.Number.{is_js_uint}

-- a text is accepted as the command with this tree, or refused with an id, if there is one, and an error code
pub data Verdict : Type 0 where
  Accepted : (command : Node) → Verdict
  Refused : (id : Option ℕ) (code : ErrorCode) → Verdict

-- the tree of a command's text; None if the text is not JSON or has more than 1,048,576 bytes
abbrev pub command_tree : List ℕ → Option Node
command_tree s = tree_of_text (Some most_bytes) s

-- the number if the tree is a js-uint, and otherwise None
abbrev pub js_uint_in : Node → Option ℕ
js_uint_in null = None
js_uint_in (boolean b) = None
js_uint_in (whole (pos n)) = if is_js_uint n then Some n else None
js_uint_in (whole (negsuc n)) = None
js_uint_in odd = None
js_uint_in (text s) = None
js_uint_in (list ns) = None
js_uint_in (map ms) = None

-- the id that a refusal echoes: the member `id`, if it is a js-uint
abbrev pub echoed_id : Node → Option ℕ
echoed_id t = option_and_then js_uint_in (get_of (codes "id") t)

-- the code is `unknown command` if `method` is a string that names no command, and otherwise `invalid argument`
abbrev pub code_for_method : Option (List ℕ) → ErrorCode
code_for_method None = InvalidArgument
code_for_method (Some s) = if is_some (value_named method_words.first method_words.rest s) then InvalidArgument else UnknownCommand

-- the code for a tree that fits no command
abbrev pub refusal_code : Node → ErrorCode
refusal_code t = code_for_method (option_and_then text_in (get_of (codes "method") t))

-- A text is accepted if its tree fits the rule of commands. It is refused without an id if it has no tree, and otherwise with the id and
-- the code of its tree.
-- example: `{"id":1` is refused with no id and `invalid argument`
pub data IsVerdict (s : List ℕ) : Verdict → Type 0 where
  is_command : (t : Node) → command_tree s ≡ Some t → Fits t (rule command) → IsVerdict s (Accepted t)
  is_not_json : command_tree s ≡ None → IsVerdict s (Refused None InvalidArgument)
  is_no_command : (t : Node) → command_tree s ≡ Some t → (Fits t (rule command) → ⊥) → IsVerdict s (Refused (echoed_id t) (refusal_code t))
