-- The line that is shown for a message of a local or a remote end. The forms are this project's own.
use Rattle.std.specs.Prelude.{◌≡◌, ℕ, List, ◌∷◌, ◌++◌, Option, Some, None, codes, decimal, string_bytes, IsUtf8}
use Rattle.bidi_tree.specs.Node.{Node}
use Rattle.bidi_tree.specs.Text.{tree_of_text, compact_text}
use Rattle.bidi_shape.specs.Name.{message, command_response, error_response, event}
use Rattle.bidi_shape.specs.Term.{rule}
use Rattle.bidi_shape.specs.Fits.{Fits}
use Rattle.bidi_params.specs.declared.error_code.ErrorCode.TheVariants.{InvalidArgument}
use Rattle.bidi_params.specs.ErrorCode.{error_code_text}
use Rattle.bidi_messages.specs.Verdict as judged
use Rattle.bidi_messages.specs.Verdict.{echoed_id}
use Rattle.bidi_messages.specs.Command.{id_in, method_in}
use Rattle.bidi_lines.specs.declared.side.Side.{Side}
use Rattle.bidi_lines.specs.declared.side.Side.TheVariants.{Local, Remote}
use Rattle.bidi_show.specs.declared.message_lines.Shown as declared_shown
use Rattle.bidi_show.specs.declared.message_lines.Shown.TheVariants as code

-- what is shown for a line: a message, or a refusal
pub data Shown : Type 0 where
  Taken : (text : List ℕ) → Shown
  Refused : (text : List ℕ) → Shown

-- a `Shown` of the code
abbrev pub shown_of : declared_shown.Shown → Shown
shown_of (code.Taken text) = Taken (string_bytes text)
shown_of (code.Refused text) = Refused (string_bytes text)

-- the text that is shown
abbrev pub text_of : Shown → List ℕ
text_of (Taken text) = text
text_of (Refused text) = text

-- the text of a refusal, or None for a message
abbrev pub refused : Shown → Option (List ℕ)
refused (Taken text) = None
refused (Refused text) = Some text

-- the line has this verdict; a line that is not UTF-8 is refused like one that is not JSON
pub record HasVerdict (line : List ℕ) (v : judged.Verdict) : Type 0 where
  pub text : IsUtf8 line → judged.IsVerdict line v
  pub no_text : (IsUtf8 line → ⊥) → v ≡ judged.Refused None InvalidArgument

-- an id, or `null` if there is none
abbrev pub id_text : Option ℕ → List ℕ
id_text None = codes "null"
id_text (Some n) = decimal n

-- what is shown for a verdict: `accepted ID METHOD TEXT` or `refused ID CODE`
abbrev pub verdict_shown : judged.Verdict → Shown
verdict_shown (judged.Accepted t) = Taken (codes "accepted " ++ decimal (id_in t) ++ 32 ∷ method_in t ++ 32 ∷ compact_text t)
verdict_shown (judged.Refused id code) = Refused (codes "refused " ++ id_text id ++ 32 ∷ error_code_text code)

-- the line of a message with this tree: `response ID TEXT`, `error ID TEXT` or `event METHOD TEXT`
-- example: `response 2 {"id":2,"result":{},"type":"success"}`
pub data IsMessageLine (t : Node) : List ℕ → Type 0 where
  of_response : Fits t (rule command_response) → IsMessageLine t (codes "response " ++ decimal (id_in t) ++ 32 ∷ compact_text t)
  of_error : Fits t (rule error_response) → IsMessageLine t (codes "error " ++ id_text (echoed_id t) ++ 32 ∷ compact_text t)
  of_event : Fits t (rule event) → IsMessageLine t (codes "event " ++ method_in t ++ 32 ∷ compact_text t)

-- the line is UTF-8, and its text has this tree
abbrev pub HasTree : List ℕ → Node → Type 0
HasTree line t = IsUtf8 line × (tree_of_text None line ≡ Some t)

-- this is shown for a line from a remote end: the line of its message, or the reason that it is not one
pub data ShowsMessage (line : List ℕ) : Shown → Type 0 where
  is_message : (t : Node) (text : List ℕ) → HasTree line t → IsMessageLine t text → ShowsMessage line (Taken text)
  is_no_text : (IsUtf8 line → ⊥) → ShowsMessage line (Refused (codes "not json"))
  is_not_json : IsUtf8 line → tree_of_text None line ≡ None → ShowsMessage line (Refused (codes "not json"))
  fits_none : (t : Node) → HasTree line t → (Fits t (rule message) → ⊥) → ShowsMessage line (Refused (codes "no fit"))

-- this is shown for a line from this end
abbrev pub Shows : Side → List ℕ → Shown → Type 0
Shows Local line shown = (v : judged.Verdict) × HasVerdict line v × (shown ≡ verdict_shown v)
Shows Remote line shown = ShowsMessage line shown

-- this refusal is shown for a line from this end; None if the line is a message
abbrev pub Refuses : Side → List ℕ → Option (List ℕ) → Type 0
Refuses side line o = (shown : Shown) × Shows side line shown × (o ≡ refused shown)
