-- What is told of a line of a conversation of both ends. The kinds and their words are this project's own.
use Rattle.std.specs.Prelude.{ℕ, List, [], ◌∷◌, ◌++◌, ◌==◌, Bool, true, false, Option, Some, None, option_map, find, codes, decimal, string_bytes}
use Rattle.bidi_params.specs.declared.error_code.ErrorCode.{ErrorCode}
use Rattle.bidi_params.specs.ErrorCode.{error_code_text}
use Rattle.bidi_methods.specs.declared.method.Method.{Method}
use Rattle.bidi_methods.specs.Method.{method_text}
use Rattle.bidi_show.specs.MessageLines.{id_text}
use Rattle.bidi_remarks.specs.Trouble as trouble
use Rattle.bidi_remarks.specs.Trouble.{Misfit, Trouble, bad, no_fit, bad_words, trouble_of}
use Rattle.bidi_lines.specs.declared.side.Side.{Side}
use Rattle.bidi_lines.specs.declared.side.Side.TheVariants.{Local, Remote}
use Rattle.bidi_remarks.specs.Texts.{Row, answers_words, cause_text, json_line, side_text, told_text, words_line}
use Rattle.bidi_remarks.specs.declared.bad_text.BadText.{BadText}
use Rattle.bidi_remarks.specs.declared.claim.Kind.TheVariants.{Wrong}
use Rattle.bidi_remarks.specs.declared.remark.Remark as declared_remark
use Rattle.bidi_remarks.specs.declared.remark.Remark.TheVariants as code
use Rattle.bidi_remarks.specs.declared.texts.Form.{Form}
use Rattle.bidi_remarks.specs.declared.texts.Form.TheVariants.{Words, Json}

-- What is reported of a line.
pub data Remark : Type 0 where
  -- Something is wrong. It has the end that sent the text, the id of the command that the text answers, the fault in brief, and the reason.
  fault : (side : Option Side) (answers : Option ℕ) (brief : List ℕ) (why : Trouble) → Remark
  -- a command failed
  failed : (id : ℕ) (method : Method) (code : ErrorCode) → Remark

-- that a command failed is no fault of the conversation
abbrev pub is_fault : Remark → Bool
is_fault (fault side answers brief why) = true
is_fault (failed id method code) = false

-- whether it is wrong for the profile alone
abbrev pub is_beyond : Remark → Bool
is_beyond (fault side answers brief why) = trouble.is_beyond why
is_beyond (failed id method code) = false

-- ---- what is wrong

-- the line is no text of either end
abbrev pub bad_line : BadText → Remark
bad_line b = fault None None (bad_words b) (bad b)

-- at this place of a text something else is wanted
abbrev pub misfit_at : Option ℕ → List ℕ → List ℕ → List ℕ → List ℕ → Misfit
misfit_at id label place wants has = record {
  id = id;
  method = Some label;
  kind = Wrong;
  pointer = place;
  pattern = place;
  wants = wants;
  short = wants;
  has = has;
  named = None;
  is_beyond = false;
}

-- a command has the id of one that waits
abbrev pub id_waits : ℕ → Method → Remark
id_waits id method =
    fault (Some Local) None (codes "id waits " ++ decimal id ++ 32 ∷ method_text method)
    (no_fit (misfit_at (Some id) (method_text method) (codes "/id") (codes "an id that does not wait") (decimal id)))

-- as many commands wait as may
abbrev pub too_many : ℕ → Method → Remark
too_many id method =
    fault (Some Local) None (codes "too many wait " ++ decimal id ++ 32 ∷ method_text method)
    (no_fit (misfit_at (Some id) (method_text method) [] (codes "fewer than 1024 commands that wait") (codes "1024")))

-- a response or an error answers no command that waits
abbrev pub stray : Option ℕ → List ℕ → Remark
stray id kind =
    fault (Some Remote) None (codes "stray " ++ id_text id) (no_fit (misfit_at id kind (codes "/id") (codes "the id of a command that waits") (id_text id)))

-- the misfit of what stands at this place is one of the whole
abbrev pub within : List ℕ → Misfit → Misfit
within place m = record {
  id = m.id;
  method = m.method;
  kind = m.kind;
  pointer = place ++ m.pointer;
  pattern = place ++ m.pattern;
  wants = m.wants;
  short = m.short;
  has = m.has;
  named = m.named;
  is_beyond = m.is_beyond;
}

-- a text of the remote end is no message, and answers the command of this id for all that, or none
abbrev pub no_message : Option ℕ → List ℕ → Trouble → Remark
no_message answers brief why = fault (Some Remote) answers (brief ++ answers_words answers) why

-- a result does not fit the rule of its command's method, and this is wrong within it
abbrev pub bad_result : ℕ → Method → Misfit → Remark
bad_result id method m =
    fault (Some Remote) (Some id) (codes "bad result " ++ decimal id ++ 32 ∷ method_text method) (no_fit (within (codes "/result") m))

-- ---- how it is told

-- the JSON object of a command that failed
abbrev pub failure_row : ℕ → Method → ErrorCode → Row
failure_row id method code =
    record {
      id = Some id;
      method = Some (method_text method);
      pointer = Some (codes "/error");
      named = None;
      wants = None;
      has = error_code_text code;
      side = Some (side_text Remote);
      answers = Some id;
      is_beyond = false;
    }

-- the JSON object of a command that was never answered
abbrev pub unanswered_row : ℕ → List ℕ → Row
unanswered_row id method = record {
  id = Some id;
  method = Some method;
  pointer = None;
  named = None;
  wants = None;
  has = codes "unanswered";
  side = Some (side_text Local);
  answers = None;
  is_beyond = false;
}

-- what is written for the line of this number, in brief where no form is given
abbrev pub remark_line : Option Form → ℕ → Remark → List ℕ
remark_line None n (fault side answers brief why) = words_line n brief
remark_line None n (failed id method code) = words_line n (codes "error " ++ decimal id ++ 32 ∷ method_text method ++ 32 ∷ error_code_text code)
remark_line (Some form) n (fault side answers brief why) = told_text form n side answers why
remark_line (Some Words) n (failed id method code) = words_line n (method_text method ++ codes ": error " ++ error_code_text code)
remark_line (Some Json) n (failed id method code) = json_line (Some n) (failure_row id method code)

-- the line of the command with this id, if these lines have it
abbrev pub line_of : List (ℕ × ℕ) → ℕ → Option ℕ
line_of lines id = option_map (λ l. l.1) (find (λ l. l.0 == id) lines)

-- ` (line N)`, if the line is known
abbrev pub at_words : Option ℕ → List ℕ
at_words None = []
at_words (Some n) = codes " (line " ++ decimal n ++ codes ")"

-- what is written for a command that was never answered, with its id, its method and its line: `unanswered ID METHOD (line N)`
abbrev pub unanswered_line : Option Form → Option ℕ → ℕ → List ℕ → List ℕ
unanswered_line (Some Json) n id method = json_line n (unanswered_row id method)
unanswered_line form n id method = codes "unanswered " ++ decimal id ++ codes " " ++ method ++ at_words n ++ 10 ∷ []

-- the cause by which a line is counted
abbrev pub remark_cause : Remark → List ℕ
remark_cause (fault side answers brief why) = cause_text why
remark_cause (failed id method code) = codes "error " ++ error_code_text code

-- a remark of the code
abbrev pub remark_of : declared_remark.Remark → Remark
remark_of (code.Fault side answers brief why) = fault side answers (string_bytes brief) (trouble_of why)
remark_of (code.Failed id method c) = failed id.value method c
