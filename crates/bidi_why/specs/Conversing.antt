-- A conversation of both ends: what is told of its lines, and of the commands that are never answered. Who answers what is decided as by a local end
-- that sent just the commands which are accepted.
use Rattle.std.specs.Prelude.{◌≡◌, ℕ, ◌+◌, ◌⊎◌, Bool, false, true, ◌||◌, ◌&&◌, ◌==◌, not, nat_le, nat_lt, List, [], ◌∷◌, ◌++◌, filter, length, map, position, remove, replicate, codes, IsUtf8, if◌then◌else◌}
use Rattle.std.specs.Prelude.{Option, Some, None, is_some, option_and_then, unwrap_or}
use Rattle.std.specs.List.{flat_map}
use Rattle.bidi_tree.specs.Node.{Node, get_of}
use Rattle.bidi_tree.specs.Kind.{text_in}
use Rattle.bidi_tree.specs.Text.{tree_of}
use Rattle.bidi_params.specs.ErrorCode.{error_code_text}
use Rattle.bidi_params.specs.declared.error_code.ErrorCode.{ErrorCode}
use Rattle.bidi_methods.specs.declared.event_data.EventName.{EventName}
use Rattle.bidi_methods.specs.declared.method.Method.{Method}
use Rattle.bidi_methods.specs.Method.{method_text}
use Rattle.bidi_messages.specs.Command.{id_in, method_in}
use Rattle.bidi_messages.specs.Verdict.{Accepted, Refused, echoed_id}
use Rattle.bidi_local.specs.Pending.{Pending, method_of, note_refusal, without}
use Rattle.bidi_local.specs.Received as local
use Rattle.bidi_local.specs.Received.{Meaning, Means, result_in, settled}
use Rattle.bidi_local.specs.declared.local_end.NoteFault.TheVariants.{IdWaits, TooManyPending}
use Rattle.bidi_lines.specs.InputLines.{IsLine}
use Rattle.bidi_lines.specs.Skipping.{IsTooLong}
use Rattle.bidi_lines.specs.Stops.{IsCutOff, StopsAt}
use Rattle.bidi_lines.specs.declared.answering.LinesFault.{LinesFault}
use Rattle.bidi_lines.specs.declared.answering.LinesFault.TheVariants.{Write, NoMemory}
use Rattle.bidi_lines.specs.declared.side.Side.{Side}
use Rattle.bidi_lines.specs.declared.side.Side.TheVariants.{Local, Remote}
use Rattle.bidi_show.specs.MessageLines.{HasVerdict, Refuses, id_text}
use Rattle.bidi_remarks.specs.Results.{HasResultMisfit}
use Rattle.bidi_remarks.specs.Trouble.{IsTrouble, Misfit, Trouble, has_odd_id, IsIdIn, begins_with_mark, method_beyond}
use Rattle.bidi_why.specs.Telling.{Whole, report_run}
use Rattle.bidi_remarks.specs.Explaining.{remark_counted_as}
use Rattle.bidi_why.specs.Summary.{Entry, any_fault, is_log, unanswered}
use Rattle.bidi_remarks.specs.Remark.{Remark, bad_line, bad_result, failed, fault, id_waits, is_beyond, line_of, no_message, remark_cause, remark_line, stray, too_many, unanswered_line}
use Rattle.bidi_remarks.specs.declared.bad_text.BadText.TheVariants.{ByteOrderMark, NoDirection, TooLong}
use Rattle.bidi_remarks.specs.declared.texts.Form.{Form}
use Rattle.bidi_messages.specs.Limits.{most_pending}

-- ---- what stands before a line

-- The answer that a refused message of the client allows.
pub data Kept : Type 0 where
  -- one with any id
  any_id : Kept
  -- one with the id `null`
  no_id : Kept
  -- one with this id
  of_id : (id : ℕ) → Kept
  -- one with this id, to the command beyond the profile with this method in the line of this number
  of_command : (id : ℕ) (method : List ℕ) (n : ℕ) → Kept

-- What is known of a conversation before a line.
pub record Standing : Type 0 where
  -- the commands that wait for an answer
  pub waiting : Pending
  -- the id of each of them, and the number of its line
  pub lines : List (ℕ × ℕ)
  -- the answers that refused messages allow and that did not come yet
  pub refused : List Kept

-- nothing was said
abbrev pub silence : Standing
silence = record { waiting = []; lines = []; refused = [] }

-- the command at line n waits, too
abbrev pub with_command : ℕ → ℕ → Method → Standing → Standing
with_command n id method s = record { waiting = s.waiting ++ (id, method) ∷ []; lines = s.lines ++ (id, n) ∷ []; refused = s.refused }

-- the lines of commands, without that of the command with this id
abbrev pub lines_without : ℕ → List (ℕ × ℕ) → List (ℕ × ℕ)
lines_without id lines = filter (λ l. not (l.0 == id)) lines

-- the command of this id waits no longer
abbrev pub without_command : ℕ → Standing → Standing
without_command id s = record { waiting = without s.waiting id; lines = lines_without id s.lines; refused = s.refused }

-- so many are kept at most
abbrev pub kept : List Kept → Kept → List Kept
kept answers answer = if nat_lt (length answers) most_pending then answers ++ answer ∷ [] else answers

-- a message was refused that allows this answer
abbrev pub with_refused : Kept → Standing → Standing
with_refused answer s = record { waiting = s.waiting; lines = s.lines; refused = kept s.refused answer }

-- the most bytes of a method that is kept
abbrev pub longest_method : ℕ
longest_method = 4096

-- the answer to a message with this id in the line of this number, which has this method if it is a command beyond the profile
abbrev pub kept_as : ℕ → ℕ → Option (List ℕ) → Kept
kept_as n id None = of_id id
kept_as n id (Some method) = if nat_le (length method) longest_method then of_command id method n else of_id id

-- the answer to a refused message in the line of this number: it has the message's id, `null` if there is none, and any id if a browser may read one
abbrev pub kept_of : ℕ → Option ℕ → Trouble → Kept
kept_of n (Some id) why = kept_as n id (method_beyond why)
kept_of n None why = if has_odd_id why then any_id else no_id

-- whether the answer has this id, and no other
abbrev pub is_id : Option ℕ → Kept → Bool
is_id (Some id) (of_id x) = x == id
is_id (Some id) (of_command x method n) = x == id
is_id None no_id = true
is_id id k = false

-- whether it has any id
abbrev pub is_any : Kept → Bool
is_any any_id = true
is_any k = false

-- the one place, or else the other
abbrev pub or_else : Option ℕ → Option ℕ → Option ℕ
or_else None o = o
or_else (Some i) o = Some i

-- the place of the first of these answers that has this id, or else of the first that has any
abbrev pub place_of : Option ℕ → List Kept → Option ℕ
place_of id answers = or_else (position (is_id id) answers) (position is_any answers)

-- whether an answer with that id answers a message that was refused, and has no answer
abbrev pub was_refused : Option ℕ → Standing → Bool
was_refused id s = is_some (place_of id s.refused)

-- the answers without the one at this place
abbrev pub without_at : Option ℕ → List Kept → List Kept
without_at None answers = answers
without_at (Some i) answers = remove answers i

-- one message that was refused has its answer, which has this id
abbrev pub without_refused : Option ℕ → Standing → Standing
without_refused id s = record { waiting = s.waiting; lines = s.lines; refused = without_at (place_of id s.refused) s.refused }

-- the id of the command that a message settles, if it settles one
abbrev pub settled_id : Meaning → Option ℕ
settled_id (local.Answer id method result) = Some id
settled_id (local.BadResult id) = Some id
settled_id (local.Refusal id code) = Some id
settled_id meaning = None

-- the lines of commands that are left after a command is settled, or none is
abbrev pub lines_left : Option ℕ → List (ℕ × ℕ) → List (ℕ × ℕ)
lines_left None lines = lines
lines_left (Some id) lines = lines_without id lines

-- a message with that meaning came
abbrev pub behind : Meaning → Standing → Standing
behind meaning s = record { waiting = settled s.waiting meaning; lines = lines_left (settled_id meaning) s.lines; refused = s.refused }

-- ---- answers that are no message

-- the command that such a text answers for all that: the one of its id, if it waits, or if it was refused and has no answer yet
abbrev pub answered : Option ℕ → Standing → Option ℕ
answered None s = None
answered (Some id) s = if is_some (method_of s.waiting id) || was_refused (Some id) s then Some id else None

-- a text with this id came: it settles the command that waits under the id, or else one that was refused
abbrev pub with_answer : Option ℕ → Standing → Standing
with_answer None s = s
with_answer (Some id) s =
    if is_some (method_of s.waiting id) then without_command id s
    else if was_refused (Some id) s then without_refused (Some id) s
    else s

-- ---- one line

-- the member `type`; of a message it is a text
abbrev pub kind_in : Node → List ℕ
kind_in t = unwrap_or (option_and_then text_in (get_of (codes "type") t)) []

-- what is told of a message of this tree that means this, and what stands behind it
pub data IsTold (s : Standing) (t : Node) : Meaning → Option Remark → Standing → Type 0 where
  of_answer : (id : ℕ) (method : Method) (result : Node) → IsTold s t (local.Answer id method result) None (behind (local.Answer id method result) s)
  of_event : (event : EventName) (params : Node) → IsTold s t (local.Event event params) None (behind (local.Event event params) s)
  of_failure : (id : ℕ) (method : Method) (code : ErrorCode) → method_of s.waiting id ≡ Some method
      → IsTold s t (local.Refusal id code) (Some (failed id method code)) (behind (local.Refusal id code) s)
  of_result : (id : ℕ) (method : Method) (m : Misfit) → method_of s.waiting id ≡ Some method → HasResultMisfit (result_in t) id method m
      → IsTold s t (local.BadResult id) (Some (bad_result id method m)) (behind (local.BadResult id) s)
  of_refused : was_refused (echoed_id t) s ≡ true → IsTold s t local.Stray None (without_refused (echoed_id t) s)
  of_stray : was_refused (echoed_id t) s ≡ false → IsTold s t local.Stray (Some (stray (echoed_id t) (kind_in t))) (behind local.Stray s)

-- what stands in front of a text: who said it
abbrev pub mark_of : Side → List ℕ
mark_of Local = codes "> "
mark_of Remote = codes "< "

-- `refused ID CODE`
abbrev pub refused_words : Option ℕ → ErrorCode → List ℕ
refused_words id code = codes "refused " ++ id_text id ++ 32 ∷ error_code_text code

-- what is told of a text in the line of this number, and what stands behind it
pub data Hears (n : ℕ) (s : Standing) (text : List ℕ) : Side → Option Remark → Standing → Type 0 where
  -- a command is accepted, and waits from now on
  is_sent : (t : Node) (method : Method) → HasVerdict text (Accepted t) → method_in t ≡ method_text method → note_refusal s.waiting (id_in t) ≡ None
      → Hears n s text Local None (with_command n (id_in t) method s)
  -- its id waits, or too many do
  is_sent_twice : (t : Node) (method : Method) → HasVerdict text (Accepted t) → method_in t ≡ method_text method
      → note_refusal s.waiting (id_in t) ≡ Some IdWaits → Hears n s text Local (Some (id_waits (id_in t) method)) s
  is_one_too_many : (t : Node) (method : Method) → HasVerdict text (Accepted t) → method_in t ≡ method_text method
      → note_refusal s.waiting (id_in t) ≡ Some TooManyPending
      → Hears n s text Local (Some (too_many (id_in t) method)) (with_refused (of_id (id_in t)) s)
  is_refused : (id : Option ℕ) (code : ErrorCode) (why : Trouble) → HasVerdict text (Refused id code) → IsTrouble Local text why
      → Hears n s text Local (Some (fault (Some Local) None (refused_words id code) why)) (with_refused (kept_of n id why) s)
  -- a message means what it means to the local end
  is_message : (t : Node) (meaning : Meaning) (o : Option Remark) (s' : Standing) → IsUtf8 text → tree_of text ≡ Some t → Means s.waiting text meaning
      → IsTold s t meaning o s' → Hears n s text Remote o s'
  -- a text that is no message may answer a command for all that
  is_no_message : (brief : List ℕ) (why : Trouble) (id : Option ℕ) → Refuses Remote text (Some brief) → IsTrouble Remote text why → IsIdIn text why id
      → Hears n s text Remote (Some (no_message (answered id s) brief why)) (with_answer id s)

-- what is told of the line of this number, and what stands behind it
pub data HearsLine (n : ℕ) (s : Standing) (line : List ℕ) : Option Remark → Standing → Type 0 where
  is_too_long : IsTooLong line → HearsLine n s line (Some (bad_line TooLong)) s
  is_marked : IsLine line → begins_with_mark n line ≡ true → HearsLine n s line (Some (bad_line ByteOrderMark)) s
  is_no_text : IsLine line → begins_with_mark n line ≡ false → ((side : Side) (text : List ℕ) → line ≡ mark_of side ++ text → ⊥)
      → HearsLine n s line (Some (bad_line NoDirection)) s
  is_text : (side : Side) (text : List ℕ) (o : Option Remark) (s' : Standing) → IsLine line → begins_with_mark n line ≡ false
      → line ≡ mark_of side ++ text → Hears n s text side o s' → HearsLine n s line o s'

-- ---- all lines

-- A remark, with its line and the number of that.
pub record Heard : Type 0 where
  pub number : ℕ
  pub line : List ℕ
  pub remark : Remark

-- what is heard at a line, if there is a remark
abbrev pub at_line : ℕ → List ℕ → Option Remark → List Heard
at_line n line None = []
at_line n line (Some r) = record { number = n; line = line; remark = r } ∷ []

-- what is told of these lines, the first of which has this number, and what stands behind them
abbrev pub HearsEach : ℕ → Standing → List (List ℕ) → List Heard → Standing → Type 0
HearsEach n s [] told s' = (told ≡ []) × (s' ≡ s)
HearsEach n s (line ∷ lines) told s' =
    (o : Option Remark) × (mid : Standing) × (more : List Heard)
    × HearsLine n s line o mid × HearsEach (n + 1) mid lines more s' × (told ≡ at_line n line o ++ more)

-- what is written for these remarks
abbrev pub remark_lines : Option Form → List Heard → List ℕ
remark_lines form told = flat_map (λ h. remark_line form h.number h.remark) told

-- how a remark is counted
abbrev pub entry_of : Heard → Entry
entry_of h = record { counted_as = remark_counted_as h.remark; cause = remark_cause h.remark; is_log = is_log h.line }

-- what is told where only the profile is asked for: nothing of what is wrong for the profile and not for the draft
abbrev pub kept_remarks : Bool → List Heard → List Heard
kept_remarks only told = filter (λ h. not (only && is_beyond h.remark)) told

-- These lines are the beginning of a conversation; this is written for them, so they are counted, and this stands behind them.
abbrev pub Converses : Option Form → Bool → List (List ℕ) → List ℕ → List Entry → Standing → Type 0
Converses form only lines text told s =
    (heard : List Heard) × HearsEach 1 silence lines heard s
    × (text ≡ remark_lines form (kept_remarks only heard)) × (told ≡ map entry_of (kept_remarks only heard))

-- A command that was never answered: its id, its method and the number of its line.
pub record Unanswered : Type 0 where
  pub id : ℕ
  pub method : List ℕ
  pub line : Option ℕ

-- the command of such an answer, if it is one beyond the profile
abbrev pub command_of : Kept → List Unanswered
command_of (of_command id method n) = record { id = id; method = method; line = Some n } ∷ []
command_of k = []

-- the command that waits in a conversation
abbrev pub waiting_command : List (ℕ × ℕ) → ℕ × Method → Unanswered
waiting_command lines w = record { id = w.0; method = method_text w.1; line = line_of lines w.0 }

-- the commands that were never answered: those that wait, and then those beyond the profile
abbrev pub unanswered_commands : Standing → List Unanswered
unanswered_commands s = map (waiting_command s.lines) s.waiting ++ flat_map command_of s.refused

-- what is written for these commands
abbrev pub unanswered_lines : Option Form → List Unanswered → List ℕ
unanswered_lines form commands = flat_map (λ c. unanswered_line form c.line c.id c.method) commands

-- how they are counted
abbrev pub unanswered_entries : List Unanswered → List Entry
unanswered_entries commands = replicate (length commands) unanswered

-- The bytes are a conversation, and the fact holds of how many lines there are and of how all that is told is counted. What is written is what is told of
-- the lines, and then of each command that was never answered.
abbrev pub CountsConversation : Option Form → Bool → (ℕ → List Entry → Type 0) → List ℕ → List ℕ → Type 0
CountsConversation form only P bytes wrote =
    (text : List ℕ) × (s : Standing)
    × Whole (λ lines written. (told : List Entry) × Converses form only lines written told s
    × P (length lines) (told ++ unanswered_entries (unanswered_commands s))) bytes text
    × (wrote ≡ text ++ unanswered_lines form (unanswered_commands s))

-- the same, and the conversation has a fault if something is told that is one
abbrev pub TellsConversation : Option Form → Bool → Bool → List ℕ → List ℕ → Type 0
TellsConversation form only some bytes wrote = CountsConversation form only (λ n told. some ≡ any_fault told) bytes wrote

-- some lines at the front were told of by this text
abbrev pub IsTranscript : Option Form → Bool → List (List ℕ) → List ℕ → Type 0
IsTranscript form only lines text = (told : List Entry) × (s : Standing) × Converses form only lines text told s

-- What a fault behind the last line of an input says, whose end was told: all lines were told of.
abbrev pub StopsBehind : Option Form → Bool → LinesFault → List ℕ → List ℕ → Type 0
-- and a beginning was written of what is told of the commands that were never answered
StopsBehind form only Write read wrote =
    (text : List ℕ) × (s : Standing) × (part : List ℕ) × Whole (λ lines written. (told : List Entry) × Converses form only lines written told s) read text
    × IsCutOff part (unanswered_lines form (unanswered_commands s)) × (wrote ≡ text ++ part)
-- and nothing else
StopsBehind form only NoMemory read wrote = Whole (IsTranscript form only) read wrote
StopsBehind form only f read wrote = ⊥

-- What a fault says of the bytes that were read, the last of them or not, and of what was written.
abbrev pub StopsConversation : Option Form → Bool → LinesFault → Bool → List ℕ → List ℕ → Type 0
StopsConversation form only f at_end read wrote =
    StopsAt (report_run (IsTranscript form only)) f at_end read wrote ⊎ ((at_end ≡ true) × StopsBehind form only f read wrote)
