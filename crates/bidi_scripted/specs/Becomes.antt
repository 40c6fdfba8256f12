-- What each fate of a step means for what is sent, for the remote end and for the script.
use Rattle.std.specs.Prelude.{◌≡◌, ◌<◌, ◌≤◌, ◌⊎◌, ◌↔◌, ℕ, Bool, true, false, List, [], ◌∷◌, map, find, length, Option, Some, None, Result, IfOk, OnErr, IsErrOf}
use Rattle.std.specs.List.{position}
use Rattle.bidi_params.specs.declared.error_code.ErrorCode.TheVariants.{UnknownError}
use Rattle.bidi_messages.specs.Message.{error_text}
use Rattle.bidi_sessions.specs.Step.{Step}
use Rattle.bidi_sessions.specs.Step as steps
use Rattle.bidi_sessions.specs.Limits.{most_steps}
use Rattle.bidi_sessions.specs.View.{sent_of}
use Rattle.bidi_rows.specs.declared.row.Row as declared_row
use Rattle.bidi_rows.specs.Command.{Command, command_of}
use Rattle.bidi_rows.specs.Rows.{Action, Answers, Holds, matches}
use Rattle.bidi_rows.specs.View.{row_of}
use Rattle.bidi_remote.specs.Machine.History.{Input, Deed, IsHeardAs}
use Rattle.bidi_remote.specs.Machine.Messages.{AllReadBack}
use Rattle.bidi_remote.specs.Machine.Outcome.{deeds}
use Rattle.bidi_remote.specs.declared.remote_end.RemoteFault.{RemoteFault}
use Rattle.bidi_remote.specs.declared.remote_end.RemoteFault.TheVariants.{WornOut}
use Rattle.bidi_remote.specs.Machine.Sent.{Sent, out, Text}
use Rattle.bidi_remote.specs.State.Stands.{StandsFor, IsShort}
use Rattle.bidi_remote.specs.declared.remote_end.RemoteEnd.{RemoteEnd}
use Rattle.bidi_scripted.specs.declared.scripted_end.Taken.{Taken}
use Rattle.bidi_scripted.specs.declared.finding.Found.{Found}
use Rattle.bidi_scripted.specs.declared.finding.Found.TheVariants as in_code
use Rattle.bidi_scripted.specs.declared.finding.Looked.{Looked}
use Rattle.bidi_scripted.specs.declared.finding.Looked.TheVariants as looked
use Rattle.bidi_sessions.specs.declared.step.Sent as declared_step
use Rattle.bidi_names.specs.Subscriptions.{Named}
use Rattle.bidi_scripted.specs.Script.{Script, no_script, with_use, with_held}
use Rattle.bidi_scripted.specs.Taken.{IsHeldAs, IsOfMachine, IsOfTest}
use Rattle.bidi_scripted.specs.Kept.{NamesAsked}
use Rattle.bidi_scripted.specs.Fate.{Fate, HandedOn, Answered, Held, Unheld, AsksNames, asks_names, is_json, fate, after_step}
use Rattle.bidi_scripted.specs.Sending.{answer_sent}

-- The step is handed on to the remote end as it came: what the machine sends for it is sent, and each string that is sent reads back. After an
-- error the remote end stands for the histories that it stood for before, and `WornOut` comes exactly if it has accepted `most_steps` steps.
pub record IsHandedOn (step : Step) (old new : RemoteEnd) (result : Result Taken RemoteFault) : Type 0 where
  pub ok : IfOk result (λ t. (i : Input) × IsHeardAs step i
      × ((h : List Input) → StandsFor old h → IsOfMachine (out h i) t × AllReadBack (out h i) × StandsFor new (i ∷ h)))
  pub err : OnErr result ((h : List Input) → StandsFor old h → StandsFor new h)
  pub worn_out : (h : List Input) → StandsFor old h → IsErrOf result WornOut ↔ (most_steps ≤ length h)

-- The step brings about what its fate means, for a remote end and a script: this is sent, and they are so afterwards.
abbrev pub Becomes : Fate → List Input → Step → RemoteEnd → Script → RemoteEnd → Script → Taken → Type 0
Becomes HandedOn h step old script new after t =
    (i : Input) × IsHeardAs step i × IsOfMachine (out h i) t × StandsFor new (i ∷ h) × (after ≡ after_step (deeds h) step script) × IsShort h
Becomes (Answered c command answer) h step old script new after t =
    IsOfTest (answer_sent (deeds h) script.named c command.id answer) t × (new ≡ old) × (after ≡ with_use command script)
Becomes (Held c command text) h step old script new after t =
    IsHeldAs script.next t × (new ≡ old) × (after ≡ with_held c command.id text (with_use command script))
Becomes (Unheld c command) h step old script new after t =
    IsOfTest (Text c (error_text (Some command.id) UnknownError) ∷ []) t × (new ≡ old) × (after ≡ script)
Becomes (AsksNames c text) h step old script new after t = NamesAsked c text h old script new after t

-- The step was taken: with an empty script it was handed on and the script stays empty; it brought about what its fate means; and after an
-- error the script is as it was, and the remote end stands for the histories that it stood for before. `WornOut` comes only if the remote end
-- has accepted `most_steps` steps.
pub record IsTaken (step : Step) (old : RemoteEnd) (script : Script) (new : RemoteEnd) (after : Script) (result : Result Taken RemoteFault) : Type 0 where
  pub plain : script ≡ no_script → IsHandedOn step old new result
  pub stays : script ≡ no_script → after ≡ no_script
  pub becomes : (h : List Input) → StandsFor old h → IfOk result (λ t. Becomes (fate (deeds h) script step) h step old script new after t)
  pub err : OnErr result ((after ≡ script) × ((h : List Input) → StandsFor old h → StandsFor new h))
  pub worn_out : (h : List Input) → StandsFor old h → IsErrOf result WornOut → most_steps ≤ length h

-- what is sent for a command by what a row does: an answer, or nothing yet
abbrev pub sent_by : List Deed → List Named → ℕ → ℕ → Action → Option (List Sent)
sent_by past named c id (Answers answer) = Some (answer_sent past named c id answer)
sent_by past named c id Holds = None

-- what is found for a command for which there is no row
abbrev pub found_names : Bool → Option Found
found_names true = Some in_code.Names
found_names false = None

-- What was found for a text is right: the newest row that is for the command that it is, or else whether it may ask for names.
abbrev pub IsFound : Option Found → List declared_row.Row → List (List ℕ) → List ℕ → Type 0
IsFound (Some (in_code.Row f)) rows known s =
    (f.place < length rows) × (command : Command) × (command_of s ≡ Some command) × (command.id ≡ f.id.value)
    × (position (λ r. matches command (row_of r)) rows ≡ Some f.place)
IsFound (Some in_code.Names) rows known s =
    (command : Command) × (command_of s ≡ Some command) × (find (matches command) (map row_of rows) ≡ None) × (asks_names known command.method ≡ true)
IsFound None rows known s =
    (command : Command) → command_of s ≡ Some command → (find (matches command) (map row_of rows) ≡ None) × (asks_names known command.method ≡ false)

-- The remote end heard the text on the connection, and this is what the machine sends for it.
abbrev pub IsHeard : ℕ → List ℕ → RemoteEnd → RemoteEnd → List declared_step.Sent → Type 0
IsHeard c s old new sent =
    (i : Input) × IsHeardAs (steps.Text c s) i
    × ((h : List Input) → StandsFor old h → (map sent_of sent ≡ out h i) × AllReadBack (map sent_of sent) × StandsFor new (i ∷ h) × IsShort h)

-- What came of looking at a text is right: what was found for it, which is JSON; or nothing was, or it is no JSON, and the remote end heard it.
abbrev pub IsLooked : List declared_row.Row → List (List ℕ) → ℕ → List ℕ → RemoteEnd → RemoteEnd → Looked → Type 0
IsLooked rows known c s old new (looked.Found f) = IsFound (Some f) rows known s × (is_json s ≡ true) × (new ≡ old)
IsLooked rows known c s old new (looked.Heard sent) = (IsFound None rows known s ⊎ (is_json s ≡ false)) × IsHeard c s old new sent.items
