-- What becomes of a message by which a session subscribes or unsubscribes while a test has names of its own. This project's own.
use Rattle.std.specs.Prelude.{◌≡◌, ℕ, suc, ◌+◌, ◌==◌, ◌<◌, ◌^◌, nat_lt, nat_le, Bool, true, false, not, ◌&&◌, if◌then◌else◌, MatchBool, List, [], ◌∷◌, ◌++◌, map, length, codes, Option, Some, None, Result, Ok, Err}
use Rattle.std.specs.List.{list_all}
use Rattle.bidi_params.specs.declared.error_code.ErrorCode.{ErrorCode}
use Rattle.bidi_params.specs.declared.error_code.ErrorCode.TheVariants.{InvalidArgument, UnknownError}
use Rattle.bidi_messages.specs.Message.{error_text}
use Rattle.bidi_messages.specs.Verdict.{Verdict, Accepted, Refused, IsVerdict}
use Rattle.bidi_handles.specs.Checks.{◌>>=◌}
use Rattle.bidi_handles.specs.Ids.{id_text}
use Rattle.bidi_handles.specs.declared.id.IdKind.TheVariants.{Subscription}
use Rattle.bidi_sessions.specs.EventNames.{all_named}
use Rattle.bidi_sessions.specs.Limits.{most_subscriptions}
use Rattle.bidi_sessions.specs.Step as steps
use Rattle.bidi_sessions.specs.Scope.{Scope}
use Rattle.bidi_rows.specs.Rows.{Result as ResultOf, reply_text}
use Rattle.bidi_remote.specs.Machine.History.{Input, Deed, IsHeardAs, acts}
use Rattle.bidi_remote.specs.Machine.Sessions.{sessions}
use Rattle.bidi_remote.specs.Machine.Connections.{attachment_of}
use Rattle.bidi_remote.specs.Machine.Asking.{session_in, subscriptions_in}
use Rattle.bidi_remote.specs.Machine.Outcome.{deeds, scope_asked}
use Rattle.bidi_remote.specs.Machine.Sent.{Sent, out, Text}
use Rattle.bidi_remote.specs.State.Stands.{StandsFor, IsShort}
use Rattle.bidi_remote.specs.declared.remote_end.RemoteEnd.{RemoteEnd}
use Rattle.bidi_scripted.specs.declared.scripted_end.Taken.{Taken}
use Rattle.bidi_scripted.specs.Taken.{IsOfMachine, IsOfTest}
use Rattle.bidi_names.specs.Subscriptions.{Named, holds_globally, dismissed, cancelled, of_active, is_too_many, unlisted, other_ids}
use Rattle.bidi_names.specs.Replies.{succeeded, Gives, AreNumbers, id_result}
use Rattle.bidi_names.specs.Asked.{Asked, Wanted, Subscribes, Unsubscribes, Ends, asked_of, ending_text}
use Rattle.bidi_scripted.specs.Script.{Script, most_numbers}

-- ---- the subscriptions of a session

-- the numbers of the subscriptions of a session that only the test keeps: the machine has none of their number
abbrev pub alone : List Deed → ℕ → List Named → List ℕ
alone past s named = map (λ n. n.number) (unlisted (subscriptions_in past s) s named)

-- how many live subscriptions a session has: those of the machine, and those that only the test keeps
abbrev pub live_count : List Deed → ℕ → List Named → ℕ
live_count past s named = length (subscriptions_in past s) + length (alone past s named)

-- whether a session can have one more subscription, with so many names of a test
abbrev pub has_room : List Deed → Script → ℕ → ℕ → Bool
has_room past script s more =
    nat_lt (live_count past s script.named) most_subscriptions && (not (is_too_many s script.named more) && nat_le script.made most_numbers)

-- the number of the next subscription that only the test keeps; the machine never gives one that is so high
abbrev pub next_alone : Script → ℕ
next_alone script = 2 ^ 47 + suc script.made

-- ---- how a message is taken

-- A message of a session is heard by the machine, as this text; or it is answered by an error or by an empty result; or a subscription is made
-- that only the test keeps.
pub data Taking : Type 0 where
  Hears : (text : List ℕ) → Taking
  Refuses : (id : ℕ) (code : ErrorCode) → Taking
  Succeeds : (id : ℕ) → Taking
  Makes : (wanted : Wanted) (scope : Scope) → Taking

-- the part of a text, or else all of it
abbrev pub part_or : Option (List ℕ) → List ℕ → List ℕ
part_or None text = text
part_or (Some part) text = part

-- the scope of a subscription, or the error code with which the machine refuses one to these names in this scope
abbrev pub scope_wanted : List Deed → Wanted → Result Scope ErrorCode
scope_wanted past w = all_named w.others >>= λ events. scope_asked (acts past) w.contexts w.users

-- The machine makes a subscription that has names of the profile; any other is kept by the test alone.
abbrev pub subscribing : List Deed → Script → ℕ → List ℕ → Wanted → Result Scope ErrorCode → Taking
subscribing past script s text w (Err code) = Refuses w.id code
subscribing past script s text w (Ok scope) =
    if not (has_room past script s (length w.foreign)) then Refuses w.id UnknownError
    else if length w.others == 0 then Makes w scope
    else Hears (part_or w.part text)

-- Names can be given back only if each that the profile lacks is in a subscription for all contexts; the machine is asked for the others.
abbrev pub unsubscribing : Script → ℕ → List ℕ → Wanted → Taking
unsubscribing script s text w =
    if not (list_all (holds_globally script.named s) w.foreign) then Refuses w.id InvalidArgument
    else if length w.others == 0 then Succeeds w.id
    else Hears (part_or w.part text)

-- The machine is asked to end the subscriptions of the other ids, which the test does not keep alone.
abbrev pub ending : List ℕ → ℕ → List (List ℕ) → List (List ℕ) → Taking
ending text id ids others =
    if length others == length ids then Hears text
    else if length others == 0 then Succeeds id
    else Hears (ending_text id others)

-- how a message of a session that asks this is taken
abbrev pub taking : List Deed → Script → ℕ → List ℕ → Option Asked → Taking
taking past script s text None = Hears text
taking past script s text (Some (Subscribes w)) = subscribing past script s text w (scope_wanted past w)
taking past script s text (Some (Unsubscribes w)) = unsubscribing script s text w
taking past script s text (Some (Ends id ids)) = ending text id ids (other_ids (alone past s script.named) s ids)

-- whether a verdict is that of a command
abbrev pub is_accepted : Verdict → Bool
is_accepted (Accepted t) = true
is_accepted (Refused id code) = false

-- what a message asks of names; one that fits no command asks nothing
abbrev pub asked_in : List (List ℕ) → List ℕ → Verdict → Option Asked
asked_in known text v = if is_accepted v then asked_of known text else None

-- ---- what becomes of the subscriptions

-- whether a subscription has something that the machine does not know
abbrev pub keeps_any : Wanted → Bool
keeps_any w = not ((length w.foreign == 0) && (length w.modules == 0))

-- these subscriptions, without those of sessions that have ended, and with one more
abbrev pub with_made : List ℕ → ℕ → ℕ → Wanted → Scope → List Named → List Named
with_made active s n w scope named =
    of_active active named ++ record { session = s; number = n; names = w.foreign; modules = w.modules; scope = scope } ∷ []

-- What a session asked is left to the names that are kept, after a success: names are gone, or subscriptions.
abbrev pub Leaves : ℕ → Option Asked → Script → Script → Type 0
Leaves s None script after = after ≡ script
Leaves s (Some (Subscribes w)) script after = after ≡ script
Leaves s (Some (Unsubscribes w)) script after = after ≡ record script { named = dismissed s w.foreign w.modules script.named }
Leaves s (Some (Ends id ids)) script after =
    (ns : List ℕ) × AreNumbers (id_text Subscription s) ids ns × (after ≡ record script { named = cancelled s ns script.named })

-- What the machine sent for what a session asked decides what becomes of the names that are kept. Those of a subscription are kept if the answer
-- gives its id; names are given back, and subscriptions end, if the answer is a success.
abbrev pub Keeps : List Deed → ℕ → Option Asked → List Sent → Script → Script → Type 0
Keeps past s (Some (Subscribes w)) sent script after =
    ((n : ℕ) → n < 2 ^ 48 → Gives s sent n → (scope : Scope) × (scope_wanted past w ≡ Ok scope)
    × (after ≡ (if keeps_any w then record script { named = with_made (sessions past) s n w scope script.named } else script)))
    × (((n : ℕ) → n < 2 ^ 48 → Gives s sent n → ⊥) → after ≡ script)
Keeps past s asked sent script after = MatchBool (succeeded sent) (Leaves s asked script after) (after ≡ script)

-- The machine, which still accepts steps, hears this text on the connection, and what it sends is sent.
abbrev pub HearsText : ℕ → List ℕ → List Input → RemoteEnd → Taken → Type 0
HearsText c text h new t =
    (i : Input) × IsHeardAs (steps.Text c text) i × IsOfMachine (out h i) t × StandsFor new (i ∷ h) × IsShort h

-- The remote end is as it was, and this text answers the command on the connection.
abbrev pub AnswersBy : ℕ → List ℕ → RemoteEnd → RemoteEnd → Taken → Type 0
AnswersBy c text old new t = IsOfTest (Text c text ∷ []) t × (new ≡ old)

-- A message of a session that asks this is taken in this way.
abbrev pub Takes : ℕ → List Input → ℕ → Option Asked → RemoteEnd → Script → RemoteEnd → Script → Taken → Taking → Type 0
Takes c h s asked old script new after t (Hears text) =
    (heard : HearsText c text h new t) × Keeps (deeds h) s asked (out h heard.0) script after
Takes c h s asked old script new after t (Refuses id code) = AnswersBy c (error_text (Some id) code) old new t × (after ≡ script)
Takes c h s asked old script new after t (Succeeds id) = AnswersBy c (reply_text id (ResultOf (codes "{}"))) old new t × Leaves s asked script after
Takes c h s asked old script new after t (Makes w scope) =
    AnswersBy c (reply_text w.id (ResultOf (id_result s (next_alone script)))) old new t
    × (after ≡ record script { named = with_made (sessions (deeds h)) s (next_alone script) w scope script.named; made = suc script.made })

-- What comes of a message that asks for names, on a connection that speaks for this session. The machine hears a message of none as it came.
abbrev pub IsNamed : ℕ → List ℕ → List Input → Option ℕ → RemoteEnd → Script → RemoteEnd → Script → Taken → Type 0
IsNamed c text h None old script new after t = HearsText c text h new t × (after ≡ script)
IsNamed c text h (Some s) old script new after t = (v : Verdict) × IsVerdict text v
    × (let asked = asked_in script.known text v in Takes c h s asked old script new after t (taking (deeds h) script s text asked))

-- What comes of a message that asks for names on a connection.
abbrev pub NamesAsked : ℕ → List ℕ → List Input → RemoteEnd → Script → RemoteEnd → Script → Taken → Type 0
NamesAsked c text h old script new after t = IsNamed c text h (session_in (attachment_of (deeds h) c)) old script new after t
