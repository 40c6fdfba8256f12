-- A local end of the code and what it received, as contracts see them. Defined by this project.
use Rattle.std.specs.Prelude.{◌≡◌, ℕ, ⊤}
use Rattle.bidi_methods.specs.contracts.event_data.EventDataPayloadEventName.TheImpl as told
use Rattle.bidi_methods.specs.contracts.result_data.ResultDataPayloadMethod.TheImpl as results
use Rattle.bidi_local.specs.declared.local_end.LocalEnd.{LocalEnd}
use Rattle.bidi_local.specs.declared.received.Received.{Received}
use Rattle.bidi_local.specs.declared.received.Received.TheVariants as in_hand
use Rattle.bidi_local.specs.Pending.{Pending}
use Rattle.bidi_local.specs.Received.{Meaning, Answer, BadResult, Refusal, Event, Stray, NotInProfile, NotJson}

-- the pending commands of a local end
abbrev pub waiting_in : LocalEnd → Pending
waiting_in end = end.pending.entries

-- the last id: the greatest that was sent or noted, or 0 if there is none yet
abbrev pub sent_by : LocalEnd → ℕ
sent_by end = end.sent

-- the local end has this last id and these pending commands
pub record Stands (end : LocalEnd) (last : ℕ) (commands : Pending) : Type 0 where
  pub sent : sent_by end ≡ last
  pub waiting : waiting_in end ≡ commands

-- the meaning of what was received
abbrev pub meaning_of : Received → Meaning
meaning_of (in_hand.Answer id result) = Answer id.value (results.ghosts.payload.kind result) (results.ghosts.payload.tree_of result)
meaning_of (in_hand.BadResult id) = BadResult id.value
meaning_of (in_hand.Refusal id code) = Refusal id.value code
meaning_of (in_hand.Event event) = Event (told.ghosts.payload.kind event) (told.ghosts.payload.tree_of event)
meaning_of in_hand.Stray = Stray
meaning_of in_hand.NotInProfile = NotInProfile
meaning_of in_hand.NotJson = NotJson

-- the result or the event that was received is valid
abbrev pub IsWell : Received → Type 0
IsWell (in_hand.Answer id result) = results.ghosts.payload.well result
IsWell (in_hand.Event event) = told.ghosts.payload.well event
IsWell received = ⊤
