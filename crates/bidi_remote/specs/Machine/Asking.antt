-- Which sessions an event reaches that does not come from the browser. After WebDriver BiDi, "The session.subscribe Command".
use Rattle.std.specs.Prelude.{ℕ, Bool, ◌&&◌, if◌then◌else◌, List, [], Option, Some, None, option_map}
use Rattle.bidi_methods.specs.declared.event_data.EventName.{EventName}
use Rattle.bidi_contexts.specs.declared.occurrence.Top.{Top}
use Rattle.bidi_contexts.specs.Acts.{Act}
use Rattle.bidi_contexts.specs.Contexts.{context_of}
use Rattle.bidi_contexts.specs.Occurrences.{top_at}
use Rattle.bidi_remote.specs.Machine.History.{Deed}
use Rattle.bidi_remote.specs.Machine.Connections.{Attachment, Shut, Alone, SpeaksFor}
use Rattle.bidi_remote.specs.Machine.Sessions.{is_active}
use Rattle.bidi_remote.specs.Machine.Subscriptions.{subscriptions, is_enabled, holds_globally}

-- the session that a connection in this state speaks for, if it speaks for one
abbrev pub session_in : Attachment → Option ℕ
session_in Shut = None
session_in Alone = None
session_in (SpeaksFor s) = Some s

-- the top-level context of the live context of this id, if there is one
abbrev pub top_named : List Act → List ℕ → Option Top
top_named past id = option_map (top_at past) (context_of past id)

-- whether a session hears an event in the tree of this top-level context; without one, it does if the event is enabled for all contexts
abbrev pub hears : List Deed → ℕ → EventName → Option Top → Bool
hears past s e (Some top) = is_enabled past s e top
hears past s e None = is_active past s && holds_globally past s e

-- the live subscriptions of a session, in order of number; a session that is not active has none
abbrev pub subscriptions_in : List Deed → ℕ → List ℕ
subscriptions_in past s = if is_active past s then subscriptions past s else []
