-- Which events a session hears, as the tables say.
use Rattle.std.specs.Prelude.{Bool, false, List, [], ◌∷◌, Option, Some, None}
use Rattle.bidi_methods.specs.declared.event_data.EventName.{EventName}
use Rattle.bidi_contexts.specs.declared.occurrence.Top.{Top}
use Rattle.bidi_contexts.specs.Occurrences.{Occurrence}
use Rattle.bidi_sessions.specs.SubscriptionRows.{any_covers, any_global}
use Rattle.bidi_active.specs.SessionRows.{SessionRow}

-- whether the session of a row hears the event there
abbrev pub heard_by : SessionRow → EventName → Option Top → Bool
heard_by r e (Some top) = any_covers r.subscriptions e top
heard_by r e None = any_global r.subscriptions e

-- whether there is a row, and its session hears the event there
abbrev pub is_heard_by : Option SessionRow → EventName → Option Top → Bool
is_heard_by None e top = false
is_heard_by (Some r) e top = heard_by r e top

-- the top-level context of the first event, if there is one
abbrev pub first_top : List Occurrence → Option Top
first_top [] = None
first_top (o ∷ os) = Some o.top
