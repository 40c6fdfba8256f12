-- What a new subscription enables that was not enabled before. After WebDriver BiDi, "The session.subscribe Command".
use Rattle.std.specs.Prelude.{Bool, not, ◌&&◌, List}
use Rattle.bidi_methods.specs.declared.event_data.EventName.{EventName}
use Rattle.bidi_contexts.specs.Acts.{Act}
use Rattle.bidi_contexts.specs.Contexts.{is_alive}
use Rattle.bidi_contexts.specs.declared.occurrence.Top.{Top}
use Rattle.bidi_contexts.specs.Occurrences.{is_among}
use Rattle.bidi_sessions.specs.Scope.{Scope, covers}
use Rattle.bidi_sessions.specs.SubscriptionRows.{SubscriptionRow, any_covers}

-- whether a subscription to these events in this scope newly enables the event for a live top-level context
abbrev pub is_new : List Act → List SubscriptionRow → List EventName → Scope → EventName → Top → Bool
is_new past held events scope e top = is_alive past top.number && (not (any_covers held e top) && (is_among events e && covers scope top))
