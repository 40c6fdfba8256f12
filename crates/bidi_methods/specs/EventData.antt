-- The data of an event: its name, with the params of that event. After WebDriver BiDi, "Protocol".
use Rattle.bidi_methods.specs.Payload.{PayloadOf, OfKind, one_by_kind}
use Rattle.bidi_methods.specs.EventName.{params_part}
use Rattle.bidi_methods.specs.declared.event_data.EventName.{EventName}
use Rattle.bidi_methods.specs.declared.event_data.EventName.TheVariants.{ContextCreated, ContextDestroyed, NavigationStarted}
use Rattle.bidi_methods.specs.declared.event_data.EventName.TheVariants.{DomContentLoaded, Load, RealmCreated, RealmDestroyed, EntryAdded}
use Rattle.bidi_methods.specs.declared.event_data.EventData.{EventData}
use Rattle.bidi_methods.specs.declared.event_data.EventData.TheVariants as of

-- an event as its name with its params
abbrev pub told : EventData → OfKind params_part
told (of.ContextCreated params) = (ContextCreated, params)
told (of.ContextDestroyed params) = (ContextDestroyed, params)
told (of.NavigationStarted params) = (NavigationStarted, params)
told (of.DomContentLoaded params) = (DomContentLoaded, params)
told (of.Load params) = (Load, params)
told (of.RealmCreated params) = (RealmCreated, params)
told (of.RealmDestroyed params) = (RealmDestroyed, params)
told (of.EntryAdded params) = (EntryAdded, params)

-- the name of an event
abbrev pub event_of : EventData → EventName
event_of d = (told d).0

-- the data of events, by name: the rule of the params, their trees, and the laws
abbrev pub event_payload : PayloadOf EventData EventName
event_payload = one_by_kind params_part told
