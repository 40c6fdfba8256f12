-- The names of events and of modules, as a subscribe has them. After WebDriver BiDi, "The session.subscribe Command".
use Rattle.std.specs.Prelude.{ℕ, if◌then◌else◌, List, [], ◌∷◌, ◌++◌, find, codes, bytes_eq, Option, Some, None, Result, Ok}
use Rattle.bidi_params.specs.declared.error_code.ErrorCode.{ErrorCode}
use Rattle.bidi_params.specs.declared.error_code.ErrorCode.TheVariants.{InvalidArgument}
use Rattle.bidi_handles.specs.Checks.{◌>>=◌, found}
use Rattle.bidi_methods.specs.declared.event_data.EventName.{EventName}
use Rattle.bidi_methods.specs.declared.event_data.EventName.TheVariants.{ContextCreated, ContextDestroyed, NavigationStarted}
use Rattle.bidi_methods.specs.declared.event_data.EventName.TheVariants.{DomContentLoaded, Load, RealmCreated, RealmDestroyed, EntryAdded}
use Rattle.bidi_methods.specs.EventName.{event_name_text as name_of, events as all_events}

-- the events of the module of this name, if there is one; two modules have no event
abbrev pub events_of_module : List ℕ → Option (List EventName)
events_of_module name =
    if bytes_eq name (codes "session") then Some []
    else if bytes_eq name (codes "browsingContext") then Some (ContextCreated ∷ ContextDestroyed ∷ NavigationStarted ∷ DomContentLoaded ∷ Load ∷ [])
    else if bytes_eq name (codes "script") then Some (RealmCreated ∷ RealmDestroyed ∷ [])
    else if bytes_eq name (codes "log") then Some (EntryAdded ∷ [])
    else if bytes_eq name (codes "browser") then Some []
    else None

-- the event that was found, or else the events of the module of this name
abbrev pub event_or_module : Option EventName → List ℕ → Option (List EventName)
event_or_module (Some e) name = Some (e ∷ [])
event_or_module None name = events_of_module name

-- the events that a name stands for; a name of no event and no module is an invalid argument
abbrev pub events_named : List ℕ → Result (List EventName) ErrorCode
events_named name = found (event_or_module (find (λ e. bytes_eq name (name_of e)) all_events) name) InvalidArgument

-- the events that some names stand for, in order
abbrev pub all_named : List (List ℕ) → Result (List EventName) ErrorCode
all_named [] = Ok []
all_named (name ∷ names) = do
  es ← events_named name
  fs ← all_named names
  Ok (es ++ fs)
