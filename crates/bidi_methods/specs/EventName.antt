-- The names of events, as strings, and the params of each. After WebDriver BiDi, "Protocol".
use Rattle.std.specs.Prelude.{◌≡◌, ℕ, List, [], ◌∷◌, Some, codes, map, refl}
use Rattle.bidi_params.specs.contracts.browsing_context.info.InfoShape.TheImpl as context
use Rattle.bidi_params.specs.contracts.browsing_context.navigate.NavigationInfoShape.TheImpl as navigation
use Rattle.bidi_scripts.specs.contracts.realms.RealmInfoShape.TheImpl as realm
use Rattle.bidi_scripts.specs.contracts.realms.RealmDestroyedParametersShape.TheImpl as realm_gone
use Rattle.bidi_scripts.specs.contracts.log_entry.LogEntryShape.TheImpl as entry
use Rattle.bidi_shape.specs.Name as rule
use Rattle.bidi_shape.specs.Name.{Name}
use Rattle.bidi_shape.specs.Profile.{context_created_row, further_events}
use Rattle.bidi_shape.specs.WordLaws.{Word, Words, word, one_of, value_named}
use Rattle.bidi_methods.specs.Payload.{Part, part}
use Rattle.bidi_methods.specs.declared.event_data.EventName.{EventName}
use Rattle.bidi_methods.specs.declared.event_data.EventName.TheVariants.{ContextCreated, ContextDestroyed, NavigationStarted}
use Rattle.bidi_methods.specs.declared.event_data.EventName.TheVariants.{DomContentLoaded, Load, RealmCreated, RealmDestroyed, EntryAdded}

-- the params of events about contexts, and about navigations
abbrev context_told : Part
context_told = part rule.info context.ghosts.shape refl refl

abbrev navigation_told : Part
navigation_told = part rule.navigation_info navigation.ghosts.shape refl refl

-- the string of an event's name
-- example: `log.entryAdded`
abbrev pub event_name_text : EventName → List ℕ
event_name_text ContextCreated = codes "browsingContext.contextCreated"
event_name_text ContextDestroyed = codes "browsingContext.contextDestroyed"
event_name_text NavigationStarted = codes "browsingContext.navigationStarted"
event_name_text DomContentLoaded = codes "browsingContext.domContentLoaded"
event_name_text Load = codes "browsingContext.load"
event_name_text RealmCreated = codes "script.realmCreated"
event_name_text RealmDestroyed = codes "script.realmDestroyed"
event_name_text EntryAdded = codes "log.entryAdded"

-- the params of each event: their type, their rule and their shape
abbrev pub params_part : EventName → Part
params_part ContextCreated = context_told
params_part ContextDestroyed = context_told
params_part NavigationStarted = navigation_told
params_part DomContentLoaded = navigation_told
params_part Load = navigation_told
params_part RealmCreated = part rule.realm_info realm.ghosts.shape refl refl
params_part RealmDestroyed = part rule.realm_destroyed_parameters realm_gone.ghosts.shape refl refl
params_part EntryAdded = part rule.log_entry entry.ghosts.shape refl refl

-- the rule of an event's params
-- example: the params of `browsingContext.load` are NavigationInfo
abbrev pub params_of : EventName → Name
params_of e = (params_part e).name

-- the events after browsingContext.contextCreated, in the order of the profile
abbrev further_names : List EventName
further_names = ContextDestroyed ∷ NavigationStarted ∷ DomContentLoaded ∷ Load ∷ RealmCreated ∷ RealmDestroyed ∷ EntryAdded ∷ []

-- all events, in the order of the profile
abbrev pub events : List EventName
events = ContextCreated ∷ further_names

-- these names and rules are those of the profile
pub events_are_the_profiles : map {B = List ℕ × Name} (λ e. (event_name_text e, params_of e)) events
    ≡ map {B = List ℕ × Name} (λ r. (codes r.method, r.params)) (context_created_row ∷ further_events)
events_are_the_profiles = refl

-- the strings of the events after the first
abbrev pub event_rest : List (Word EventName)
event_rest = map (word event_name_text) further_names

-- the string of each event names that event
pub event_named : (e : EventName) → value_named (word event_name_text ContextCreated) event_rest (event_name_text e) ≡ Some e
event_named ContextCreated = refl
event_named ContextDestroyed = refl
event_named NavigationStarted = refl
event_named DomContentLoaded = refl
event_named Load = refl
event_named RealmCreated = refl
event_named RealmDestroyed = refl
event_named EntryAdded = refl

-- the names of events as a type whose values are a few strings
abbrev pub event_words : Words EventName
event_words = record {
  rule = one_of (word event_name_text ContextCreated) event_rest;
  first = word event_name_text ContextCreated;
  rest = event_rest;
  text_of = event_name_text;
  is_rule = refl;
  has_texts = (refl, (refl, (refl, (refl, (refl, (refl, (refl, refl)))))));
  names_it = event_named;
}
