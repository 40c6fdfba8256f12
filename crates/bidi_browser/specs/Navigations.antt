-- What contracts see of a navigation that the code plans.
use Rattle.std.specs.Prelude.{◌≡◌, ℕ, ◌-◌, ◌∷◌, [], ◌++◌, List, map, flat_map}
use Rattle.bidi_methods.specs.declared.event_data.EventName.TheVariants.{NavigationStarted, DomContentLoaded, Load}
use Rattle.bidi_handles.specs.declared.id.IdKind.TheVariants.{Realm, Navigation}
use Rattle.bidi_browser.specs.declared.navigation.Told.{Told}
use Rattle.bidi_browser.specs.declared.numbers.Numbers.{Numbers}
use Rattle.bidi_contexts.specs.Acts.{Act, Moved, Move, next_number}
use Rattle.bidi_contexts.specs.Actions.{Wait, Started, Interactive, Complete}
use Rattle.bidi_contexts.specs.Contexts.{children_of}
use Rattle.bidi_contexts.specs.Occurrences.{Occurrence, realm_created, realm_destroyed, removal, navigation_event}
use Rattle.bidi_browser.specs.Occurs.{Item, Happens, led_to, navigating}
use Rattle.bidi_contexts.specs.View.{seen}

-- The events of a navigation, one after another.
abbrev pub navigation_events : List Act → ℕ → ℕ → Move → List Occurrence
navigation_events past moment c move =
    let url = led_to past c move in
    navigation_event past moment c url NavigationStarted
    ∷ flat_map (removal past) (children_of past c)
    ++ realm_destroyed past c
    ∷ realm_created (Moved c move ∷ past) c
    ∷ navigation_event past moment c url DomContentLoaded
    ∷ navigation_event past moment c url Load
    ∷ []

-- How many of n events come before the reply.
abbrev pub before_reply : Wait → ℕ → ℕ
before_reply Started n = 1
before_reply Interactive n = n - 1
before_reply Complete n = n

-- The numbers are those of the next navigation and the next realm.
pub record AreNext (numbers : Numbers) (past : List Act) : Type 0 where
  pub navigation : numbers.navigation ≡ next_number past Navigation
  pub realm : numbers.realm ≡ next_number past Realm

-- With any reply between the two parts, the events are those of the navigation with that reply.
abbrev pub IsTold : Told → List Act → ℕ → Wait → ℕ → Move → Type 0
IsTold told past moment wait c move =
    (reply : Item) → map Happens (seen told.before.items) ++ reply ∷ map Happens (seen told.after.items) ≡ navigating past moment wait c move reply
