-- Lists of the eight events.
use Rattle.std.proofs.Common.{◌≡◌, ◌∙◌, Bool, true, ◌&&◌, List, [], ◌∷◌, get_or, refl, sym, ap, arith, eqb-true}
use Rattle.std.specs.Prelude.{◌==◌, filter}
use Rattle.std.specs.List.{list_any}
use Rattle.std.proofs.lemmas.Bool.Decides.{nat_tests, same_from_decides}
use Rattle.bidi_methods.specs.declared.event_data.EventName.{EventName}
use Rattle.bidi_methods.specs.declared.event_data.EventName.TheVariants.{ContextCreated, ContextDestroyed, NavigationStarted}
use Rattle.bidi_methods.specs.declared.event_data.EventName.TheVariants.{DomContentLoaded, Load, RealmCreated, RealmDestroyed, EntryAdded}
use Rattle.bidi_methods.specs.EventName.{events as all_events}
use Rattle.bidi_contexts.specs.Occurrences.{event_place, is_among}

-- an event stands at its place among the eight
event_at : (e : EventName) → get_or all_events (event_place e) ContextCreated ≡ e
event_at ContextCreated = refl
event_at ContextDestroyed = refl
event_at NavigationStarted = refl
event_at DomContentLoaded = refl
event_at Load = refl
event_at RealmCreated = refl
event_at RealmDestroyed = refl
event_at EntryAdded = refl

-- two events at one place are one
pub same_event : (e f : EventName) → (event_place e == event_place f) ≡ true → e ≡ f
same_event e f same = sym (event_at e) ∙ (ap (λ n. get_or all_events n ContextCreated) (eqb-true (event_place e) (event_place f) same) ∙ event_at f)

-- each is among the eight
pub is_among-all : (e : EventName) → is_among all_events e ≡ true
is_among-all ContextCreated = refl
is_among-all ContextDestroyed = refl
is_among-all NavigationStarted = refl
is_among-all DomContentLoaded = refl
is_among-all Load = refl
is_among-all RealmCreated = refl
is_among-all RealmDestroyed = refl
is_among-all EntryAdded = refl

-- an event passes that is among these, so one of these does
pub some_passes : (p : EventName → Bool) (es : List EventName) (e : EventName) → is_among es e ≡ true → p e ≡ true → list_any p es ≡ true
some_passes p [] e here passes = cc
some_passes p (f ∷ es) e here passes = let ih = some_passes p es e in let same = same_event f e in grind (arith, nat_tests, ih, same)

-- one of these passes, so one of those does that all that pass are among
pub some_found : (p : EventName → Bool) (es fs : List EventName)
    → ((e : EventName) → p e ≡ true → is_among fs e ≡ true) → list_any p es ≡ true → list_any p fs ≡ true
some_found p [] fs found some = cc
some_found p (e ∷ es) fs found some =
    let ih = some_found p es fs found in
    let at = found e in
    let one = some_passes p fs e in
    grind (arith, nat_tests, ih, at, one)

-- where all that pass are among these, one of the eight passes where one of these does
pub any_event : (p : EventName → Bool) (es : List EventName) → ((e : EventName) → p e ≡ true → is_among es e ≡ true) → list_any p all_events ≡ list_any p es
any_event p es found =
    same_from_decides (list_any p all_events) (list_any p es)
    (some_found p all_events es found, some_found p es all_events (λ e passes. is_among-all e)) (λ some. some, λ some. some)

-- an event is among those that pass where it is one of them and passes
pub is_among-filter : (p : EventName → Bool) (es : List EventName) (e : EventName) → is_among (filter p es) e ≡ (is_among es e && p e)
is_among-filter p [] e = refl
is_among-filter p (f ∷ es) e = let ih = is_among-filter p es e in let same = same_event f e in grind (arith, nat_tests, ih, same)

-- events that are all among others
pub filter-is_among : (es fs : List EventName) → ((e : EventName) → is_among es e ≡ true → is_among fs e ≡ true) → filter (is_among fs) es ≡ es
filter-is_among [] fs within = refl
filter-is_among (e ∷ es) fs within =
    let ih = filter-is_among es fs (λ f here. within f (grind (arith, nat_tests))) in
    let at = within e in
    grind (arith, nat_tests, ih, at)
