-- Events that are taken from a row.
use Rattle.std.proofs.Common.{◌≡◌, true, false, not, List, refl, ap}
use Rattle.std.specs.Prelude.{filter}
use Rattle.bidi_methods.specs.declared.event_data.EventName.{EventName}
use Rattle.bidi_contexts.specs.Occurrences.{is_among}
use Rattle.bidi_sessions.specs.Scope.{is_global}
use Rattle.bidi_sessions.specs.SubscriptionRows.{SubscriptionRow, stripped}

pub stripped-global : (es : List EventName) (r : SubscriptionRow) (left : List EventName)
    → is_global r.scope ≡ true → left ≡ filter (λ e. not (is_among es e)) r.events
    → record r { events = left } ≡ stripped es r
stripped-global es r left global is = rw global (ap (λ events. record r { events = events }) is)

pub stripped-other : (es : List EventName) (r : SubscriptionRow) → is_global r.scope ≡ false → stripped es r ≡ r
stripped-other es r scoped = rw scoped refl
