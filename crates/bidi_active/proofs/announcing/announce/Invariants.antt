use Rattle.std.proofs.Common.{◌≡◌, List, map, deque_len, deque_capacity}
use Rattle.bidi_methods.specs.declared.event_data.EventName.TheVariants.{EntryAdded}
use Rattle.bidi_contexts.specs.Acts.{Act}
use Rattle.bidi_browser.specs.Stands.{StandsFor}
use Rattle.bidi_active.specs.Written.{place_row}
use Rattle.bidi_active.specs.Places.{left}
use Rattle.bidi_sessions.specs.SubscriptionView.{scope_of}
use Rattle.bidi_sessions.specs.SubscriptionsView.{rows_of}
use Rattle.bidi_active.specs.News.{is_new}
use Rattle.bidi_sessions.proofs.BeginLemmas.{over}
use Rattle.bidi_active.proofs.announcing.announce.Given as goal

-- the entries that are announced have left the places that were looked at
abbrev pub invariant-loop-at : goal.invariant-loop-at
invariant-loop-at l =
    (deque_len l.places ≡ deque_len l.fn.places) × (deque_capacity l.places ≡ deque_capacity l.fn.places)
    × ((past : List Act) → StandsFor l.browser past
    → map place_row l.places.items
    ≡ over (left (is_new past (rows_of l.held) l.events (scope_of l.scope) EntryAdded)) l.at (map place_row l.fn.places.items))
