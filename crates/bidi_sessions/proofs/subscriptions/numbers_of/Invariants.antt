use Rattle.std.proofs.Common.{◌≡◌, map, drop, string_bytes}
use Rattle.bidi_sessions.specs.SubscriptionView.{row_of}
use Rattle.bidi_sessions.specs.SubscriptionRows.{numbers_named}
use Rattle.bidi_sessions.specs.Checked.{behind}
use Rattle.bidi_sessions.proofs.subscriptions.numbers_of.Given as goal

-- the numbers of the ids that are left come behind those of the others
abbrev pub invariant-loop-id : goal.invariant-loop-id
invariant-loop-id l =
    let rows = map row_of l.subscriptions in
    numbers_named l.session rows (map string_bytes l.ids) ≡ behind l.numbers.items (numbers_named l.session rows (map string_bytes (drop l.id-index l.ids)))
