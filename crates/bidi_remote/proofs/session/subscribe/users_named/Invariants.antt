use Rattle.std.proofs.Common.{◌≡◌, List, map, drop, string_bytes}
use Rattle.bidi_contexts.specs.Acts.{Act}
use Rattle.bidi_browser.specs.Stands.{StandsFor}
use Rattle.bidi_remote.specs.Machine.Outcome.{users_named}
use Rattle.bidi_sessions.specs.Checked.{behind}
use Rattle.bidi_remote.proofs.session.subscribe.users_named.Given as goal

-- the user contexts of the ids that are left come behind those of the others
abbrev pub invariant-loop-id : goal.invariant-loop-id
invariant-loop-id l =
    (past : List Act) → StandsFor l.browser past
    → users_named past (map string_bytes l.ids) ≡ behind l.users.items (users_named past (map string_bytes (drop l.id-index l.ids)))
