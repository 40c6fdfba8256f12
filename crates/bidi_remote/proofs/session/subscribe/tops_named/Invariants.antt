use Rattle.std.proofs.Common.{◌≡◌, List, map, drop, string_bytes}
use Rattle.bidi_contexts.specs.Acts.{Act}
use Rattle.bidi_browser.specs.Stands.{StandsFor}
use Rattle.bidi_remote.specs.Machine.Outcome.{tops_named}
use Rattle.bidi_sessions.specs.Checked.{behind}
use Rattle.bidi_remote.proofs.session.subscribe.tops_named.Given as goal

-- the top-level contexts of the ids that are left come behind those of the others
abbrev pub invariant-loop-id : goal.invariant-loop-id
invariant-loop-id l =
    (past : List Act) → StandsFor l.browser past
    → tops_named past (map string_bytes l.ids) ≡ behind l.tops.items (tops_named past (map string_bytes (drop l.id-index l.ids)))
