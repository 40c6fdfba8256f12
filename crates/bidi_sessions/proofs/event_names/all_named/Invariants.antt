use Rattle.std.proofs.Common.{◌≡◌, map, drop, string_bytes}
use Rattle.bidi_sessions.specs.EventNames.{all_named}
use Rattle.bidi_sessions.specs.Checked.{behind}
use Rattle.bidi_sessions.proofs.event_names.all_named.Given as goal

-- the events of the names that are left come behind those of the others
abbrev pub invariant-loop-name : goal.invariant-loop-name
invariant-loop-name l = all_named (map string_bytes l.names) ≡ behind l.events.items (all_named (map string_bytes (drop l.name-index l.names)))
