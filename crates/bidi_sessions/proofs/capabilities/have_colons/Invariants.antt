use Rattle.std.proofs.Common.{◌≡◌, string_bytes}
use Rattle.std.specs.List.{list_all}
use Rattle.bidi_sessions.specs.Capabilities.{has_colon}
use Rattle.bidi_sessions.proofs.capabilities.have_colons.Given as goal

abbrev pub invariant-loop-name : goal.invariant-loop-name
invariant-loop-name l = list_all (λ e. has_colon (string_bytes e.0)) l.ext.members.entries ≡ list_all (λ e. has_colon (string_bytes e.0)) l.name-iterator
