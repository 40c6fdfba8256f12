use Rattle.std.proofs.Common.{◌≡◌, map, drop, bytes_eq, string_bytes}
use Rattle.std.specs.List.{list_any}
use Rattle.bidi_grammar.proofs.wanting.is_told.Given as goal

abbrev pub invariant-loop-known : goal.invariant-loop-known
invariant-loop-known l = list_any (bytes_eq l.words) (map string_bytes l.told) ≡ list_any (bytes_eq l.words) (map string_bytes (drop l.known-index l.told))
