use Rattle.std.proofs.Common.{◌≡◌, map, drop, bytes_eq}
use Rattle.std.specs.List.{list_any}
use Rattle.bidi_rows.proofs.looking.is_among.Given as goal

abbrev pub invariant-loop-known : goal.invariant-loop-known
invariant-loop-known l = list_any (bytes_eq l.name) (map (λ n. n.now) l.names) ≡ list_any (bytes_eq l.name) (map (λ n. n.now) (drop l.known-index l.names))
