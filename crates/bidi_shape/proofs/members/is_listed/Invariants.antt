use Rattle.std.proofs.Common.{◌≡◌, map, drop, bytes_eq}
use Rattle.std.specs.List.{list_any}
use Rattle.bidi_shape.proofs.members.is_listed.Given as goal

abbrev pub invariant-loop-known : goal.invariant-loop-known
invariant-loop-known l = list_any (bytes_eq l.name) (map (λ s. s.now) l.names) ≡ list_any (bytes_eq l.name) (map (λ s. s.now) (drop l.known-index l.names))
