use Rattle.std.proofs.Common.{◌≡◌, map, drop, bytes_eq}
use Rattle.bidi_blame.specs.Said.{said_text}
use Rattle.std.specs.List.{list_any}
use Rattle.bidi_blame.proofs.wanting.is_told.Given as goal

abbrev pub invariant-loop-known : goal.invariant-loop-known
invariant-loop-known l =
    list_any (bytes_eq (said_text l.words)) (map said_text l.told) ≡ list_any (bytes_eq (said_text l.words)) (map said_text (drop l.known-index l.told))
