use Rattle.std.proofs.Common.{◌≡◌, drop, map, bytes_eq}
use Rattle.std.specs.List.{list_any}
use Rattle.bidi_grammar.specs.Term.{names_of}
use Rattle.bidi_grammar.specs.View.{row_of}
use Rattle.bidi_grammar.proofs.judging.is_named.Given as goal

abbrev pub invariant-loop-row : goal.invariant-loop-row
invariant-loop-row l = list_any (bytes_eq l.name) (names_of (map row_of l.rows)) ≡ list_any (bytes_eq l.name) (names_of (map row_of (drop l.row-index l.rows)))
