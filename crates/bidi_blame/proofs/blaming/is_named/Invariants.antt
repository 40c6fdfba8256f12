use Rattle.std.proofs.Common.{◌≡◌, drop, bytes_eq}
use Rattle.std.specs.List.{list_any}
use Rattle.bidi_shape.specs.Term.{names_of}
use Rattle.bidi_rules.specs.Grammar.{grammar_rows}
use Rattle.bidi_blame.proofs.blaming.is_named.Given as goal

abbrev pub invariant-loop-row : goal.invariant-loop-row
invariant-loop-row l = list_any (bytes_eq l.name) (names_of (grammar_rows l.rows)) ≡ list_any (bytes_eq l.name) (names_of (grammar_rows (drop l.row-index l.rows)))
