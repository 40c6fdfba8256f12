use Rattle.std.proofs.Common.{◌<◌, ℕ}
use Rattle.bidi_grammar.specs.Source.{Comes}
use Rattle.bidi_grammar.specs.Term.{term_at}
use Rattle.bidi_grammar.specs.View.{table}
use Rattle.bidi_loader.specs.Meaning.{rules_of}
use Rattle.bidi_loader.specs.Readings.{IsReading, source_at}
use Rattle.bidi_loader.proofs.testing.is_made.Given as goal

abbrev pub invariant-places : goal.invariant-places
invariant-places l = IsReading l.written l.reading → (k : ℕ) → k < l.n
    → Comes (rules_of l.written) (table l.terms) (source_at l.written l.reading l.origins) (term_at (table l.terms) k) (source_at l.written l.reading l.origins k)
