use Rattle.std.proofs.Common.{◌≡◌, ℕ, ◌<◌, length, true}
use Rattle.bidi_grammar.specs.Term.{term_at}
use Rattle.bidi_grammar.specs.View.{is_grounded, table}
use Rattle.bidi_grammar.proofs.grounded.is_grounded.Given as goal

abbrev pub invariant-terms : goal.invariant-terms
invariant-terms l = (k : ℕ) → k < l.n → is_grounded (length l.terms) k (term_at (table l.terms) k) ≡ true
