use Rattle.std.proofs.Common.{◌+◌, ◌*◌, max}
use Rattle.bidi_grammar.proofs.wanting.+alternatives.Given as goal

-- the terms of a choice come earlier in the table
abbrev pub decreases-tell_term : goal.decreases-tell_term
decreases-tell_term l = 2 * l.n + 1

abbrev pub decreases-tell_both : goal.decreases-tell_both
decreases-tell_both l = 2 * max l.first l.second + 2
