use Rattle.std.proofs.Common.{rules}
use Rattle.bidi_grammar.proofs.WordLemmas.{one_part, more_parts}
use Rattle.bidi_grammar.proofs.words.count_words.Goals as goal

pub returns-then-count-eq1 : goal.returns-then-count-eq1
returns-then-count-eq1 c = search (rules, one_part)

pub returns-else-count-eq1 : goal.returns-else-count-eq1
returns-else-count-eq1 c = search (rules, more_parts)
