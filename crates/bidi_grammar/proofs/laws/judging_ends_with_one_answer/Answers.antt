use Rattle.bidi_grammar.proofs.OneAnswerLemmas.{one}
use Rattle.bidi_grammar.proofs.laws.judging_ends_with_one_answer.Goals as goal

pub returns : goal.returns
returns c = λ g looks t n τ a b p q. one p q
