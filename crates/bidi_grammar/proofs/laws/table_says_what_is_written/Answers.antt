use Rattle.bidi_grammar.proofs.SourceLemmas as source
use Rattle.bidi_grammar.proofs.laws.table_says_what_is_written.Goals as goal

pub returns : goal.returns
returns c = source.same
