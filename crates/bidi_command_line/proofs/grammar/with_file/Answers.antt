use Rattle.bidi_command_line.proofs.GrammarLemmas.{kept_local}
use Rattle.bidi_command_line.proofs.grammar.with_file.Goals as goal

pub returns-clause-local : goal.returns-clause-local
returns-clause-local c = kept_local c.arg.result c.args.command c.file_word.result c.file_word.ensures.local c.arg.ensures
