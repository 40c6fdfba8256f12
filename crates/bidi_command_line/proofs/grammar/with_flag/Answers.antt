use Rattle.bidi_command_line.proofs.GrammarLemmas.{kept_local}
use Rattle.bidi_command_line.proofs.grammar.with_flag.Goals as goal

pub returns-clause-local : goal.returns-clause-local
returns-clause-local c = kept_local c.arg.result c.args.command c.flag.result c.flag.ensures.local c.arg.ensures
