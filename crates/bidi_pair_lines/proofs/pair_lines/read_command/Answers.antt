use Rattle.std.proofs.Common.{Err, ap}
use Rattle.bidi_pair_lines.proofs.WordLemmas.{no_tree}
use Rattle.bidi_pair_lines.proofs.pair_lines.read_command.Goals as goal

pub returns-in-Err-NotJson-clause-none : goal.returns-in-Err-NotJson-clause-none
returns-in-Err-NotJson-clause-none c d well says = no_tree c.args.link c.args.method c.args.params.now d (c.in-Err-NotJson.ensures.not_json (ap Err c.in-Err-NotJson.field-0-is)).1 says
