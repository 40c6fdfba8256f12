use Rattle.bidi_command_line.proofs.grammar.with_reduce.Goals as goal

pub returns : goal.returns
returns c = c.joined.ensures _ _ c.with_pair.ensures c.reduce_command.ensures.app c.reduce_command.ensures.local
