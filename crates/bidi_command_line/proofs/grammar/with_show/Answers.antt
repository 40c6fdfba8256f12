use Rattle.bidi_command_line.proofs.grammar.with_show.Goals as goal

pub returns : goal.returns
returns c = c.joined.ensures _ _ c.with_reduce.ensures c.show_command.ensures.app c.show_command.ensures.local
