use Rattle.bidi_command_line.proofs.grammar.command.Goals as goal

pub returns : goal.returns
returns c = c.joined.ensures _ _ c.with_serving.ensures c.host_command.ensures.app c.host_command.ensures.local
