use Rattle.bidi_command_line.proofs.grammar.with_play.Goals as goal

pub returns : goal.returns
returns c = c.joined.ensures _ _ c.bare_command.ensures c.play_command.ensures.app c.play_command.ensures.local
