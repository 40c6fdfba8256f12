use Rattle.bidi_command_line.proofs.grammar.with_listings.Goals as goal

pub returns : goal.returns
returns c = c.joined.ensures _ _ c.with_show.ensures c.check_command.ensures.app c.check_command.ensures.local
