use Rattle.bidi_command_line.proofs.grammar.with_serving.Goals as goal

pub returns : goal.returns
returns c = c.joined.ensures _ _ c.with_listings.ensures c.serve_command.ensures.app c.serve_command.ensures.local
