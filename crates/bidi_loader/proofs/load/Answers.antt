use Rattle.bidi_loader.proofs.load.Goals as goal

-- what was read, and what the table says of it
pub returns-clause-says : goal.returns-clause-says
returns-clause-says c = (c.in_ok-written.written, (c.in_ok-written.ensures.ok, (c.in_ok-loaded.ensures.rules, c.in_ok-loaded.ensures.says)))
