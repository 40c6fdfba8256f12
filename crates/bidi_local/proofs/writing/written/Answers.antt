use Rattle.bidi_local.proofs.SendingLemmas.{command_well, command_fits}
use Rattle.bidi_local.proofs.writing.written.Goals as goal

pub text_of-requires : goal.text_of-requires
text_of-requires c = command_well c.args.id c.args.«data» c.empty.result c.requires c.empty.ensures

pub returns-clause-fits : goal.returns-clause-fits
returns-clause-fits c = command_fits c.args.id c.args.«data» c.empty.result c.requires c.empty.ensures
