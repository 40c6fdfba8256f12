use Rattle.bidi_play.proofs.OneTextLemmas.{the_text}
use Rattle.bidi_run.proofs.running.run.Goals as goal

pub returns-in-Ok-clause-one_text : goal.returns-in-Ok-clause-one_text
returns-in-Ok-clause-one_text g c = the_text

pub returns-in-Err-clause-one_text : goal.returns-in-Err-clause-one_text
returns-in-Err-clause-one_text g c = the_text
