use Rattle.bidi_messages.proofs.StraightLemmas.{none-further}
use Rattle.bidi_messages.proofs.plain.is_empty.Goals as goal

pub returns : goal.returns
returns c = none-further c.args.ext.now c.len.result c.len.ensures.len
