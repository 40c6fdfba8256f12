use Rattle.bidi_why.proofs.HearingLemmas.{text_marked}
use Rattle.bidi_why.proofs.conversation.text_behind.Goals as goal

pub returns : goal.returns
returns c = text_marked c.args.line.now c.args.mark.now c.strip_prefix.result c.strip_prefix.ensures.cases
