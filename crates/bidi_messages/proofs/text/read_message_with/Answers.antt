use Rattle.std.specs.Prelude.{refl}
use Rattle.bidi_messages.specs.contracts.message.MessageShape.TheImpl.{ghosts}
use Rattle.bidi_messages.proofs.ReadingLemmas.{reads_as, is_read_as}
use Rattle.bidi_messages.proofs.text.read_message_with.Goals as goal

pub returns-in-Ok-clause-again : goal.returns-in-Ok-clause-again
returns-in-Ok-clause-again c =
    reads_as ghosts.shape c.args.text.now _ c.message_of.result refl c.in-Ok.ensures.ok c.message_of.ensures.ok c.message_of.ensures.err

pub returns-in-Ok-clause-sent : goal.returns-in-Ok-clause-sent
returns-in-Ok-clause-sent c = is_read_as ghosts.shape c.args.text.now _ c.message_of.result c.in-Ok.ensures.ok c.message_of.ensures.ok c.message_of.ensures.err
