use Rattle.std.proofs.Common.{subst, sym}
use Rattle.bidi_messages.specs.Reading.{IsMessageText}
use Rattle.bidi_messages.specs.contracts.message.MessageShape.TheImpl.{ghosts}
use Rattle.bidi_why.proofs.conversation.Conversation.settle.Goals as goal

pub settle_text-requires-clause-reads : goal.settle_text-requires-clause-reads
settle_text-requires-clause-reads c = subst (IsMessageText ghosts.shape) (sym c.as_str.ensures.value) c.in_ok-text.ensures.reads_back
