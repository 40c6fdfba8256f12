use Rattle.std.proofs.Common.{sym, subst}
use Rattle.std.specs.Prelude.{string_bytes}
use Rattle.bidi_messages.specs.contracts.message.MessageShape.TheImpl.{ghosts}
use Rattle.bidi_messages.specs.Reading.{IsMessageText}
use Rattle.bidi_remote.proofs.event_texts.event_text_of.Goals as goal

pub returns-clause-reads_back : goal.returns-clause-reads_back
returns-clause-reads_back c =
    subst (λ e. IsMessageText ghosts.shape (string_bytes e.text.value)) (sym c.in_ok-new.ensures.ok)
    (subst (λ t. IsMessageText ghosts.shape (string_bytes t)) (sym c.in_ok-text.ensures.ok) c.in_ok-event_text.ensures.reads_back)
