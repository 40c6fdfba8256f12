use Rattle.std.proofs.Common.{◌∙◌, ap, sym}
use Rattle.bidi_messages.specs.View.{verdict_of}
use Rattle.bidi_messages.specs.contracts.command.CommandShape.TheImpl.{ghosts}
use Rattle.bidi_show.specs.MessageLines.{verdict_shown}
use Rattle.bidi_show.proofs.MessageLineLemmas.{accepted_shown}
use Rattle.bidi_show.proofs.message_lines.show_verdict.Goals as goal

pub returns-in_ok-accepted_line-in-Accepted : goal.returns-in_ok-accepted_line-in-Accepted
returns-in_ok-accepted_line-in-Accepted c =
    accepted_shown c.in-Accepted.command _ c.in_ok-accepted_line-in-Accepted.ensures
    ∙ ap (λ v. verdict_shown (verdict_of ghosts.shape v)) (sym c.in-Accepted.is)
