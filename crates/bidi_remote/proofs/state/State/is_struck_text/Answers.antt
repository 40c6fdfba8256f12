use Rattle.std.proofs.Common.{◌≡◌, ◌∙◌, sym, ap, not, true, false, Bool}
use Rattle.bidi_messages.specs.contracts.command.CommandShape.TheImpl.{ghosts}
use Rattle.bidi_messages.specs.View.{verdict_of}
use Rattle.bidi_remote.specs.Machine.Outcome.{deeds}
use Rattle.bidi_remote.specs.Strike as strike
use Rattle.bidi_sessions.specs.ConnectionRows.{attachment_in_hand}
use Rattle.bidi_remote.proofs.ChangeLemmas.{stands}
use Rattle.bidi_remote.proofs.StrikeLemmas.{own-kept, other-struck, found-so}
use Rattle.bidi_remote.proofs.state.State.is_struck_text.Goals as goal

pub returns-then-not-is_for_another-clause-struck : goal.returns-then-not-is_for_another-clause-struck
returns-then-not-is_for_another-clause-struck c = λ h v short a judged.
    let conn = c.args.conn.value in
    let attachment = attachment_in_hand c.attachment_of-attachment.result in
    own-kept (deeds h) c.args.session conn v attachment c.is_for_another.result (stands c.args.self.now h conn attachment a c.attachment_of-attachment.ensures)
    c.is_for_another.ensures c.if-not-is_for_another.true

pub returns-clause-struck : goal.returns-clause-struck
returns-clause-struck c = λ h v short a judged.
    let conn = c.args.conn.value in
    let attachment = attachment_in_hand c.attachment_of-attachment.result in
    let is = stands c.args.self.now h conn attachment a c.attachment_of-attachment.ensures in
    found-so c.is_idle.result _ _ (λ x same. other-struck (deeds h) c.args.session conn v attachment c.is_for_another.result x is
    c.is_for_another.ensures c.if-not-is_for_another.false
    (same ∙ ap (strike.is_idle (deeds h) conn) (sym (c.in_ok-verdict.ensures.no_other v judged)))) (c.is_idle.ensures h short a (sym is))
