use Rattle.std.proofs.Common.{Err, subst}
use Rattle.bidi_params.specs.contracts.session.capabilities.NewParametersShape.TheImpl.{ghosts}
use Rattle.bidi_remote.specs.Machine.Outcome.{deeds, outcome}
use Rattle.bidi_remote.specs.State.Asked.{asked_of}
use Rattle.bidi_sessions.specs.ConnectionRows.{attachment_in_hand}
use Rattle.bidi_remote.specs.State.Turns.{Decides}
use Rattle.bidi_remote.proofs.TakeLemmas.{turn_takes, code_takes}
use Rattle.bidi_methods.specs.contracts.command_data.CommandDataPayloadMethod.TheImpl as asked
use Rattle.bidi_remote.proofs.ReplyLemmas.{turn_answered, code_answered}
use Rattle.bidi_remote.proofs.state.State.answer.Goals as goal

pub returns-in-Ok-clause-ok : goal.returns-in-Ok-clause-ok
returns-in-Ok-clause-ok c = λ h t short a stands opened asks.
    turn_takes c.take_turn.result c.take_turn.new.self h c.args.asker t (attachment_in_hand c.args.attachment)
    (asked_of ghosts.shape c.args.asked.now) stands opened asks c.in-Ok.turn (c.in-Ok.ensures.ok h short a stands)
    (λ i act is made messages. c.take_turn.ensures.ok h i act short a is made messages)

pub returns-in-Err-Code-clause-ok : goal.returns-in-Err-Code-clause-ok
returns-in-Err-Code-clause-ok c = λ h t short a stands opened asks.
    code_takes c.refuse.result c.args.self.now h c.args.asker t (attachment_in_hand c.args.attachment) (asked_of ghosts.shape c.args.asked.now)
    stands opened asks c.in-Err-Code.code
    (subst (λ r. Decides (Err r) (deeds h) c.args.asker (asked_of ghosts.shape c.args.asked.now) (outcome (deeds h) c.args.asker.conn.value
    (attachment_in_hand c.args.attachment) (asked_of ghosts.shape c.args.asked.now))) c.in-Err-Code.field-0-is (c.in-Err-Code.ensures.ok h short a stands)) a
    c.refuse.ensures.sent c.refuse.ensures.reads_back

pub returns-in-Ok-clause-answered : goal.returns-in-Ok-clause-answered
returns-in-Ok-clause-answered c = λ h t short a stands opened asks named.
    turn_answered c.take_turn.result h c.args.asker t (attachment_in_hand c.args.attachment) (asked_of ghosts.shape c.args.asked.now) stands
    opened asks (asked.ghosts.payload.kind c.args.asked.now) named
    c.in-Ok.turn (c.in-Ok.ensures.ok h short a stands) c.in-Ok.ensures.well c.in-Ok.ensures.of_method c.take_turn.ensures.reads

pub returns-in-Err-Code-clause-answered : goal.returns-in-Err-Code-clause-answered
returns-in-Err-Code-clause-answered c = λ h t short a stands opened asks named.
    code_answered c.refuse.result h c.args.asker t (attachment_in_hand c.args.attachment) (asked_of ghosts.shape c.args.asked.now) stands opened
    asks (asked.ghosts.payload.kind c.args.asked.now) named c.in-Err-Code.code
    (subst (λ r. Decides (Err r) (deeds h) c.args.asker (asked_of ghosts.shape c.args.asked.now) (outcome (deeds h) c.args.asker.conn.value
    (attachment_in_hand c.args.attachment) (asked_of ghosts.shape c.args.asked.now))) c.in-Err-Code.field-0-is (c.in-Err-Code.ensures.ok h short a stands))
