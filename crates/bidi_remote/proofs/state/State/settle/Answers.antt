use Rattle.std.proofs.Common.{◌∙◌, Err, option_map, refl, sym, subst, ap, map, IfOk}
use Rattle.bidi_messages.specs.contracts.command.CommandShape.TheImpl.{ghosts}
use Rattle.bidi_messages.specs.Verdict.{Refused}
use Rattle.bidi_messages.specs.View.{verdict_of, IsWell}
use Rattle.bidi_sessions.specs.declared.step.Sent.TheVariants.{Lost}
use Rattle.bidi_remote.specs.Machine.History.{Heard}
use Rattle.bidi_remote.specs.Machine.Connections.{is_shut}
use Rattle.bidi_remote.specs.Machine.Outcome as outcome
use Rattle.bidi_remote.specs.Machine.Outcome.{deeds}
use Rattle.bidi_sessions.specs.ConnectionRows.{attachment_in_hand}
use Rattle.bidi_remote.specs.State.Stands.{Takes}
use Rattle.bidi_sessions.specs.View.{sent_of}
use Rattle.bidi_remote.proofs.AskLemmas.{tree_of, asks-tree, well-asked}
use Rattle.bidi_remote.proofs.ChangeLemmas.{stands, not_shut}
use Rattle.bidi_remote.proofs.TurnLemmas.{heard-shut, heard-open}
use Rattle.bidi_remote.proofs.TakeLemmas.{only_takes, refused_takes, told-refused, anyway}
use Rattle.std.specs.Prelude.{OnOk}
use Rattle.bidi_messages.proofs.CommandLemmas.{method_in-tree}
use Rattle.bidi_remote.specs.Replies.{IsAnsweredOnce}
use Rattle.bidi_remote.proofs.ReplyLemmas.{not_answered, page_answered}
use Rattle.bidi_remote.proofs.state.State.settle.Goals as goal

pub returns-in-Shut-clause-ok : goal.returns-in-Shut-clause-ok
returns-in-Shut-clause-ok c = λ h short a.
    let conn = c.args.conn.value in
    let v = verdict_of ghosts.shape c.args.verdict.now in
    let shut = sym (stands c.args.self.now h conn (attachment_in_hand c.attachment_of-attachment.result) a c.attachment_of-attachment.ensures)
    ∙ ap attachment_in_hand c.in-Shut.is in
    only_takes c.only.result (Lost c.args.conn) c.args.self.now h (Heard conn v) (Err (outcome.Lost conn)) c.only.ensures
    (heard-shut (deeds h) conn v shut) (sym (told-refused (deeds h) conn v (outcome.Lost conn))) tt a

pub returns-in-Shut-clause-answered : goal.returns-in-Shut-clause-answered
returns-in-Shut-clause-answered c = λ h short a.
    let conn = c.args.conn.value in
    let v = verdict_of ghosts.shape c.args.verdict.now in
    let shut = sym (stands c.args.self.now h conn (attachment_in_hand c.attachment_of-attachment.result) a c.attachment_of-attachment.ensures)
    ∙ ap attachment_in_hand c.in-Shut.is in
    page_answered c.only.result (deeds h) (Heard conn v) (Heard conn v) refl
    (not_answered (deeds h) conn v (outcome.Lost conn) (heard-shut (deeds h) conn v shut))

pub answer-requires : goal.answer-requires
answer-requires c = well-asked _ (subst (IsWell ghosts.shape) c.in-Accepted.is c.requires)

pub returns-in-Accepted : goal.returns-in-Accepted
returns-in-Accepted c = record {
  ok = λ h short a.
      let conn = c.args.conn.value in
      let stand = stands c.args.self.now h conn (attachment_in_hand c.attachment_of-attachment.result) a c.attachment_of-attachment.ensures in
      subst (λ v. IfOk c.answer.result (λ all. Takes c.answer.new.self (map sent_of all.items) h (Heard conn v)))
      (sym (ap (verdict_of ghosts.shape) c.in-Accepted.is))
      (c.answer.ensures.ok h (tree_of c.in-Accepted.command) short a (sym stand) (not_shut c.attachment_of-attachment.result c.in_default.not-Shut)
      (asks-tree c.in-Accepted.command (subst (IsWell ghosts.shape) c.in-Accepted.is c.requires)));
  err = c.answer.ensures.err;
  answered = λ h short a.
      let conn = c.args.conn.value in
      let stand = stands c.args.self.now h conn (attachment_in_hand c.attachment_of-attachment.result) a c.attachment_of-attachment.ensures in
      subst (λ v. OnOk c.answer.result (IsAnsweredOnce (deeds h) (Heard conn v))) (sym (ap (verdict_of ghosts.shape) c.in-Accepted.is))
      (c.answer.ensures.answered h (tree_of c.in-Accepted.command) short a (sym stand) (not_shut c.attachment_of-attachment.result c.in_default.not-Shut)
      (asks-tree c.in-Accepted.command (subst (IsWell ghosts.shape) c.in-Accepted.is c.requires)) (method_in-tree c.in-Accepted.command));
}

pub returns-in-Refused : goal.returns-in-Refused
returns-in-Refused c = record {
  ok = λ h short a.
      let conn = c.args.conn.value in
      let stand = stands c.args.self.now h conn (attachment_in_hand c.attachment_of-attachment.result) a c.attachment_of-attachment.ensures in
      let v = Refused (option_map (λ n. n.value) c.in-Refused.id) c.in-Refused.code in
      let opened = ap is_shut (sym stand) ∙ not_shut c.attachment_of-attachment.result c.in_default.not-Shut in
      subst (λ v. IfOk c.refuse.result (λ all. Takes c.args.self.now (map sent_of all.items) h (Heard conn v)))
      (sym (ap (verdict_of ghosts.shape) c.in-Refused.is))
      (refused_takes c.refuse.result c.args.self.now h (Heard conn v) (Err (outcome.Error conn (option_map (λ n. n.value) c.in-Refused.id) c.in-Refused.code))
      _ c.refuse.ensures.sent c.refuse.ensures.reads_back (heard-open (deeds h) conn v opened) refl a);
  err = anyway c.refuse.result (λ h a. a);
  answered = λ h short a.
      let v = Refused (option_map (λ n. n.value) c.in-Refused.id) c.in-Refused.code in
      page_answered c.refuse.result (deeds h) (Heard c.args.conn.value (verdict_of ghosts.shape c.args.verdict.now))
      (Heard c.args.conn.value v) (ap (λ x. Heard c.args.conn.value (verdict_of ghosts.shape x)) c.in-Refused.is) tt;
}
