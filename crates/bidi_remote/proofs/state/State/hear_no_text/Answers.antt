use Rattle.std.proofs.Common.{◌∙◌, None, Err, refl, sym, ap}
use Rattle.bidi_params.specs.declared.error_code.ErrorCode.TheVariants.{InvalidArgument}
use Rattle.bidi_sessions.specs.declared.step.Sent.TheVariants.{Lost}
use Rattle.bidi_remote.specs.Machine.Connections.{is_shut}
use Rattle.bidi_remote.specs.Machine.History.{NotText}
use Rattle.bidi_remote.specs.Machine.Outcome as outcome
use Rattle.bidi_remote.specs.Machine.Outcome.{deeds}
use Rattle.bidi_sessions.specs.ConnectionRows.{attachment_in_hand}
use Rattle.bidi_remote.proofs.ChangeLemmas.{stands, not_shut}
use Rattle.bidi_remote.proofs.TurnLemmas.{no_text-shut, no_text-open}
use Rattle.bidi_remote.proofs.TakeLemmas.{only_takes, refused_takes}
use Rattle.bidi_remote.proofs.state.State.hear_no_text.Goals as goal

pub returns-in-Shut : goal.returns-in-Shut
returns-in-Shut c = λ h a.
    let conn = c.args.conn.value in
    let shut = sym (stands c.args.self.now h conn (attachment_in_hand c.attachment_of.result) a c.attachment_of.ensures) ∙ ap attachment_in_hand c.in-Shut.is in
    only_takes c.only.result (Lost c.args.conn) c.args.self.now h (NotText conn) (Err (outcome.Lost conn)) c.only.ensures
    (no_text-shut (deeds h) conn shut) refl tt a

pub returns-in_default : goal.returns-in_default
returns-in_default c = λ h a.
    let conn = c.args.conn.value in
    let opened = ap is_shut (sym (stands c.args.self.now h conn (attachment_in_hand c.attachment_of.result) a c.attachment_of.ensures))
    ∙ not_shut c.attachment_of.result c.in_default.not-Shut in
    refused_takes c.refuse.result c.args.self.now h (NotText conn) (Err (outcome.Error conn None InvalidArgument)) _ c.refuse.ensures.sent
    c.refuse.ensures.reads_back (no_text-open (deeds h) conn opened) refl a
