use Rattle.std.proofs.Common.{◌∙◌, map, Ok, Err, refl, sym, ap}
use Rattle.bidi_sessions.specs.declared.step.Sent.TheVariants.{Lost}
use Rattle.bidi_remote.specs.Machine.Connections.{is_shut}
use Rattle.bidi_remote.specs.Machine.History.{Drop, Dropped}
use Rattle.bidi_remote.specs.Machine.Outcome as outcome
use Rattle.bidi_remote.specs.Machine.Outcome.{deeds}
use Rattle.bidi_sessions.specs.ConnectionRows.{attachment_in_hand}
use Rattle.bidi_sessions.specs.View.{sent_of}
use Rattle.bidi_remote.proofs.ChangeLemmas.{stands, not_shut, agree-dropped}
use Rattle.bidi_remote.proofs.TurnLemmas.{drop-shut, drop-open}
use Rattle.bidi_remote.proofs.TakeLemmas.{takes, only_takes, closed_open, nothing}
use Rattle.bidi_remote.proofs.state.State.drop_connection.Goals as goal

pub returns-in-Shut-clause-ok : goal.returns-in-Shut-clause-ok
returns-in-Shut-clause-ok c = λ h a.
    let conn = c.args.conn.value in
    let shut = sym (stands c.args.self.now h conn (attachment_in_hand c.attachment_of.result) a c.attachment_of.ensures) ∙ ap attachment_in_hand c.in-Shut.is in
    only_takes c.only.result (Lost c.args.conn) c.args.self.now h (Drop conn) (Err (outcome.Lost conn)) c.only.ensures (drop-shut (deeds h) conn shut) refl tt a

pub returns-in-Shut-clause-quiet : goal.returns-in-Shut-clause-quiet
returns-in-Shut-clause-quiet c = λ h a is.
    let conn = c.args.conn.value in
    let shut = sym (stands c.args.self.now h conn (attachment_in_hand c.attachment_of.result) a c.attachment_of.ensures) ∙ ap attachment_in_hand c.in-Shut.is in
    absurd (closed_open (deeds h) conn (ap is_shut shut) is)

pub returns-in_default : goal.returns-in_default
returns-in_default c = record {
  ok = λ h a.
      let conn = c.args.conn.value in
      let opened = ap is_shut (sym (stands c.args.self.now h conn (attachment_in_hand c.attachment_of.result) a c.attachment_of.ensures))
      ∙ not_shut c.attachment_of.result c.in_default.not-Shut in
      takes (record c.args.self.now { connections = c.close.new.self }) h (Drop conn) (Ok (Dropped conn)) (map sent_of c.new.result.items)
      (drop-open (deeds h) conn opened)
      (ap (map sent_of) c.new.ensures.items) (nothing c.new.result.items c.new.ensures.items)
      (agree-dropped c.args.self.now (deeds h) conn c.close.new.self a c.close.ensures);
  err = tt;
  quiet = λ h a is. refl;
}
