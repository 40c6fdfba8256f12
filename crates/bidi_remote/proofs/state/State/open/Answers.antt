use Rattle.std.proofs.Common.{◌∙◌, map, option_map, Some, Ok, refl, sym, ap}
use Rattle.bidi_sessions.specs.declared.step.Sent.TheVariants.{Opened}
use Rattle.bidi_remote.specs.Machine.Connections.{is_shut, attachment_of}
use Rattle.bidi_remote.specs.Machine.History as history
use Rattle.bidi_remote.specs.Machine.Outcome.{deeds}
use Rattle.bidi_remote.specs.State.ConnectionRows.{opening_by}
use Rattle.bidi_active.specs.SessionView.{opened_by}
use Rattle.bidi_sessions.specs.View.{sent_of}
use Rattle.bidi_remote.proofs.ChangeLemmas.{agree-opened}
use Rattle.bidi_remote.proofs.TakeLemmas.{takes, one_reads, opened-shut}
use Rattle.bidi_remote.proofs.state.State.open.Goals as goal

pub returns-in_ok-open-in-Some-clause-ok : goal.returns-in_ok-open-in-Some-clause-ok
returns-in_ok-open-in-Some-clause-ok c = λ h a.
    let past = deeds h in
    let conn = c.args.conn.value in
    let s = c.session.result in
    let d = history.Opened conn s in
    let is = sym (c.opening_for.ensures h a) ∙ (ap (λ o. opening_by conn (option_map opened_by o)) c.in-Some.is ∙ ap (λ o. opening_by conn (Some o)) (sym c.session.ensures)) in
    let shut = opened-shut past conn c.args.resource.now d (is_shut (attachment_of past conn)) refl is in
    takes (record c.args.self.now { connections = c.open.new.self }) h (history.Open conn c.args.resource.now) (Ok d)
    (map sent_of c.in_ok-sent-in-Some.sent.items) is
    (ap (map sent_of) c.in_ok-sent-in-Some.ensures) (one_reads c.in_ok-sent-in-Some.sent.items (Opened c.args.conn) c.in_ok-sent-in-Some.ensures tt)
    (agree-opened c.args.self.now past conn s c.open.new.self a shut c.in_ok-open-in-Some.ensures.ok)
