use Rattle.std.proofs.Common.{◌∙◌, sym, ap}
use Rattle.std.specs.Prelude.{not}
use Rattle.bidi_remote.specs.Machine.Connections.{is_shut}
use Rattle.bidi_sessions.specs.ConnectionRows.{attachment_in_hand}
use Rattle.bidi_remote.proofs.ChangeLemmas.{stands, not_shut}
use Rattle.bidi_remote.proofs.state.State.is_open.Goals as goal

pub returns-in-Shut : goal.returns-in-Shut
returns-in-Shut c = λ h a.
    let stand = stands c.args.self.now h c.args.conn.value (attachment_in_hand c.attachment_of.result) a c.attachment_of.ensures in
    ap (λ s. not (is_shut s)) (sym (ap attachment_in_hand c.in-Shut.is) ∙ stand)

pub returns-in_default : goal.returns-in_default
returns-in_default c = λ h a.
    let stand = stands c.args.self.now h c.args.conn.value (attachment_in_hand c.attachment_of.result) a c.attachment_of.ensures in
    sym (ap not (ap is_shut (sym stand) ∙ not_shut c.attachment_of.result c.in_default.not-Shut))
