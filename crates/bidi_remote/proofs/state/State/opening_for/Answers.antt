use Rattle.std.proofs.Common.{◌∙◌, option_map, sym, ap}
use Rattle.bidi_remote.specs.Machine.Connections.{is_shut}
use Rattle.bidi_remote.specs.Machine.Outcome.{deeds}
use Rattle.bidi_sessions.specs.ConnectionRows.{attachment_in_hand}
use Rattle.bidi_active.specs.SessionView.{opened_by}
use Rattle.bidi_remote.proofs.ChangeLemmas.{stands, not_shut, opens, opens-full, opens-open}
use Rattle.bidi_remote.proofs.state.State.opening_for.Goals as goal

pub returns-then-not-has_room : goal.returns-then-not-has_room
returns-then-not-has_room c =
    λ h a. opens-full c.args.self.now (deeds h) c.args.conn.value c.args.resource.now c.has_room.result a c.has_room.ensures c.if-not-has_room.true

pub returns-else-not-has_room : goal.returns-else-not-has_room
returns-else-not-has_room c = λ h a.
    let conn = c.args.conn.value in
    let shut = sym (stands c.args.self.now h conn (attachment_in_hand c.attachment_of.result) a c.attachment_of.ensures) ∙ ap attachment_in_hand c.in-Shut.is in
    opens c.args.self.now (deeds h) conn c.args.resource.now (option_map opened_by c.opening_of.result) c.has_room.result a shut c.has_room.ensures c.if-not-has_room.false c.opening_of.ensures

pub returns-in_default : goal.returns-in_default
returns-in_default c = λ h a.
    let conn = c.args.conn.value in
    let stand = stands c.args.self.now h conn (attachment_in_hand c.attachment_of.result) a c.attachment_of.ensures in
    opens-open (deeds h) conn c.args.resource.now (ap is_shut (sym stand) ∙ not_shut c.attachment_of.result c.in_default.not-Shut)
