use Rattle.std.proofs.Common.{◌∙◌, inl, inr, sym, ap}
use Rattle.bidi_sessions.specs.ConnectionRows.{attachment_in_hand}
use Rattle.bidi_remote.specs.Machine.Asking.{session_in}
use Rattle.bidi_remote.proofs.ChangeLemmas.{stands}
use Rattle.bidi_remote.proofs.state.State.session_of.Goals as goal

pub returns-in-Shut : goal.returns-in-Shut
returns-in-Shut c = λ h a.
    let stand = stands c.args.self.now h c.args.conn.value (attachment_in_hand c.attachment_of.result) a c.attachment_of.ensures in
    elim c.in-Shut.is [
      | inl is ↦ ap session_in (sym (ap attachment_in_hand is) ∙ stand)
      | inr is ↦ ap session_in (sym (ap attachment_in_hand is) ∙ stand)
    ]

pub returns-in-SpeaksFor : goal.returns-in-SpeaksFor
returns-in-SpeaksFor c = λ h a.
    let stand = stands c.args.self.now h c.args.conn.value (attachment_in_hand c.attachment_of.result) a c.attachment_of.ensures in
    ap session_in (sym (ap attachment_in_hand c.in-SpeaksFor.is) ∙ stand)
