use Rattle.std.proofs.Common.{◌∙◌, refl}
use Rattle.std.specs.Prelude.{Some, None}
use Rattle.bidi_remote.specs.Machine.Outcome.{deeds}
use Rattle.bidi_active.specs.SessionView.{session_row_of, rows_in}
use Rattle.bidi_remote.proofs.AskingLemmas.{row-hears}
use Rattle.bidi_remote.proofs.state.State.hears.Goals as goal

pub returns-in-Some : goal.returns-in-Some
returns-in-Some c = λ h a.
    c.hears.ensures
    ∙ row-hears (deeds h) c.args.session c.args.event c.args.top (rows_in c.args.self.now.sessions) (Some (session_row_of c.in-Some.session.now))
    c.in-Some.ensures a.sessions

pub returns-in-None : goal.returns-in-None
returns-in-None c = λ h a.
    row-hears (deeds h) c.args.session c.args.event c.args.top (rows_in c.args.self.now.sessions) None c.in-None.ensures a.sessions
