use Rattle.std.proofs.Common.{◌∙◌, ap}
use Rattle.bidi_active.specs.SessionView.{session_row_of}
use Rattle.bidi_active.proofs.RowLemmas.{session-changed, changed-id}
use Rattle.bidi_active.proofs.sessions.Sessions.reserve_in.Goals as goal

pub returns-in-Some-clause-rows : goal.returns-in-Some-clause-rows
returns-in-Some-clause-rows c =
    session-changed c.args.number c.in-Some.place c.args.self.now.active.items c.deref.result.now
    c.place_of.result c.deref.ensures.value c.place_of.ensures (λ r. r) c.reserve.new.self c.index_mut.result.now c.in-Some.is
    (c.reserve.ensures.row ∙ ap session_row_of c.index_mut.ensures.value) ∙ changed-id c.args.number _
