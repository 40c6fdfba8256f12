use Rattle.std.proofs.Common.{◌∙◌, ap}
use Rattle.bidi_active.specs.SessionRows.{lost}
use Rattle.bidi_active.specs.SessionView.{session_row_of}
use Rattle.bidi_active.proofs.RowLemmas.{session-changed, none-changed}
use Rattle.bidi_sessions.proofs.ListLemmas.{no_value}
use Rattle.bidi_active.proofs.sessions.Sessions.dismiss.Goals as goal

pub returns-in-Some-clause-rows : goal.returns-in-Some-clause-rows
returns-in-Some-clause-rows c =
    let f = lost c.args.events.now in
    session-changed c.args.number c.in-Some.place c.args.self.now.active.items c.deref.result.now
    c.place_of.result c.deref.ensures.value c.place_of.ensures f c.dismiss.new.self c.index_mut.result.now c.in-Some.is
    (c.dismiss.ensures ∙ ap (λ x. f (session_row_of x)) c.index_mut.ensures.value)

pub returns-in_default-clause-rows : goal.returns-in_default-clause-rows
returns-in_default-clause-rows c =
    none-changed c.args.number 0 c.args.self.now.active.items c.deref.result.now c.place_of.result c.deref.ensures.value c.place_of.ensures
    (lost c.args.events.now) (no_value c.place_of.result c.in_default.not-Some)
