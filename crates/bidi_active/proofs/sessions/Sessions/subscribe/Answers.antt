use Rattle.std.proofs.Common.{◌∙◌, Some, arith, ap}
use Rattle.bidi_active.specs.SessionRows.{subscribed}
use Rattle.bidi_active.specs.SessionView.{session_row_of}
use Rattle.bidi_sessions.specs.SubscriptionView.{scope_of}
use Rattle.bidi_active.proofs.RowLemmas.{session-changed, none-changed}
use Rattle.bidi_active.specs.declared.sessions.Session.{Session}
use Rattle.bidi_active.proofs.RowLemmas.{row-at, position-is}
use Rattle.bidi_sessions.proofs.ListLemmas.{no_value}
use Rattle.bidi_active.proofs.sessions.Sessions.subscribe.Goals as goal

pub returns-in-Some-clause-rows : goal.returns-in-Some-clause-rows
returns-in-Some-clause-rows c = λ past stands few.
    let f = subscribed past c.args.events.items (scope_of c.args.scope) in
    let at = position-is c.args.number c.in-Some.place c.args.self.now.active.items c.deref.result.now c.place_of.result
    c.deref.ensures.value c.place_of.ensures (Some c.in-Some.place) c.in-Some.is in
    let made = ap (λ r. r.made) (row-at session_row_of c.args.number c.args.self.now.active.items c.in-Some.place c.index_mut.result.now at) in
    let same = ap (λ (x : Session). x.made) c.index_mut.ensures.value in
    session-changed c.args.number c.in-Some.place c.args.self.now.active.items c.deref.result.now
    c.place_of.result c.deref.ensures.value c.place_of.ensures f c.subscribe.new.self c.index_mut.result.now c.in-Some.is
    (c.subscribe.ensures past stands (omega (arith, few, made, same)) ∙ ap (λ x. f (session_row_of x)) c.index_mut.ensures.value)

pub returns-in_default-clause-rows : goal.returns-in_default-clause-rows
returns-in_default-clause-rows c =
    λ past stands few. none-changed c.args.number 0 c.args.self.now.active.items c.deref.result.now c.place_of.result c.deref.ensures.value
    c.place_of.ensures (subscribed past c.args.events.items (scope_of c.args.scope)) (no_value c.place_of.result c.in_default.not-Some)
