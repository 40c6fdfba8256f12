use Rattle.std.proofs.Common.{◌∙◌, ◌∷◌, Ok, sym, ap, subst, arith}
use Rattle.bidi_remote.specs.declared.turn.Change.TheVariants.{Browse}
use Rattle.bidi_remote.specs.Machine.History.{acts}
use Rattle.bidi_remote.specs.Machine.Connections.{is_shut}
use Rattle.bidi_remote.specs.Machine.Outcome.{deeds}
use Rattle.bidi_remote.specs.Machine.Sessions.{next_session}
use Rattle.bidi_active.specs.SessionView as in_hand
use Rattle.bidi_active.specs.SessionRows.{cancelled, lost, changed}
use Rattle.bidi_sessions.specs.SubscriptionView.{scope_of}
use Rattle.bidi_remote.specs.State.Stands.{AgreeWith}
use Rattle.bidi_remote.specs.State.Turns.{IsMade, deed_of}
use Rattle.bidi_remote.proofs.OpeningLemmas.{IsFairIfDone, turn_fair}
use Rattle.bidi_remote.proofs.SpeakingLemmas.{speaks-active, made-none, few-sessions, few-subscriptions, has-ids}
use Rattle.bidi_remote.proofs.DecideLemmas.{row-active}
use Rattle.bidi_remote.proofs.ChangeLemmas.{agree-told, agree-did, agree-began, agree-ended, agree-subscribed, agree-cancelled, agree-dismissed}
use Rattle.bidi_remote.proofs.SubscriptionLemmas.{cancelled-same}
use Rattle.bidi_remote.proofs.state.State.apply.Goals as goal

pub returns-in-Nothing : goal.returns-in-Nothing
returns-in-Nothing c =
    λ h i act short a is made.
    subst (λ x. AgreeWith (c.args.self.now) (deed_of x act ∷ deeds h)) (sym c.in-Nothing.is) (agree-told c.args.self.now (deeds h) a)

pub returns-in-Begin : goal.returns-in-Begin
returns-in-Begin c = λ h i act short a is made_so.
    let past = deeds h in
    let conn = c.in-Begin.conn.value in
    let alone = subst (IsFairIfDone past) (is ∙ ap (λ x. Ok (deed_of x act)) c.in-Begin.is) (turn_fair past i) in
    let made = a.made in
    let few = few-sessions h in
    subst (λ x. AgreeWith (record c.args.self.now { connections = c.begin.new.self; sessions = c.begin-session.new.self }) (deed_of x act ∷ past))
    (sym c.in-Begin.is)
    (agree-began c.args.self.now past conn c.begin-session.result c.begin.new.self c.begin-session.new.self a (ap is_shut alone)
    (made-none h (next_session past) (omega arith))
    (c.begin-session.ensures.number (omega (arith, made, few, short))) c.begin-session.ensures.made
    (c.begin-session.ensures.rows (subst (λ x. IsMade x (acts past) act) c.in-Begin.is made_so)) c.begin.ensures)

pub returns-in-End : goal.returns-in-End
returns-in-End c = λ h i act short a is made.
    subst (λ x. AgreeWith (record c.args.self.now { connections = c.close_all.new.self; sessions = c.end.new.self }) (deed_of x act ∷ deeds h))
    (sym c.in-End.is)
    (agree-ended c.args.self.now (deeds h) c.in-End.session c.close_all.new.self c.end.new.self a c.close_all.ensures c.end.ensures.rows c.end.ensures.made)

pub returns-in-Subscribe : goal.returns-in-Subscribe
returns-in-Subscribe c = λ h i act short a is made.
    let past = deeds h in
    let s = c.in-Subscribe.session in
    let asker = subst (IsFairIfDone past) (is ∙ ap (λ x. Ok (deed_of x act)) c.in-Subscribe.is) (turn_fair past i) in
    let active = speaks-active h asker.0 s asker.1 in
    let row = ap (λ r. r.made) (row-active c.args.self.now past s a active) in
    let few = few-subscriptions h s in
    subst (λ x. AgreeWith (record c.args.self.now { sessions = c.subscribe.new.self }) (deed_of x act ∷ past)) (sym c.in-Subscribe.is)
    (agree-subscribed c.args.self.now past s c.subscribe.new.self a c.subscribe.ensures.made c.in-Subscribe.events.items
    (scope_of c.in-Subscribe.scope) active (c.subscribe.ensures.rows (acts past) a.browser (omega (arith, row, few, short))))

pub returns-in-Cancel : goal.returns-in-Cancel
returns-in-Cancel c = λ h i act short a is made.
    let s = c.in-Cancel.session in
    subst (λ x. AgreeWith (record c.args.self.now { sessions = c.cancel.new.self }) (deed_of x act ∷ deeds h)) (sym c.in-Cancel.is)
    (agree-cancelled c.args.self.now (deeds h) s c.cancel.new.self a c.cancel.ensures.made c.in-Cancel.numbers.items
    (c.cancel.ensures.rows ∙ (ap (λ ns. changed s (cancelled ns) (in_hand.rows_in c.args.self.now.sessions)) c.deref.ensures.value
    ∙ cancelled-same c.distinct.result.items c.in-Cancel.numbers.items c.distinct.ensures s (in_hand.rows_in c.args.self.now.sessions))))

pub returns-in-Dismiss : goal.returns-in-Dismiss
returns-in-Dismiss c = λ h i act short a is made.
    let s = c.in-Dismiss.session in
    subst (λ x. AgreeWith (record c.args.self.now { sessions = c.dismiss.new.self }) (deed_of x act ∷ deeds h)) (sym c.in-Dismiss.is)
    (agree-dismissed c.args.self.now (deeds h) s c.dismiss.new.self a c.dismiss.ensures.made c.in-Dismiss.events.items
    (c.dismiss.ensures.rows ∙ ap (λ es. changed s (lost es) (in_hand.rows_in c.args.self.now.sessions)) c.deref-in-Dismiss.ensures.value))

pub returns-in-Browse : goal.returns-in-Browse
returns-in-Browse c = λ h i act short a is made.
    let past = deeds h in
    let change = c.in-Browse.change in
    let made_so : IsMade (Browse change) (acts past) act = subst (λ x. IsMade x (acts past) act) c.in-Browse.is made in
    let asked = subst (IsFairIfDone past) (is ∙ ap (λ x. Ok (deed_of x act)) c.in-Browse.is) (turn_fair past i) in
    subst (λ x. AgreeWith (record c.args.self.now { browser = c.apply.new.self }) (deed_of x act ∷ past)) (sym c.in-Browse.is)
    (agree-did c.args.self.now past act c.apply.new.self a made_so.1 (c.apply.ensures (acts past) asked.0 act a.browser (has-ids h short) asked.1 made_so.0))
