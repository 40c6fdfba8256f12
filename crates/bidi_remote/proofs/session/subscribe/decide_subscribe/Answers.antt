use Rattle.std.proofs.Common.{◌≡◌, ◌∙◌, ℕ, List, true, false, nat_lt, ◌==◌, [], ◌∷◌, map, length, Option, Some, option_map, sym, ap, subst, arith}
use Rattle.std.specs.Prelude.{find}
use Rattle.std.specs.Borrow.{Bor}
use Rattle.std.proofs.lemmas.Bool.Decides.{nat_tests}
use Rattle.bidi_browser.specs.Occurs.{Replies}
use Rattle.bidi_browser.specs.declared.command_result.CommandResult.TheVariants.{Data}
use Rattle.bidi_remote.specs.declared.turn.Change.TheVariants as change
use Rattle.bidi_remote.specs.Machine.History.{Deed, Subscribed, acts}
use Rattle.bidi_remote.specs.Machine.Sessions.{is_active}
use Rattle.bidi_remote.specs.Machine.Subscriptions.{next_subscription}
use Rattle.bidi_remote.specs.Machine.Outcome.{all_named}
use Rattle.bidi_remote.specs.Machine.Sent.{announcements, subscription_tree}
use Rattle.bidi_remote.specs.State.Asked.{texts, subscribe_asked}
use Rattle.bidi_sessions.specs.SubscriptionView.{scope_of}
use Rattle.bidi_remote.specs.State.EventTexts.{written, AreMessages}
use Rattle.bidi_active.specs.Written.{written_in}
use Rattle.bidi_remote.proofs.DecideLemmas.{announced-decides, found-active, held-length, subscribe-checked}
use Rattle.bidi_active.specs.declared.sessions.Session.{Session}
use Rattle.bidi_remote.specs.declared.state.State.{State}
use Rattle.bidi_remote.specs.State.SessionRows.{session_row}
use Rattle.bidi_active.specs.SessionView.{rows_in, session_row_of}
use Rattle.bidi_remote.specs.State.Stands.{AgreeWith}
use Rattle.bidi_sessions.proofs.ListLemmas.{no_value, not-found, some-same}
use Rattle.bidi_remote.proofs.session.subscribe.decide_subscribe.Goals as goal
use Rattle.bidi_sessions.specs.Limits.{most_subscriptions}

pub returns-in_default-clause-ok : goal.returns-in_default-clause-ok
returns-in_default-clause-ok c = λ past a active few.
    let there = c.find.ensures ∙ found-active c.args.state.now past c.args.session a active in
    absurd (not-found (λ x. session_row_of x.now) c.find.result (session_row past c.args.session) (no_value c.find.result c.in_default.not-Some) there)

-- the row of the session that was found
own-row : (state : State) (past : List Deed) (s : ℕ) (found : Option (Bor Session)) (own : Bor Session) → AgreeWith state past → is_active past s ≡ true
    → found ≡ Some own → option_map (λ x. session_row_of x.now) found ≡ find (λ r. r.number == s) (rows_in state.sessions)
    → session_row_of own.now ≡ session_row past s
own-row state past s found own a active is there =
    some-same (session_row_of own.now) (session_row past s) (ap (option_map (λ x. session_row_of x.now)) (sym is) ∙ (there ∙ found-active state past s a active))

pub returns-then-all-ge-MOST_SUBSCRIPTIONS-clause-ok : goal.returns-then-all-ge-MOST_SUBSCRIPTIONS-clause-ok
returns-then-all-ge-MOST_SUBSCRIPTIONS-clause-ok c = λ past a active few.
    let s = c.args.session in
    let held = c.all.result.now in
    let full = c.if-all-ge-MOST_SUBSCRIPTIONS.true in
    let none : nat_lt (length held) most_subscriptions ≡ false = grind (arith, nat_tests, full) in
    let row = own-row c.args.state.now past s c.find.result c.in-Some.own a active c.in-Some.is c.find.ensures in
    subscribe-checked past s (length held) (texts c.args.params.now.events.items.items) (option_map (λ l. texts l.items.items) c.args.params.now.contexts)
    (option_map (λ l. texts l.items.items) c.args.params.now.user_contexts) c.in_ok-events.events.items (scope_of c.in_ok-scope.scope) false
    (ap (λ xs. all_named (texts xs)) (sym c.deref.ensures.value) ∙ c.in_ok-events.ensures) (c.in_ok-scope.ensures (acts past) a.browser)
    (held-length past s held (c.all.ensures ∙ ap (λ r. r.subscriptions) row)) none

pub returns-clause-ok : goal.returns-clause-ok
returns-clause-ok c = λ past a active few.
    let s = c.args.session in
    let es = c.in_ok-events.events in
    let scope = c.in_ok-scope.scope in
    let held = c.all.result.now in
    let less = c.if-all-ge-MOST_SUBSCRIPTIONS.false in
    let room : nat_lt (length held) most_subscriptions ≡ true = grind (arith, nat_tests, less) in
    let row = own-row c.args.state.now past s c.find.result c.in-Some.own a active c.in-Some.is c.find.ensures in
    let rows = c.all.ensures ∙ ap (λ r. r.subscriptions) row in
    let made = ap (λ r. r.made) row in
    let next : c.next_subscription.result ≡ next_subscription past s =
    let n = c.next_subscription.ensures (omega (arith, made, few)) in omega (arith, n, made) in
    let newly = c.in_ok-announced.ensures past s a active row in
    announced-decides c.announced.result past c.args.asker (subscribe_asked c.args.params.now) _ (change.Subscribe s es scope) (Data c.in_ok-result.result) tt
    c.announced.ensures.change c.announced.ensures.before c.announced.ensures.reply c.announced.ensures.after
    (subscribe-checked past s (length held) (texts c.args.params.now.events.items.items)
    (option_map (λ l. texts l.items.items) c.args.params.now.contexts) (option_map (λ l. texts l.items.items) c.args.params.now.user_contexts)
    es.items (scope_of scope) true (ap (λ xs. all_named (texts xs)) (sym c.deref.ensures.value) ∙ c.in_ok-events.ensures)
    (c.in_ok-scope.ensures (acts past) a.browser) (held-length past s held rows) room)
    (ap (λ t. Replies t ∷ []) (c.in_ok-result.ensures.tree ∙ ap (subscription_tree s) next))
    (ap (λ v. written_in v.items) c.announced.ensures.announced
    ∙ (newly.0 ∙ ap (λ events. map written (announcements past (Subscribed s events (scope_of scope)) s)) c.deref-2.ensures.value))
    (subst (λ v. AreMessages (written_in v.items)) (sym c.announced.ensures.announced) newly.1)
