use Rattle.std.proofs.Common.{◌∙◌, true, false, sym, ap}
use Rattle.std.specs.List.{list_all}
use Rattle.bidi_remote.specs.State.Asked.{texts}
use Rattle.bidi_remote.specs.State.SessionRows.{subscription_rows}
use Rattle.bidi_sessions.specs.SubscriptionRows.{any_global}
use Rattle.bidi_remote.proofs.DecideLemmas.{row-active, all-held, dismiss-checked}
use Rattle.bidi_remote.proofs.session.unsubscribe.end_by_events.Goals as goal

pub returns-then-not-all_global-clause-checked : goal.returns-then-not-all_global-clause-checked
returns-then-not-all_global-clause-checked c = λ past a active.
    let s = c.args.session in
    let es = c.in_ok-events.events.items in
    let held = c.all_global.ensures ∙ ap (λ r. list_all (any_global r.subscriptions) c.deref.result.now) (row-active c.args.state.now past s a active) in
    dismiss-checked past s (texts c.args.names.now) es false c.in_ok-events.ensures
    (sym (all-held past s es) ∙ (ap (list_all (any_global (subscription_rows past s))) (sym c.deref.ensures.value)
    ∙ (sym held ∙ c.if-not-all_global.true)))

pub returns-clause-checked : goal.returns-clause-checked
returns-clause-checked c = λ past a active.
    let s = c.args.session in
    let es = c.in_ok-events.events.items in
    let held = c.all_global.ensures ∙ ap (λ r. list_all (any_global r.subscriptions) c.deref.result.now) (row-active c.args.state.now past s a active) in
    dismiss-checked past s (texts c.args.names.now) es true c.in_ok-events.ensures
    (sym (all-held past s es) ∙ (ap (list_all (any_global (subscription_rows past s))) (sym c.deref.ensures.value)
    ∙ (sym held ∙ c.if-not-all_global.false)))
