use Rattle.std.proofs.Common.{◌∙◌, sym, ap, rules}
use Rattle.std.specs.Prelude.{filter}
use Rattle.std.proofs.lemmas.Fn.{filter_same}
use Rattle.bidi_methods.specs.declared.event_data.EventName.TheVariants.{EntryAdded}
use Rattle.bidi_active.specs.Written.{Written, written_of, written_in}
use Rattle.bidi_active.specs.Places.{waiting}
use Rattle.bidi_active.specs.News.{is_new}
use Rattle.bidi_active.specs.SessionView.{session_row_of}
use Rattle.bidi_sessions.specs.SubscriptionView.{scope_of}
use Rattle.bidi_active.proofs.AnnounceLemmas.{never-new}
use Rattle.bidi_sessions.proofs.ListLemmas.{map-filter, filter-none}
use Rattle.bidi_remote.proofs.session.subscribe.waiting_entries.Goals as goal

pub returns-then-not-may_be_new : goal.returns-then-not-may_be_new
returns-then-not-may_be_new c = λ past stands.
    let row = session_row_of c.args.own.now in
    let es = c.args.events.now in
    let scope = scope_of c.args.scope.now in
    let never = sym c.may_be_new.ensures ∙ c.if-not-may_be_new.true in
    ap written_in c.new.ensures.items
    ∙ sym (filter-none (λ (w : Written). is_new past row.subscriptions es scope EntryAdded w.top) (waiting row.missed)
    (λ w. never-new past row.subscriptions es scope EntryAdded w.top never))

pub returns : goal.returns
returns c = λ past stands.
    let test = is_new past (session_row_of c.args.own.now).subscriptions c.args.events.now (scope_of c.args.scope.now) EntryAdded in
    ap written_in (filter_same _ (λ e. test e.value.top) _ (λ x b f' k. search (rules, stands)) _ _ c.retain.ensures.filtered)
    ∙ (map-filter (λ e. written_of e.value) (λ w. test w.top) c.in_ok-waiting.waiting.items
    ∙ ap (filter (λ w. test w.top)) c.in_ok-waiting.ensures)
