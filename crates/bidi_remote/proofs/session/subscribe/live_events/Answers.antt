use Rattle.std.proofs.Common.{◌≡◌, ◌∙◌, sym, ap, subst, map, rules}
use Rattle.std.specs.Prelude.{filter, IfOk}
use Rattle.std.specs.List.{AllByRecursion}
use Rattle.std.proofs.lemmas.Fn.{filter_same}
use Rattle.bidi_methods.specs.contracts.event_data.EventDataPayloadEventName.TheImpl.{ghosts}
use Rattle.bidi_contexts.specs.View.{occurrence_of, seen}
use Rattle.bidi_remote.specs.State.EventTexts.{written}
use Rattle.bidi_active.specs.Written.{written_in}
use Rattle.bidi_active.specs.News.{is_new}
use Rattle.bidi_sessions.specs.SubscriptionView.{scope_of}
use Rattle.bidi_sessions.specs.SubscriptionsView.{rows_of}
use Rattle.bidi_sessions.proofs.ListLemmas.{map-filter}
use Rattle.bidi_active.proofs.AnnounceLemmas.{nothing-told}
use Rattle.bidi_remote.proofs.DecideLemmas.{all-kept}
use Rattle.bidi_remote.proofs.session.subscribe.live_events.Goals as goal

pub returns-then-not-may_tell_what_exists-clause-ok : goal.returns-then-not-may_tell_what_exists-clause-ok
returns-then-not-may_tell_what_exists-clause-ok c = λ past stands.
    ap written_in c.new.ensures.items ∙ ap (map written) (sym (nothing-told past (rows_of c.args.held.now) c.args.events.now
    (scope_of c.args.scope.now) (sym c.may_tell_what_exists.ensures ∙ c.if-not-may_tell_what_exists.true)))

pub event_texts-requires : goal.event_texts-requires
event_texts-requires c =
    let k = c.retain.ensures.filtered in
    subst (AllByRecursion (λ o. ghosts.payload.well o.event)) (sym (c.deref.ensures.value ∙ k.4))
    (all-kept (λ o. ghosts.payload.well o.event) k.0 c.in_ok-all.all.items c.in_ok-all.ensures.well)

pub returns-clause-ok : goal.returns-clause-ok
returns-clause-ok c = λ past stands.
    let test = is_new past (rows_of c.args.held.now) c.args.events.now (scope_of c.args.scope.now) in
    let left = ap seen (c.deref.ensures.value
    ∙ filter_same _ (λ o. test (occurrence_of o).event o.top) _ (λ x b f' k. search (rules, stands)) _ _ c.retain.ensures.filtered)
    ∙ (map-filter occurrence_of (λ o. test o.event o.top) c.in_ok-all.all.items
    ∙ ap (filter (λ o. test o.event o.top)) (c.in_ok-all.ensures.ok past stands)) in
    subst (λ os. IfOk c.event_texts.result (λ all. written_in all.items ≡ map written os)) left c.event_texts.ensures.written
