use Rattle.std.proofs.Common.{◌∙◌, sym, ap, subst}
use Rattle.std.specs.Prelude.{filter}
use Rattle.std.proofs.lemmas.List.{map-append}
use Rattle.bidi_messages.specs.contracts.message.MessageShape.TheImpl.{ghosts}
use Rattle.bidi_methods.specs.declared.event_data.EventName.TheVariants.{EntryAdded}
use Rattle.bidi_messages.specs.Reading.{IsMessageText}
use Rattle.bidi_remote.specs.Machine.History.{acts}
use Rattle.bidi_active.specs.Written.{written_of, written_in}
use Rattle.bidi_remote.specs.State.EventTexts.{AreMessages}
use Rattle.bidi_active.specs.Places.{waiting}
use Rattle.bidi_remote.specs.State.MissedRows.{places}
use Rattle.bidi_active.specs.News.{is_new}
use Rattle.bidi_sessions.specs.SubscriptionView.{scope_of}
use Rattle.bidi_active.specs.SessionView.{session_row_of}
use Rattle.bidi_sessions.proofs.ListLemmas.{all-append}
use Rattle.bidi_remote.proofs.PlaceLemmas.{all-filtered, waiting-messages, waiting-places}
use Rattle.bidi_remote.proofs.DecideLemmas.{new-announced}
use Rattle.bidi_remote.proofs.session.subscribe.newly_enabled.Goals as goal

pub returns : goal.returns
returns c = λ past s a active row.
    let es = c.args.events.now in
    let scope = scope_of c.args.scope.now in
    let own = session_row_of c.args.own.now in
    let held = own.subscriptions in
    let test = is_new (acts past) held es scope in
    let live_events = c.in_ok-all.all.items in
    let kept = c.in_ok-waiting.waiting.items in
    let later = c.in_ok-waiting.ensures (acts past) a.browser ∙ ap (λ r. filter (λ w. test EntryAdded w.top) (waiting r.missed)) row in
    let split = ap written_in c.in_ok-append.ensures.items ∙ map-append (λ e. written_of e.value) live_events kept in
    let messages = all-filtered (λ w. IsMessageText ghosts.shape w.text) (λ w. test EntryAdded w.top) (waiting (places past s))
    (subst AreMessages (sym (waiting-places past s)) (waiting-messages past s (a.entries s))) in (
      split ∙ new-announced past s held es scope (written_in live_events) (written_in kept) active (a.entries s) (ap (λ r. r.subscriptions) row)
          (c.in_ok-all.ensures.ok (acts past) a.browser) later,
      subst AreMessages (sym split) (all-append (λ w. IsMessageText ghosts.shape w.text) (written_in live_events) (written_in kept)
          c.in_ok-all.ensures.reads_back (subst AreMessages (sym later) messages)),
    )
