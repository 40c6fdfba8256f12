use Rattle.std.proofs.Common.{◌≡◌, ◌∙◌, ◌+◌, ◌++◌, List, ◌∷◌, [], Global, length, map, refl, sym, ap, subst}
use Rattle.std.specs.Prelude.{MatchOption, option_to_list, replicate, vec_len}
use Rattle.std.specs.declared.rc.Rc.{Rc}
use Rattle.bidi_messages.specs.contracts.message.MessageShape.TheImpl.{ghosts}
use Rattle.bidi_messages.specs.Reading.{IsMessageText}
use Rattle.bidi_contexts.specs.Acts.{Logged}
use Rattle.bidi_contexts.specs.Actions.{Log}
use Rattle.bidi_contexts.specs.Occurrences.{entry_added}
use Rattle.bidi_browser.specs.Plans as planned
use Rattle.bidi_contexts.specs.View.{seen}
use Rattle.bidi_active.specs.declared.event_text.EventText.{EventText}
use Rattle.bidi_remote.specs.Machine.History.{acts, moment}
use Rattle.bidi_remote.specs.Machine.Outcome.{deeds}
use Rattle.bidi_active.specs.Written.{Written, written_of, written_in}
use Rattle.bidi_remote.specs.State.EventTexts.{written, AreMessages}
use Rattle.bidi_active.specs.SessionView as sessions
use Rattle.bidi_sessions.specs.View.{sent_of}
use Rattle.bidi_remote.proofs.BrowseLemmas.{entry-planned, entry_takes, last-written}
use Rattle.bidi_remote.proofs.ChangeLemmas.{agree-kept, agree-logged}
use Rattle.bidi_sessions.proofs.ListLemmas.{no_value}
use Rattle.bidi_remote.proofs.SpeakingLemmas.{has-ids}
use Rattle.bidi_remote.proofs.TakeLemmas.{anyway}
use Rattle.bidi_remote.proofs.state.State.take_entry.Goals as goal

pub returns-in_default-clause-ok : goal.returns-in_default-clause-ok
returns-in_default-clause-ok c = λ h id line level short a plans.
    let past = deeds h in
    let p = entry-planned past id level line c.args.plan plans in
    let entries = c.in_ok-entries.entries in
    let told = c.in_ok-entries.ensures.written
    ∙ (ap (λ os. map written (seen os)) (c.deref.ensures.value ∙ ap (λ v. v.items) c.told_by-told.ensures.told) ∙ ap (map written) p.2) in
    let none = subst (λ o. MatchOption o ((vec_len entries ≡ 0) × (vec_len c.pop.new.self ≡ 0)) (λ y. vec_len c.pop.new.self + 1 ≡ vec_len entries))
    (no_value c.pop.result c.in_default.not-Some) c.pop.ensures.cases in
    absurd (none-told entries.items (sym entries.ok.0 ∙ none.0) told)
  where
    none-told : (es : List (Rc EventText Global)) → length es ≡ 0 → {w : Written} → written_in es ≡ w ∷ [] → ⊥
    none-told [] empty told = cc
    none-told (e ∷ es) empty told = cc

pub returns-in_err-reserve-clause-err : goal.returns-in_err-reserve-clause-err
returns-in_err-reserve-clause-err c =
    anyway c.from_residual-in_err-reserve.result
    (λ h a. agree-kept c.args.self.now (deeds h) c.reserve.new.self a (c.in_err-reserve.ensures.kept (acts (deeds h)) a.browser))

pub returns-clause-ok : goal.returns-clause-ok
returns-clause-ok c = λ h id line level short a plans.
    let past = deeds h in
    let t = c.args.self.now in
    let p = entry-planned past id level line c.args.plan plans in
    let o = entry_added (acts past) (moment past) p.0 level line in
    let entry = c.in-Some.entry in
    let left = c.pop.new.self.items in
    let told = c.in_ok-entries.ensures.written
    ∙ (ap (λ os. map written (seen os)) (c.deref.ensures.value ∙ ap (λ v. v.items) c.told_by-told.ensures.told) ∙ ap (map written) p.2) in
    let parts = c.pop.ensures.items ∙ ap (λ x. left ++ option_to_list x) c.in-Some.is in
    let is : written_of entry.value ≡ written o = last-written left entry (written o) (ap written_in (sym parts) ∙ told) in
    let text : IsMessageText ghosts.shape (written o).text = (subst AreMessages told c.in_ok-entries.ensures.reads_back).0 in
    let shown : written_of c.deref-2.result.now ≡ written o = ap written_of c.deref-2.ensures ∙ is in
    let makes = subst (λ x. planned.Makes x (acts past) (Logged p.0 level line)) (sym c.told_by-told.ensures.change) p.3 in
    let stands = c.apply.ensures (acts past) (Log id level line) (Logged p.0 level line) (c.in_ok-reserve.ensures.kept (acts past) a.browser)
    (has-ids h short) p.1 makes in
    let rows = c.log.ensures.rows (written o) (c.in_ok-copies.ensures ∙ ap (replicate (length (sessions.rows_in t.sessions))) is) in
    entry_takes (record t { browser = c.apply.new.self; sessions = c.log.new.self }) h p.0 id level line (map sent_of c.in_ok-sent.sent.items) p.1
    (c.in_ok-sent.ensures.told past o a refl shown)
    (c.in_ok-sent.ensures.reads_back (subst (λ w. IsMessageText ghosts.shape w.text) (sym shown) text))
    (agree-logged t past p.0 level line c.apply.new.self c.log.new.self (written o) a refl text c.log.ensures.made rows stands)
