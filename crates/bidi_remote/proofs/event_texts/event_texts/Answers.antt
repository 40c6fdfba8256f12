use Rattle.std.proofs.Common.{◌∙◌, ◌∷◌, [], ◌++◌, ◌+◌, append_assoc, append-nil, map, drop, sym, ap, subst, arith}
use Rattle.std.specs.List.{AllByRecursion}
use Rattle.std.proofs.lemmas.List.{drop_all, map-append}
use Rattle.bidi_methods.specs.contracts.event_data.EventDataPayloadEventName.TheImpl.{ghosts}
use Rattle.bidi_messages.specs.contracts.message.MessageShape.TheImpl as message
use Rattle.bidi_messages.specs.Reading.{IsMessageText}
use Rattle.bidi_contexts.specs.View.{seen}
use Rattle.bidi_remote.specs.State.EventTexts.{written, AreMessages}
use Rattle.bidi_active.specs.Written.{written_of, written_in}
use Rattle.bidi_sessions.proofs.ListLemmas.{all-append, from-item}
use Rattle.bidi_remote.proofs.event_texts.event_texts.Goals as goal

pub event_text_of-requires : goal.event_text_of-requires
event_text_of-requires c =
    (subst (AllByRecursion (λ o. ghosts.payload.well o.event)) (from-item c.args.occurrences.now c.loop-occurrence.occurrence-index
    c.occurrence-item.result (omega arith) c.occurrence-item.is) c.loop-occurrence.invariant.0).0

pub loop-occurrence-preserved : goal.loop-occurrence-preserved
loop-occurrence-preserved c =
    let occurrences = c.args.occurrences.now in
    let i = c.loop-occurrence.occurrence-index in
    let x = c.occurrence-item.result in
    let done = c.loop-occurrence.all.items in
    let e = c.in_ok-event_text_of.field-0 in
    let rest = map written (seen (drop (i + 1) occurrences)) in
    let is = from-item occurrences i x (omega arith) c.occurrence-item.is in
    let more = ap written_in c.in_ok-push.ensures.items ∙ map-append (λ y. written_of y.value) done (e ∷ []) in (
      (subst (AllByRecursion (λ o. ghosts.payload.well o.event)) is c.loop-occurrence.invariant.0).1,
      c.loop-occurrence.invariant.1
          ∙ (ap (λ left. written_in done ++ map written (seen left)) is
          ∙ (ap (λ y. written_in done ++ y ∷ rest) (sym c.in_ok-event_text_of.ensures.written)
          ∙ (sym (append_assoc (written_in done) (written_of e.value ∷ []) rest) ∙ ap (λ ys. ys ++ rest) (sym more)))),
      subst AreMessages (sym more)
          (all-append (λ y. IsMessageText message.ghosts.shape y.text) (written_in done) (written_of e.value ∷ [])
          c.loop-occurrence.invariant.2 (c.in_ok-event_text_of.ensures.reads_back, tt)),
    )

pub returns-clause-written : goal.returns-clause-written
returns-clause-written c =
    sym (c.loop-occurrence.invariant.1
    ∙ (ap (λ left. written_in c.loop-occurrence.all.items ++ map written (seen left))
    (drop_all c.loop-occurrence.occurrence-index c.args.occurrences.now c.loop-occurrence-test.false)
    ∙ append-nil (written_in c.loop-occurrence.all.items)))

pub returns-clause-reads_back : goal.returns-clause-reads_back
returns-clause-reads_back c = c.loop-occurrence.invariant.2
