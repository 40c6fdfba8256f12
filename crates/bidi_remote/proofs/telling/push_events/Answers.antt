use Rattle.std.proofs.Common.{◌∙◌, ◌++◌, ◌+◌, append_assoc, append-nil, map, drop, sym, ap, subst, arith}
use Rattle.std.specs.Prelude.{flat_map}
use Rattle.std.specs.List.{AllByRecursion}
use Rattle.std.proofs.lemmas.List.{drop_all}
use Rattle.bidi_methods.specs.contracts.event_data.EventDataPayloadEventName.TheImpl.{ghosts}
use Rattle.bidi_contexts.specs.View.{occurrence_of, seen}
use Rattle.bidi_sessions.specs.ConnectionRows.{rows_in}
use Rattle.bidi_remote.specs.State.Routes.{to_all}
use Rattle.bidi_active.specs.SessionView as sessions
use Rattle.bidi_sessions.specs.View.{sent_of}
use Rattle.bidi_sessions.proofs.ListLemmas.{from-item}
use Rattle.bidi_remote.proofs.telling.push_events.Goals as goal

pub push_event-requires : goal.push_event-requires
push_event-requires c =
    (subst (AllByRecursion (λ o. ghosts.payload.well o.event)) (from-item c.args.occurrences.now c.loop-occurrence.occurrence-index
    c.occurrence-item.result (omega arith) c.occurrence-item.is) c.loop-occurrence.invariant.0).0

pub loop-occurrence-preserved : goal.loop-occurrence-preserved
loop-occurrence-preserved c =
    let all = c.args.occurrences.now in
    let i = c.loop-occurrence.occurrence-index in
    let x = c.occurrence-item.result in
    let rows = rows_in c.args.state.now.connections in
    let table = sessions.rows_in c.args.state.now.sessions in
    let sent = map sent_of c.loop-occurrence.sent.items in
    let rest = flat_map (to_all table rows) (seen (drop (i + 1) all)) in
    let is = from-item all i x (omega arith) c.occurrence-item.is in (
      (subst (AllByRecursion (λ o. ghosts.payload.well o.event)) is c.loop-occurrence.invariant.0).1,
      c.loop-occurrence.invariant.1
          ∙ (ap (λ left. sent ++ flat_map (to_all table rows) (seen left)) is
          ∙ (sym (append_assoc sent (to_all table rows (occurrence_of x)) rest)
          ∙ (ap (λ t. (sent ++ to_all t rows (occurrence_of x)) ++ rest) (sym c.all.ensures)
          ∙ ap (λ zs. zs ++ rest) (sym c.in_ok-push_event.ensures.sent)))),
      λ before. c.in_ok-push_event.ensures.reads_back (c.loop-occurrence.invariant.2 before),
    )

pub returns-clause-sent : goal.returns-clause-sent
returns-clause-sent c =
    sym (c.loop-occurrence.invariant.1
    ∙ (ap (λ left. map sent_of c.loop-occurrence.sent.items
    ++ flat_map (to_all (sessions.rows_in c.args.state.now.sessions) (rows_in c.args.state.now.connections)) (seen left))
    (drop_all c.loop-occurrence.occurrence-index c.args.occurrences.now c.loop-occurrence-test.false)
    ∙ append-nil (map sent_of c.loop-occurrence.sent.items)))

pub returns-clause-reads_back : goal.returns-clause-reads_back
returns-clause-reads_back c = c.loop-occurrence.invariant.2
