use Rattle.std.proofs.Common.{◌∙◌, ◌++◌, map, flat_map, sym, ap, subst}
use Rattle.bidi_contexts.specs.Acts.{Looked}
use Rattle.bidi_sessions.specs.ConnectionRows.{rows_in}
use Rattle.bidi_active.specs.Written.{written_in}
use Rattle.bidi_remote.specs.Machine.Messages.{AllReadBack}
use Rattle.bidi_remote.specs.State.Routes.{to_all}
use Rattle.bidi_active.specs.SessionView as sessions
use Rattle.bidi_contexts.specs.View.{seen}
use Rattle.bidi_remote.specs.State.Turns.{deed_of, to_subscriber_in, closed_in}
use Rattle.bidi_sessions.specs.View.{sent_of, sent_if}
use Rattle.bidi_remote.proofs.TellLemmas.{in-order, more-read, subscriber-read, closed-read}
use Rattle.bidi_remote.proofs.telling.all_sent.Goals as goal

pub push_events-requires : goal.push_events-requires
push_events-requires c = c.requires.before

pub returns-clause-sent : goal.returns-clause-sent
returns-clause-sent c = λ act.
    let t = c.args.state.now in
    let d = deed_of c.args.change.now act in
    let all = flat_map (to_all (sessions.rows_in t.sessions) (rows_in t.connections)) in
    let first = to_subscriber_in (rows_in t.connections) d (written_in c.args.announced.now) in
    let before = all (seen c.args.before.now) in
    let replied = sent_if c.args.reply in
    let after = all (seen c.args.after.now) in
    let closes = closed_in (rows_in t.connections) d in
    c.in_ok-push_closes.ensures act
    ∙ (ap (λ xs. xs ++ closes)
    (c.in_ok-push_events-2.ensures.sent ∙ ap (λ xs. xs ++ after)
    (c.in_ok-push_if.ensures ∙ ap (λ xs. xs ++ replied)
    (c.in_ok-push_events.ensures.sent ∙ ap (λ xs. xs ++ before)
    (c.in_ok-push_announced.ensures act ∙ ap (λ xs. map sent_of xs ++ first) c.new-sent.ensures.items))))
    ∙ in-order first before replied after closes)

pub returns-clause-reads_back : goal.returns-clause-reads_back
returns-clause-reads_back c = λ announced replied.
    let none = subst AllReadBack (sym (ap (map sent_of) c.new-sent.ensures.items)) tt in
    more-read _ _ (c.in_ok-push_closes.ensures Looked) (closed-read (rows_in c.args.state.now.connections) (deed_of c.args.change.now Looked))
    (c.in_ok-push_events-2.ensures.reads_back
    (more-read _ _ c.in_ok-push_if.ensures replied
    (c.in_ok-push_events.ensures.reads_back
    (more-read _ _ (c.in_ok-push_announced.ensures Looked)
    (subscriber-read (rows_in c.args.state.now.connections) (deed_of c.args.change.now Looked) (written_in c.args.announced.now) announced) none))))
