use Rattle.std.proofs.Common.{◌≡◌, ◌∙◌, map, sym, ap, ap₂, subst}
use Rattle.std.specs.Prelude.{IfOk}
use Rattle.bidi_sessions.specs.ConnectionRows.{rows_in}
use Rattle.bidi_active.specs.Written.{written_in}
use Rattle.bidi_remote.specs.State.EventTexts.{AreMessages}
use Rattle.bidi_active.specs.SessionView as sessions
use Rattle.bidi_contexts.specs.View.{seen}
use Rattle.bidi_remote.specs.State.Turns.{deed_of, reply_in, asker_in}
use Rattle.bidi_sessions.specs.View.{sent_of, sent_if}
use Rattle.bidi_remote.proofs.TellLemmas.{sent_in, sent_in-past}
use Rattle.bidi_remote.proofs.telling.tell.Goals as goal

pub returns-clause-told : goal.returns-clause-told
returns-clause-told c = λ past act a.
    let t = c.args.state.now in
    let told = c.args.telling in
    let change = deed_of c.args.change.now act in
    let replied = sent_if c.in_ok-reply.reply in
    let sent = sent_in (sessions.rows_in t.sessions) (rows_in t.connections) change replied in
    subst (λ xs. IfOk c.all_sent.result (λ sent. map sent_of sent.items ≡ xs))
    (ap (λ es. sent (written_in es) (seen c.deref-2.result.now) (seen c.deref-3.result.now)) c.deref.ensures.value
    ∙ (ap₂ (λ before after. sent (written_in told.announced.items) (seen before) (seen after)) c.deref-2.ensures.value c.deref-3.ensures.value
    ∙ (ap₂ (λ ss cs. sent_in ss cs change replied (written_in told.announced.items) (seen told.before.items) (seen told.after.items)) a.sessions a.connections
    ∙ sent_in-past past change (asker_in told.reply) (written_in told.announced.items) (seen told.before.items) (seen told.after.items)
    (reply_in told.reply) replied (c.in_ok-reply.ensures.reply past)))) (c.all_sent.ensures.sent act)

pub returns-clause-reads_back : goal.returns-clause-reads_back
returns-clause-reads_back c =
    λ announced. c.all_sent.ensures.reads_back (subst (λ es. AreMessages (written_in es)) (sym c.deref.ensures.value) announced)
    c.in_ok-reply.ensures.reads_back
