use Rattle.std.proofs.Common.{true, false, sym, subst, map, arith}
use Rattle.bidi_remote.specs.Machine.Sent.{text_on, texts_on}
use Rattle.bidi_sessions.specs.View.{sent_of}
use Rattle.std.proofs.lemmas.List.{nil_from_length}
use Rattle.bidi_serve.specs.Serving.{AreQueued, all}
use Rattle.bidi_serve.proofs.ServingLemmas.{queued-more, queued-stop}
use Rattle.bidi_serve.proofs.serving.queue_all.Goals as goal

pub returns-then-not-queue_one : goal.returns-then-not-queue_one
returns-then-not-queue_one g c =
    c.texts.invariant c.queue_one.new.link false
    (subst (λ xs. AreQueued g.S.Write.contents c.texts.link (texts_on c.args.conn.value (map sent_of xs)) c.queue_one.new.link false)
    (sym c.in-Some.ensures.steps.0)
    (queued-stop g.S.Write.contents c.texts.link c.queue_one.new.link (text_on c.args.conn.value (sent_of c.in-Some.one))
    (texts_on c.args.conn.value (map sent_of c.next.new.self.rest.items)) c.queue_one.result c.if-not-queue_one.true c.queue_one.ensures))

pub texts-preserved : goal.texts-preserved
texts-preserved g c = λ n w rest.
    c.texts.invariant n w
    (subst (λ xs. AreQueued g.S.Write.contents c.texts.link (texts_on c.args.conn.value (map sent_of xs)) n w) (sym c.in-Some.ensures.steps.0)
    (queued-more g.S.Write.contents c.texts.link c.queue_one.new.link n (text_on c.args.conn.value (sent_of c.in-Some.one))
    (texts_on c.args.conn.value (map sent_of c.next.new.self.rest.items)) c.queue_one.result w c.if-not-queue_one.false c.queue_one.ensures rest))

pub returns : goal.returns
returns g c =
    let none = nil_from_length c.texts.one-iterator.rest.items (omega (arith, c.in-None.ensures.steps.0, c.texts.one-iterator.rest.ok)) in
    c.texts.invariant c.texts.link true
    (subst (λ xs. AreQueued g.S.Write.contents c.texts.link (texts_on c.args.conn.value (map sent_of xs)) c.texts.link true) (sym none) (all c.texts.link))
