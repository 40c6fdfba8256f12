use Rattle.std.proofs.Common.{false, true, ◌∙◌, sym, ap, subst, map}
use Rattle.std.specs.Prelude.{◌&&◌, is_ok}
use Rattle.std.specs.List.{list_any}
use Rattle.bidi_remote.specs.Machine.Sent.{texts_on}
use Rattle.bidi_sessions.specs.View.{sent_of}
use Rattle.bidi_serve.specs.Serving.{AreSent, no_text, is_text_on}
use Rattle.bidi_serve.proofs.ServingLemmas.{no-texts, some-texts, sent-together}
use Rattle.bidi_serve.proofs.serving.send_all.Goals as goal

pub returns-then-not-has_text : goal.returns-then-not-has_text
returns-then-not-has_text g c =
    let l = c.args.conn.value in
    let has = ap (list_any (λ x. is_text_on l (sent_of x))) (sym c.deref.ensures.value) ∙ sym c.has_text.ensures ∙ c.if-not-has_text.true in
    subst (λ ss. AreSent g.S.Write.contents c.args.link.now ss c.args.link.now true) (sym (no-texts l c.args.sent.items has)) (no_text c.args.link.now)

pub returns-then-queued : goal.returns-then-queued
returns-then-queued g c =
    let l = c.args.conn.value in
    let has = ap (list_any (λ x. is_text_on l (sent_of x))) (sym c.deref.ensures.value) ∙ sym c.has_text.ensures ∙ c.if-not-has_text.false in
    let ss = texts_on l (map sent_of c.args.sent.items) in
    subst (AreSent g.S.Write.contents c.args.link.now ss c.flush.new.self) (ap (λ b. b && is_ok c.flush.result) c.if-queued.true ∙ sym c.is_ok-flushed.ensures.value)
    (sent-together g.S.Write.contents c.args.link.now c.queue_all-queued.new.link c.flush.new.self ss c.queue_all-queued.result c.flush.result
    (some-texts l c.args.sent.items has) c.queue_all-queued.ensures c.flush.ensures)

pub returns-else-queued : goal.returns-else-queued
returns-else-queued g c =
    let l = c.args.conn.value in
    let has = ap (list_any (λ x. is_text_on l (sent_of x))) (sym c.deref.ensures.value) ∙ sym c.has_text.ensures ∙ c.if-not-has_text.false in
    let ss = texts_on l (map sent_of c.args.sent.items) in
    subst (AreSent g.S.Write.contents c.args.link.now ss c.flush.new.self) (ap (λ b. b && is_ok c.flush.result) c.if-queued.false ∙ sym c.if-queued.false)
    (sent-together g.S.Write.contents c.args.link.now c.queue_all-queued.new.link c.flush.new.self ss c.queue_all-queued.result c.flush.result
    (some-texts l c.args.sent.items has) c.queue_all-queued.ensures c.flush.ensures)
