use Rattle.std.proofs.Common.{sym, subst, rules, tests, ◌≡◌, true, false}
use Rattle.std.specs.Prelude.{◌==◌}
use Rattle.bidi_remote.specs.Machine.Sent.{Text, text_on}
use Rattle.bidi_serve.specs.Serving.{AreQueued}
use Rattle.bidi_serve.proofs.ServingLemmas.{queued-here, queued-apart}
use Rattle.bidi_serve.proofs.serving.queue_text.Goals as goal

pub returns-then-conn-to : goal.returns-then-conn-to
returns-then-conn-to g c =
    let here : (c.args.conn.value == c.args.to.value) ≡ true = search (rules, tests, c.if-conn-to.true) in
    subst (AreQueued g.S.Write.contents c.args.link.now (text_on c.args.conn.value (Text c.args.to.value c.args.text.now)) c.queue.new.self)
    (sym c.is_ok.ensures.value)
    (queued-here g.S.Write.contents c.args.link.now c.queue.new.self c.args.conn.value c.args.to.value c.args.text.now c.queue.result here c.queue.ensures)

pub returns-else-conn-to : goal.returns-else-conn-to
returns-else-conn-to g c =
    let apart : (c.args.conn.value == c.args.to.value) ≡ false = search (rules, tests, c.if-conn-to.false) in
    queued-apart g.S.Write.contents c.args.link.now c.args.conn.value c.args.to.value c.args.text.now apart
