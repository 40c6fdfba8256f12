use Rattle.std.proofs.Common.{true, sym, subst}
use Rattle.bidi_serve.specs.Serving.{AreQueued, all}
use Rattle.bidi_serve.proofs.ServingLemmas.{no-text}
use Rattle.bidi_serve.proofs.serving.queue_one.Goals as goal

pub returns-in_default : goal.returns-in_default
returns-in_default g c =
    subst (λ xs. AreQueued g.S.Write.contents c.args.link.now xs c.args.link.now true)
    (sym (no-text c.args.conn.value c.args.one c.in_default.not-Text)) (all c.args.link.now)
