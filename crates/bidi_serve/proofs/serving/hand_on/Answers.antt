use Rattle.std.proofs.Common.{◌∙◌, ◌∷◌, sym, ap, subst}
use Rattle.std.specs.Prelude.{◌&&◌}
use Rattle.bidi_remote.specs.Machine.Sent.{texts_on}
use Rattle.bidi_serve.specs.Serving.{AreSent, is_served}
use Rattle.bidi_serve.proofs.serving.hand_on.Goals as goal

pub returns-then-whole-clause-ok : goal.returns-then-whole-clause-ok
returns-then-whole-clause-ok g c = λ h stands.
    let ok = c.in_ok-sent.ensures.ok in
    let does = ok.2 h stands in (
      ok.0,
      c.send_all-whole.result,
      ok.1,
      does.1,
      subst (λ xs. AreSent g.S.Write.contents c.args.link.now (texts_on c.args.conn.value xs) c.send_all-whole.new.link c.send_all-whole.result)
          does.0 c.send_all-whole.ensures,
      c.is_open.ensures (ok.0 ∷ h) does.1 ∙ sym (ap (λ b. b && is_served (ok.0 ∷ h) c.args.conn.value) c.if-whole.true),
    )
