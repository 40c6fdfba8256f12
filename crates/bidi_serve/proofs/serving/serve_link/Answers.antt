use Rattle.std.proofs.Common.{◌∙◌, ◌∷◌, not, sym, ap}
use Rattle.bidi_remote.specs.Machine.History.{Open}
use Rattle.bidi_serve.specs.Serving.{denied, dropped, nothing, opened, served}
use Rattle.bidi_serve.proofs.ServingLemmas.{by_fault, fails, on_ok}
use Rattle.bidi_serve.proofs.serving.serve_link.Goals as goal

pub returns-then-made-clause-ok : goal.returns-then-made-clause-ok
returns-then-made-clause-ok g c = λ h stands.
    let l = c.args.conn.value in
    let made = c.in_ok-made.ensures.ok h stands in
    on_ok c.serve_open.result (c.serve_open.ensures.ok (Open l c.args.resource.now ∷ h) made.1)
    (λ x. (dropped x.0 l, x.1, served c.args.link.now c.serve_open.new.link h x.0 (sym made.0 ∙ ap not c.if-made.true) x.2))

pub returns-else-made-clause-ok : goal.returns-else-made-clause-ok
returns-else-made-clause-ok g c = λ h stands.
    let l = c.args.conn.value in
    let made = c.in_ok-made.ensures.ok h stands in (
      Open l c.args.resource.now ∷ h,
      made.1,
      denied c.args.link.now c.close.new.self h (sym made.0 ∙ ap not c.if-made.false) (c.close.result, c.close.ensures),
    )

pub returns-then-made-clause-err : goal.returns-then-made-clause-err
returns-then-made-clause-err g c = λ h stands.
    let made = c.in_ok-made.ensures.ok h stands in
    fails c.serve_open.result (c.serve_open.ensures.err (Open c.args.conn.value c.args.resource.now ∷ h) made.1)
    (λ fault some. (some.0, some.1, opened some.0 some.2))

pub returns-in_err-made-clause-err : goal.returns-in_err-made-clause-err
returns-in_err-made-clause-err g c = λ h stands.
    by_fault c.from_residual.result c.in_err-made.field-0.0 _ c.from_residual.ensures (h, c.in_err-made.ensures.err h stands, nothing)
