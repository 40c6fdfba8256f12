use Rattle.std.proofs.Common.{arith}
use Rattle.bidi_serve.proofs.ServingLemmas.{fails, on_ok}
use Rattle.bidi_serve.proofs.serving.serve_open.Goals as goal

pub returns-clause-ok : goal.returns-clause-ok
returns-clause-ok g c = λ h stands.
    let e = c.in_ok-exchanged.ensures.ok h stands in
    on_ok c.drop_connection.result (c.drop_connection.ensures.ok e.0 e.1)
    (λ there. (e.0, there, record { link = c.exchange_all-exchanged.new.link; exchanges = e.2; closes = (c.close.result, c.close.ensures) }))

pub returns-clause-err : goal.returns-clause-err
returns-clause-err g c = λ h stands.
    let e = c.in_ok-exchanged.ensures.ok h stands in
    fails c.drop_connection.result (c.drop_connection.ensures.err e.0 e.1)
    (λ fault refused. (e.0, refused, (c.args.messages, c.exchange_all-exchanged.new.link, omega arith, e.2)))
