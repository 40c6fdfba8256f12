use Rattle.std.proofs.Common.{◌∷◌, Ok, subst, sym}
use Rattle.std.specs.Prelude.{string_bytes}
use Rattle.bidi_socket.specs.SocketTaking.{Text, NotText, IsTaken, incoming_seen}
use Rattle.bidi_serve.specs.Serving.{Exchange, control, message, end}
use Rattle.bidi_serve.proofs.ServingLemmas.{gives}
use Rattle.bidi_serve.proofs.serving.exchange.Goals as goal

pub returns-in-Ok-Control-clause-ok : goal.returns-in-Ok-Control-clause-ok
returns-in-Ok-Control-clause-ok g c = λ h stands. (
  h,
  stands,
  control c.args.link.now c.take.new.self h (subst (λ x. IsTaken g.S.Read.remaining g.S.Write.contents c.args.link.now c.take.new.self (Ok (incoming_seen x)))
      c.in-Ok-Control.field-0-is c.in-Ok-Control.ensures.takes),
)

pub returns-in-Ok-Closed-clause-ok : goal.returns-in-Ok-Closed-clause-ok
returns-in-Ok-Closed-clause-ok g c = λ h stands. (
  h,
  stands,
  end c.args.link.now c.take.new.self h _ (subst (λ x. IsTaken g.S.Read.remaining g.S.Write.contents c.args.link.now c.take.new.self (Ok (incoming_seen x)))
      c.in-Ok-Closed.field-0-is c.in-Ok-Closed.ensures.takes) tt,
)

pub returns-in-Err-clause-ok : goal.returns-in-Err-clause-ok
returns-in-Err-clause-ok g c = λ h stands. (h, stands, end _ _ h _ c.in-Err.ensures.takes tt)

pub returns-in-Ok-Text-clause-ok : goal.returns-in-Ok-Text-clause-ok
returns-in-Ok-Text-clause-ok g c = λ h stands.
    let taken = subst (λ x. IsTaken g.S.Read.remaining g.S.Write.contents c.args.link.now c.take.new.self (Ok (incoming_seen x)))
    c.in-Ok-Text.field-0-is c.in-Ok-Text.ensures.takes in
    gives c.hand_on.result (c.hand_on.ensures.ok h stands) (λ goes x. (
      x.0 ∷ h,
      x.3,
      subst (λ b. Exchange g.S.Read.remaining g.S.Write.contents c.args.conn.value c.args.link.now h c.hand_on.new.link (x.0 ∷ h) b) (sym x.5)
          (message c.args.link.now c.take.new.self c.hand_on.new.link h (Text (string_bytes c.in-Ok-Text.text)) x.0 x.1 taken x.2 x.4),
    ))

pub returns-in-Ok-NotText-clause-ok : goal.returns-in-Ok-NotText-clause-ok
returns-in-Ok-NotText-clause-ok g c = λ h stands.
    let taken = subst (λ x. IsTaken g.S.Read.remaining g.S.Write.contents c.args.link.now c.take.new.self (Ok (incoming_seen x)))
    c.in-Ok-NotText.field-0-is c.in-Ok-NotText.ensures.takes in
    gives c.hand_on-in-Ok-NotText.result (c.hand_on-in-Ok-NotText.ensures.ok h stands) (λ goes x. (
      x.0 ∷ h,
      x.3,
      subst (λ b. Exchange g.S.Read.remaining g.S.Write.contents c.args.conn.value c.args.link.now h c.hand_on-in-Ok-NotText.new.link (x.0 ∷ h) b) (sym x.5)
          (message c.args.link.now c.take.new.self c.hand_on-in-Ok-NotText.new.link h NotText x.0 x.1 taken x.2 x.4),
    ))
