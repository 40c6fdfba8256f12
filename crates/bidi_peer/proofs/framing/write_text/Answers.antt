use Rattle.std.proofs.Common.{ap}
use Rattle.websocket.specs.Connection.{Connection}
use Rattle.bidi_peer.proofs.RoleLemmas.{write_leaves_same}
use Rattle.bidi_peer.proofs.SendingLemmas.{server_frame}
use Rattle.bidi_peer.proofs.framing.write_text.Goals as goal

pub returns-in-Ok-clause-role : goal.returns-in-Ok-clause-role
returns-in-Ok-clause-role c =
    ap (λ (x : Connection). x.role) (write_leaves_same c.args.context.now c.write.new.self c.args.text.now _ _ c.in-Ok.ensures.ok)

pub returns-in-Ok-clause-same : goal.returns-in-Ok-clause-same
returns-in-Ok-clause-same c = write_leaves_same c.args.context.now c.write.new.self c.args.text.now _ _ c.in-Ok.ensures.ok

pub returns-in-Ok-clause-joins : goal.returns-in-Ok-clause-joins
returns-in-Ok-clause-joins c = server_frame c.args.context.now c.write.new.self c.args.text.now c.args.output.now.items c.write.new.output.items c.in-Ok.ensures.ok
