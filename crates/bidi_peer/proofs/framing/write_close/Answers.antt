use Rattle.std.proofs.Common.{Some}
use Rattle.bidi_peer.proofs.PartLemmas.{close_leaves_part}
use Rattle.bidi_peer.proofs.RoleLemmas.{close_leaves_role}
use Rattle.bidi_peer.proofs.SendingLemmas.{server_close}
use Rattle.bidi_peer.proofs.framing.write_close.Goals as goal

pub returns-in-Ok-clause-role : goal.returns-in-Ok-clause-role
returns-in-Ok-clause-role c =
    close_leaves_role c.args.context.now c.close.new.self (Some (c.args.code, c.args.reason.now)) c.args.output.now.items c.close.new.output.items c.in-Ok.ensures.ok

pub returns-in-Ok-clause-part : goal.returns-in-Ok-clause-part
returns-in-Ok-clause-part c =
    close_leaves_part c.args.context.now c.close.new.self (Some (c.args.code, c.args.reason.now)) c.args.output.now.items c.close.new.output.items c.in-Ok.ensures.ok

pub returns-in-Ok-clause-joins : goal.returns-in-Ok-clause-joins
returns-in-Ok-clause-joins c =
    server_close c.args.context.now c.close.new.self c.args.code c.args.reason.now c.args.output.now.items c.close.new.output.items c.in-Ok.ensures.ok
