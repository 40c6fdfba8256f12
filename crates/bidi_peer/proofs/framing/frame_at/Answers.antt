use Rattle.std.proofs.Common.{subst}
use Rattle.websocket.specs.Connection.{read_step}
use Rattle.websocket.specs.View.{KeepsRest, Returns}
use Rattle.bidi_peer.proofs.RoleLemmas.{read_leaves_role}
use Rattle.bidi_peer.proofs.TakingLemmas.{whole_taken}
use Rattle.bidi_peer.proofs.framing.frame_at.Goals as goal

pub returns-in_err-frame-in-Ok-Complete-clause-role : goal.returns-in_err-frame-in-Ok-Complete-clause-role
returns-in_err-frame-in-Ok-Complete-clause-role c = read_leaves_role c.args.context.now c.read.new.self c.args.input.now _ _ c.in-Ok-Complete.ensures.leaves

pub returns-in_ok-frame-in-Ok-Complete-clause-role : goal.returns-in_ok-frame-in-Ok-Complete-clause-role
returns-in_ok-frame-in-Ok-Complete-clause-role c = read_leaves_role c.args.context.now c.read.new.self c.args.input.now _ _ c.in-Ok-Complete.ensures.leaves

pub returns-in_ok-frame-in-Ok-Complete-clause-takes : goal.returns-in_ok-frame-in-Ok-Complete-clause-takes
returns-in_ok-frame-in-Ok-Complete-clause-takes c =
    λ server.
    whole_taken c.args.context.now c.read.new.self c.in-Ok-Complete.step c.args.input.now c.read.new.input c.args.output.now.items c.read.new.output.items server
    (subst (Returns (read_step c.args.context.now c.args.input.now) c.read.new.input) c.in-Ok-Complete.field-0-is c.in-Ok-Complete.ensures.returns) c.in-Ok-Complete.ensures.leaves
    (subst (λ s. KeepsRest s c.args.input.now c.read.new.input) c.in-Ok-Complete.field-0-is c.in-Ok-Complete.ensures.keeps_rest).1
