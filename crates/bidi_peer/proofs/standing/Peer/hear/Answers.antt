use Rattle.std.proofs.Common.{refl, subst}
use Rattle.bidi_requests.specs.Requests.{IsAskedBy}
use Rattle.bidi_peer.specs.Waiting.{untaken}
use Rattle.bidi_peer.specs.declared.standing.State.TheVariants.{Asked, Called}
use Rattle.bidi_peer.proofs.HearingLemmas.{call_heard, request_heard}
use Rattle.bidi_peer.proofs.standing.Peer.hear.Goals as goal

pub returns-in-Socket-clause-heard : goal.returns-in-Socket-clause-heard
returns-in-Socket-clause-heard g c =
    λ ahead.
    request_heard g.S.Read.remaining g.S.Write.contents c.args.self.now (untaken c.take.new.self) c.args.self.now.stream (Asked c.in-Socket.accept) c.in-Socket.resource
    c.in-Socket.accept c.in-Socket.length (subst (λ x. IsAskedBy (untaken c.args.self.now.inbox) x) c.in-Socket.is c.requires.asks) refl refl c.take.ensures

pub returns-in-Call-clause-heard : goal.returns-in-Call-clause-heard
returns-in-Call-clause-heard g c =
    λ ahead.
    call_heard g.S.Read.remaining g.S.Write.contents c.args.self.now (untaken c.take-in-Call.new.self) c.args.self.now.stream Called c.in-Call.call
    c.in-Call.length (subst (λ x. IsAskedBy (untaken c.args.self.now.inbox) x) c.in-Call.is c.requires.asks) refl refl c.take-in-Call.ensures
