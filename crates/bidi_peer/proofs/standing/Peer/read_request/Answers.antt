use Rattle.std.proofs.Common.{rules, ◌∙◌, ap, length, Some, subst, sym}
use Rattle.std.specs.Prelude.{IfSome}
use Rattle.bidi_peer.specs.Hearing.{IsHeard, Receives}
use Rattle.bidi_peer.specs.Telling.{HasEnded}
use Rattle.bidi_requests.specs.Requests.{IsAskedBy, IsUnfinished}
use Rattle.bidi_peer.specs.Waiting.{untaken}
use Rattle.bidi_peer.proofs.HearingLemmas.{heard_behind, heard_then, receives_then}
use Rattle.bidi_peer.proofs.UnfinishedLemmas.{still_unfinished}
use Rattle.bidi_peer.proofs.standing.Peer.read_request.Goals as goal
use Rattle.bidi_peer.proofs.standing.Peer.read_request.Goals.{then-is_to_judge+in_ok-asked+in_ok-came-2+in_default-2, else-is_to_judge}

pub loop-preserved : goal.loop-preserved
loop-preserved g c =
    let remaining = g.S.Read.remaining in
    let first = c.args.self.now in
    let read = c.read_on.new.self in
    let came : Receives remaining first read = receives_then remaining g.S.Write.contents first c.loop.self read c.loop.invariant.receives (c.in_ok-came.ensures.receives (search rules)) in
    elim c.if-is_to_judge.branch [
      | then-is_to_judge+in_ok-asked+in_ok-came-2+in_default-2 w ↦
          let heard : Receives remaining first w.hear.new.self =
          receives_then remaining g.S.Write.contents first read w.hear.new.self came (w.in_ok-came-2.ensures.part (search rules)) in
          rw w.self-is (record {
            known = (λ k. heard.end ∙ k, λ k. sym heard.end ∙ k);
            reads = subst (λ s. HasEnded s → ⊥) (sym heard.state) c.requires.reads;
            bound = heard.bound;
            receives = heard;
            waits = λ was. w.in_ok-came-2.ensures.unfinished (search rules);
          })
      | else-is_to_judge w ↦
          rw w.self-is (record {
            known = (λ k. came.end ∙ k, λ k. sym came.end ∙ k);
            reads = subst (λ s. HasEnded s → ⊥) (sym came.state) c.requires.reads;
            bound = came.bound;
            receives = came;
            waits = λ was.
                let reads = (c.in_ok-came.ensures.receives (search rules)).reads in
                subst (IsUnfinished read.least) c.waiting.ensures
                (still_unfinished (untaken c.loop.self.inbox) reads.came c.waiting.result.now (length c.waiting-known.result.now) read.least (c.waiting.ensures ∙ reads.joins)
                (ap length c.waiting-known.ensures) (c.is_to_judge.ensures (search rules))
                (subst (λ n. IsUnfinished n (untaken c.loop.self.inbox)) (sym (c.in_ok-came.ensures.least (search rules))) (c.loop.invariant.waits was)));
          })
    ]

pub returns-in-Some-clause-heard : goal.returns-in-Some-clause-heard
returns-in-Some-clause-heard g c =
    λ ahead.
    let was = c.loop.invariant in
    heard_then g.S.Read.remaining g.S.Write.contents c.args.self.now c.loop.self c.read_on.new.self c.in-Some.came was.receives was.waits
    (subst (λ o. IfSome o (IsHeard g.S.Read.remaining g.S.Write.contents c.loop.self c.read_on.new.self)) c.in-Some.is (c.in_ok-came.ensures.heard (was.receives.end ∙ ahead)))

pub returns-in-Some-2-clause-heard : goal.returns-in-Some-2-clause-heard
returns-in-Some-2-clause-heard g c =
    λ ahead.
    let remaining = g.S.Read.remaining in
    let read = c.read_on.new.self in
    let came : Receives remaining c.args.self.now read =
    receives_then remaining g.S.Write.contents c.args.self.now c.loop.self read c.loop.invariant.receives (c.in_ok-came.ensures.receives (search rules)) in
    heard_behind remaining g.S.Write.contents c.args.self.now read c.hear.new.self c.in-Some-2.came came
    (λ same. c.in_ok-came-2.ensures.speaks (came.end ∙ ahead) (c.in-Some-2.is ∙ ap (λ x. Some x) same))
    (subst (λ o. IfSome o (IsHeard remaining g.S.Write.contents read c.hear.new.self)) c.in-Some-2.is (c.in_ok-came-2.ensures.heard (came.end ∙ ahead)))

pub hear-requires-clause-asks : goal.hear-requires-clause-asks
hear-requires-clause-asks g c = subst (λ b. IsAskedBy b c.in_ok-asked.asked) c.waiting-then-is_to_judge.ensures c.in_ok-asked.ensures

pub hear-requires-clause-ahead : goal.hear-requires-clause-ahead
hear-requires-clause-ahead g c =
    let came : Receives g.S.Read.remaining c.args.self.now c.read_on.new.self =
    receives_then g.S.Read.remaining g.S.Write.contents c.args.self.now c.loop.self c.read_on.new.self c.loop.invariant.receives (c.in_ok-came.ensures.receives (search rules)) in
    came.end ∙ c.requires.ahead
