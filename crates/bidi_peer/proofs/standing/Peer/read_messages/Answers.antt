use Rattle.std.proofs.Common.{rules, ◌∙◌, ◌⊎◌, ◌≤◌, ◌+◌, ap, arith, inl, inr, refl, subst, sym}
use Rattle.websocket.specs.Connection.{can_read}
use Rattle.bidi_peer.specs.Messages.{most_steps_of_take}
use Rattle.bidi_peer.specs.Telling.{HasEnded, SameKnown}
use Rattle.bidi_peer.proofs.ClosingLemmas.{ComesClosing, closes-on-first, next_closing, stays-closing, stopped_closing}
use Rattle.bidi_peer.proofs.MessageLemmas.{Comes, goes-on-first, next, stopped}
use Rattle.bidi_peer.proofs.standing.Peer.read_messages.Goals as goal
use Rattle.bidi_peer.proofs.standing.Peer.read_messages.Goals.{else-loop-test, then-loop-test+then-has_ended}

pub returns-in-Some-clause-messages : goal.returns-in-Some-clause-messages
returns-in-Some-clause-messages g c =
    λ opened unknown.
    let b = c.loop.self in
    subst (λ o. Comes g.S.Read.remaining g.S.Write.contents c.args.self.now (c.loop.counter + 1) c.receive.new.self o) c.in-Some.is
    (next g.S.Read.remaining g.S.Write.contents c.args.self.now c.loop.counter b c.next_frame.new.self c.receive.new.self c.in_ok-frame.frame c.in_ok-came.field-0
    (c.loop.invariant.goes_on opened unknown) (search rules) (λ stands. c.in_ok-frame.ensures.shows (ap can_read (b.active stands)))
    (λ stands. c.in_ok-frame.ensures.takes (ap can_read (b.active stands))) c.next_frame.ensures.stream c.next_frame.ensures.bound (λ stands. c.in_ok-frame.ensures.stays stands)
    (λ is. c.in_ok-came.ensures.received is (λ known. unknown (c.loop.invariant.known.1 (sym c.next_frame.ensures.end ∙ known)))))

pub returns-in-Some-clause-closing : goal.returns-in-Some-clause-closing
returns-in-Some-clause-closing g c =
    λ closing unknown.
    let b = c.loop.self in
    subst (λ o. ComesClosing g.S.Read.remaining g.S.Write.contents c.args.self.now (c.loop.counter + 1) c.receive.new.self o) c.in-Some.is
    (next_closing g.S.Read.remaining g.S.Write.contents c.args.self.now c.loop.counter b c.next_frame.new.self c.receive.new.self c.in_ok-frame.frame c.in_ok-came.field-0
    (c.loop.invariant.closes_on closing unknown) (search rules) c.in_ok-frame.ensures.shows c.in_ok-frame.ensures.takes c.in_ok-frame.ensures.deaf c.next_frame.ensures.stream
    (λ stands. stays-closing b.state c.next_frame.new.self.state stands c.next_frame.ensures.shut)
    (λ is. c.in_ok-came.ensures.passes is (λ known. unknown (c.loop.invariant.known.1 (sym c.next_frame.ensures.end ∙ known)))))

pub returns-clause-closing : goal.returns-clause-closing
returns-clause-closing g c =
    λ closing unknown.
    let b = c.loop.self in
    let why : (most_steps_of_take ≤ c.loop.counter) ⊎ HasEnded b.state = elim c.loop-test.branch [
      | else-loop-test w ↦ inl (omega (arith, w.loop-test.false))
      | then-loop-test+then-has_ended w ↦ inr (search rules)
    ] in
    stopped_closing g.S.Read.remaining g.S.Write.contents c.args.self.now c.loop.counter b c.or_end.new.self c.or_end.result (c.loop.invariant.closes_on closing unknown) why
    c.or_end.ensures.same (λ ended. c.or_end.ensures.ended ended (λ known. unknown (c.loop.invariant.known.1 known))) c.or_end.ensures.state

pub returns-clause-messages : goal.returns-clause-messages
returns-clause-messages g c =
    λ opened unknown.
    let b = c.loop.self in
    let why : (most_steps_of_take ≤ c.loop.counter) ⊎ HasEnded b.state = elim c.loop-test.branch [
      | else-loop-test w ↦ inl (omega (arith, w.loop-test.false))
      | then-loop-test+then-has_ended w ↦ inr (search rules)
    ] in
    stopped g.S.Read.remaining g.S.Write.contents c.args.self.now c.loop.counter b c.or_end.new.self c.or_end.result (c.loop.invariant.goes_on opened unknown) why
    c.or_end.ensures.same (λ ended. c.or_end.ensures.ended ended (λ known. unknown (c.loop.invariant.known.1 known))) c.or_end.ensures.state

pub loop-init : goal.loop-init
loop-init g c = record {
  known = (λ k. k, λ k. k);
  shut = λ closed. closed;
  bound = refl;
  goes_on = λ opened unknown. goes-on-first g.S.Read.remaining g.S.Write.contents c.args.self.now opened;
  closes_on = λ closing unknown. closes-on-first g.S.Read.remaining g.S.Write.contents c.args.self.now closing;
}

pub loop-preserved : goal.loop-preserved
loop-preserved g c =
    let b = c.loop.self in
    let known : SameKnown c.args.self.now.end c.receive.new.self.end = search rules in
    record {
      known = known;
      shut = λ closed.
          let before = c.loop.invariant.shut closed in
          c.in_ok-came.ensures.shut (λ opened. before (sym (c.next_frame.ensures.shut before) ∙ opened)) c.in_default.is;
      goes_on = λ opened unknown.
          subst (λ o. Comes g.S.Read.remaining g.S.Write.contents c.args.self.now (c.loop.counter + 1) c.receive.new.self o) c.in_default.is
          (next g.S.Read.remaining g.S.Write.contents c.args.self.now c.loop.counter b c.next_frame.new.self c.receive.new.self c.in_ok-frame.frame c.in_ok-came.field-0
          (c.loop.invariant.goes_on opened unknown) (search rules) (λ stands. c.in_ok-frame.ensures.shows (ap can_read (b.active stands)))
          (λ stands. c.in_ok-frame.ensures.takes (ap can_read (b.active stands))) c.next_frame.ensures.stream c.next_frame.ensures.bound (λ stands. c.in_ok-frame.ensures.stays stands)
          (λ is. c.in_ok-came.ensures.received is (λ known. unknown (c.loop.invariant.known.1 (sym c.next_frame.ensures.end ∙ known)))));
      bound = c.receive.ensures.bound ∙ c.next_frame.ensures.bound ∙ c.loop.invariant.bound;
      closes_on = λ closing unknown.
          subst (λ o. ComesClosing g.S.Read.remaining g.S.Write.contents c.args.self.now (c.loop.counter + 1) c.receive.new.self o) c.in_default.is
          (next_closing g.S.Read.remaining g.S.Write.contents c.args.self.now c.loop.counter b c.next_frame.new.self c.receive.new.self c.in_ok-frame.frame c.in_ok-came.field-0
          (c.loop.invariant.closes_on closing unknown) (search rules) c.in_ok-frame.ensures.shows c.in_ok-frame.ensures.takes c.in_ok-frame.ensures.deaf c.next_frame.ensures.stream
          (λ stands. stays-closing b.state c.next_frame.new.self.state stands c.next_frame.ensures.shut)
          (λ is. c.in_ok-came.ensures.passes is (λ known. unknown (c.loop.invariant.known.1 (sym c.next_frame.ensures.end ∙ known)))));
    }
