-- What a take of a closing connection reports, frame by frame and read by read.
use Rattle.std.proofs.Common.{◌≡◌, ◌≢◌, ◌∙◌, ◌++◌, ◌∷◌, ◌⊎◌, ◌+◌, ◌≤◌, ℕ, List, [], true, false, Option, None, Some, Ok, Err, ap, arith, drop, inl, inr, refl, subst, sym}
use Rattle.std.specs.Io.KnownBytes.{Consumes}
use Rattle.std.proofs.lemmas.List.{length_push}
use Rattle.websocket.specs.Connection.{Connection, Effect, can_read, read_step}
use Rattle.websocket.specs.Content.{Content, binary, close, ping, pong, text}
use Rattle.websocket.specs.declared.error.Error.{Error}
use Rattle.websocket.specs.declared.protocol.frame.codec.FrameStatus.TheVariants.{Complete, Partial}
use Rattle.bidi_peer.specs.Ends.{IsClosing, IsPassedOver, IsThrownAway, IsUsed, Parts}
use Rattle.bidi_peer.specs.Messages.{IsNoClose, gave, most_steps_of_take, reply_bytes}
use Rattle.bidi_peer.specs.Sending.{Flushes}
use Rattle.bidi_peer.specs.Taking.{HasTaken, IsLast, IsPassed, IsTakenFor, Shows}
use Rattle.bidi_peer.specs.Telling.{HasEnded, HasFailed}
use Rattle.bidi_peer.specs.Waiting.{untaken, unwritten}
use Rattle.bidi_peer.specs.declared.framing.Frame.{Frame}
use Rattle.bidi_peer.specs.declared.framing.Frame.TheVariants as frame
use Rattle.bidi_peer.specs.declared.peer.Came.{Came}
use Rattle.bidi_peer.specs.declared.peer.Came.TheVariants as telling
use Rattle.bidi_peer.specs.declared.standing.End.{End}
use Rattle.bidi_peer.specs.declared.standing.End.TheVariants.{Ahead, Due, Known}
use Rattle.bidi_peer.specs.declared.standing.Peer.{Peer}
use Rattle.bidi_peer.specs.declared.standing.State.{State}
use Rattle.bidi_peer.specs.declared.standing.State.TheVariants.{Closing, Open}
use Rattle.bidi_peer.proofs.MessageLemmas.{failed-ended}
use Rattle.bidi_peer.proofs.PassedLemmas.{CountedTo, leads-gave, moved, no-frame, passed-frame, passed-gave, passed-none, passed-took, received-passed}
use Rattle.bidi_peer.proofs.TakingLemmas.{Outcome, after-taken, closed-last, not_bad, not_part, shown_close}

-- an end that is neither ahead nor due is known
pub end_known : (e : End) → e ≢ Ahead → e ≢ Due → e ≡ Known
end_known Ahead ahead due = absurd (ahead refl)
end_known Due ahead due = absurd (due refl)
end_known Known ahead due = refl

-- a closing connection closes still, if only an open one begins to
pub stays-closing : (s t : State) → s ≡ Closing → (s ≢ Open → t ≡ s) → t ≡ Closing
stays-closing s t closing shut = shut (λ opened. cc (sym closing ∙ opened)) ∙ closing

-- a frame that others may follow is no close frame
no-close : (m : Option Content) (f : Frame) → Shows m f → (IsLast f → ⊥) → IsNoClose m
no-close None f shows more = tt
no-close (Some (text bytes)) f shows more = tt
no-close (Some (binary bytes)) f shows more = tt
no-close (Some (ping bytes)) f shows more = tt
no-close (Some (pong bytes)) f shows more = tt
no-close (Some (close reason)) f shows more = more (closed-last reason f shows)

module _ {S : Type 0} (remaining contents : S → Option (List ℕ)) where
  module _ (a : Peer S) where
    -- it goes on: no close frame was taken, and the connection is closing or its stream failed
    abbrev ReadsOn : ℕ → Peer S → Type 0
    ReadsOn k b = ((b.state ≡ Closing) × (can_read b.context.state ≡ true) × CountedTo remaining contents IsNoClose a k b) ⊎ (HasFailed b.state × Parts remaining contents a b)

    -- what comes of a frame
    abbrev Passing : ℕ → Peer S → Option Came → Type 0
    Passing k b None = ReadsOn k b
    Passing k b (Some c) = IsPassedOver remaining contents a b c

    -- the stream is read where no whole frame is there
    after-read : (k : ℕ) (n r : Peer S) (j : ℕ) (came : Option Came) → CountedTo remaining contents IsNoClose a k n → read_step n.context (untaken n.inbox) ≡ Ok (Partial j)
        → n.state ≡ Closing → can_read n.context.state ≡ true → IsPassed remaining contents frame.Part n r came → Passing (k + 1) r came
    after-read k n r j None p reads closing can x =
        inl (x.state ∙ closing, ap (λ (c : Connection). can_read c.state) x.context ∙ can, received-passed remaining contents IsNoClose a k n r p x)
    after-read k n r j (Some telling.Nothing) p reads closing can x =
        ((received-passed remaining contents IsNoClose a k n r p x.0).0, no-frame n.context r.context (untaken n.inbox) (untaken r.inbox) j x.0.context x.1 reads)
    after-read k n r j (Some telling.More) p reads closing can x = absurd x
    after-read k n r j (Some (telling.Asks target)) p reads closing can x = absurd x
    after-read k n r j (Some (telling.Calls call)) p reads closing can x = absurd x
    after-read k n r j (Some (telling.Text s)) p reads closing can x = absurd x
    after-read k n r j (Some telling.NotText) p reads closing can x = absurd x
    after-read k n r j (Some telling.Ended) p reads closing can (inl failed) = record {
      before = n.context;
      bytes = untaken n.inbox;
      waits = unwritten n.outbox;
      stream = n.stream;
      passed = p.0;
      why = inl failed;
    }
    after-read k n r j (Some telling.Ended) p reads closing can (inr x) = record {
      before = n.context;
      bytes = untaken n.inbox ++ x.0;
      waits = unwritten n.outbox;
      stream = r.stream;
      passed = (passed-gave remaining contents IsNoClose a k n.context (untaken n.inbox) (unwritten n.outbox) n.stream r.stream x.0 p x.1).0;
      why = inr (inl (x.3, no-frame n.context n.context (untaken n.inbox) (untaken n.inbox ++ x.0) j refl x.2 reads));
    }

    -- what waits is written
    after-flush : (k : ℕ) (n r : Peer S) → CountedTo remaining contents IsNoClose a k n → n.state ≡ Closing → can_read n.context.state ≡ true
        → HasFailed r.state ⊎ Flushes contents n r → ReadsOn k r
    after-flush k n r p closing can (inl failed) = inr (
      failed,
      record {
        before = n.context;
        bytes = untaken n.inbox;
        waits = unwritten n.outbox;
        stream = n.stream;
        passed = p.0;
        why = inl failed;
      },
    )
    after-flush k n r p closing can (inr f) =
        inl (
          f.state ∙ closing,
          ap (λ (c : Connection). can_read c.state) f.context ∙ can,
          moved remaining contents IsNoClose a k n.context r.context (untaken n.inbox) (untaken r.inbox) (unwritten r.outbox) (unwritten r.outbox) r.stream r.stream f.context f.inbox refl refl
              (passed-took remaining contents IsNoClose a k n.context (untaken n.inbox) (unwritten n.outbox) (unwritten r.outbox) n.stream r.stream p f.writes),
        )

    module _ (k : ℕ) (b : Peer S) (passed : CountedTo remaining contents IsNoClose a k b) (can : can_read b.context.state ≡ true) where
      -- the end has this cause
      ends : (r : Peer S) (came : Option Came) → came ≡ Some telling.Ended → Parts remaining contents a r → Passing (k + 1) r came
      ends r came is parts = subst (λ y. Passing (k + 1) r y) (sym is) parts

      -- a frame was taken that others may follow
      one-more : (n : Peer S) (m : ℕ) (e : Effect) (f : Frame) → read_step b.context (untaken b.inbox) ≡ Ok (Complete (m, e)) → Shows e.message f → (IsLast f → ⊥)
          → n.context ≡ e.next → untaken n.inbox ≡ drop m (untaken b.inbox) → unwritten n.outbox ≡ unwritten b.outbox ++ reply_bytes e.reply → n.stream ≡ b.stream
          → CountedTo remaining contents IsNoClose a (k + 1) n
      one-more n m e f reads shows more context rest sends stream =
          moved remaining contents IsNoClose a (k + 1) e.next n.context (drop m (untaken b.inbox)) (untaken n.inbox) (unwritten b.outbox ++ reply_bytes e.reply) (unwritten n.outbox)
          b.stream n.stream context rest sends stream
          (passed-frame remaining contents IsNoClose a k b.context (untaken b.inbox) (unwritten b.outbox) b.stream m e passed reads (no-close e.message f shows more))

      -- after such a frame the protocol reads still
      still : (n : Peer S) (f : Frame) → (IsLast f → ⊥) → IsLast f ⊎ (n.context.state ≡ b.context.state) → can_read n.context.state ≡ true
      still n f more (inl last) = absurd (more last)
      still n f more (inr same) = ap can_read same ∙ can

      -- a message is passed over
      over : (n r : Peer S) (came : Option Came) → CountedTo remaining contents IsNoClose a (k + 1) n → n.state ≡ Closing → can_read n.context.state ≡ true
          → (came ≡ None) × (r ≡ n) → Passing (k + 1) r came
      over n r came p closing reads x =
          subst (λ y. Passing (k + 1) r y) (sym x.0) (subst (λ (q : Peer S). ReadsOn (k + 1) q) (sym x.1) (inl (closing, reads, p)))

      -- what waits is written after a frame
      flushed : (n r : Peer S) (came : Option Came) → CountedTo remaining contents IsNoClose a (k + 1) n → n.state ≡ Closing → can_read n.context.state ≡ true
          → (came ≡ None) × (HasFailed r.state ⊎ Flushes contents n r) → Passing (k + 1) r came
      flushed n r came p closing reads x = subst (λ y. Passing (k + 1) r y) (sym x.0) (after-flush (k + 1) n r p closing reads x.1)

      -- a frame is taken that the protocol takes
      whole : (n r : Peer S) (m : ℕ) (e : Effect) (f : Frame) (came : Option Came) → read_step b.context (untaken b.inbox) ≡ Ok (Complete (m, e)) → Shows e.message f
          → n.context ≡ e.next → untaken n.inbox ≡ drop m (untaken b.inbox) → unwritten n.outbox ≡ unwritten b.outbox ++ reply_bytes e.reply → n.stream ≡ b.stream
          → n.state ≡ Closing → IsLast f ⊎ (n.context.state ≡ b.context.state) → IsPassed remaining contents f n r came → Passing (k + 1) r came
      whole n r m e frame.Part came reads shows context rest sends stream closing stays x = absurd (not_part e.message shows)
      whole n r m e frame.Control came reads shows context rest sends stream closing stays x =
          flushed n r came (one-more n m e frame.Control reads shows (λ l. l) context rest sends stream) closing (still n frame.Control (λ l. l) stays) x
      whole n r m e (frame.Fragment j) came reads shows context rest sends stream closing stays x =
          flushed n r came (one-more n m e (frame.Fragment j) reads shows (λ l. l) context rest sends stream) closing (still n (frame.Fragment j) (λ l. l) stays) x
      whole n r m e (frame.Text s) came reads shows context rest sends stream closing stays x =
          over n r came (one-more n m e (frame.Text s) reads shows (λ l. l) context rest sends stream) closing (still n (frame.Text s) (λ l. l) stays) x
      whole n r m e frame.NotText came reads shows context rest sends stream closing stays x =
          over n r came (one-more n m e frame.NotText reads shows (λ l. l) context rest sends stream) closing (still n frame.NotText (λ l. l) stays) x
      whole n r m e frame.Close came reads shows context rest sends stream closing stays x = ends r came x (record {
        before = b.context;
        bytes = untaken b.inbox;
        waits = unwritten b.outbox;
        stream = b.stream;
        passed = passed.0;
        why = inr (inr (inl (m, e, reads, shown_close e.message shows)));
      })
      whole n r m e (frame.Bad fault) came reads shows context rest sends stream closing stays x = absurd (not_bad e.message fault shows)

      -- a frame is refused
      refused : (r : Peer S) (e : Error) (f : Frame) (n : Peer S) (came : Option Came) → read_step b.context (untaken b.inbox) ≡ Err e → IsTakenFor (Err e) f
          → IsPassed remaining contents f n r came → Passing (k + 1) r came
      refused r e frame.Part n came reads is x = absurd is
      refused r e frame.Control n came reads is x = absurd is
      refused r e (frame.Fragment j) n came reads is x = absurd is
      refused r e (frame.Text s) n came reads is x = absurd is
      refused r e frame.NotText n came reads is x = absurd is
      refused r e frame.Close n came reads is x = absurd is
      refused r e (frame.Bad fault) n came reads is x = ends r came x (record {
        before = b.context;
        bytes = untaken b.inbox;
        waits = unwritten b.outbox;
        stream = b.stream;
        passed = passed.0;
        why = inr (inr (inr (e, reads)));
      })

      -- no whole frame is there
      partial : (n r : Peer S) (j : ℕ) (f : Frame) (came : Option Came) → read_step b.context (untaken b.inbox) ≡ Ok (Partial j) → IsTakenFor (Ok (Partial j)) f
          → n.context ≡ b.context → untaken n.inbox ≡ untaken b.inbox → unwritten n.outbox ≡ unwritten b.outbox → n.stream ≡ b.stream → n.state ≡ Closing
          → IsPassed remaining contents f n r came → Passing (k + 1) r came
      partial n r j frame.Part came reads is context rest waits stream closing x =
          after-read k n r j came
          (moved remaining contents IsNoClose a k b.context n.context (untaken b.inbox) (untaken n.inbox) (unwritten b.outbox) (unwritten n.outbox) b.stream n.stream context rest waits stream passed)
          ((λ i. read_step (context i) (rest i)) ∙ reads) closing (ap (λ (c : Connection). can_read c.state) context ∙ can) x
      partial n r j frame.Control came reads is context rest waits stream closing x = absurd is
      partial n r j (frame.Fragment i) came reads is context rest waits stream closing x = absurd is
      partial n r j (frame.Text s) came reads is context rest waits stream closing x = absurd is
      partial n r j frame.NotText came reads is context rest waits stream closing x = absurd is
      partial n r j frame.Close came reads is context rest waits stream closing x = absurd is
      partial n r j (frame.Bad fault) came reads is context rest waits stream closing x = absurd is

      by-outcome : (o : Outcome) (n r : Peer S) (f : Frame) (came : Option Came) → read_step b.context (untaken b.inbox) ≡ o → IsTakenFor o f
          → HasTaken o b.context (untaken b.inbox) (unwritten b.outbox) n.context (untaken n.inbox) (unwritten n.outbox) → n.stream ≡ b.stream → n.state ≡ Closing
          → IsLast f ⊎ (n.context.state ≡ b.context.state) → IsPassed remaining contents f n r came → Passing (k + 1) r came
      by-outcome (Err e) n r f came reads is t stream closing stays x = refused r e f n came reads is x
      by-outcome (Ok (Partial j)) n r f came reads is t stream closing stays x = partial n r j f came reads is t.0 t.1 t.2 stream closing x
      by-outcome (Ok (Complete p)) n r f came reads is t stream closing stays x = whole n r p.0 p.1 f came reads is t.0 t.1 t.2 stream closing stays x

      -- what comes of the next frame
      comes : (n r : Peer S) (f : Frame) (came : Option Came) → IsTakenFor (read_step b.context (untaken b.inbox)) f
          → HasTaken (read_step b.context (untaken b.inbox)) b.context (untaken b.inbox) (unwritten b.outbox) n.context (untaken n.inbox) (unwritten n.outbox)
          → n.stream ≡ b.stream → n.state ≡ Closing → IsPassed remaining contents f n r came → Passing (k + 1) r came
      comes n r f came is t stream closing x =
          by-outcome (read_step b.context (untaken b.inbox)) n r f came refl is t stream closing
          (after-taken (read_step b.context (untaken b.inbox)) b.context n.context (untaken b.inbox) (untaken n.inbox) (unwritten b.outbox) (unwritten n.outbox) f refl is t) x

    -- the protocol reads nothing more, and the stream was used so often
    abbrev DeafOn : ℕ → Peer S → Type 0
    DeafOn k b = (b.state ≡ Closing) × (can_read b.context.state ≡ false) × IsUsed remaining contents k a b

    abbrev Throwing : ℕ → Peer S → Option Came → Type 0
    Throwing k b None = DeafOn k b
    Throwing k b (Some c) = IsThrownAway remaining contents a b c

    one-use : (k : ℕ) (b n r : Peer S) (bytes : List ℕ) → IsUsed remaining contents k a b → n.stream ≡ b.stream → Consumes (remaining n.stream) (remaining r.stream) bytes
        → IsUsed remaining contents (k + 1) a r
    one-use k b n r bytes used stream given = record {
      uses = used.uses ++ (gave bytes r.stream ∷ []);
      leads = leads-gave remaining contents a.stream used.uses b.stream r.stream bytes used.leads (subst (λ s. Consumes (remaining s) (remaining r.stream) bytes) stream given);
      often = omega (arith, used.often, length_push used.uses (gave bytes r.stream));
    }

    -- what came is thrown away, and the stream is read
    deaf-read : (k : ℕ) (b n r : Peer S) (came : Option Came) → DeafOn k b → n.state ≡ Closing → n.context ≡ b.context → untaken n.inbox ≡ [] → n.stream ≡ b.stream
        → IsPassed remaining contents frame.Part n r came → Throwing (k + 1) r came
    deaf-read k b n r None on closing context empty stream x =
        (x.state ∙ closing, ap (λ (c : Connection). can_read c.state) (x.context ∙ context) ∙ on.1, one-use k b n r x.reads.came on.2 stream x.reads.given)
    deaf-read k b n r (Some telling.Nothing) on closing context empty stream x = x.1 ∙ empty
    deaf-read k b n r (Some telling.More) on closing context empty stream x = absurd x
    deaf-read k b n r (Some (telling.Asks target)) on closing context empty stream x = absurd x
    deaf-read k b n r (Some (telling.Calls call)) on closing context empty stream x = absurd x
    deaf-read k b n r (Some (telling.Text s)) on closing context empty stream x = absurd x
    deaf-read k b n r (Some telling.NotText) on closing context empty stream x = absurd x
    deaf-read k b n r (Some telling.Ended) on closing context empty stream (inl failed) = inl failed
    deaf-read k b n r (Some telling.Ended) on closing context empty stream (inr x) = inr x.3

    -- it goes on, whether its protocol reads or not
    pub record ClosesOn (k : ℕ) (b : Peer S) : Type 0 where
      pub reads : can_read a.context.state ≡ true → ReadsOn k b
      pub deaf : can_read a.context.state ≡ false → DeafOn k b

    -- what comes of a frame, whether its protocol reads or not
    abbrev pub ComesClosing : ℕ → Peer S → Option Came → Type 0
    ComesClosing k b None = ClosesOn k b
    ComesClosing k b (Some c) = IsClosing remaining contents a b c

    both : (k : ℕ) (r : Peer S) (came : Option Came) → (can_read a.context.state ≡ true → Passing k r came) → (can_read a.context.state ≡ false → Throwing k r came)
        → ComesClosing k r came
    both k r None reads deaf = record { reads = reads; deaf = deaf }
    both k r (Some c) reads deaf = record { reads = reads; deaf = deaf }

    pub closes-on-first : a.state ≡ Closing → ClosesOn 0 a
    closes-on-first closing = record {
      reads = λ can. inl (closing, can, passed-none remaining contents IsNoClose a);
      deaf = λ cannot. (closing, cannot, record { uses = []; leads = refl; often = omega arith });
    }

    -- the next frame of a closing connection
    pub next_closing : (k : ℕ) (b n r : Peer S) (f : Frame) (came : Option Came) → ClosesOn k b → (HasEnded b.state → ⊥)
        → (can_read b.context.state ≡ true → IsTakenFor (read_step b.context (untaken b.inbox)) f)
        → (can_read b.context.state ≡ true
        → HasTaken (read_step b.context (untaken b.inbox)) b.context (untaken b.inbox) (unwritten b.outbox) n.context (untaken n.inbox) (unwritten n.outbox))
        → (can_read b.context.state ≡ false → (f ≡ frame.Part) × (n.context ≡ b.context) × (untaken n.inbox ≡ []))
        → n.stream ≡ b.stream → (b.state ≡ Closing → n.state ≡ Closing) → (n.state ≡ Closing → IsPassed remaining contents f n r came) → ComesClosing (k + 1) r came
    next_closing k b n r f came on going is t deaf stream stays x = both (k + 1) r came (λ can. reading (on.reads can)) (λ cannot. throwing (on.deaf cannot))
      where
        reading : ReadsOn k b → Passing (k + 1) r came
        reading (inl goes) = comes k b goes.2 goes.1 n r f came (is goes.1) (t goes.1) stream (stays goes.0) (x (stays goes.0))
        reading (inr failed) = absurd (going (failed-ended b.state failed.0))

        throwing : DeafOn k b → Throwing (k + 1) r came
        throwing on =
            let d = deaf on.1 in
            deaf-read k b n r came on (stays on.0) d.1 d.2 stream (subst (λ g. IsPassed remaining contents g n r came) d.0 (x (stays on.0)))

    -- after the last step
    pub stopped_closing : (k : ℕ) (b r : Peer S) (told : Came) → ClosesOn k b → (most_steps_of_take ≤ k) ⊎ HasEnded b.state
        → ((HasEnded b.state → ⊥) → (told ≡ telling.More) × (r ≡ b)) → (HasEnded b.state → told ≡ telling.Ended) → r.state ≡ b.state → IsClosing remaining contents a r told
    stopped_closing k b r told on why quiet ended state = record { reads = λ can. reading (on.reads can) why; deaf = λ cannot. throwing (on.deaf cannot) why }
      where
        reading : ReadsOn k b → (most_steps_of_take ≤ k) ⊎ HasEnded b.state → IsPassedOver remaining contents a r told
        reading (inl goes) (inl enough) =
            let is = quiet (λ e. subst HasEnded goes.0 e) in
            subst (λ (p : Peer S). IsPassedOver remaining contents a p told) (sym is.1)
            (subst (λ c. IsPassedOver remaining contents a b c) (sym is.0) (goes.2.0, omega (arith, goes.2.1, enough)))
        reading (inl goes) (inr over) = absurd (subst HasEnded goes.0 over)
        reading (inr failed) why =
            let parts = failed.1 in
            subst (λ c. IsPassedOver remaining contents a r c) (sym (ended (failed-ended b.state failed.0))) (record {
              before = parts.before;
              bytes = parts.bytes;
              waits = parts.waits;
              stream = parts.stream;
              passed = parts.passed;
              why = inl (subst HasFailed (sym state) failed.0);
            })

        throwing : DeafOn k b → (most_steps_of_take ≤ k) ⊎ HasEnded b.state → IsThrownAway remaining contents a r told
        throwing on (inl enough) =
            let is = quiet (λ e. subst HasEnded on.0 e) in
            subst (λ (p : Peer S). IsThrownAway remaining contents a p told) (sym is.1)
            (subst (λ c. IsThrownAway remaining contents a b c) (sym is.0)
            (record { uses = on.2.uses; leads = on.2.leads; often = omega (arith, on.2.often, enough) }))
        throwing on (inr over) = absurd (subst HasEnded on.0 over)
