-- What a connection tells, frame by frame and read by read.
use Rattle.std.proofs.Common.{◌≡◌, ◌∙◌, ◌++◌, ◌⊎◌, ◌+◌, ◌≤◌, ℕ, List, Option, None, Some, Ok, Err, arith, drop, inl, inr, length, refl, subst, sym}
use Rattle.std.specs.Prelude.{◌<◌, string_bytes}
use Rattle.websocket.specs.Connection.{Effect, read_step}
use Rattle.websocket.specs.Content.{Content, binary, text}
use Rattle.websocket.specs.declared.error.Error.{Error}
use Rattle.websocket.specs.declared.protocol.frame.codec.FrameStatus.TheVariants.{Complete, Partial}
use Rattle.bidi_peer.specs.Messages.{IsSilent, IsTold, Stops, Tells, most_steps_of_take, reply_bytes}
use Rattle.bidi_peer.specs.Taking.{HasTaken, IsLast, IsReceived, IsTakenFor, Shows}
use Rattle.bidi_peer.specs.Telling.{HasEnded, HasFailed}
use Rattle.bidi_peer.specs.Waiting.{untaken, unwritten}
use Rattle.bidi_peer.specs.declared.framing.Frame.{Frame}
use Rattle.bidi_peer.specs.declared.framing.Frame.TheVariants as frame
use Rattle.bidi_peer.specs.declared.peer.Came.{Came}
use Rattle.bidi_peer.specs.declared.peer.Came.TheVariants as telling
use Rattle.bidi_peer.specs.declared.standing.Peer.{Peer}
use Rattle.bidi_peer.specs.declared.standing.State.{State}
use Rattle.bidi_peer.specs.declared.standing.State.TheVariants.{Asked, Called, Closing, Done, Failed, Head, Leaving, Open}
use Rattle.bidi_peer.proofs.PassedLemmas.{CountedTo, moved, no-frame, passed-frame, passed-gave, passed-none, passed-took, received-passed}
use Rattle.bidi_peer.proofs.TakingLemmas.{Outcome, not_bad, not_part, shown_binary, shown_close, shown_text, silent_control, silent_fragment}

-- after a failure of the stream nothing more is read
pub failed-ended : (s : State) → HasFailed s → HasEnded s
failed-ended Head failed = absurd failed
failed-ended (Asked key) failed = absurd failed
failed-ended Called failed = absurd failed
failed-ended Open failed = absurd failed
failed-ended Closing failed = absurd failed
failed-ended Leaving failed = absurd failed
failed-ended Done failed = absurd failed
failed-ended (Failed failure) failed = tt

module _ {S : Type 0} (remaining contents : S → Option (List ℕ)) where
  module _ (a : Peer S) where
    -- it goes on: only frames that tell nothing were taken, and the connection is open or its stream failed
    abbrev pub GoesOn : ℕ → Peer S → Type 0
    GoesOn k b = ((b.state ≡ Open) × (b.most_waiting ≡ a.most_waiting) × CountedTo remaining contents IsSilent a k b) ⊎ (HasFailed b.state × Stops remaining contents a b)

    -- what comes of a frame
    abbrev pub Comes : ℕ → Peer S → Option Came → Type 0
    Comes k b None = GoesOn k b
    Comes k b (Some c) = IsTold remaining contents a b c

    pub goes-on-first : a.state ≡ Open → GoesOn 0 a
    goes-on-first opened = inl (opened, refl, passed-none remaining contents IsSilent a)

    after-read : (k : ℕ) (n r : Peer S) (j : ℕ) (came : Option Came) → CountedTo remaining contents IsSilent a k n → read_step n.context (untaken n.inbox) ≡ Ok (Partial j)
        → n.most_waiting ≡ a.most_waiting → n.state ≡ Open → IsReceived remaining contents frame.Part n r came → Comes (k + 1) r came
    after-read k n r j None p reads bound opened x = inl (x.state ∙ opened, x.bound ∙ bound, received-passed remaining contents IsSilent a k n r p x)
    after-read k n r j (Some telling.Nothing) p reads bound opened x =
        ((received-passed remaining contents IsSilent a k n r p x.0).0, no-frame n.context r.context (untaken n.inbox) (untaken r.inbox) j x.0.context x.1 reads)
    after-read k n r j (Some telling.More) p reads bound opened x = absurd x
    after-read k n r j (Some (telling.Asks target)) p reads bound opened x = absurd x
    after-read k n r j (Some (telling.Calls call)) p reads bound opened x = absurd x
    after-read k n r j (Some (telling.Text s)) p reads bound opened x = absurd x
    after-read k n r j (Some telling.NotText) p reads bound opened x = absurd x
    after-read k n r j (Some telling.Ended) p reads bound opened (inl failed) = inr (record {
      before = n.context;
      bytes = untaken n.inbox;
      waits = unwritten n.outbox;
      stream = n.stream;
      passed = p.0;
      why = inl failed;
    })
    after-read k n r j (Some telling.Ended) p reads bound opened (inr x) = inr (record {
      before = n.context;
      bytes = untaken n.inbox ++ x.0;
      waits = unwritten n.outbox;
      stream = r.stream;
      passed = (passed-gave remaining contents IsSilent a k n.context (untaken n.inbox) (unwritten n.outbox) n.stream r.stream x.0 p x.1).0;
      why = inr (inl (x.3, no-frame n.context n.context (untaken n.inbox) (untaken n.inbox ++ x.0) j refl x.2 reads));
    })

    -- a frame that tells nothing was taken
    after-silent : (k : ℕ) (n r : Peer S) (came : Option Came) → CountedTo remaining contents IsSilent a k n → n.most_waiting ≡ a.most_waiting → n.state ≡ Open
        → IsReceived remaining contents frame.Control n r came → Comes k r came
    after-silent k n r None p bound opened (inl failed) = inr (
      failed,
      record {
        before = n.context;
        bytes = untaken n.inbox;
        waits = unwritten n.outbox;
        stream = n.stream;
        passed = p.0;
        why = inl failed;
      },
    )
    after-silent k n r None p bound opened (inr f) =
        inl (
          f.state ∙ opened,
          f.bound ∙ bound,
          moved remaining contents IsSilent a k n.context r.context (untaken n.inbox) (untaken r.inbox) (unwritten r.outbox) (unwritten r.outbox) r.stream r.stream f.context f.inbox refl refl
              (passed-took remaining contents IsSilent a k n.context (untaken n.inbox) (unwritten n.outbox) (unwritten r.outbox) n.stream r.stream p f.writes),
        )
    after-silent k n r (Some c) p bound opened x = subst (λ y. IsTold remaining contents a r y) (sym x.0) (inr (record {
      before = n.context;
      bytes = untaken n.inbox;
      waits = x.1.rest;
      stream = x.1.stream;
      passed = (passed-took remaining contents IsSilent a k n.context (untaken n.inbox) (unwritten n.outbox) x.1.rest n.stream x.1.stream p x.1.writes).0;
      why = inr (inr (inr (inr (subst (λ m. m < length x.1.rest) bound x.1.full))));
    }))

    as-control : (n r : Peer S) (k : ℕ) (came : Option Came) → IsReceived remaining contents (frame.Fragment k) n r came → IsReceived remaining contents frame.Control n r came
    as-control n r k None x = x
    as-control n r k (Some c) x = x

    module _ (k : ℕ) (b : Peer S) (passed : CountedTo remaining contents IsSilent a k b) (bound : b.most_waiting ≡ a.most_waiting) where
      -- a message is told
      told : (n : Peer S) (m : ℕ) (e : Effect) (content : Content) → read_step b.context (untaken b.inbox) ≡ Ok (Complete (m, e)) → n.context ≡ e.next
          → untaken n.inbox ≡ drop m (untaken b.inbox) → unwritten n.outbox ≡ unwritten b.outbox ++ reply_bytes e.reply → n.stream ≡ b.stream → e.message ≡ Some content
          → Tells remaining contents content a n
      told n m e content reads context rest sends stream message = record {
        before = b.context;
        bytes = untaken b.inbox;
        waits = unwritten b.outbox;
        passed = (moved remaining contents IsSilent a k b.context b.context (untaken b.inbox) (untaken b.inbox) (unwritten b.outbox) (unwritten b.outbox) b.stream n.stream refl refl refl stream passed).0;
        size = m;
        effect = e;
        reads = reads;
        message = message;
        context = context;
        rest = rest;
        sends = sends;
      }

      -- a frame is taken that the protocol takes
      whole : (n r : Peer S) (m : ℕ) (e : Effect) (f : Frame) (came : Option Came) → read_step b.context (untaken b.inbox) ≡ Ok (Complete (m, e)) → Shows e.message f
          → n.context ≡ e.next → untaken n.inbox ≡ drop m (untaken b.inbox) → unwritten n.outbox ≡ unwritten b.outbox ++ reply_bytes e.reply → n.stream ≡ b.stream
          → n.most_waiting ≡ b.most_waiting → IsLast f ⊎ (n.state ≡ Open) → IsReceived remaining contents f n r came → Comes (k + 1) r came
      whole n r m e frame.Part came reads shows context rest sends stream most stays x = absurd (not_part e.message shows)
      whole n r m e frame.Control came reads shows context rest sends stream most (inl last) x = absurd last
      whole n r m e frame.Control came reads shows context rest sends stream most (inr opened) x =
          after-silent (k + 1) n r came
          (moved remaining contents IsSilent a (k + 1) e.next n.context (drop m (untaken b.inbox)) (untaken n.inbox) (unwritten b.outbox ++ reply_bytes e.reply) (unwritten n.outbox) b.stream n.stream context rest sends stream
          (passed-frame remaining contents IsSilent a k b.context (untaken b.inbox) (unwritten b.outbox) b.stream m e passed reads (silent_control e.message shows)))
          (most ∙ bound) opened x
      whole n r m e (frame.Fragment j) came reads shows context rest sends stream most (inl last) x = absurd last
      whole n r m e (frame.Fragment j) came reads shows context rest sends stream most (inr opened) x =
          after-silent (k + 1) n r came
          (moved remaining contents IsSilent a (k + 1) e.next n.context (drop m (untaken b.inbox)) (untaken n.inbox) (unwritten b.outbox ++ reply_bytes e.reply) (unwritten n.outbox) b.stream n.stream context rest sends stream
          (passed-frame remaining contents IsSilent a k b.context (untaken b.inbox) (unwritten b.outbox) b.stream m e passed reads (silent_fragment e.message j shows)))
          (most ∙ bound) opened (as-control n r j came x)
      whole n r m e (frame.Text s) came reads shows context rest sends stream most stays x =
          subst (λ (p : Peer S). Comes (k + 1) p came) (sym x.1)
          (subst (λ y. Comes (k + 1) n y) (sym x.0) (told n m e (text (string_bytes s)) reads context rest sends stream (shown_text e.message s shows)))
      whole n r m e frame.NotText came reads shows context rest sends stream most stays x =
          let binary_message = shown_binary e.message shows in
          subst (λ (p : Peer S). Comes (k + 1) p came) (sym x.1)
          (subst (λ y. Comes (k + 1) n y) (sym x.0) (binary_message.0, told n m e (binary binary_message.0) reads context rest sends stream binary_message.1))
      whole n r m e frame.Close came reads shows context rest sends stream most stays x =
          subst (λ y. Comes (k + 1) r y) (sym x) (inr (record {
            before = b.context;
            bytes = untaken b.inbox;
            waits = unwritten b.outbox;
            stream = b.stream;
            passed = passed.0;
            why = inr (inr (inl (m, e, reads, shown_close e.message shows)));
          }))
      whole n r m e (frame.Bad fault) came reads shows context rest sends stream most stays x = absurd (not_bad e.message fault shows)

      -- a frame is refused
      refused : (r : Peer S) (e : Error) (f : Frame) (n : Peer S) (came : Option Came) → read_step b.context (untaken b.inbox) ≡ Err e → IsTakenFor (Err e) f
          → IsReceived remaining contents f n r came → Comes (k + 1) r came
      refused r e frame.Part n came reads is x = absurd is
      refused r e frame.Control n came reads is x = absurd is
      refused r e (frame.Fragment j) n came reads is x = absurd is
      refused r e (frame.Text s) n came reads is x = absurd is
      refused r e frame.NotText n came reads is x = absurd is
      refused r e frame.Close n came reads is x = absurd is
      refused r e (frame.Bad fault) n came reads is x =
          subst (λ y. Comes (k + 1) r y) (sym x) (inr (record {
            before = b.context;
            bytes = untaken b.inbox;
            waits = unwritten b.outbox;
            stream = b.stream;
            passed = passed.0;
            why = inr (inr (inr (inl (e, reads))));
          }))

      -- no whole frame is there
      partial : (n r : Peer S) (j : ℕ) (f : Frame) (came : Option Came) → read_step b.context (untaken b.inbox) ≡ Ok (Partial j) → IsTakenFor (Ok (Partial j)) f
          → n.context ≡ b.context → untaken n.inbox ≡ untaken b.inbox → unwritten n.outbox ≡ unwritten b.outbox → n.stream ≡ b.stream → n.most_waiting ≡ b.most_waiting
          → IsLast f ⊎ (n.state ≡ Open) → IsReceived remaining contents f n r came → Comes (k + 1) r came
      partial n r j frame.Part came reads is context rest waits stream most (inl last) x = absurd last
      partial n r j frame.Part came reads is context rest waits stream most (inr opened) x =
          after-read k n r j came
          (moved remaining contents IsSilent a k b.context n.context (untaken b.inbox) (untaken n.inbox) (unwritten b.outbox) (unwritten n.outbox) b.stream n.stream context rest waits stream passed)
          ((λ i. read_step (context i) (rest i)) ∙ reads) (most ∙ bound) opened x
      partial n r j frame.Control came reads is context rest waits stream most stays x = absurd is
      partial n r j (frame.Fragment i) came reads is context rest waits stream most stays x = absurd is
      partial n r j (frame.Text s) came reads is context rest waits stream most stays x = absurd is
      partial n r j frame.NotText came reads is context rest waits stream most stays x = absurd is
      partial n r j frame.Close came reads is context rest waits stream most stays x = absurd is
      partial n r j (frame.Bad fault) came reads is context rest waits stream most stays x = absurd is

      by-outcome : (o : Outcome) (n r : Peer S) (f : Frame) (came : Option Came) → read_step b.context (untaken b.inbox) ≡ o → IsTakenFor o f
          → HasTaken o b.context (untaken b.inbox) (unwritten b.outbox) n.context (untaken n.inbox) (unwritten n.outbox) → n.stream ≡ b.stream → n.most_waiting ≡ b.most_waiting
          → IsLast f ⊎ (n.state ≡ Open) → IsReceived remaining contents f n r came → Comes (k + 1) r came
      by-outcome (Err e) n r f came reads is t stream most stays x = refused r e f n came reads is x
      by-outcome (Ok (Partial j)) n r f came reads is t stream most stays x = partial n r j f came reads is t.0 t.1 t.2 stream most stays x
      by-outcome (Ok (Complete p)) n r f came reads is t stream most stays x = whole n r p.0 p.1 f came reads is t.0 t.1 t.2 stream most stays x

      -- what comes of the next frame
      pub comes : (n r : Peer S) (f : Frame) (came : Option Came) → IsTakenFor (read_step b.context (untaken b.inbox)) f
          → HasTaken (read_step b.context (untaken b.inbox)) b.context (untaken b.inbox) (unwritten b.outbox) n.context (untaken n.inbox) (unwritten n.outbox)
          → n.stream ≡ b.stream → n.most_waiting ≡ b.most_waiting → IsLast f ⊎ (n.state ≡ Open) → IsReceived remaining contents f n r came → Comes (k + 1) r came
      comes n r f came is t stream most stays x = by-outcome (read_step b.context (untaken b.inbox)) n r f came refl is t stream most stays x

    -- the next frame of a connection that goes on
    pub next : (k : ℕ) (b n r : Peer S) (f : Frame) (came : Option Came) → GoesOn k b → (HasEnded b.state → ⊥)
        → (b.state ≡ Open → IsTakenFor (read_step b.context (untaken b.inbox)) f)
        → (b.state ≡ Open → HasTaken (read_step b.context (untaken b.inbox)) b.context (untaken b.inbox) (unwritten b.outbox) n.context (untaken n.inbox) (unwritten n.outbox))
        → n.stream ≡ b.stream → n.most_waiting ≡ b.most_waiting → (b.state ≡ Open → IsLast f ⊎ (n.state ≡ Open))
        → (IsLast f ⊎ (n.state ≡ Open) → IsReceived remaining contents f n r came) → Comes (k + 1) r came
    next k b n r f came (inl goes) reads is t stream most stays x = comes k b goes.2 goes.1 n r f came (is goes.0) (t goes.0) stream most (stays goes.0) (x (stays goes.0))
    next k b n r f came (inr failed) reads is t stream most stays x = absurd (reads (failed-ended b.state failed.0))

    -- after the last step
    pub stopped : (k : ℕ) (b r : Peer S) (told : Came) → GoesOn k b → (most_steps_of_take ≤ k) ⊎ HasEnded b.state
        → ((HasEnded b.state → ⊥) → (told ≡ telling.More) × (r ≡ b)) → (HasEnded b.state → told ≡ telling.Ended) → r.state ≡ b.state → IsTold remaining contents a r told
    stopped k b r told (inl goes) (inl enough) quiet ended state =
        let is = quiet (λ e. subst HasEnded goes.0 e) in
        subst (λ (p : Peer S). IsTold remaining contents a p told) (sym is.1)
        (subst (λ c. IsTold remaining contents a b c) (sym is.0) (goes.2.0, omega (arith, goes.2.1, enough)))
    stopped k b r told (inl goes) (inr over) quiet ended state = absurd (subst HasEnded goes.0 over)
    stopped k b r told (inr failed) why quiet ended state =
        let stops = failed.1 in
        subst (λ c. IsTold remaining contents a r c) (sym (ended (failed-ended b.state failed.0))) (inr (record {
          before = stops.before;
          bytes = stops.bytes;
          waits = stops.waits;
          stream = stops.stream;
          passed = stops.passed;
          why = inl (subst HasFailed (sym state) failed.0);
        }))
