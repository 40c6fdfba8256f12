-- What a take hears in a handshake, over several reads.
use Rattle.std.proofs.Common.{◌≡◌, ◌≢◌, ◌∙◌, ◌++◌, ◌⊎◌, ℕ, List, [], Option, None, Some, ap, append-nil, append_assoc, drop, inl, inr, refl, subst, sym}
use Rattle.std.specs.Io.KnownBytes.{IsAtEnd, Keeps}
use Rattle.bidi_requests.specs.Answering.{answer_bytes}
use Rattle.bidi_peer.specs.Hearing.{Hears, IsHeard, Receives}
use Rattle.bidi_requests.specs.Requests.{IsAskedBy, IsUnfinished}
use Rattle.bidi_peer.specs.Waiting.{Writes, untaken, unwritten}
use Rattle.bidi_requests.specs.declared.answering.Answer.{Answer}
use Rattle.bidi_requests.specs.declared.asking.Asked.{Asked}
use Rattle.bidi_requests.specs.declared.asking.Asked.TheVariants as asked
use Rattle.bidi_peer.specs.declared.peer.Came.{Came}
use Rattle.bidi_peer.specs.declared.peer.Came.TheVariants as telling
use Rattle.bidi_peer.specs.Sending.{Flushes}
use Rattle.bidi_peer.specs.Telling.{HasFailed, owed}
use Rattle.bidi_peer.specs.declared.standing.End.{End}
use Rattle.bidi_peer.specs.declared.standing.End.TheVariants.{Ahead, Known}
use Rattle.bidi_peer.specs.declared.standing.Peer.{Peer}
use Rattle.bidi_peer.specs.declared.standing.State.{State}
use Rattle.bidi_peer.specs.declared.standing.State.TheVariants as standing
use Rattle.bidi_peer.proofs.WaitingLemmas.{consumes-then, keeps-consumes, reads_nothing, reads_then}

kept-self : (u : Option (List ℕ)) → Keeps u u
kept-self None = tt
kept-self (Some xs) = refl

module _ {S : Type 0} (remaining contents : S → Option (List ℕ)) where
  -- it receives nothing, and only how many bytes a call needs may have changed
  pub receives_same : (a b : Peer S) → b.state ≡ a.state → b.end ≡ a.end → b.context ≡ a.context → b.most_waiting ≡ a.most_waiting → unwritten b.outbox ≡ unwritten a.outbox
      → untaken b.inbox ≡ untaken a.inbox → b.stream ≡ a.stream → Receives remaining a b
  receives_same a b state end context bound outbox inbox stream = record {
    state = state;
    end = end;
    context = context;
    bound = bound;
    outbox = outbox;
    reads = reads_nothing remaining (untaken a.inbox) (untaken b.inbox) a.stream b.stream inbox
        (subst (λ x. Keeps (remaining a.stream) (remaining x)) (sym stream) (kept-self (remaining a.stream)));
  }

  -- it receives nothing
  pub receives_nothing : (p : Peer S) → Receives remaining p p
  receives_nothing p = receives_same p p refl refl refl refl refl refl refl

  -- nothing is heard, and what waited is as it was
  pub nothing_heard : (a b : Peer S) → Receives remaining a b → b.least ≡ a.least → untaken b.inbox ≡ untaken a.inbox → IsHeard remaining contents a b telling.Nothing
  nothing_heard a b x least same = (x, λ was. subst (IsUnfinished b.least) (sym same) (subst (λ n. IsUnfinished n (untaken a.inbox)) (sym least) was))

  -- it receives once more
  pub receives_then : (a b c : Peer S) → Receives remaining a b → Receives remaining b c → Receives remaining a c
  receives_then a b c x y = record {
    state = y.state ∙ x.state;
    end = y.end ∙ x.end;
    context = y.context ∙ x.context;
    bound = y.bound ∙ x.bound;
    outbox = y.outbox ∙ x.outbox;
    reads = reads_then remaining (untaken a.inbox) (untaken b.inbox) (untaken c.inbox) a.stream b.stream c.stream x.reads y.reads;
  }

  joined : (a b : Peer S) (x : Receives remaining a b) (more : List ℕ) → untaken b.inbox ++ more ≡ untaken a.inbox ++ (x.reads.came ++ more)
  joined a b x more = ap (λ l. l ++ more) x.reads.joins ∙ append_assoc (untaken a.inbox) x.reads.came more

  hears-then : (what : Asked) (a b : Peer S) (s : S) → Receives remaining a b → Hears remaining what b s → Hears remaining what a s
  hears-then what a b s x h = record {
    bytes = x.reads.came ++ h.bytes;
    given = consumes-then (remaining a.stream) (remaining b.stream) (remaining s) x.reads.came h.bytes x.reads.given h.given;
    asks = subst (λ l. IsAskedBy l what) (joined a b x h.bytes) h.asks;
  }

  asked-then : (a b c : Peer S) (target : _) → Receives remaining a b → IsHeard remaining contents b c (telling.Asks target) → IsHeard remaining contents a c (telling.Asks target)
  unfolding hears-then
  asked-then a b c target x h =
      (h.0, h.1, hears-then (asked.Socket target h.0 h.1) a b c.stream x h.2, h.3, h.4 ∙ ap (drop h.1) (joined a b x h.2.bytes))

  calls-then : (a b c : Peer S) (call : _) → Receives remaining a b → IsHeard remaining contents b c (telling.Calls call) → IsHeard remaining contents a c (telling.Calls call)
  unfolding hears-then
  calls-then a b c call x h =
      (h.0, hears-then (asked.Call call h.0) a b c.stream x h.1, h.2, h.3 ∙ ap (drop h.0) (joined a b x h.1.bytes))

  ended-then : (a b c : Peer S) → Receives remaining a b → IsHeard remaining contents b c telling.Ended → IsHeard remaining contents a c telling.Ended
  ended-then a b c x (inl failed) = inl failed
  ended-then a b c x (inr (inl ended)) = inr (inl ended)
  ended-then a b c x (inr (inr h)) = inr (inr (record {
    answer = h.answer;
    stream = h.stream;
    hears = hears-then (asked.Other h.answer) a b h.stream x h.hears;
    writes = subst (λ l. Writes contents (l ++ answer_bytes h.answer) (unwritten c.outbox) h.stream c.stream) x.outbox h.writes;
  }))

  -- what is heard after some more bytes came
  pub heard_then : (a b c : Peer S) (told : Came) → Receives remaining a b → (IsUnfinished a.least (untaken a.inbox) → IsUnfinished b.least (untaken b.inbox)) → IsHeard remaining contents b c told
      → IsHeard remaining contents a c told
  heard_then a b c telling.Nothing x waits h = (receives_then a b c x h.0, λ was. h.1 (waits was))
  heard_then a b c telling.More x waits h = absurd h
  heard_then a b c (telling.Asks target) x waits h = asked-then a b c target x h
  heard_then a b c (telling.Calls call) x waits h = calls-then a b c call x h
  heard_then a b c (telling.Text t) x waits h = absurd h
  heard_then a b c telling.NotText x waits h = absurd h
  heard_then a b c telling.Ended x waits h = ended-then a b c x h

  -- what is told of a head after some more bytes came
  pub heard_behind : (a b c : Peer S) (told : Came) → Receives remaining a b → told ≢ telling.Nothing → IsHeard remaining contents b c told → IsHeard remaining contents a c told
  heard_behind a b c telling.Nothing x speaks h = absurd (speaks refl)
  heard_behind a b c telling.More x speaks h = absurd h
  heard_behind a b c (telling.Asks target) x speaks h = asked-then a b c target x h
  heard_behind a b c (telling.Calls call) x speaks h = calls-then a b c call x h
  heard_behind a b c (telling.Text t) x speaks h = absurd h
  heard_behind a b c telling.NotText x speaks h = absurd h
  heard_behind a b c telling.Ended x speaks h = ended-then a b c x h

  hears-now : (what : Asked) (a : Peer S) (s : S) → s ≡ a.stream → IsAskedBy (untaken a.inbox) what → Hears remaining what a s
  hears-now what a s at asks = record {
    bytes = [];
    given = keeps-consumes (remaining a.stream) (remaining s) (subst (λ x. Keeps (remaining a.stream) (remaining x)) (sym at) (kept-self (remaining a.stream)));
    asks = subst (λ l. IsAskedBy l what) (sym (append-nil (untaken a.inbox))) asks;
  }

  -- a request that is told, with what is left of the bytes
  pub request_heard : (a : Peer S) (left : List ℕ) (s : S) (stands : State) (target : _) (accept : List ℕ) (n : ℕ) → IsAskedBy (untaken a.inbox) (asked.Socket target accept n)
      → s ≡ a.stream → stands ≡ standing.Asked accept → left ≡ drop n (untaken a.inbox)
      → (key : List ℕ) × (m : ℕ) × (heard : Hears remaining (asked.Socket target key m) a s) × (stands ≡ standing.Asked key) × (left ≡ drop m (untaken a.inbox ++ heard.bytes))
  unfolding hears-now
  request_heard a left s stands target accept n asks stream waits rest =
      (accept, n, hears-now (asked.Socket target accept n) a s stream asks, waits, rest ∙ ap (drop n) (sym (append-nil (untaken a.inbox))))

  -- a call that is told, with what is left of the bytes
  pub call_heard : (a : Peer S) (left : List ℕ) (s : S) (stands : State) (call : _) (n : ℕ) → IsAskedBy (untaken a.inbox) (asked.Call call n)
      → s ≡ a.stream → stands ≡ standing.Called → left ≡ drop n (untaken a.inbox)
      → (m : ℕ) × (heard : Hears remaining (asked.Call call m) a s) × (stands ≡ standing.Called) × (left ≡ drop m (untaken a.inbox ++ heard.bytes))
  unfolding hears-now
  call_heard a left s stands call n asks stream waits rest =
      (n, hears-now (asked.Call call n) a s stream asks, waits, rest ∙ ap (drop n) (sym (append-nil (untaken a.inbox))))

  -- a request that is answered
  pub answer_heard : (a m b : Peer S) (told : Came) (answer : Answer) → told ≡ telling.Ended → IsAskedBy (untaken a.inbox) (asked.Other answer)
      → HasFailed m.state ⊎ Writes contents (unwritten a.outbox ++ answer_bytes answer) (unwritten m.outbox) a.stream m.stream
      → b.state ≡ m.state → unwritten b.outbox ≡ unwritten m.outbox → b.stream ≡ m.stream → IsHeard remaining contents a b told
  answer_heard a m b told answer is asks (inl failed) state outbox stream = subst (λ c. IsHeard remaining contents a b c) (sym is) (inl (subst HasFailed (sym state) failed))
  answer_heard a m b told answer is asks (inr writes) state outbox stream =
      let sent : Writes contents (unwritten a.outbox ++ answer_bytes answer) (unwritten b.outbox) a.stream b.stream =
      subst (λ w. Writes contents (unwritten a.outbox ++ answer_bytes answer) w a.stream b.stream) (sym outbox)
      (subst (λ s. Writes contents (unwritten a.outbox ++ answer_bytes answer) (unwritten m.outbox) a.stream s) (sym stream) writes) in
      subst (λ c. IsHeard remaining contents a b c) (sym is)
      (inr (inr (record { answer = answer; stream = a.stream; hears = hears-now (asked.Other answer) a a.stream refl asks; writes = sent })))

  -- the end of the stream
  pub ended_heard : (a b : Peer S) (told : Came) → told ≡ telling.Ended → IsAtEnd (remaining b.stream) → IsHeard remaining contents a b told
  ended_heard a b told is ended = subst (λ c. IsHeard remaining contents a b c) (sym is) (inr (inl ended))

  -- a stream that failed
  pub failed_heard : (a b : Peer S) (told : Came) → told ≡ telling.Ended → HasFailed b.state → IsHeard remaining contents a b told
  failed_heard a b told is failed = subst (λ c. IsHeard remaining contents a b c) (sym is) (inl failed)

  -- what a flush makes of what waits
  pub after_flush : (b c : Peer S) (s : S) (waits : List ℕ) → HasFailed c.state ⊎ Flushes contents b c → unwritten b.outbox ≡ waits → b.stream ≡ s
      → HasFailed c.state ⊎ Writes contents waits (unwritten c.outbox) s c.stream
  after_flush b c s waits (inl failed) same at = inl failed
  after_flush b c s waits (inr f) same at =
      inr (subst (λ x. Writes contents x (unwritten c.outbox) s c.stream) same (subst (λ x. Writes contents (unwritten b.outbox) (unwritten c.outbox) x c.stream) at f.writes))

-- an end that is owed is not known yet
pub owed_unknown : (e n : End) → e ≡ Ahead → n ≡ owed e → n ≢ Known
owed_unknown e n ahead is known = cc (sym known ∙ is ∙ ap owed ahead)
