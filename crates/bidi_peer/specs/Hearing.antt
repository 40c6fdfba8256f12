-- What a take reports before a request is answered. Requests says what a request asks for, Answering how it is answered.
use Rattle.std.specs.Prelude.{◌≡◌, ◌⊎◌, ℕ, List, ◌++◌, Option, drop}
use Rattle.std.specs.Io.KnownBytes.{Consumes, IsAtEnd}
use Rattle.bidi_requests.specs.Answering.{answer_bytes}
use Rattle.bidi_requests.specs.Requests.{IsAskedBy, IsUnfinished}
use Rattle.bidi_peer.specs.Telling.{HasFailed}
use Rattle.bidi_peer.specs.Waiting.{Reads, Writes, untaken, unwritten}
use Rattle.bidi_requests.specs.declared.answering.Answer.{Answer}
use Rattle.bidi_requests.specs.declared.asking.Asked.{Asked}
use Rattle.bidi_requests.specs.declared.asking.Asked.TheVariants as asked
use Rattle.bidi_peer.specs.declared.peer.Came.{Came}
use Rattle.bidi_peer.specs.declared.peer.Came.TheVariants as telling
use Rattle.bidi_peer.specs.declared.standing.Peer.{Peer}
use Rattle.bidi_peer.specs.declared.standing.State.TheVariants as standing

module _ {S : Type 0} where
  -- The stream gave some bytes, which now wait to be taken; nothing else changed.
  pub record Receives (remaining : S → Option (List ℕ)) (old new : Peer S) : Type 0 where
    pub state : new.state ≡ old.state
    pub end : new.end ≡ old.end
    pub context : new.context ≡ old.context
    pub bound : new.most_waiting ≡ old.most_waiting
    pub outbox : unwritten new.outbox ≡ unwritten old.outbox
    pub reads : Reads remaining (untaken old.inbox) (untaken new.inbox) old.stream new.stream

  -- The bytes that waited, followed by bytes that the stream gave, ask for this.
  pub record Hears (remaining : S → Option (List ℕ)) (what : Asked) (old : Peer S) (stream : S) : Type 0 where
    pub bytes : List ℕ
    pub given : Consumes (remaining old.stream) (remaining stream) bytes
    pub asks : IsAskedBy (untaken old.inbox ++ bytes) what

  -- The bytes that came ask neither for a WebSocket nor for a reply: the answer follows what waited to be written, and the stream took bytes off the front of that.
  pub record Answers (remaining contents : S → Option (List ℕ)) (old new : Peer S) : Type 0 where
    pub answer : Answer
    pub stream : S
    pub hears : Hears remaining (asked.Other answer) old stream
    pub writes : Writes contents (unwritten old.outbox ++ answer_bytes answer) (unwritten new.outbox) stream new.stream

  -- What a take reports before a request is answered.
  abbrev pub IsHeard : (S → Option (List ℕ)) → (S → Option (List ℕ)) → Peer S → Peer S → Came → Type 0
  -- nothing yet: the bytes that came wait, and if they held no whole request before, they hold none now
  IsHeard remaining contents old new telling.Nothing =
      Receives remaining old new × (IsUnfinished old.least (untaken old.inbox) → IsUnfinished new.least (untaken new.inbox))
  -- a request for a WebSocket: the bytes after its head wait
  IsHeard remaining contents old new (telling.Asks resource) =
      (accept : List ℕ) × (n : ℕ) × (heard : Hears remaining (asked.Socket resource accept n) old new.stream)
      × (new.state ≡ standing.Asked accept) × (untaken new.inbox ≡ drop n (untaken old.inbox ++ heard.bytes))
  -- a call: the bytes after its body wait
  IsHeard remaining contents old new (telling.Calls call) =
      (n : ℕ) × (heard : Hears remaining (asked.Call call n) old new.stream)
      × (new.state ≡ standing.Called) × (untaken new.inbox ≡ drop n (untaken old.inbox ++ heard.bytes))
  -- the end: the stream failed, or it has ended, or the request is answered
  IsHeard remaining contents old new telling.Ended = HasFailed new.state ⊎ (IsAtEnd (remaining new.stream) ⊎ Answers remaining contents old new)
  IsHeard remaining contents old new c = ⊥
