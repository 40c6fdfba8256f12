-- What a line of a scripted play brings about, and the lines that are written for it. Their forms are this project's own.
use Rattle.std.specs.Prelude.{ℕ, List, [], ◌∷◌, ◌++◌, map, flat_map, codes, decimal, string_bytes, Option, Some, None}
use Rattle.bidi_lines.specs.Feeds.{ended}
use Rattle.bidi_remote.specs.Machine.Sent.{Sent}
use Rattle.bidi_sessions.specs.View.{sent_of}
use Rattle.bidi_play.specs.Lines.{written}
use Rattle.bidi_scripted.specs.Script as script
use Rattle.bidi_scripted.specs.Script.{Follower, Script, held_by}
use Rattle.bidi_scripted.specs.Sending.{followed_by}
use Rattle.bidi_script_lines.specs.declared.outcome.Outcome as declared
use Rattle.bidi_script_lines.specs.declared.outcome.Outcome.TheVariants as code

-- The remote end sends something, the test does, a command is held, a binary message or bytes without a frame are sent, a connection is read no more or again,
-- a connection is cut, now or in its next message, or closed, handshakes are refused, or nothing happens.
pub data Outcome : Type 0 where
  OfMachine : (sent : List Sent) → Outcome
  OfTest : (sent : List Sent) → Outcome
  Held : (number : ℕ) → Outcome
  Bytes : (conn : ℕ) (digits : List ℕ) → Outcome
  Raw : (conn : ℕ) (digits : List ℕ) → Outcome
  Stalled : (conn : ℕ) → Outcome
  Resumed : (conn : ℕ) → Outcome
  Cut : (conn : ℕ) → Outcome
  CutAfter : (conn : ℕ) (bytes : ℕ) → Outcome
  Closed : (conn : ℕ) (code : ℕ) → Outcome
  Refusing : (number : ℕ) (code : ℕ) → Outcome
  NoEffect : (reason : List ℕ) → Outcome

-- the outcome in the code, with the bytes of its strings
abbrev pub outcome_of : declared.Outcome → Outcome
outcome_of (code.OfMachine sent) = OfMachine (map sent_of sent.items)
outcome_of (code.Sent sent) = OfTest (map sent_of sent.items)
outcome_of (code.Held number) = Held number
outcome_of (code.Bytes conn digits) = Bytes conn.value (string_bytes digits)
outcome_of (code.Raw conn digits) = Raw conn.value (string_bytes digits)
outcome_of (code.Stalled conn) = Stalled conn.value
outcome_of (code.Resumed conn) = Resumed conn.value
outcome_of (code.Cut conn) = Cut conn.value
outcome_of (code.CutAfter conn bytes) = CutAfter conn.value bytes.value
outcome_of (code.Closed conn number) = Closed conn.value number
outcome_of (code.Refusing count status) = Refusing count.value status
outcome_of (code.NoEffect reason) = NoEffect (string_bytes reason)

-- what the remote end sends, each thing followed by the events that a test had follow it
abbrev pub with_followers : List Follower → List Sent → List Sent
with_followers followers sent = flat_map (λ s. s ∷ followed_by followers s) sent

-- the line for a command that is held, without its line feed
-- example: `held 1 2 {"id":3,"method":"session.status","params":{}}`
abbrev pub held_line : script.Held → List ℕ
held_line h = codes "held " ++ (decimal h.number ++ 32 ∷ (decimal h.conn ++ 32 ∷ h.text))

-- the line for a command that is held, with its line feed, or nothing if there is none
abbrev pub held_text : Option script.Held → List ℕ
held_text None = []
held_text (Some h) = ended (held_line h)

-- the lines that are written for an outcome, each with its line feed
abbrev pub outcome_text : Script → Outcome → List ℕ
outcome_text script (OfMachine sent) = written (with_followers script.followers sent)
outcome_text script (OfTest sent) = written sent
outcome_text script (Held n) = held_text (held_by n script)
outcome_text script (Bytes c digits) = ended (codes "bytes " ++ decimal c ++ 32 ∷ digits)
outcome_text script (Raw c digits) = ended (codes "raw " ++ decimal c ++ 32 ∷ digits)
outcome_text script (Stalled c) = ended (codes "stall " ++ decimal c)
outcome_text script (Resumed c) = ended (codes "resume " ++ decimal c)
outcome_text script (Cut c) = ended (codes "cut " ++ decimal c)
outcome_text script (CutAfter c bytes) = ended (codes "cut " ++ decimal c ++ 32 ∷ decimal bytes)
outcome_text script (Closed c number) = ended (codes "close " ++ decimal c ++ 32 ∷ decimal number)
outcome_text script (Refusing n status) = ended (codes "refuse " ++ decimal n ++ 32 ∷ decimal status)
outcome_text script (NoEffect reason) = ended (codes "no effect: " ++ reason)
