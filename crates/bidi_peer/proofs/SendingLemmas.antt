-- What a text that is sent adds to what waits.
use Rattle.std.proofs.Common.{◌≡◌, ◌∙◌, ◌++◌, ◌+◌, ◌<◌, ℕ, List, [], Option, None, Some, Ok, Err, ap, append_assoc, arith, inl, inr, length, Result, refl, subst, sym, ◌⊎◌}
use Rattle.std.proofs.lemmas.List.{length-append}
use Rattle.std.specs.declared.io.ErrorKind.{ErrorKind}
use Rattle.websocket.specs.Connection.{Connection, Effect, IsMaskOf, check_can_write, check_close, close_step, close_to, closing_state, send, whole_header, write_step}
use Rattle.websocket.specs.Content.{close_payload, text}
use Rattle.websocket.specs.Frame.{Checked, after_check, encode_frame}
use Rattle.websocket.specs.FrameHeader.{encode_header, extended_len}
use Rattle.websocket.proofs.FrameHeaderLemmas.{length-encode_header}
use Rattle.websocket.specs.View.{Leaves}
use Rattle.websocket.specs.declared.error.Error.{Error}
use Rattle.websocket.specs.declared.protocol.config.Role.TheVariants.{Server}
use Rattle.websocket.specs.declared.protocol.frame.coding.Data.TheVariants.{Binary, Text}
use Rattle.websocket.specs.declared.protocol.frame.coding.CloseCode.{CloseCode}
use Rattle.websocket.specs.declared.protocol.frame.coding.Control.TheVariants.{Close}
use Rattle.websocket.specs.declared.protocol.frame.coding.OpCode.TheVariants.{Control, Data}
use Rattle.websocket.specs.declared.protocol.state.WebSocketState.TheVariants.{Active, ClosedByUs}
use Rattle.bidi_peer.specs.declared.standing.Peer.{Peer}
use Rattle.bidi_peer.specs.declared.standing.State.{State}
use Rattle.bidi_peer.specs.declared.standing.State.TheVariants.{Closing, Open}
use Rattle.bidi_peer.specs.Sending.{Flushes, HasNoRoom, IsFlushed, IsLittle, KeepsWhatCame, PutsFrame, Sends, SendsClose, bytes_frame, close_frame, text_frame}
use Rattle.bidi_peer.specs.Closing.{code_of, reason_of}
use Rattle.bidi_peer.specs.Streams.{Blocked}
use Rattle.bidi_peer.specs.Telling.{HasFailed, StaysUnlessFailed}
use Rattle.bidi_peer.specs.declared.framing.Fault.TheVariants.{Slow}
use Rattle.bidi_peer.specs.Waiting.{Writes, unwritten}
use Rattle.bidi_peer.proofs.WaitingLemmas.{writes_then}

-- a write of a text that succeeds appends its frame
checked-frame : (check : Checked Error) (c n : Connection) (t old out : List ℕ) → Leaves (after_check check (send c (Data Text) t)) n old out
    → (mask : Option (List ℕ)) × IsMaskOf c.role mask × (out ≡ old ++ encode_frame (whole_header (Data Text) mask) t)
checked-frame (Ok x) c n t old out leaves = (leaves.1.0, subst (λ (k : Connection). IsMaskOf k.role leaves.1.0) leaves.0 leaves.1.1, leaves.1.2)
checked-frame (Err e) c n t old out leaves = absurd leaves

pub no-mask : (mask : Option (List ℕ)) → IsMaskOf Server mask → mask ≡ None
no-mask None role = refl
no-mask (Some key) role = absurd (cc role.0)

-- a server's text has no mask
pub server_frame : (c n : Connection) (t old out : List ℕ) → Leaves (write_step c (text t)) n old out → c.role ≡ Server → out ≡ old ++ text_frame t
server_frame c n t old out leaves server =
    let w = checked-frame (check_can_write c.state) c n t old out leaves in
    w.2 ∙ ap (λ mask. old ++ encode_frame (whole_header (Data Text) mask) t) (no-mask w.0 (subst (λ r. IsMaskOf r w.0) server w.1))

-- a server that is active closes by one close frame without a mask
pub server_close : (c n : Connection) (code : CloseCode) (reason old out : List ℕ) → Leaves (close_step c (Some (code, reason))) n old out → c.role ≡ Server → c.state ≡ Active
    → out ≡ old ++ close_frame code reason
server_close c n code reason old out leaves server active =
    let frame : Option (CloseCode × List ℕ) = Some (code, reason) in
    of (check_close frame) (subst (λ s. Leaves (close_to c frame (closing_state s)) n old out) active leaves)
  where
    reply : Effect
    reply = record { message = None; reply = Some (record { opcode = Control Close; payload = close_payload (Some (code, reason)) }); next = record c { state = ClosedByUs } }

    of : (check : Checked Error) → Leaves (after_check check (Ok reply)) n old out → out ≡ old ++ close_frame code reason
    of (Ok x) l =
        l.1.2 ∙ ap (λ mask. old ++ encode_frame (whole_header (Control Close) mask) (close_payload (Some (code, reason))))
        (no-mask l.1.0 (subst (λ r. IsMaskOf r l.1.0) server (subst (λ (k : Connection). IsMaskOf k.role l.1.0) l.0 l.1.1)))
    of (Err e) l = absurd l

-- how long the frame of a text is
pub text_frame_length : (t : List ℕ) → length (text_frame t) ≡ length t + (2 + extended_len (length t))
text_frame_length t =
    let h = whole_header (Data Text) None in
    length-append (encode_header h (length t)) t ∙ omega (arith, length-encode_header h (length t) tt)

-- how long the frame of a binary message is
pub bytes_frame_length : (t : List ℕ) → length (bytes_frame t) ≡ length t + (2 + extended_len (length t))
bytes_frame_length t =
    let h = whole_header (Data Binary) None in
    length-append (encode_header h (length t)) t ∙ omega (arith, length-encode_header h (length t) tt)

-- what joins the back joins what waits
pub joins-back : (front back out frame : List ℕ) → out ≡ back ++ frame → front ++ out ≡ (front ++ back) ++ frame
joins-back front back out frame e = ap (λ x. front ++ x) e ∙ sym (append_assoc front back frame)

open-failed : (s : State) → s ≡ Open → HasFailed s → ⊥
open-failed s opened failed = subst HasFailed opened failed

module _ {S : Type 0} (contents : S → Option (List ℕ)) where
  -- a frame that is put between two flushes is sent
  pub puts-sends : (t : List ℕ) (a b c d : Peer S) → Flushes contents a b → PutsFrame t b c → Flushes contents c d → Sends contents t a d
  puts-sends t a b c d before put after =
      writes_then contents (unwritten a.outbox) (unwritten b.outbox) (unwritten d.outbox) t a.stream b.stream d.stream before.writes
      (subst (λ s. Writes contents (unwritten b.outbox ++ t) (unwritten d.outbox) s d.stream) put.stream
      (subst (λ w. Writes contents w (unwritten d.outbox) c.stream d.stream) put.joins after.writes))

  -- where it is open after each of these, its stream failed in none
  pub sent : (t : List ℕ) (a b c d : Peer S) → HasFailed b.state ⊎ Flushes contents a b → b.state ≡ Open → PutsFrame t b c
      → HasFailed d.state ⊎ Flushes contents c d → d.state ≡ Open → Sends contents t a d
  sent t a b c d (inl failed) stays put after still = absurd (open-failed b.state stays failed)
  sent t a b c d (inr before) stays put (inl failed) still = absurd (open-failed d.state still failed)
  sent t a b c d (inr before) stays put (inr after) still = puts-sends t a b c d before put after

  -- where it is open, nothing waited after a flush, or the stream took nothing for now
  was_tried : (writes : S → Result ℕ ErrorKind → S → Type 0) (b : Peer S) → b.state ≡ Open → IsFlushed writes b
      → (unwritten b.outbox ≡ []) ⊎ Blocked writes b.stream
  was_tried writes b opened (inl failed) = absurd (open-failed b.state opened failed)
  was_tried writes b opened (inr tried) = tried

  -- where it is open, a frame without room closes it, unless its stream fails
  pub no_room : (writes : S → Result ℕ ErrorKind → S → Type 0) (t : List ℕ) (a b d : Peer S) → HasFailed b.state ⊎ Flushes contents a b → b.state ≡ Open → b.most_waiting < length (unwritten b.outbox) + length t
      → IsFlushed writes b → StaysUnlessFailed Closing d.state → SendsClose contents (code_of Slow) (reason_of Slow) b d
      → StaysUnlessFailed Open d.state ⊎ HasNoRoom contents writes t a d
  no_room writes t a b d (inl failed) opened full tried ends close = absurd (open-failed b.state opened failed)
  no_room writes t a b d (inr before) opened full tried (inr failed) close = inl (inr failed)
  no_room writes t a b d (inr before) opened full tried (inl closing) (inl failed) = inl (inr failed)
  no_room writes t a b d (inr before) opened full tried (inl closing) (inr close) = inr (record {
    closes = closing;
    rest = unwritten b.outbox;
    stream = b.stream;
    writes = before.writes;
    tried = was_tried writes b opened tried;
    full = subst (λ m. m < length (unwritten b.outbox) + length t) before.bound full;
    close = close;
  })

module _ {S : Type 0} where
  -- a short frame waits
  pub waited : (t : List ℕ) (a b c d : Peer S) → b ≡ a → PutsFrame t b c → c.state ≡ b.state → (length (unwritten c.outbox) < 65536 → d ≡ c) → a.state ≡ Open → IsLittle t a
      → (d.state ≡ Open) × PutsFrame t a d
  waited t a b c d same put stays little opened is =
      let joins : unwritten c.outbox ≡ unwritten a.outbox ++ t = subst (λ (p : Peer S). unwritten c.outbox ≡ unwritten p.outbox ++ t) same put.joins in
      let short : length (unwritten c.outbox) < 65536 = omega (arith, ap length joins, length-append (unwritten a.outbox) t, is.1) in
      subst (λ (p : Peer S). (p.state ≡ Open) × PutsFrame t a p) (sym (little short))
      (stays ∙ ap (λ (p : Peer S). p.state) same ∙ opened, record { stream = put.stream ∙ ap (λ (p : Peer S). p.stream) same; came = subst (λ (p : Peer S). KeepsWhatCame p c) same put.came; joins = joins })

  keeps-then : (a b c : Peer S) → KeepsWhatCame a b → KeepsWhatCame b c → KeepsWhatCame a c
  keeps-then a b c x y = record { context = y.context ∙ x.context; bytes = y.bytes ∙ x.bytes }

module _ {S : Type 0} (contents : S → Option (List ℕ)) where
  -- a flush after which the connection is open touches nothing that came
  pub flush_keeps : (a b : Peer S) → HasFailed b.state ⊎ Flushes contents a b → b.state ≡ Open → KeepsWhatCame a b
  flush_keeps a b (inl failed) stays = absurd (open-failed b.state stays failed)
  flush_keeps a b (inr f) stays = record { context = f.context; bytes = f.inbox }

  -- nor does what is done behind it, and then what is done behind that
  pub flush_keeps_then : (a b c : Peer S) → HasFailed b.state ⊎ Flushes contents a b → b.state ≡ Open → KeepsWhatCame b c → KeepsWhatCame a c
  flush_keeps_then a b c before stays keeps = keeps-then a b c (flush_keeps a b before stays) keeps

  -- nor does a flush, a text that is put, and a flush
  pub came_kept : (a b c d : Peer S) → HasFailed b.state ⊎ Flushes contents a b → b.state ≡ Open → KeepsWhatCame b c → HasFailed d.state ⊎ Flushes contents c d → d.state ≡ Open
      → KeepsWhatCame a d
  came_kept a b c d before stays keeps after still = keeps-then a c d (flush_keeps_then a b c before stays keeps) (flush_keeps c d after still)
