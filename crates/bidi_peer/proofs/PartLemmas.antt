-- How many bytes of an unfinished message the protocol keeps after a frame.
use Rattle.std.proofs.Common.{◌≡◌, ◌∙◌, ◌++◌, ◌+◌, ◌-◌, ◌^◌, ℕ, List, Bool, true, false, cond, not, Option, None, Some, Result, Ok, Err, ap, arith, drop, length, length-append, min, refl, subst, sym, zero-add}
use Rattle.std.specs.Prelude.{⊤, nat_lt, slice_range}
use Rattle.std.proofs.lemmas.Bool.{ltb-false}
use Rattle.std.proofs.lemmas.List.{length-drop, length-take-le}
use Rattle.websocket.specs.Connection.{Connection, Effect, can_write, check_close, check_open, check_so_far, close_step, close_to, closing_state, complete_message, consumed_with, decode_close, deliver, failed_connection, has_allowed_code, on_close, on_control, on_data, on_data_after, on_frame, on_message_bytes, on_opcode, on_short_control, read_decoded, read_step}
use Rattle.websocket.specs.Content.{Content, binary, close, close_payload, ping, pong, text}
use Rattle.websocket.specs.Frame.{Checked, after_check, check_size, decode_frame, frame_after_header, frame_at}
use Rattle.websocket.specs.FrameHeader.{Decoded, decode_header, header_len}
use Rattle.websocket.specs.Mask.{apply_mask_if}
use Rattle.websocket.specs.Text.{is_utf8}
use Rattle.websocket.specs.View.{Leaves}
use Rattle.websocket.specs.declared.error.Error.{Error}
use Rattle.websocket.specs.declared.error.Error.TheVariants.{Protocol, Utf8}
use Rattle.websocket.specs.declared.error.ProtocolError.TheVariants.{ControlFrameTooBig}
use Rattle.websocket.specs.declared.protocol.frame.codec.FrameStatus.TheVariants.{Complete, Partial}
use Rattle.websocket.specs.declared.protocol.frame.coding.CloseCode.{CloseCode}
use Rattle.websocket.specs.declared.protocol.frame.coding.Control.{Control}
use Rattle.websocket.specs.declared.protocol.frame.coding.Control.TheVariants.{Close, Ping, Pong}
use Rattle.websocket.specs.declared.protocol.frame.coding.Data.{Data}
use Rattle.websocket.specs.declared.protocol.frame.coding.Data.TheVariants.{Binary, Continue, Text}
use Rattle.websocket.specs.declared.protocol.frame.coding.OpCode.{OpCode}
use Rattle.websocket.specs.declared.protocol.frame.coding.OpCode.TheVariants as opcode
use Rattle.websocket.specs.declared.protocol.frame.header.FrameHeader.{FrameHeader}
use Rattle.websocket.specs.declared.protocol.incomplete.MessageType.{MessageType}
use Rattle.websocket.specs.declared.protocol.incomplete.MessageType.TheVariants as kind
use Rattle.websocket.specs.declared.protocol.state.WebSocketState.{WebSocketState}
use Rattle.websocket.proofs.MaskLemmas.{length-apply_mask_if}
use Rattle.bidi_peer.specs.Taking.{CountsPart, HasPayload, HasTaken, IsTakenFor, Shows, unfinished_after}
use Rattle.bidi_peer.specs.Waiting.{payload_of}
use Rattle.bidi_peer.specs.declared.framing.Frame.{Frame}
use Rattle.bidi_peer.specs.declared.framing.Frame.TheVariants as frame
use Rattle.bidi_peer.proofs.TakingLemmas.{Outcome}

-- how much is kept after a frame with this message and so many bytes of payload, if so much was before
abbrev Keeps : Option Content → ℕ → ℕ → ℕ → Type 0
Keeps None before n after = after ≡ before + n
Keeps (Some (text bytes)) before n after = after ≡ 0
Keeps (Some (binary bytes)) before n after = after ≡ 0
Keeps (Some (ping bytes)) before n after = after ≡ before
Keeps (Some (pong bytes)) before n after = after ≡ before
Keeps (Some (close reason)) before n after = after ≡ before

abbrev KeptOf : Connection → ℕ → Effect → Type 0
KeptOf c n effect = Keeps effect.message (payload_of c.fragments) n (payload_of effect.next.fragments)

abbrev Kept : Connection → ℕ → Result Effect Error → Type 0
Kept c n (Ok effect) = KeptOf c n effect
Kept c n (Err e) = ⊤

kept-cond : (c : Connection) (n : ℕ) (b : Bool) (x y : Result Effect Error) → Kept c n x → Kept c n y → Kept c n (cond b x y)
kept-cond c n true x y kx ky = kx
kept-cond c n false x y kx ky = ky

kept-effect : (c : Connection) (n : ℕ) (b : Bool) (x y : Effect) → KeptOf c n x → KeptOf c n y → KeptOf c n (cond b x y)
kept-effect c n true x y kx ky = kx
kept-effect c n false x y kx ky = ky

checked : (c : Connection) (n : ℕ) (check : Checked Error) (r : Result Effect Error) → Kept c n r → Kept c n (after_check check r)
checked c n (Ok x) r k = k
checked c n (Err e) r k = tt

kept-close : (c : Connection) (n : ℕ) (payload : List ℕ) (r : Result (Option (CloseCode × List ℕ)) Error) → Kept c n (on_close c payload r)
kept-close c n payload (Err e) = tt
kept-close c n payload (Ok f) =
    kept-effect c n (not (can_write c.state)) _ _ refl (kept-effect c n (has_allowed_code f) _ _ refl refl)

kept-short : (c : Connection) (n : ℕ) (control : Control) (payload : List ℕ) → Kept c n (on_short_control c control payload)
kept-short c n Close payload = kept-close c n payload (decode_close payload)
kept-short c n Pong payload = refl
kept-short c n Ping payload = refl

kept-control : (c : Connection) (n : ℕ) (control : Control) (is_final : Bool) (payload : List ℕ) → Kept c n (on_control c control is_final payload)
unfolding on_control
kept-control c n control is_final payload =
    kept-cond c n (not is_final) _ _ tt (kept-cond c n (nat_lt 125 (length payload)) (Err (Protocol ControlFrameTooBig)) (on_short_control c control payload) tt
    (kept-short c n control payload))

kept-deliver : (c : Connection) (n : ℕ) (k : MessageType) (bs : List ℕ) → Kept c n (deliver c (complete_message k bs))
kept-deliver c n kind.Text bs = delivered c n (is_utf8 bs) bs
  where
    delivered : (c : Connection) (n : ℕ) (b : Bool) (bs : List ℕ) → Kept c n (deliver c (cond b (Ok (text bs)) (Err Utf8)))
    delivered c n true bs = refl
    delivered c n false bs = tt
kept-deliver c n kind.Binary bs = refl

kept-message : (c : Connection) (n : ℕ) (k : MessageType) (is_final : Bool) (bs : List ℕ) → length bs ≡ payload_of c.fragments + n
    → Kept c n (on_message_bytes c k is_final bs)
unfolding on_message_bytes
kept-message c n k is_final bs size = checked c n _ _ (kept-cond c n is_final _ _ (kept-deliver c n k bs)
    (checked c n (check_so_far k bs) (Ok (record { message = None; reply = None; next = record c { fragments = Some (k, bs) } })) size))

kept-data-after : (c : Connection) (was : Option (MessageType × List ℕ)) (d : Data) (is_final : Bool) (payload : List ℕ) → c.fragments ≡ was
    → Kept c (length payload) (on_data_after c was d is_final payload)
kept-data-after c None Continue is_final payload is = tt
kept-data-after c None Text is_final payload is = kept-message c (length payload) kind.Text is_final payload (sym (zero-add (length payload)) ∙ sym (ap (λ o. payload_of o + length payload) is))
kept-data-after c None Binary is_final payload is = kept-message c (length payload) kind.Binary is_final payload (sym (zero-add (length payload)) ∙ sym (ap (λ o. payload_of o + length payload) is))
kept-data-after c (Some p) Continue is_final payload is =
    kept-message c (length payload) p.0 is_final (p.1 ++ payload) (length-append p.1 payload ∙ sym (ap (λ o. payload_of o + length payload) is))
kept-data-after c (Some p) Text is_final payload is = tt
kept-data-after c (Some p) Binary is_final payload is = tt

kept-opcode : (c : Connection) (o : OpCode) (is_final : Bool) (payload : List ℕ) → Kept c (length payload) (on_opcode c o is_final payload)
unfolding on_data
kept-opcode c (opcode.Control control) is_final payload = kept-control c (length payload) control is_final payload
kept-opcode c (opcode.Data d) is_final payload = kept-data-after c c.fragments d is_final payload refl

kept-frame : (c : Connection) (h : FrameHeader) (payload : List ℕ) → Kept c (length payload) (on_frame c h payload)
unfolding on_frame
kept-frame c h payload = checked c (length payload) _ _ (kept-opcode c h.opcode h.is_final payload)

-- what a step that completes says of its effect
consumed : (c : Connection) (n m : ℕ) (r : Result Effect Error) (p : ℕ × Effect) → Kept c n r → consumed_with m r ≡ Ok (Complete p) → KeptOf c n p.1
consumed c n m (Err e) p kept is = cc
consumed c n m (Ok effect) p kept is = let same : effect ≡ p.1 = cc is in subst (KeptOf c n) same kept

framed : (c : Connection) (input : List ℕ) (h : FrameHeader) (n : ℕ) (short : Bool) (p : ℕ × Effect) → nat_lt (length input) (header_len h n + n) ≡ short
    → read_decoded c input (Ok (frame_at input h n)) ≡ Ok (Complete p) → KeptOf c n p.1
framed c input h n true p is reads = absurd (cc (sym (ap (λ b. read_decoded c input (Ok (cond b (Partial (header_len h n + n)) (Complete (record { header = h; payload = record { start = header_len h n; end = header_len h n + n } }))))) is) ∙ reads))
framed c input h n false p is reads =
    let k = header_len h n in
    let whole = sym (ap (λ b. read_decoded c input (Ok (cond b (Partial (k + n)) (Complete (record { header = h; payload = record { start = k; end = k + n } }))))) is) ∙ reads in
    let bytes = apply_mask_if h.mask (slice_range input k (k + n)) in
    let size : length bytes ≡ n =
    length-apply_mask_if h.mask (slice_range input k (k + n))
    ∙ (length-take-le (k + n - k) (drop k input) (omega (arith, length-drop k input, ltb-false (length input) (k + n) is)) ∙ omega arith) in
    subst (λ m. KeptOf c m p.1) size (consumed c (length bytes) (k + n) (on_frame c h bytes) p (kept-frame c h bytes) whole)

-- what a read that completes keeps, with the length that the header says
abbrev ReadKept : Connection → List ℕ → Effect → Type 0
ReadKept c input effect = (h : FrameHeader) × (n : ℕ) × (decode_header input ≡ Ok (Some (h, n))) × KeptOf c n effect

sized : (c : Connection) (input : List ℕ) (h : FrameHeader) (n : ℕ) (check : Checked Error) (p : ℕ × Effect)
    → read_decoded c input (after_check check (Ok (frame_at input h n))) ≡ Ok (Complete p) → KeptOf c n p.1
sized c input h n (Err e) p reads = cc
sized c input h n (Ok x) p reads = framed c input h n (nat_lt (length input) (header_len h n + n)) p refl reads

decoded : (c : Connection) (input : List ℕ) (limit : Option ℕ) (r : Decoded (FrameHeader × ℕ)) (p : ℕ × Effect) → decode_header input ≡ r
    → read_decoded c input (frame_after_header limit input r) ≡ Ok (Complete p) → ReadKept c input p.1
decoded c input limit (Err e) p is reads = cc
decoded c input limit (Ok None) p is reads = cc
decoded c input limit (Ok (Some (h, n))) p is reads = (h, n, is, sized c input h n (check_size n limit) p reads)

opened : (c : Connection) (input : List ℕ) (check : Checked Error) (p : ℕ × Effect)
    → after_check check (read_decoded c input (decode_frame c.config.max_frame_size input)) ≡ Ok (Complete p) → ReadKept c input p.1
unfolding decode_frame
opened c input (Err e) p reads = cc
opened c input (Ok x) p reads = decoded c input c.config.max_frame_size (decode_header input) p refl reads

read-kept : (c : Connection) (input : List ℕ) (p : ℕ × Effect) → read_step c input ≡ Ok (Complete p) → ReadKept c input p.1
unfolding read_step
read-kept c input p reads = opened c input (check_open c.role c.state) p reads

-- ---- frames

-- a part of a message has the length of its header
pub part_counted : (bytes : List ℕ) (f : Frame) (payload : ℕ) → HasPayload payload f
    → ((h : FrameHeader) (n : ℕ) → decode_header bytes ≡ Ok (Some (h, n)) → payload ≡ n) → CountsPart bytes f
part_counted bytes f payload has size = λ h n e. subst (λ m. HasPayload m f) (size h n e) has

whole-counts : (m : Option Content) (f : Frame) (before k after : ℕ) → Shows m f → HasPayload k f → Keeps m before k after
    → unfinished_after f (min before (2 ^ 64 - 1)) ≡ min after (2 ^ 64 - 1)
whole-counts None (frame.Fragment n) before k after shows has keeps = omega (arith, has, keeps)
whole-counts (Some (text bytes)) (frame.Text t) before k after shows has keeps = omega (arith, keeps)
whole-counts (Some (binary bytes)) frame.NotText before k after shows has keeps = omega (arith, keeps)
whole-counts (Some (ping bytes)) frame.Control before k after shows has keeps = omega (arith, keeps)
whole-counts (Some (pong bytes)) frame.Control before k after shows has keeps = omega (arith, keeps)
whole-counts (Some (close reason)) frame.Close before k after shows has keeps = omega (arith, keeps)
whole-counts m f before k after shows has keeps = absurd shows

same-part : (c d : Connection) → d ≡ c → min (payload_of c.fragments) (2 ^ 64 - 1) ≡ min (payload_of d.fragments) (2 ^ 64 - 1)
same-part c d is = ap (λ (x : Connection). min (payload_of x.fragments) (2 ^ 64 - 1)) (sym is)

taken-counts : (c d : Connection) (r : Outcome) (bytes left waited waits : List ℕ) (f : Frame) → read_step c bytes ≡ r → IsTakenFor r f → HasTaken r c bytes waited d left waits
    → CountsPart bytes f → unfinished_after f (min (payload_of c.fragments) (2 ^ 64 - 1)) ≡ min (payload_of d.fragments) (2 ^ 64 - 1)
taken-counts c d (Err e) bytes left waited waits (frame.Bad fault) is takes t counts = same-part (failed_connection c) d t.0
taken-counts c d (Err e) bytes left waited waits f is takes t counts = absurd takes
taken-counts c d (Ok (Partial n)) bytes left waited waits frame.Part is takes t counts = same-part c d t.0
taken-counts c d (Ok (Partial n)) bytes left waited waits f is takes t counts = absurd takes
taken-counts c d (Ok (Complete p)) bytes left waited waits f is takes t counts =
    let kept = read-kept c bytes p is in
    whole-counts p.1.message f (payload_of c.fragments) kept.1 (payload_of p.1.next.fragments) takes (counts kept.0 kept.1 kept.2) kept.3
    ∙ same-part p.1.next d t.0

-- what is counted before and after a frame
pub frame_counts : (c d : Connection) (bytes left waited waits : List ℕ) (f : Frame) (before after : ℕ) → IsTakenFor (read_step c bytes) f
    → HasTaken (read_step c bytes) c bytes waited d left waits → CountsPart bytes f → before ≡ min (payload_of c.fragments) (2 ^ 64 - 1)
    → after ≡ unfinished_after f before → after ≡ min (payload_of d.fragments) (2 ^ 64 - 1)
frame_counts c d bytes left waited waits f before after takes t counts was is =
    is ∙ ap (unfinished_after f) was ∙ taken-counts c d (read_step c bytes) bytes left waited waits f refl takes t counts

-- ---- closing

kept-closing : (c : Connection) (f : Option (CloseCode × List ℕ)) (state : Option WebSocketState) (r : Result Effect Error) → close_to c f state ≡ r
    → (effect : Effect) → r ≡ Ok effect → effect.next.fragments ≡ c.fragments
kept-closing c f None r is effect ok = let same : effect ≡ record { message = None; reply = None; next = c } = cc (sym ok ∙ sym is) in ap (λ (e : Effect). e.next.fragments) same
kept-closing c f (Some state) r is effect ok = closed (check_close f) (is ∙ ok)
  where
    closed : (check : Checked Error)
        → after_check check (Ok (record { message = None; reply = Some (record { opcode = opcode.Control Close; payload = close_payload f }); next = record c { state = state } })) ≡ Ok effect
        → effect.next.fragments ≡ c.fragments
    closed (Err e) ok = cc
    closed (Ok x) ok =
        let same : effect ≡ record { message = None; reply = Some (record { opcode = opcode.Control Close; payload = close_payload f }); next = record c { state = state } } = cc (sym ok) in
        ap (λ (e : Effect). e.next.fragments) same

left-part : (c n : Connection) (r : Result Effect Error) (old out : List ℕ) → ((effect : Effect) → r ≡ Ok effect → effect.next.fragments ≡ c.fragments) → Leaves r n old out
    → n.fragments ≡ c.fragments
left-part c n (Err e) old out keeps leaves = absurd leaves
left-part c n (Ok effect) old out keeps leaves = ap (λ (x : Connection). x.fragments) leaves.0 ∙ keeps effect refl

-- a close frame leaves what is kept
pub close_leaves_part : (c n : Connection) (f : Option (CloseCode × List ℕ)) (old out : List ℕ) → Leaves (close_step c f) n old out → n.fragments ≡ c.fragments
close_leaves_part c n f old out leaves = left-part c n (close_step c f) old out (kept-closing c f (closing_state c.state) (close_step c f) refl) leaves
