-- What a step of the protocol leaves of a connection: its role, and its state unless a close frame came.
use Rattle.std.proofs.Common.{◌≡◌, ◌∙◌, ◌++◌, ◌⊎◌, ℕ, List, Bool, true, false, cond, not, Option, None, Some, Result, Ok, Err, ap, inl, inr, refl, subst}
use Rattle.std.specs.Prelude.{⊤, length, nat_lt}
use Rattle.websocket.specs.Connection.{Connection, Effect, can_write, check_can_write, check_close, check_so_far, close_step, close_to, closing_state, complete_message, decode_close, deliver, failed_connection, has_allowed_code, on_close, on_control, on_data, on_data_after, on_frame, on_message_bytes, on_opcode, on_short_control, read_step, write_active, write_step}
use Rattle.websocket.specs.Content.{Content, close, close_payload, text}
use Rattle.websocket.specs.Frame.{Checked, after_check}
use Rattle.websocket.specs.View.{Leaves, ReadLeaves}
use Rattle.websocket.specs.declared.error.Error.{Error}
use Rattle.websocket.specs.declared.error.Error.TheVariants.{Protocol}
use Rattle.websocket.specs.declared.error.ProtocolError.TheVariants.{ControlFrameTooBig}
use Rattle.websocket.specs.declared.protocol.frame.codec.FrameStatus.{FrameStatus}
use Rattle.websocket.specs.declared.protocol.frame.codec.FrameStatus.TheVariants.{Complete, Partial}
use Rattle.websocket.specs.declared.protocol.frame.coding.CloseCode.{CloseCode}
use Rattle.websocket.specs.declared.protocol.frame.coding.Control.{Control}
use Rattle.websocket.specs.declared.protocol.frame.coding.Control.TheVariants.{Close, Ping, Pong}
use Rattle.websocket.specs.declared.protocol.frame.coding.Data.{Data}
use Rattle.websocket.specs.declared.protocol.frame.coding.Data.TheVariants.{Binary, Continue, Text}
use Rattle.websocket.specs.declared.protocol.frame.coding.OpCode.{OpCode}
use Rattle.websocket.specs.declared.protocol.frame.coding.OpCode.TheVariants as opcode
use Rattle.websocket.specs.declared.protocol.frame.header.FrameHeader.{FrameHeader}
use Rattle.websocket.specs.declared.protocol.incomplete.MessageType.{MessageType}
use Rattle.websocket.specs.declared.protocol.incomplete.MessageType.TheVariants as kind
use Rattle.websocket.specs.declared.protocol.state.WebSocketState.{WebSocketState}
use Rattle.websocket.proofs.StreamLemmas.{TookFrame_from_read}

-- a fact on the effect of a step that succeeds
abbrev IfEffect : (Effect → Type 0) → Result Effect Error → Type 0
IfEffect P (Ok effect) = P effect
IfEffect P (Err e) = ⊤

-- the role stays
abbrev HasRole : Connection → Effect → Type 0
HasRole c effect = effect.next.role ≡ c.role

-- a close frame came
abbrev pub Closes : Effect → Type 0
Closes effect = (reason : Option (CloseCode × List ℕ)) × (effect.message ≡ Some (close reason))

-- the role stays, and the state too, unless a close frame came
abbrev Kept : Connection → Effect → Type 0
Kept c effect = HasRole c effect × (Closes effect ⊎ (effect.next.state ≡ c.state))

abbrev KeptBy : Connection → Result Effect Error → Type 0
KeptBy c r = IfEffect (Kept c) r

kept-cond : (c : Connection) (b : Bool) (x y : Result Effect Error) → KeptBy c x → KeptBy c y → KeptBy c (cond b x y)
kept-cond c true x y kx ky = kx
kept-cond c false x y kx ky = ky

kept-effect : (c : Connection) (b : Bool) (x y : Effect) → Kept c x → Kept c y → Kept c (cond b x y)
kept-effect c true x y kx ky = kx
kept-effect c false x y kx ky = ky

checked : (P : Effect → Type 0) (check : Checked Error) (r : Result Effect Error) → IfEffect P r → IfEffect P (after_check check r)
checked P (Ok x) r k = k
checked P (Err e) r k = tt

kept-close : (c : Connection) (payload : List ℕ) (r : Result (Option (CloseCode × List ℕ)) Error) → KeptBy c (on_close c payload r)
kept-close c payload (Err e) = tt
kept-close c payload (Ok frame) =
    kept-effect c (not (can_write c.state)) _ _ (refl, inl (frame, refl)) (kept-effect c (has_allowed_code frame) _ _ (refl, inl (frame, refl)) (refl, inl (_, refl)))

kept-short : (c : Connection) (control : Control) (payload : List ℕ) → KeptBy c (on_short_control c control payload)
kept-short c Close payload = kept-close c payload (decode_close payload)
kept-short c Pong payload = (refl, inr refl)
kept-short c Ping payload = (refl, inr refl)

kept-control : (c : Connection) (control : Control) (is_final : Bool) (payload : List ℕ) → KeptBy c (on_control c control is_final payload)
unfolding on_control
kept-control c control is_final payload = kept-cond c (not is_final) _ _ tt (kept-cond c (nat_lt 125 (length payload)) (Err (Protocol ControlFrameTooBig)) (on_short_control c control payload) tt (kept-short c control payload))

kept-deliver : (c : Connection) (r : Result Content Error) → KeptBy c (deliver c r)
kept-deliver c (Err e) = tt
kept-deliver c (Ok content) = (refl, inr refl)

kept-message : (c : Connection) (k : MessageType) (is_final : Bool) (bs : List ℕ) → KeptBy c (on_message_bytes c k is_final bs)
unfolding on_message_bytes
kept-message c k is_final bs = checked (Kept c) _ _ (kept-cond c is_final _ _ (kept-deliver c (complete_message k bs))
    (checked (Kept c) (check_so_far k bs) (Ok (record { message = None; reply = None; next = record c { fragments = Some (k, bs) } })) (refl, inr refl)))

kept-data-after : (c : Connection) (was : Option (MessageType × List ℕ)) (d : Data) (is_final : Bool) (payload : List ℕ) → KeptBy c (on_data_after c was d is_final payload)
kept-data-after c None Continue is_final payload = tt
kept-data-after c None Text is_final payload = kept-message c kind.Text is_final payload
kept-data-after c None Binary is_final payload = kept-message c kind.Binary is_final payload
kept-data-after c (Some p) Continue is_final payload = kept-message c p.0 is_final (p.1 ++ payload)
kept-data-after c (Some p) Text is_final payload = tt
kept-data-after c (Some p) Binary is_final payload = tt

kept-data : (c : Connection) (d : Data) (is_final : Bool) (payload : List ℕ) → KeptBy c (on_data c d is_final payload)
unfolding on_data
kept-data c d is_final payload = kept-data-after c c.fragments d is_final payload

kept-opcode : (c : Connection) (o : OpCode) (is_final : Bool) (payload : List ℕ) → KeptBy c (on_opcode c o is_final payload)
kept-opcode c (opcode.Control control) is_final payload = kept-control c control is_final payload
kept-opcode c (opcode.Data d) is_final payload = kept-data c d is_final payload

kept-frame : (c : Connection) (h : FrameHeader) (payload : List ℕ) → KeptBy c (on_frame c h payload)
unfolding on_frame
kept-frame c h payload = checked (Kept c) _ _ (kept-opcode c h.opcode h.is_final payload)

-- a read that completes
read-effect : (c : Connection) (input : List ℕ) (p : ℕ × Effect) → read_step c input ≡ Ok (Complete p) → Kept c p.1
read-effect c input p is = let took = TookFrame_from_read c input p is in subst (KeptBy c) took.does (kept-frame c took.header took.payload)

-- a read that completes leaves the state, unless a close frame came
pub read_keeps_state : (c : Connection) (input : List ℕ) (p : ℕ × Effect) → read_step c input ≡ Ok (Complete p) → Closes p.1 ⊎ (p.1.next.state ≡ c.state)
read_keeps_state c input p is = (read-effect c input p is).1

after-read : (c n : Connection) (r : Result (FrameStatus (ℕ × Effect)) Error) (old out : List ℕ) → ((p : ℕ × Effect) → r ≡ Ok (Complete p) → p.1.next.role ≡ c.role)
    → ReadLeaves r c n old out → n.role ≡ c.role
after-read c n (Err e) old out keeps leaves = absurd leaves
after-read c n (Ok (Partial k)) old out keeps leaves = ap (λ (x : Connection). x.role) leaves.0
after-read c n (Ok (Complete p)) old out keeps leaves = ap (λ (x : Connection). x.role) leaves.0 ∙ keeps p refl

-- a read that succeeds leaves the role
pub read_leaves_role : (c n : Connection) (input old out : List ℕ) → ReadLeaves (read_step c input) c n old out → n.role ≡ c.role
read_leaves_role c n input old out leaves = after-read c n (read_step c input) old out (λ p is. (read-effect c input p is).0) leaves

-- a read that fails leaves the role
pub failed_role : (c n : Connection) → n ≡ failed_connection c → n.role ≡ c.role
failed_role c n is = ap (λ (x : Connection). x.role) is

after-step : (c n : Connection) (r : Result Effect Error) (old out : List ℕ) → IfEffect (HasRole c) r → Leaves r n old out → n.role ≡ c.role
after-step c n (Err e) old out keeps leaves = absurd leaves
after-step c n (Ok effect) old out keeps leaves = ap (λ (x : Connection). x.role) leaves.0 ∙ keeps

after-send : (c n : Connection) (check : Checked Error) (r : Result Effect Error) (old out : List ℕ) → IfEffect (λ (e : Effect). e.next ≡ c) r
    → Leaves (after_check check r) n old out → n ≡ c
after-send c n (Err e) r old out keeps leaves = absurd leaves
after-send c n (Ok x) (Err e) old out keeps leaves = absurd leaves
after-send c n (Ok x) (Ok effect) old out keeps leaves = leaves.0 ∙ keeps

-- a text that is written leaves the protocol as it was
pub write_leaves_same : (c n : Connection) (t old out : List ℕ) → Leaves (write_step c (text t)) n old out → n ≡ c
write_leaves_same c n t old out leaves = after-send c n (check_can_write c.state) (write_active c (text t)) old out refl leaves

kept-close-to : (c : Connection) (frame : Option (CloseCode × List ℕ)) (state : Option WebSocketState) → IfEffect (HasRole c) (close_to c frame state)
kept-close-to c frame None = refl
kept-close-to c frame (Some state) =
    checked (HasRole c) (check_close frame) (Ok (record { message = None; reply = Some (record { opcode = opcode.Control Close; payload = close_payload frame }); next = record c { state = state } })) refl

-- a close frame leaves the role
pub close_leaves_role : (c n : Connection) (frame : Option (CloseCode × List ℕ)) (old out : List ℕ) → Leaves (close_step c frame) n old out → n.role ≡ c.role
close_leaves_role c n frame old out leaves = after-step c n (close_step c frame) old out (kept-close-to c frame (closing_state c.state)) leaves
