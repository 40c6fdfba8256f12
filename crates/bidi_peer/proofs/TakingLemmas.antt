-- What one read of the protocol takes.
use Rattle.std.proofs.Common.{◌≡◌, ◌∙◌, ◌++◌, ◌⊎◌, ℕ, List, Option, None, Some, Result, Ok, Err, ap, append-nil, append_assoc, drop, inl, inr, refl, subst, sym}
use Rattle.std.specs.Prelude.{string_bytes}
use Rattle.websocket.specs.Connection.{Connection, Effect, Outgoing, IsMaskOf, Sends, failed_connection, read_step, whole_header}
use Rattle.websocket.specs.Content.{Content, binary, close, ping, pong, text}
use Rattle.websocket.specs.Frame.{encode_frame}
use Rattle.websocket.specs.View.{GivesError, ReadLeaves, Returns}
use Rattle.websocket.specs.declared.error.Error.{Error}
use Rattle.websocket.specs.declared.protocol.config.Role.{Role}
use Rattle.websocket.specs.declared.protocol.config.Role.TheVariants.{Server}
use Rattle.websocket.specs.declared.protocol.context.Step.{Step}
use Rattle.websocket.specs.declared.protocol.frame.codec.FrameStatus.{FrameStatus}
use Rattle.websocket.specs.declared.protocol.frame.codec.FrameStatus.TheVariants.{Complete, Partial}
use Rattle.websocket.specs.declared.protocol.state.WebSocketState.TheVariants.{Active}
use Rattle.bidi_peer.specs.Messages.{IsSilent, reply_bytes}
use Rattle.bidi_peer.specs.Taking.{HasTaken, IsFaultOf, IsLast, IsTakenFor, Shows}
use Rattle.bidi_peer.specs.declared.framing.Fault.{Fault}
use Rattle.bidi_peer.specs.declared.framing.Frame.{Frame}
use Rattle.bidi_peer.specs.declared.framing.Frame.TheVariants as frame
use Rattle.bidi_peer.proofs.RoleLemmas.{Closes, read_keeps_state, read_leaves_role}
use Rattle.bidi_peer.proofs.SendingLemmas.{no-mask}

abbrev pub Outcome : Type 0
Outcome = Result (FrameStatus (ℕ × Effect)) Error

-- a server's reply has no mask
reply-sent : (role : Role) (reply : Option Outgoing) (old out : List ℕ) → role ≡ Server → Sends role reply old out → out ≡ old ++ reply_bytes reply
reply-sent role None old out server sends = sends ∙ sym (append-nil old)
reply-sent role (Some reply) old out server sends =
    sends.2 ∙ ap (λ mask. old ++ encode_frame (whole_header reply.opcode mask) reply.payload) (no-mask sends.0 (subst (λ r. IsMaskOf r sends.0) server sends.1))

-- a read that waits takes nothing
pub partial_taken : (r : Outcome) (c d : Connection) (k : ℕ) (bytes left waited waits : List ℕ) → Returns r left (Partial k) → ReadLeaves r c d waited waits → left ≡ bytes
    → HasTaken r c bytes waited d left waits
partial_taken (Err e) c d k bytes left waited waits returns leaves keeps = absurd returns
partial_taken (Ok (Partial n)) c d k bytes left waited waits returns leaves keeps = (leaves.0, keeps, leaves.1)
partial_taken (Ok (Complete p)) c d k bytes left waited waits returns leaves keeps = absurd returns

-- a read that completes takes its frame
taken-whole : (r : Outcome) (c d : Connection) (step : Step) (bytes left waited waits : List ℕ) → d.role ≡ Server → Returns r left (Complete step) → ReadLeaves r c d waited waits
    → drop step.consumed left ≡ drop step.consumed bytes → HasTaken r c bytes waited d (drop step.consumed left) waits
taken-whole (Err e) c d step bytes left waited waits server returns leaves keeps = absurd returns
taken-whole (Ok (Partial n)) c d step bytes left waited waits server returns leaves keeps = absurd (cc returns)
taken-whole (Ok (Complete p)) c d step bytes left waited waits server returns leaves keeps = (
  leaves.0,
  keeps ∙ ap (λ n. drop n bytes) returns.0,
  reply-sent d.role p.1.reply waited waits server leaves.1,
)

pub whole_taken : (c d : Connection) (step : Step) (bytes left waited waits : List ℕ) → c.role ≡ Server → Returns (read_step c bytes) left (Complete step)
    → ReadLeaves (read_step c bytes) c d waited waits → drop step.consumed left ≡ drop step.consumed bytes
    → HasTaken (read_step c bytes) c bytes waited d (drop step.consumed left) waits
whole_taken c d step bytes left waited waits server returns leaves keeps =
    taken-whole (read_step c bytes) c d step bytes left waited waits (read_leaves_role c d bytes waited waits leaves ∙ server) returns leaves keeps

-- a read that fails takes nothing
pub failed_taken : (r : Outcome) (e : Error) (f : Fault) (c d : Connection) (bytes left waited waits : List ℕ) → GivesError r e → IsFaultOf e f → d ≡ failed_connection c
    → waits ≡ waited → HasTaken r c bytes waited d left waits
failed_taken r e f c d bytes left waited waits (inl memory) fault failed same = absurd (subst (λ x. IsFaultOf x f) memory fault)
failed_taken r e f c d bytes left waited waits (inr is) fault failed same =
    subst (λ x. HasTaken x c bytes waited d left waits) (sym is) (failed, same)

-- what is taken is so behind what waited in front
pub taken_behind : (r : Outcome) (c d : Connection) (front bytes left waited waits : List ℕ) → HasTaken r c bytes waited d left waits
    → HasTaken r c bytes (front ++ waited) d left (front ++ waits)
taken_behind (Err e) c d front bytes left waited waits t = (t.0, ap (λ x. front ++ x) t.1)
taken_behind (Ok (Partial n)) c d front bytes left waited waits t = (t.0, t.1, ap (λ x. front ++ x) t.2)
taken_behind (Ok (Complete p)) c d front bytes left waited waits t =
    (t.0, t.1, ap (λ x. front ++ x) t.2 ∙ sym (append_assoc front waited (reply_bytes p.1.reply)))

-- a frame that tells nothing for itself
pub silent_control : (m : Option Content) → Shows m frame.Control → IsSilent m
silent_control None shows = absurd shows
silent_control (Some (text bytes)) shows = absurd shows
silent_control (Some (binary bytes)) shows = absurd shows
silent_control (Some (ping bytes)) shows = tt
silent_control (Some (pong bytes)) shows = tt
silent_control (Some (close reason)) shows = absurd shows

pub silent_fragment : (m : Option Content) (n : ℕ) → Shows m (frame.Fragment n) → IsSilent m
silent_fragment None n shows = tt
silent_fragment (Some (text bytes)) n shows = absurd shows
silent_fragment (Some (binary bytes)) n shows = absurd shows
silent_fragment (Some (ping bytes)) n shows = absurd shows
silent_fragment (Some (pong bytes)) n shows = absurd shows
silent_fragment (Some (close reason)) n shows = absurd shows

-- a frame that ends a text
pub shown_text : (m : Option Content) (s : _) → Shows m (frame.Text s) → m ≡ Some (text (string_bytes s))
shown_text None s shows = absurd shows
shown_text (Some (text bytes)) s shows = ap (λ b. Some (text b)) (sym shows)
shown_text (Some (binary bytes)) s shows = absurd shows
shown_text (Some (ping bytes)) s shows = absurd shows
shown_text (Some (pong bytes)) s shows = absurd shows
shown_text (Some (close reason)) s shows = absurd shows

-- a frame that ends a binary message
pub shown_binary : (m : Option Content) → Shows m frame.NotText → (bytes : List ℕ) × (m ≡ Some (binary bytes))
shown_binary None shows = absurd shows
shown_binary (Some (text bytes)) shows = absurd shows
shown_binary (Some (binary bytes)) shows = (bytes, refl)
shown_binary (Some (ping bytes)) shows = absurd shows
shown_binary (Some (pong bytes)) shows = absurd shows
shown_binary (Some (close reason)) shows = absurd shows

-- a close frame
pub shown_close : (m : Option Content) → Shows m frame.Close → (reason : _) × (m ≡ Some (close reason))
shown_close None shows = absurd shows
shown_close (Some (text bytes)) shows = absurd shows
shown_close (Some (binary bytes)) shows = absurd shows
shown_close (Some (ping bytes)) shows = absurd shows
shown_close (Some (pong bytes)) shows = absurd shows
shown_close (Some (close reason)) shows = (reason, refl)

-- a whole frame is not a part of one
pub not_part : (m : Option Content) → Shows m frame.Part → ⊥
not_part None shows = shows
not_part (Some (text bytes)) shows = shows
not_part (Some (binary bytes)) shows = shows
not_part (Some (ping bytes)) shows = shows
not_part (Some (pong bytes)) shows = shows
not_part (Some (close reason)) shows = shows

-- a whole frame that the protocol takes is no fault
pub not_bad : (m : Option Content) (f : Fault) → Shows m (frame.Bad f) → ⊥
not_bad None f shows = shows
not_bad (Some (text bytes)) f shows = shows
not_bad (Some (binary bytes)) f shows = shows
not_bad (Some (ping bytes)) f shows = shows
not_bad (Some (pong bytes)) f shows = shows
not_bad (Some (close reason)) f shows = shows

-- a close frame is the last
pub closed-last : (reason : _) (f : Frame) → Shows (Some (close reason)) f → IsLast f
closed-last reason frame.Part shows = absurd shows
closed-last reason frame.Control shows = absurd shows
closed-last reason (frame.Fragment n) shows = absurd shows
closed-last reason (frame.Text s) shows = absurd shows
closed-last reason frame.NotText shows = absurd shows
closed-last reason frame.Close shows = tt
closed-last reason (frame.Bad fault) shows = absurd shows

failed-last : (e : Error) (f : Frame) → IsTakenFor (Err e) f → IsLast f
failed-last e frame.Part is = absurd is
failed-last e frame.Control is = absurd is
failed-last e (frame.Fragment n) is = absurd is
failed-last e (frame.Text s) is = absurd is
failed-last e frame.NotText is = absurd is
failed-last e frame.Close is = absurd is
failed-last e (frame.Bad fault) is = tt

stays-or-closes : (c d : Connection) (e : Effect) (f : Frame) → d ≡ e.next → Closes e ⊎ (e.next.state ≡ c.state) → Shows e.message f → IsLast f ⊎ (d.state ≡ c.state)
stays-or-closes c d e f next (inl closes) shows = inl (closed-last closes.0 f (subst (λ m. Shows m f) closes.1 shows))
stays-or-closes c d e f next (inr same) shows = inr (ap (λ (x : Connection). x.state) next ∙ same)

-- after a frame that is not the last the protocol is in the same state
pub after-taken : (r : Outcome) (c d : Connection) (bytes left waited waits : List ℕ) (f : Frame) → read_step c bytes ≡ r → IsTakenFor r f → HasTaken r c bytes waited d left waits
    → IsLast f ⊎ (d.state ≡ c.state)
after-taken (Err e) c d bytes left waited waits f is takes t = inl (failed-last e f takes)
after-taken (Ok (Partial n)) c d bytes left waited waits f is takes t = inr (ap (λ (x : Connection). x.state) t.0)
after-taken (Ok (Complete p)) c d bytes left waited waits f is takes t = stays-or-closes c d p.1 f t.0 (read_keeps_state c bytes p is) takes

-- after a frame that is not the last the protocol reads and writes as before
pub stays_active : (c d : Connection) (bytes left waited waits : List ℕ) (f : Frame) → IsTakenFor (read_step c bytes) f → HasTaken (read_step c bytes) c bytes waited d left waits
    → c.state ≡ Active → IsLast f ⊎ (d.state ≡ Active)
stays_active c d bytes left waited waits f takes t active =
    elim (after-taken (read_step c bytes) c d bytes left waited waits f refl takes t) [ inl last ↦ inl last | inr same ↦ inr (same ∙ active) ]
