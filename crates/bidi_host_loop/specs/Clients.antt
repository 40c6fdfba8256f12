-- Which connection has which peer, and what it means that a text is handed to it. Defined by this project.
use Rattle.std.specs.Prelude.{◌≡◌, ◌≢◌, ◌==◌, ℕ, Bool, false, if◌then◌else◌, List, [], ◌∷◌, ◌++◌, filter, not, slice_get, find, Option, Some, None, option_map, option_and_then, ⊤}
use Rattle.bidi_peer.specs.Sending.{text_frame}
use Rattle.bidi_peer.specs.Waiting.{unwritten}
use Rattle.bidi_peer.specs.declared.standing.Peer.{Peer}
use Rattle.bidi_peer.specs.declared.standing.State.TheVariants.{Open}
use Rattle.bidi_host_loop.specs.declared.peers.Peers.{Peers}
use Rattle.bidi_host_loop.specs.declared.peers.Route.{Route}
use Rattle.bidi_host_loop.specs.declared.slot.Role.{Role}
use Rattle.bidi_host_loop.specs.declared.slot.Role.TheVariants as role
use Rattle.bidi_host_loop.specs.declared.slot.Slot.{Slot}
use Rattle.std.specs.List.{list_all}
use Rattle.bidi_host_loop.specs.Deeds as deed
use Rattle.bidi_host_loop.specs.Deeds.{Deed}

-- the one place, or else the other
abbrev pub or_else : Option ℕ → Option ℕ → Option ℕ
or_else None o = o
or_else (Some place) o = Some place

-- it is this place
abbrev pub is_same_place : Option ℕ → ℕ → Bool
is_same_place None place = false
is_same_place (Some other) place = other == place

-- the place of the connection of the remote end with a number
abbrev pub place_of : ℕ → Peers → Option ℕ
place_of conn peers = option_map (λ r. r.place) (find (λ r. r.conn == conn) peers.routes.items)

-- the place by which a deed admits the connection with a number, if it does
abbrev pub admission : ℕ → Deed → Option ℕ
admission conn (deed.Admitted place c) = if conn == c then Some place else None
admission conn d = None

-- the place by which the connection with a number was admitted last
abbrev pub admitted_at : ℕ → List Deed → Option ℕ
admitted_at conn [] = None
admitted_at conn (d ∷ ds) = or_else (admitted_at conn ds) (admission conn d)

-- the number is at the place by which its connection was admitted last
abbrev pub is_routed : List Deed → Route → Bool
is_routed deeds r = is_same_place (admitted_at r.conn deeds) r.place

-- so is each of these
abbrev pub are_routed : List Route → List Deed → Bool
are_routed routes deeds = list_all (is_routed deeds) routes

-- the routes that are left if a number is forgotten
abbrev pub left_without : ℕ → List Route → List Route
left_without conn routes = filter (λ r. not (r.conn == conn)) routes

-- the routes if a number gets this place
abbrev pub with_route : ℕ → ℕ → List Route → List Route
with_route place conn routes = record { conn = conn; place = place } ∷ left_without conn routes

-- the routes that are left if a connection with this role ends
abbrev pub left_by : Role → List Route → List Route
left_by (role.Client c) routes = left_without c.value routes
left_by r routes = routes

-- the connection that is held at a place
abbrev pub slot_at : ℕ → Peers → Option Slot
slot_at place peers = option_and_then (λ slot. slot) (slice_get peers.slots.items place)

-- A peer that is not open does not change. One that is open and stays so has the frame of the text behind all that waited to be written, of which
-- the stream took a beginning.
pub record HandsOn {S : Type 0} (text : List ℕ) (old new : Peer S) : Type 0 where
  pub is_not_open : old.state ≢ Open → new ≡ old
  pub is_open : old.state ≡ Open → new.state ≡ Open → (went : List ℕ) × (unwritten old.outbox ++ text_frame text ≡ went ++ unwritten new.outbox)

-- The text is handed to the peer of what is held at a place, unless a test has it cut in this message.
abbrev pub HandsIn : List ℕ → Option Slot → Option Slot → Type 0
HandsIn text (Some old) (Some new) = old.cut_after ≡ None → HandsOn text old.peer new.peer
HandsIn text (Some old) None = ⊥
HandsIn text None new = ⊤

-- The text is handed to the peer at a place.
abbrev pub HandsAt : ℕ → List ℕ → Peers → Peers → Type 0
HandsAt place text old new = HandsIn text (slot_at place old) (slot_at place new)

-- The text is handed to the peer at a place, if there is one.
abbrev pub HandsTo : Option ℕ → List ℕ → Peers → Peers → Type 0
HandsTo (Some place) text old new = HandsAt place text old new
HandsTo None text old new = ⊤

-- The text is handed to the peer of the connection with a number, if one is held.
abbrev pub Hands : ℕ → List ℕ → Peers → Peers → Type 0
Hands conn text old new = HandsTo (place_of conn old) text old new
