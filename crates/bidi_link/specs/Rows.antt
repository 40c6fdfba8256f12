-- The state of a link of the code, and the effect of a step on it. Defined by this project.
use Rattle.std.specs.Prelude.{◌≡◌, ℕ, suc, ◌≤◌, nat_lt, true, false, not, ◌&&◌, if◌then◌else◌, List, [], ◌∷◌}
use Rattle.std.specs.Prelude.{◌++◌, map, filter, drop, length, slice_get, Option, None, string_bytes, ⊤}
use Rattle.bidi_tree.specs.Text.{compact_text}
use Rattle.bidi_messages.specs.Verdict.{IsVerdict, Accepted}
use Rattle.bidi_methods.specs.Method.{method_text}
use Rattle.bidi_methods.specs.declared.method.Method.{Method}
use Rattle.bidi_local.specs.Pending.{Pending}
use Rattle.bidi_local.specs.View.{Stands}
use Rattle.bidi_ledger.specs.declared.ledger.Entry as declared_entry
use Rattle.bidi_link.specs.declared.link_end.LinkEnd.{LinkEnd}
use Rattle.bidi_ledger.specs.Pairing.{Sending}
use Rattle.bidi_ledger.specs.Link.{Link, is_waiting, tree_of_sending, may_send, entries_from, events, Account}
use Rattle.bidi_ledger.specs.Steps.{fate_seen, entry_seen, event_seen, EntriesAreWell, EventsAreWell}

-- ---- the effect of a step on a link

-- a link that has carried nothing
abbrev pub blank : Link
blank = record { commands = []; ups = 0; texts = []; downs = 0; is_cut = false; not_sent = 0 }

-- the link after a command is sent, or counted as one that could not be sent
abbrev pub with_sending : Link → Sending → Link
with_sending v c = if may_send v c then record v { commands = v.commands ++ c ∷ [] } else record v { not_sent = suc v.not_sent }

-- the link after a command is sent on it; a link that was cut is unchanged
abbrev pub sent_on : Link → Sending → Link
sent_on v c = if v.is_cut then v else with_sending v c

-- the command that is taken up next, or None
abbrev pub next_up : Link → Option Sending
next_up v = if v.is_cut then None else slice_get v.commands v.ups

-- the link after one more command is taken up
abbrev pub with_up : Link → Link
with_up v = record v { ups = suc v.ups }

-- the link after these texts are queued for its local end
abbrev pub with_texts : Link → List (List ℕ) → Link
with_texts v ts = record v { texts = v.texts ++ ts }

-- the link after the oldest queued text is taken down, if there is one and the link was not cut
abbrev pub with_down : Link → Link
with_down v = if not v.is_cut && nat_lt v.downs (length v.texts) then record v { downs = suc v.downs } else v

-- the link after it is cut
abbrev pub with_cut : Link → Link
with_cut v = record v { is_cut = true }

-- ---- a link of the code

-- the pending commands among these entries
abbrev pub waiting_among : List declared_entry.Entry → Pending
waiting_among es = map (λ e. (e.id.value, e.method)) (filter (λ e. is_waiting (fate_seen e.fate)) es)

-- the queued text of a command, which the remote end will accept as that command
pub record IsUpward (id : ℕ) (c : Sending) (s : List ℕ) : Type 0 where
  pub text : s ≡ compact_text (tree_of_sending id c)
  pub accepted : IsVerdict s (Accepted (tree_of_sending id c))
  pub method : Method
  pub named : c.method ≡ method_text method

-- the texts are those of these commands, the first of which has this id
abbrev pub AreUpward : ℕ → List Sending → List (List ℕ) → Type 0
AreUpward id [] [] = ⊤
AreUpward id [] (s ∷ ss) = ⊥
AreUpward id (c ∷ cs) [] = ⊥
AreUpward id (c ∷ cs) (s ∷ ss) = IsUpward id c s × AreUpward (suc id) cs ss

-- the local end has sent these commands, has these pending, and its queues hold the texts that were not taken yet
pub record Carries (end : LinkEnd) (v : Link) : Type 0 where
  pub local : Stands end.local (length v.commands) (waiting_among end.commands.items)
  pub up : AreUpward (suc v.ups) (drop v.ups v.commands) (map string_bytes end.up.items)
  pub down : map string_bytes end.down.items ≡ drop v.downs v.texts

-- both queues of the link are empty, as they are after a cut
pub record IsEmpty (end : LinkEnd) : Type 0 where
  pub up : end.up.items ≡ []
  pub down : end.down.items ≡ []

-- the link of the code has this number, and this state
pub record Agrees (end : LinkEnd) (l : ℕ) (v : Link) : Type 0 where
  pub number : end.number.value ≡ l
  pub entries : map entry_seen end.commands.items ≡ entries_from 1 v v.commands
  pub events : map event_seen end.events.items ≡ events v
  pub not_sent : end.unsent ≡ v.not_sent
  pub is_cut : end.is_cut ≡ v.is_cut
  pub within : v.downs ≤ length v.texts
  pub carries : v.is_cut ≡ false → Carries end v
  pub empty : v.is_cut ≡ true → IsEmpty end
  pub results_well : EntriesAreWell end.commands.items
  pub events_well : EventsAreWell end.events.items

-- the account of the link for the ledger, if no more steps come
abbrev pub account_in_hand : LinkEnd → Account
account_in_hand end =
    record { link = end.number.value; entries = map entry_seen end.commands.items; events = map event_seen end.events.items; not_sent = end.unsent }
