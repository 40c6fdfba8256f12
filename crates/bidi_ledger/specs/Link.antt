-- One link after a past of both ends, and the fates of its commands. Defined by this project.
use Rattle.std.specs.Prelude.{ℕ, suc, ◌^◌, nat_eq, nat_lt, nat_le, Bool, true, false, not, ◌&&◌, if◌then◌else◌}
use Rattle.std.specs.Prelude.{List, [], ◌∷◌, map, filter, find, take, length, Option, Some, None, unwrap_or}
use Rattle.std.specs.Option.{option_eq}
use Rattle.bidi_tree.specs.Node.{Node, null, text, no_members}
use Rattle.bidi_tree.specs.Text.{tree_of, compact_text}
use Rattle.bidi_contexts.specs.Contexts.{up_to}
use Rattle.bidi_contexts.specs.Actions.{is_text}
use Rattle.bidi_handles.specs.Params.{tree_if_at, text_if_at, number_if_at, text_at}
use Rattle.bidi_handles.specs.Maps.{◌being◌and◌, mapped, number}
use Rattle.bidi_messages.specs.Limits.{most_pending}
use Rattle.bidi_ledger.specs.Pairing as past
use Rattle.bidi_ledger.specs.Pairing.{Sending, Deed}
use Rattle.bidi_shape.specs.Limits.{most_bytes}
use Rattle.bidi_tree.specs.Number.{is_js_uint}

-- a link: the commands sent on it, the texts carried on it, and whether it was cut
pub record Link : Type 0 where
  -- the commands, in order; their ids start at 1
  pub commands : List Sending
  -- how many commands were taken up
  pub ups : ℕ
  -- all texts that the remote end sent on it, in order
  pub texts : List (List ℕ)
  -- how many texts were taken down
  pub downs : ℕ
  pub is_cut : Bool
  -- how many commands could not be sent
  pub not_sent : ℕ

-- the link of this number after a past
abbrev pub link : List Deed → ℕ → Link
link deeds l = record {
  commands = past.commands deeds l;
  ups = past.ups deeds l;
  texts = past.texts deeds l;
  downs = past.downs deeds l;
  is_cut = past.is_cut deeds l;
  not_sent = past.unsent deeds l;
}

-- ---- the messages that were received

-- the trees of the texts that were taken down
abbrev pub messages : Link → List Node
messages v = map (λ s. unwrap_or (tree_of s) null) (take v.downs v.texts)

-- the message is an event
abbrev pub is_event : Node → Bool
is_event t = is_text "event" (text_if_at "type" t)

-- the message is the response or the error with that id
abbrev pub is_reply_to : ℕ → Node → Bool
is_reply_to id t = not (is_event t) && option_eq nat_eq (number_if_at "id" t) (Some id)

-- ---- the fates of commands

-- the fate of a command: it was answered or refused, is lost, or is pending
pub data Fate : Type 0 where
  Answered : (result : Node) → Fate
  Refused : (code : List ℕ) → Fate
  Lost : Fate
  Waiting : Fate

-- the fate that a reply gives: a response answers the command, and an error refuses it
abbrev pub fate_by : Node → Fate
fate_by t = if is_text "success" (text_if_at "type" t) then Answered (unwrap_or (tree_if_at "result" t) null) else Refused (text_at "error" t)

-- the fate by the reply, if there is one; without a reply the command is lost if its link was cut, and pending otherwise
abbrev pub fate_with : Option Node → Bool → Fate
fate_with (Some reply) cut = fate_by reply
fate_with None true = Lost
fate_with None false = Waiting

-- the fate of the command with that id
abbrev pub fate_of : Link → ℕ → Fate
fate_of v id = fate_with (find (is_reply_to id) (messages v)) v.is_cut

-- the command is pending
abbrev pub is_waiting : Fate → Bool
is_waiting (Answered result) = false
is_waiting (Refused code) = false
is_waiting Lost = false
is_waiting Waiting = true

-- the ids of the pending commands
abbrev pub unsettled : Link → List ℕ
unsettled v = filter (λ id. is_waiting (fate_of v id)) (up_to (length v.commands))

-- ---- sending

-- the tree of a command with its id
abbrev pub tree_of_sending : ℕ → Sending → Node
tree_of_sending id c = mapped ("id" being number id and "method" being text c.method and "params" being c.params and no_members)

-- the command can be sent: fewer than 1,024 are pending, its text is within the limit, and there is an id for it
abbrev pub may_send : Link → Sending → Bool
may_send v c =
    let id = suc (length v.commands) in
    nat_lt (length (unsettled v)) most_pending && nat_le (length (compact_text (tree_of_sending id c))) most_bytes && is_js_uint id

-- ---- the account of a link

-- a command in the ledger: its id, its method and its fate
pub record Entry : Type 0 where
  pub id : ℕ
  pub method : List ℕ
  pub fate : Fate

-- an event that was received: its method and its params
pub record Received : Type 0 where
  pub method : List ℕ
  pub params : Node

-- the account of a link: its commands with their fates, the events received, and how many commands were not sent
pub record Account : Type 0 where
  pub link : ℕ
  pub entries : List Entry
  pub events : List Received
  pub not_sent : ℕ

-- the entries of these commands, the first of which has this id
abbrev pub entries_from : ℕ → Link → List Sending → List Entry
entries_from id v [] = []
entries_from id v (c ∷ cs) = record { id = id; method = c.method; fate = fate_of v id } ∷ entries_from (suc id) v cs

-- the method and the params of an event
abbrev pub event_in : Node → Received
event_in t = record { method = text_at "method" t; params = unwrap_or (tree_if_at "params" t) null }

-- the events that were received, in order
abbrev pub events : Link → List Received
events v = map event_in (filter is_event (messages v))

-- the account of a link
abbrev pub account : ℕ → Link → Account
account l v = record { link = l; entries = entries_from 1 v v.commands; events = events v; not_sent = v.not_sent }
