-- The past that corresponds to the state of both ends. Defined by this project.
use Rattle.std.specs.Prelude.{◌≡◌, ℕ, suc, ◌<◌, ◌^◌, true, false, List, ◌∷◌, ◌++◌, map, slice_get, Contains, Some, unwrap_or}
use Rattle.std.specs.List.{AllByRecursion}
use Rattle.bidi_tree.specs.Node.{null}
use Rattle.bidi_tree.specs.Text.{tree_of}
use Rattle.bidi_messages.specs.Verdict.{Accepted}
use Rattle.bidi_remote.specs.Machine.History.{Heard}
use Rattle.bidi_remote.specs.Machine.Sent.{out, texts_on}
use Rattle.bidi_remote.specs.State.Stands as remote
use Rattle.bidi_link.specs.declared.ends.Ends.{Ends}
use Rattle.bidi_link.specs.declared.link_end.LinkEnd.{LinkEnd}
use Rattle.bidi_ledger.specs.Pairing.{Sending, Deed, Handed, history, links, is_link, commands, ups, unsent, texts}
use Rattle.bidi_ledger.specs.Link.{Link, link, tree_of_sending, is_reply_to}
use Rattle.bidi_ledger.specs.Ledger.{is_connected, is_whole}
use Rattle.bidi_link.specs.Spoken.{IsSound}
use Rattle.bidi_link.specs.Rows.{Agrees, IsUpward, blank}

-- the numbers of these links, in the order of opening
abbrev pub numbers : List (ℕ × LinkEnd) → List ℕ
numbers rows = map (λ row. row.0) rows

-- each link of the code agrees with the state that is given for its number
abbrev pub RowsAgree : List (ℕ × LinkEnd) → (ℕ → Link) → Type 0
RowsAgree rows f = AllByRecursion (λ row. Agrees row.1 row.0 (f row.0)) rows

-- the remote end has had the inputs of this past, and each link has the state that the past gives it
pub record StandsFor (ends : Ends) (past : List Deed) : Type 0 where
  pub remote : remote.StandsFor ends.remote (history past)
  pub numbers : numbers ends.links.entries ≡ links past
  pub rows : RowsAgree ends.links.entries (link past)

-- the text is one that the machine sends on a link when the command with that id is handed to it, at one place of the past
pub record IsFrom (past : List Deed) (l id : ℕ) (c : Sending) (s : List ℕ) : Type 0 where
  pub newer : List Deed
  pub older : List Deed
  pub place : past ≡ newer ++ Handed (Heard l (Accepted (tree_of_sending id c))) ∷ older
  pub sent : Contains (texts_on l (out (history older) (Heard l (Accepted (tree_of_sending id c))))) s

-- each reply among the texts for a link is one that the machine sends for its command
abbrev pub AreFrom : List Deed → ℕ → Type 0
AreFrom past l =
    (p : ℕ) (c : Sending) (s : List ℕ) → Contains (texts past l) s
    → slice_get (commands past l) p ≡ Some c → is_reply_to (suc p) (unwrap_or (tree_of s) null) ≡ true → IsFrom past l (suc p) c s

-- The facts of every past of both ends: all texts for a link are sound, a number without a link has had none, and each reply comes from the machine.
pub record IsSane (past : List Deed) : Type 0 where
  pub sound : (l : ℕ) → IsSound (link past l)
  pub unknown : (l : ℕ) → is_link past l ≡ false → (link past l ≡ blank) × (is_connected past l ≡ false)
  pub replies : (l : ℕ) → AreFrom past l

-- the state corresponds to the past, and the past is one of both ends
abbrev pub Both : Ends → List Deed → Type 0
Both ends past = StandsFor ends past × IsSane past

-- the count of commands that were not sent can grow by one on each link
abbrev pub CanCount : List Deed → Type 0
CanCount past = (l : ℕ) → unsent past l < 2 ^ 63

-- the text is that of the command that the link takes up next
pub record IsNextUp (past : List Deed) (l : ℕ) (c : Sending) (s : List ℕ) : Type 0 where
  pub whole : is_whole past l ≡ true
  pub next : slice_get (commands past l) (ups past l) ≡ Some c
  pub upward : IsUpward (suc (ups past l)) c s
