-- Each reply on a link is the one that the machine sends for that very command, when it is taken up. Defined by this project.
use Rattle.std.specs.Prelude.{◌≡◌, ℕ, suc, Bool, true, false, List, ◌∷◌, ◌++◌, slice_get, Contains, Some, unwrap_or}
use Rattle.bidi_tree.specs.Node.{null}
use Rattle.bidi_tree.specs.Text.{tree_of}
use Rattle.bidi_messages.specs.Verdict.{Accepted}
use Rattle.bidi_remote.specs.Machine.History.{Heard}
use Rattle.bidi_remote.specs.Machine.Sent.{out, texts_on}
use Rattle.bidi_ledger.specs.Pairing.{Sending, Deed, Handed, history, commands}
use Rattle.bidi_ledger.specs.Link.{Fate, Answered, Refused, Lost, Waiting, link, tree_of_sending, is_reply_to, fate_by, fate_of}

-- the command has a reply: it was answered or refused
abbrev pub is_reply : Fate → Bool
is_reply (Answered result) = true
is_reply (Refused code) = true
is_reply Lost = false
is_reply Waiting = false

-- The fate of the command comes from the machine. The command was handed to it at one place of the past, and the fate is that of a reply
-- that it sends at that input, after all inputs before it.
pub record IsOutcome (past : List Deed) (l id : ℕ) (c : Sending) (fate : Fate) : Type 0 where
  pub newer : List Deed
  pub older : List Deed
  pub place : past ≡ newer ++ Handed (Heard l (Accepted (tree_of_sending id c))) ∷ older
  pub reply : List ℕ
  pub sent : Contains (texts_on l (out (history older) (Heard l (Accepted (tree_of_sending id c))))) reply
  pub to : is_reply_to id (unwrap_or (tree_of reply) null) ≡ true
  pub by_it : fate ≡ fate_by (unwrap_or (tree_of reply) null)

-- each reply on a link is one that the machine sends for its command
abbrev pub AreOutcomes : List Deed → ℕ → Type 0
AreOutcomes past l =
    (k : ℕ) (c : Sending) → slice_get (commands past l) k ≡ Some c
    → is_reply (fate_of (link past l) (suc k)) ≡ true → IsOutcome past l (suc k) c (fate_of (link past l) (suc k))
