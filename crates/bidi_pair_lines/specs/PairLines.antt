-- The lines for steps of both ends, and the lines of a ledger. Their forms are this project's own.
use Rattle.std.specs.Prelude.{◌≡◌, ℕ, ◌==◌, if◌then◌else◌, List, [], ◌∷◌, ◌++◌, Some, None, codes, decimal, string_bytes, IsUtf8, ⊤}
use Rattle.std.specs.List.{flat_map}
use Rattle.bidi_tree.specs.Text.{tree_of_text, compact_text}
use Rattle.bidi_sessions.specs.Step as play
use Rattle.bidi_sessions.specs.View.{page_of}
use Rattle.bidi_ledger.specs.declared.pair_step.PairStep.{PairStep}
use Rattle.bidi_ledger.specs.declared.pair_step.PairStep.TheVariants.{Open, Send, Up, Down, Cut, At, Page}
use Rattle.bidi_ledger.specs.Steps.{sending_of, IsWell}
use Rattle.bidi_ledger.specs.Link.{Fate, Answered, Refused, Lost, Waiting, Entry, Received, Account}
use Rattle.bidi_lines.specs.Feeds.{ended}
use Rattle.bidi_play.specs.Lines.{line_of, IsSayable}

-- ---- reading

-- the line is that of this step of a play
abbrev pub IsPlayLine : List ℕ → play.Step → Type 0
IsPlayLine line s = IsSayable s × (line ≡ line_of s)

-- `send L METHOD PARAMS`
-- example: `send 1 session.status {}`
abbrev pub sending_line : ℕ → List ℕ → List ℕ → List ℕ
sending_line l method params = codes "send " ++ decimal l ++ 32 ∷ method ++ 32 ∷ params

-- The line is that of this step. An opening, a step of a page and one of the clock have the line of a play. The params of a command are any
-- text of their tree.
abbrev pub Says : List ℕ → PairStep → Type 0
Says line (Open l resource) = IsPlayLine line (play.Open l.value (string_bytes resource))
Says line (Send l d) = (params : List ℕ) × (line ≡ sending_line l.value (sending_of d).method params) × (tree_of_text None params ≡ Some (sending_of d).params)
Says line (Up l) = line ≡ codes "up " ++ decimal l.value
Says line (Down l) = line ≡ codes "down " ++ decimal l.value
Says line (Cut l) = line ≡ codes "cut " ++ decimal l.value
Says line (At n) = IsPlayLine line (play.At n.value)
Says line (Page page) = IsPlayLine line (play.Page (page_of page))

-- the line is that of this step, which can be taken: the line is UTF-8, and a command that it sends is valid
pub record IsPairLine (line : List ℕ) (x : PairStep) : Type 0 where
  pub utf8 : IsUtf8 line
  pub says : Says line x
  pub well : IsWell x

-- the line is not that of any step
-- example: `up 01`
abbrev pub SaysNoStep : List ℕ → Type 0
SaysNoStep line = (x : PairStep) → IsPairLine line x → ⊥

-- the step has a line only in a play: a drop, or a message on a connection
abbrev pub IsOfPlayAlone : play.Step → Type 0
IsOfPlayAlone (play.Drop c) = ⊤
IsOfPlayAlone (play.Text c text) = ⊤
IsOfPlayAlone (play.NotText c) = ⊤
IsOfPlayAlone s = ⊥

-- ---- writing

-- the fate of a command: `answered RESULT`, `refused CODE`, `lost` or `waiting`
abbrev pub fate_text : Fate → List ℕ
fate_text (Answered result) = codes "answered " ++ compact_text result
fate_text (Refused code) = codes "refused " ++ code
fate_text Lost = codes "lost"
fate_text Waiting = codes "waiting"

-- `L ID METHOD FATE`
abbrev pub entry_line : ℕ → Entry → List ℕ
entry_line l e = decimal l ++ 32 ∷ (decimal e.id ++ 32 ∷ (e.method ++ 32 ∷ fate_text e.fate))

-- `L event METHOD PARAMS`
abbrev pub event_line : ℕ → Received → List ℕ
event_line l r = decimal l ++ 32 ∷ (codes "event " ++ (r.method ++ 32 ∷ compact_text r.params))

-- `L unsent N`, or nothing if all commands were sent
abbrev pub unsent_text : ℕ → ℕ → List ℕ
unsent_text l n = if n == 0 then [] else ended (decimal l ++ 32 ∷ (codes "unsent " ++ decimal n))

-- the lines of these commands, in the order of their ids
abbrev pub entries_text : ℕ → List Entry → List ℕ
entries_text l entries = flat_map (λ e. ended (entry_line l e)) entries

-- the lines of these events, in the order in which they were received
abbrev pub events_text : ℕ → List Received → List ℕ
events_text l events = flat_map (λ r. ended (event_line l r)) events

-- the lines of a link: its commands, then its events, then how many commands were not sent
abbrev pub account_text : Account → List ℕ
account_text p = entries_text p.link p.entries ++ events_text p.link p.events ++ unsent_text p.link p.not_sent

-- the lines of all links
-- example: `2 1 session.status lost`
abbrev pub ledger_text : List Account → List ℕ
ledger_text accounts = flat_map account_text accounts
