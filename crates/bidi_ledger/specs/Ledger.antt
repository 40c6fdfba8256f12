-- The steps of both ends, and the ledger: the account of each link. Defined by this project.
use Rattle.std.specs.Prelude.{ℕ, suc, Bool, not, ◌&&◌, if◌then◌else◌, nat_lt, List, [], ◌∷◌, map, length, slice_get, Option, Some, None}
use Rattle.bidi_messages.specs.Verdict.{Accepted}
use Rattle.bidi_remote.specs.Machine.History.{Input, Open, Drop, Heard}
use Rattle.bidi_remote.specs.Machine.Connections.{is_open}
use Rattle.bidi_remote.specs.Machine.Outcome.{deeds}
use Rattle.bidi_ledger.specs.Pairing.{Sending, Deed, Handed, Linked, Sent, Unsent, TakenUp, TakenDown, Cut}
use Rattle.bidi_ledger.specs.Pairing.{history, links, is_link, is_cut, commands, ups, downs, texts}
use Rattle.bidi_ledger.specs.Link.{link, tree_of_sending, may_send, Account, account}

-- a step of both ends
pub data PairInput : Type 0 where
  Opens : (link : ℕ) (resource : List ℕ) → PairInput
  Sends : (link : ℕ) (sending : Sending) → PairInput
  Up : (link : ℕ) → PairInput
  Down : (link : ℕ) → PairInput
  Cuts : (link : ℕ) → PairInput
  -- a step of a page, or of the clock
  Direct : (input : Input) → PairInput

-- the number is that of a link that was not cut
abbrev pub is_whole : List Deed → ℕ → Bool
is_whole past l = is_link past l && not (is_cut past l)

-- the connection of this number is open at the remote end
abbrev pub is_connected : List Deed → ℕ → Bool
is_connected past l = is_open (deeds (history past)) l

-- the past after an opening: it is handed to the remote end, and makes a link if that opens the connection
abbrev pub opened : List Deed → ℕ → List ℕ → List Deed
opened past l resource =
    let after = Handed (Open l resource) ∷ past in
    if is_connected after l && not (is_connected past l) then Linked l ∷ after else after

-- the past after the oldest command that was not taken up is taken up and handed to the remote end
abbrev pub taken_up : List Deed → ℕ → Option Sending → List Deed
taken_up past l None = past
taken_up past l (Some c) = Handed (Heard l (Accepted (tree_of_sending (suc (ups past l)) c))) ∷ TakenUp l ∷ past

-- the past after the connection is dropped, if it is open
abbrev pub dropped : List Deed → ℕ → List Deed
dropped past l = if is_connected past l then Handed (Drop l) ∷ past else past

-- the past after a link is cut, which drops its connection
abbrev pub cut : List Deed → ℕ → List Deed
cut past l = Cut l ∷ dropped past l

-- the past after one more step
-- example: a send after a cut does nothing
abbrev pub with_step : List Deed → PairInput → List Deed
with_step past (Opens l resource) = if is_link past l then past else opened past l resource
with_step past (Sends l c) = if not (is_whole past l) then past else if may_send (link past l) c then Sent l c ∷ past else Unsent l ∷ past
with_step past (Up l) = if is_whole past l then taken_up past l (slice_get (commands past l) (ups past l)) else past
with_step past (Down l) = if is_whole past l && nat_lt (downs past l) (length (texts past l)) then TakenDown l ∷ past else past
with_step past (Cuts l) = if is_whole past l then cut past l else past
with_step past (Direct i) = Handed i ∷ past

-- the past after these steps, in order
abbrev pub past_after : List Deed → List PairInput → List Deed
past_after past [] = past
past_after past (x ∷ xs) = past_after (with_step past x) xs

-- the account of each link, in the order of opening, after these steps
abbrev pub ledger : List PairInput → List Account
ledger steps = let past = past_after [] steps in map (λ l. account l (link past l)) (links past)
