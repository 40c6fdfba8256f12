-- Both ends in memory: the past of what was handed to the remote end, sent, and carried on each link. Defined by this project.
use Rattle.std.specs.Prelude.{ℕ, suc, ◌==◌, Bool, false, ◌||◌, if◌then◌else◌, List, [], ◌∷◌, ◌++◌, reverse}
use Rattle.bidi_tree.specs.Node.{Node}
use Rattle.bidi_remote.specs.Machine.History.{Input}
use Rattle.bidi_remote.specs.Machine.Sent.{answers, texts_on}

-- a command that a local end sends: its method and its params
pub record Sending : Type 0 where
  pub method : List ℕ
  pub params : Node

-- a deed of a step of both ends; a past is a list of deeds, the newest first
pub data Deed : Type 0 where
  -- an input was handed to the remote end
  Handed : (input : Input) → Deed
  -- a link was opened
  Linked : (link : ℕ) → Deed
  Sent : (link : ℕ) (sending : Sending) → Deed
  Unsent : (link : ℕ) → Deed
  -- a text of a command was taken up, or a text of the remote end was taken down
  TakenUp : (link : ℕ) → Deed
  TakenDown : (link : ℕ) → Deed
  Cut : (link : ℕ) → Deed

-- the inputs of the remote end, the newest first
abbrev pub history : List Deed → List Input
history [] = []
history (Handed i ∷ past) = i ∷ history past
history (d ∷ past) = history past

-- the numbers of the links, in the order of opening
abbrev pub links : List Deed → List ℕ
links [] = []
links (Linked l ∷ past) = links past ++ l ∷ []
links (d ∷ past) = links past

-- the number is that of a link
abbrev pub is_link : List Deed → ℕ → Bool
is_link [] l = false
is_link (Linked k ∷ past) l = l == k || is_link past l
is_link (d ∷ past) l = is_link past l

-- the link was cut
abbrev pub is_cut : List Deed → ℕ → Bool
is_cut [] l = false
is_cut (Cut k ∷ past) l = l == k || is_cut past l
is_cut (d ∷ past) l = is_cut past l

-- the commands that were sent on a link, in order; their ids start at 1
abbrev pub commands : List Deed → ℕ → List Sending
commands [] l = []
commands (Sent k c ∷ past) l = if l == k then commands past l ++ c ∷ [] else commands past l
commands (d ∷ past) l = commands past l

-- how many commands could not be sent on a link
abbrev pub unsent : List Deed → ℕ → ℕ
unsent [] l = 0
unsent (Unsent k ∷ past) l = if l == k then suc (unsent past l) else unsent past l
unsent (d ∷ past) l = unsent past l

-- how many commands of a link were taken up
abbrev pub ups : List Deed → ℕ → ℕ
ups [] l = 0
ups (TakenUp k ∷ past) l = if l == k then suc (ups past l) else ups past l
ups (d ∷ past) l = ups past l

-- how many texts were taken down on a link
abbrev pub downs : List Deed → ℕ → ℕ
downs [] l = 0
downs (TakenDown k ∷ past) l = if l == k then suc (downs past l) else downs past l
downs (d ∷ past) l = downs past l

-- all texts that the remote end sent on a link, in order
abbrev pub texts : List Deed → ℕ → List (List ℕ)
texts past l = texts_on l (answers (reverse (history past)))
