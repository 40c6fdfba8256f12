-- Reasons: at which place of a tree what stands there is not what a rule wants, and which of two reasons is told.
use Rattle.std.specs.Prelude.{ℕ, suc, List, [], ◌∷◌, ◌++◌, length, codes, Bool, true, false, ◌&&◌, ◌||◌, ◌==◌, nat_lt, Option, Some, None, if◌then◌else◌}
use Rattle.std.specs.Str.{bytes_eq}
use Rattle.bidi_tree.specs.Node.{Node}
use Rattle.bidi_shape.specs.Name.{Name}
use Rattle.bidi_shape.specs.Term.{Term}
use Rattle.bidi_rules.specs.Names.{rule_text}

-- a step into a tree: to the member of a name, or to the item that has so many before it
pub data PathStep : Type 0 where
  member : List ℕ → PathStep
  item : ℕ → PathStep

-- Why a tree does not fit: the place, what may be there, and what is there.
pub record Reason : Type 0 where
  -- the steps from the tree to the place, the last one first
  pub steps : List PathStep
  -- what may stand there, one of these; where there is none, nothing may
  pub wants : List Term
  -- what stands there; a member that is missing is nothing
  pub found : Option Node
  -- the innermost rule that speaks of the place
  pub named : Option Name
  -- how many members `type` and `method` of the tree's map fit that stand before the place in the rule: they tell which alternative is meant
  pub tags : ℕ

-- ---- reasons of a tree, and of a tree around it

-- what stands here is not what the term wants
abbrev pub here : Term → Node → Reason
here τ t = record { steps = []; wants = τ ∷ []; found = Some t; named = None; tags = 0 }

-- a member of that name has to be there
abbrev pub missing : ℕ → List ℕ → Term → Reason
missing n k τ = record { steps = member k ∷ []; wants = τ ∷ []; found = None; named = None; tags = n }

-- a member of that name may not be there
abbrev pub unknown : ℕ → List ℕ → Node → Reason
unknown n k t = record { steps = member k ∷ []; wants = []; found = Some t; named = None; tags = n }

-- the reason of a part is one of the whole
abbrev pub under : ℕ → PathStep → Reason → Reason
under n s r = record { steps = r.steps ++ s ∷ []; wants = r.wants; found = r.found; named = r.named; tags = n }

-- a rule gives its name, where no rule further in has
abbrev pub or_name : Option Name → Name → Name
or_name None n = n
or_name (Some m) n = m

-- the reason, named by this rule if no inner rule names it
abbrev pub by : Name → Reason → Reason
by n r = record { steps = r.steps; wants = r.wants; found = r.found; named = Some (or_name r.named n); tags = r.tags }

-- whether a member of that name tells which alternative is meant
abbrev pub is_tag : List ℕ → Bool
is_tag k = bytes_eq k (codes "type") || bytes_eq k (codes "method")

-- how many tags fit, with that member behind so many
abbrev pub tags_with : ℕ → List ℕ → ℕ
tags_with n k = if is_tag k then suc n else n

-- ---- which of the reasons against two alternatives is told

-- both steps lead to the same member or item
abbrev pub same_step : PathStep → PathStep → Bool
same_step (member k) (member l) = bytes_eq k l
same_step (item i) (item j) = i == j
same_step (member k) (item j) = false
same_step (item i) (member l) = false

-- both lists of steps lead to the same place
abbrev pub same_place : List PathStep → List PathStep → Bool
same_place [] [] = true
same_place [] (t ∷ ts) = false
same_place (s ∷ ss) [] = false
same_place (s ∷ ss) (t ∷ ts) = same_step s t && same_place ss ts

-- how deep something stands that is not as it should be; a missing member stands nowhere, and its map is not as it should be
abbrev pub depth_at : Option Node → List PathStep → ℕ
depth_at (Some t) steps = length steps
depth_at None [] = 0
depth_at None (s ∷ steps) = length steps

-- how deep the place of a reason is
abbrev pub depth : Reason → ℕ
depth r = depth_at r.found r.steps

-- a name where both have it
abbrev pub same_name : Option Name → Option Name → Option Name
same_name (Some n) (Some m) = if bytes_eq (rule_text n) (rule_text m) then Some n else None
same_name (Some n) None = None
same_name None o = None

-- one place, at which either may stand
abbrev pub both : Reason → Reason → Reason
both a b = record { steps = a.steps; wants = a.wants ++ b.wants; found = a.found; named = same_name a.named b.named; tags = a.tags }

-- The reason against the alternative that more tags say is meant; else the one that stands deeper; of reasons at one place, both; and where none of this
-- tells them apart, that the tree is neither.
-- example: `{"context":5}` is no Target because `/context` is no text, not because `/realm` is missing
abbrev pub told : Node → Term → Reason → Reason → Reason
told t choice a b =
    if nat_lt b.tags a.tags then a
    else if nat_lt a.tags b.tags then b
    else if nat_lt (depth b) (depth a) then a
    else if nat_lt (depth a) (depth b) then b
    else if same_place a.steps b.steps then both a b
    else here choice t
