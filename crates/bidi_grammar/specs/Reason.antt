-- Reasons: at which place of a value what stands there is not what a term wants, and which of two reasons is told.
use Rattle.std.specs.Prelude.{ℕ, suc, List, [], ◌∷◌, ◌++◌, length, codes, Bool, true, false, ◌&&◌, ◌||◌, ◌==◌, nat_lt, Option, Some, None, if◌then◌else◌}
use Rattle.std.specs.Str.{bytes_eq}
use Rattle.json.specs.Json.{Json}

-- a step into a value: to the member of a name, or to the item that has so many before it
pub data PathStep : Type 0 where
  member : List ℕ → PathStep
  item : ℕ → PathStep

-- Why a value does not fit: the place, what may be there, and what is there.
pub record Reason : Type 0 where
  -- the steps from the value to the place, the last one first
  pub steps : List PathStep
  -- the places of the terms that may stand there, one of these; where there is none, nothing may
  pub wants : List ℕ
  -- what stands there; a member that is missing is nothing
  pub found : Option Json
  -- the place of the innermost rule that speaks of it
  pub named : Option ℕ
  -- how many members `type` and `method` of the value fit that stand before the place in the rule: they tell which alternative is meant
  pub tags : ℕ

-- ---- reasons of a value, and of a value around it

-- what stands here is not what the term wants
abbrev pub here : ℕ → Json → Reason
here n t = record { steps = []; wants = n ∷ []; found = Some t; named = None; tags = 0 }

-- a member of that name has to be there
abbrev pub missing : ℕ → List ℕ → ℕ → Reason
missing tags k n = record { steps = member k ∷ []; wants = n ∷ []; found = None; named = None; tags = tags }

-- a member of that name may not be there
abbrev pub unknown : ℕ → List ℕ → Json → Reason
unknown tags k t = record { steps = member k ∷ []; wants = []; found = Some t; named = None; tags = tags }

-- the reason of a part is one of the whole
abbrev pub under : ℕ → PathStep → Reason → Reason
under tags s r = record { steps = r.steps ++ s ∷ []; wants = r.wants; found = r.found; named = r.named; tags = tags }

-- a rule gives its place, where no rule further in has
abbrev pub or_named : Option ℕ → ℕ → ℕ
or_named None n = n
or_named (Some m) n = m

-- the reason, named by the rule at this place if no inner rule names it
abbrev pub by : ℕ → Reason → Reason
by n r = record { steps = r.steps; wants = r.wants; found = r.found; named = Some (or_named r.named n); tags = r.tags }

-- whether a member of that name tells which alternative is meant
abbrev pub is_tag : List ℕ → Bool
is_tag k = bytes_eq k (codes "type") || bytes_eq k (codes "method")

-- how many tags fit, with that member after so many
abbrev pub tags_with : ℕ → List ℕ → ℕ
tags_with tags k = if is_tag k then suc tags else tags

-- ---- which of the reasons against two alternatives is told

-- both steps lead to the same member or item
abbrev pub same_step : PathStep → PathStep → Bool
same_step (member k) (member l) = bytes_eq k l
same_step (item i) (item j) = i == j
same_step (member k) (item j) = false
same_step (item i) (member l) = false

-- both lists of steps lead to the same place
abbrev pub same_place : List PathStep → List PathStep → Bool
same_place [] [] = true
same_place [] (t ∷ ts) = false
same_place (s ∷ ss) [] = false
same_place (s ∷ ss) (t ∷ ts) = same_step s t && same_place ss ts

-- how deep something stands that is not as it should be; a missing member stands nowhere, and its map is not as it should be
abbrev pub depth_at : Option Json → List PathStep → ℕ
depth_at (Some t) steps = length steps
depth_at None [] = 0
depth_at None (s ∷ steps) = length steps

-- how deep the place of a reason is
abbrev pub depth : Reason → ℕ
depth r = depth_at r.found r.steps

-- a rule where both have it
abbrev pub same_name : Option ℕ → Option ℕ → Option ℕ
same_name (Some n) (Some m) = if n == m then Some n else None
same_name (Some n) None = None
same_name None o = None

-- one place, at which either may stand
abbrev pub both : Reason → Reason → Reason
both a b = record { steps = a.steps; wants = a.wants ++ b.wants; found = a.found; named = same_name a.named b.named; tags = a.tags }

-- The reason against the alternative that more tags say is meant; else the one that stands deeper; of reasons at one place, both; and where none of this
-- tells them apart, that the value is neither.
-- example: `{"context":5}` is no Target because `/context` is no text, not because `/realm` is missing
abbrev pub told : Json → ℕ → Reason → Reason → Reason
told t choice a b =
    if nat_lt b.tags a.tags then a
    else if nat_lt a.tags b.tags then b
    else if nat_lt (depth b) (depth a) then a
    else if nat_lt (depth a) (depth b) then b
    else if same_place a.steps b.steps then both a b
    else here choice t
