-- Why looking for a reason comes to an end: rules that name one another on one tree do so in few steps.
use Rattle.std.specs.Prelude.{ℕ, suc, max, List, [], ◌∷◌, Bool, true, ◌&&◌, nat_lt, nat_le}
use Rattle.std.specs.Borrow.{Bor}
use Rattle.std.specs.List.{list_all}
use Rattle.bidi_rules.specs.declared.name.Name.{Name}
use Rattle.bidi_rules.specs.declared.name.Name.TheVariants.{ErrorCode, Command, Message, LocalValue, Opaque, RemoteValue, Event, RealmType, Primitive}
use Rattle.bidi_rules.specs.declared.name.Name.TheVariants.{LogEntry, UnsubscribeParameters, Wait, Target, Reference, TableRow, Ownership, EvaluateResult, Info}
use Rattle.bidi_rules.specs.declared.term.Need.{Need}
use Rattle.bidi_rules.specs.declared.term.Term.{Term, fold-Term}
use Rattle.bidi_rules.specs.declared.term.Term.TheOpen.{Term-F}

-- how many choices, caps and names are passed at most below a rule before a map, a list or a plain value stands
abbrev pub rank : Name → ℕ
rank ErrorCode = 23
rank Command = 19
rank Message = 12
rank LocalValue = 10
rank Opaque = 10
rank RemoteValue = 9
rank Event = 8
rank RealmType = 8
rank Primitive = 6
rank LogEntry = 4
rank UnsubscribeParameters = 3
rank Wait = 3
rank Target = 3
rank Reference = 3
rank TableRow = 3
rank Ownership = 2
rank EvaluateResult = 2
rank Info = 1
rank n = 0

-- of a term: the same count, and whether it is small enough for each term further in
abbrev pub Weight : Type 0
Weight = ℕ × Bool

-- a term of this height or more is not checked
abbrev pub too_high : ℕ
too_high = 40

-- the weight is small enough to be checked
abbrev pub is_light : Weight → Bool
is_light w = nat_lt w.0 too_high && w.1

-- at most so many
abbrev pub is_within : Weight → ℕ → Bool
is_within w n = nat_le w.0 n

-- of a choice
abbrev pub chosen : Weight → List Weight → ℕ
chosen w [] = w.0
chosen w (v ∷ vs) = max w.0 (suc (chosen v vs))

-- the weight of a term, from the weights of its parts
abbrev pub weight_step : Term-F Weight → Weight
weight_step (Term-F.Exactly s) = (0, true)
weight_step Term-F.Text = (0, true)
weight_step Term-F.Bool = (0, true)
weight_step Term-F.Null = (0, true)
weight_step Term-F.JsUint = (0, true)
weight_step Term-F.JsInt = (0, true)
weight_step Term-F.Any = (0, true)
weight_step (Term-F.ListOf least τ) = (0, is_light τ.now)
weight_step (Term-F.PairOf σ τ) = (0, is_light σ.now && is_light τ.now)
weight_step (Term-F.MapOf rows o) = (0, list_all (λ r. is_light r.2) rows.now)
weight_step (Term-F.OneOf σ τs) = (suc (chosen σ.now τs.now), is_light σ.now && list_all is_light τs.now)
weight_step (Term-F.Rule n) = (suc (rank n), true)
weight_step (Term-F.Capped τ) = (suc τ.now.0, is_light τ.now)

-- the weight of a term
abbrev pub weight : Term → Weight
weight = fold-Term Weight weight_step

-- how high a term is, counted through the rules that it names
abbrev pub height_of : Term → ℕ
height_of τ = (weight τ).0

-- the term is light enough to be checked
abbrev pub is_ready : Term → Bool
is_ready τ = is_light (weight τ)

-- each term is light enough
abbrev pub are_ready : List Term → Bool
are_ready τs = list_all is_ready τs

-- the term of each row is light enough
abbrev pub rows_are_ready : List (Bor (List ℕ) × Need × Term) → Bool
rows_are_ready rows = list_all (λ r. is_ready r.2) rows
