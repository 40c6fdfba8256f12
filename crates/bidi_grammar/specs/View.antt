-- What the code's tables, reasons and answers stand for, and which tables may be asked.
use Rattle.std.specs.Prelude.{⊤, ◌≡◌, ◌≤◌, ◌<◌, ℕ, List, [], ◌∷◌, map, Bool, true, ◌&&◌, nat_lt, length, Option, Some, None, option_map, string_bytes}
use Rattle.std.specs.List.{list_all}
use Rattle.json.specs.Json.{Json}
use Rattle.json.specs.Value.{value_view}
use Rattle.bidi_grammar.specs.Term as cddl
use Rattle.bidi_grammar.specs.Term.{Grammar, term_at}
use Rattle.bidi_grammar.specs.Fits.{Fits}
use Rattle.bidi_grammar.specs.Reason as told
use Rattle.bidi_grammar.specs.Judges.{Answer, yes_left, no_left, gave_up}
use Rattle.bidi_grammar.specs.declared.term.Need as code_need
use Rattle.bidi_grammar.specs.declared.term.Need.TheVariants.{Required, Optional}
use Rattle.bidi_grammar.specs.declared.term.Row.{Row}
use Rattle.bidi_grammar.specs.declared.term.Bound as code_bound
use Rattle.bidi_grammar.specs.declared.term.Bound.TheVariants.{Unbounded, Including, Excluding}
use Rattle.bidi_grammar.specs.declared.term.Term as code
use Rattle.bidi_grammar.specs.declared.term.Term.TheVariants as variant
use Rattle.bidi_grammar.specs.declared.reason.PathStep.{PathStep}
use Rattle.bidi_grammar.specs.declared.reason.PathStep.TheVariants.{Member, Item}
use Rattle.bidi_grammar.specs.declared.reason.Reason.{Reason}
use Rattle.bidi_grammar.specs.declared.few.Few.{Few}
use Rattle.bidi_grammar.specs.declared.few.Few.TheVariants.{Nothing, One, Many}
use Rattle.bidi_grammar.specs.declared.draft.Draft.{Draft}
use Rattle.bidi_grammar.specs.declared.draft.Look as code_look
use Rattle.bidi_grammar.specs.declared.draft.Look.TheVariants as look
use Rattle.bidi_grammar.specs.declared.reason.Verdict as code_verdict
use Rattle.bidi_grammar.specs.declared.reason.Verdict.TheVariants as verdict

-- whether a member of the code is required
abbrev pub need_of : code_need.Need → cddl.Need
need_of Required = cddl.required
need_of Optional = cddl.optional

-- a row of the code
abbrev pub row_of : Row → cddl.Row
row_of r = cddl.row (string_bytes r.name) (need_of r.need) r.term

-- an end of a range of the code
abbrev pub bound_of : code_bound.Bound → cddl.Bound
bound_of Unbounded = cddl.unbounded
bound_of (Including s) = cddl.including (string_bytes s)
bound_of (Excluding s) = cddl.excluding (string_bytes s)

-- a term of the code
abbrev pub term_of : code.Term → cddl.Term
term_of (variant.Exactly s) = cddl.exactly (string_bytes s)
term_of variant.Text = cddl.text
term_of variant.Bool = cddl.bool
term_of (variant.Truth b) = cddl.truth b
term_of variant.Null = cddl.null
term_of (variant.Whole a b) = cddl.whole a b
term_of (variant.Number a b) = cddl.number (bound_of a) (bound_of b)
term_of variant.Any = cddl.any
term_of (variant.ListOf least n) = cddl.list_of least n
term_of (variant.TupleOf ns) = cddl.tuple_of ns.items
term_of (variant.MapOf rows rest) = cddl.map_of (map row_of rows.items) rest
term_of (variant.Either m n) = cddl.either m n
term_of (variant.Rule s n) = cddl.rule (string_bytes s) n

-- the table of some terms of the code
abbrev pub table : List code.Term → Grammar
table terms = map term_of terms

-- ---- tables that may be asked

-- the row names a place of the table
abbrev pub row_is_within : ℕ → cddl.Row → Bool
row_is_within size (cddl.row k need n) = nat_lt n size

-- the rows name places of the table
abbrev pub rows_are_within : ℕ → List cddl.Row → Bool
rows_are_within size rows = list_all (row_is_within size) rows

-- these are places of the table
abbrev pub are_within : ℕ → List ℕ → Bool
are_within size ns = list_all (λ n. nat_lt n size) ns

-- what further members have to fit is a term of the table
abbrev pub rest_is_within : ℕ → Option ℕ → Bool
rest_is_within size None = true
rest_is_within size (Some n) = nat_lt n size

-- the numbers in the term at place n are places of the table, and those of a choice or of a rule come before n
abbrev pub is_grounded : ℕ → ℕ → cddl.Term → Bool
is_grounded size n (cddl.list_of least m) = nat_lt m size
is_grounded size n (cddl.tuple_of ns) = are_within size ns
is_grounded size n (cddl.map_of rows rest) = rest_is_within size rest && rows_are_within size rows
is_grounded size n (cddl.either l m) = nat_lt l n && nat_lt m n
is_grounded size n (cddl.rule k m) = nat_lt m n
is_grounded size n τ = true

-- the most terms of a grammar
abbrev pub most_terms : ℕ
most_terms = 65536

-- each term of the table is grounded, and they are not too many
abbrev pub IsGrounded : Grammar → Type 0
IsGrounded g = (length g ≤ most_terms) × ((n : ℕ) → n < length g → is_grounded (length g) n (term_at g n) ≡ true)

-- ---- reasons and answers

-- a step of the code
abbrev pub step_of : PathStep → told.PathStep
step_of (Member name) = told.member name.now
step_of (Item i) = told.item i

-- a reason of the code
abbrev pub reason_of : Reason → told.Reason
reason_of r = record {
  steps = map step_of r.steps.items;
  wants = r.wants.items;
  found = option_map (λ t. value_view t.now) r.found;
  named = r.named;
  tags = r.tags;
}

-- the values of a short list, in its order
abbrev pub listed : {X : Type 0} → Few X → List X
listed Nothing = []
listed (One x) = x ∷ []
listed (Many xs) = xs.items

-- a reason that the code is still looking for
abbrev pub draft_of : Draft → told.Reason
draft_of r = record {
  steps = map step_of (listed r.steps);
  wants = listed r.wants;
  found = option_map (λ t. value_view t.now) r.found;
  named = r.named;
  tags = r.tags;
}

-- the answer of the code for a value; the draft has the reason
abbrev pub answer_of : code_look.Look → Draft → Answer
answer_of (look.Yes left) r = yes_left left
answer_of (look.No left) r = no_left left (draft_of r)
answer_of look.Over r = gave_up

-- the verdict tells the answer, with its reason
abbrev pub Tells : code_verdict.Verdict → Answer → Type 0
Tells verdict.Fits (yes_left k) = ⊤
Tells verdict.Fits (no_left k s) = ⊥
Tells verdict.Fits gave_up = ⊥
Tells (verdict.Unfit r) (yes_left k) = ⊥
Tells (verdict.Unfit r) (no_left k s) = reason_of r ≡ s
Tells (verdict.Unfit r) gave_up = ⊥
Tells verdict.GaveUp (yes_left k) = ⊥
Tells verdict.GaveUp (no_left k s) = ⊥
Tells verdict.GaveUp gave_up = ⊤

-- with `Fits` the value fits the term at that place, and with a reason it does not
abbrev pub IsRight : Grammar → Json → ℕ → code_verdict.Verdict → Type 0
IsRight g t n verdict.Fits = Fits g t (term_at g n)
IsRight g t n (verdict.Unfit r) = Fits g t (term_at g n) → ⊥
IsRight g t n verdict.GaveUp = ⊤
