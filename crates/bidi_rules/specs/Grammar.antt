-- The term that a term of the code stands for.
use Rattle.std.specs.Prelude.{ℕ, List, [], ◌∷◌, map}
use Rattle.std.specs.Borrow.{Bor}
use Rattle.bidi_shape.specs.Term as cddl
use Rattle.bidi_shape.specs.Term.{Rows, no_more, row, Need, Openness, either}
use Rattle.bidi_rules.specs.Names.{name_of}
use Rattle.bidi_rules.specs.declared.term.Need as code_need
use Rattle.bidi_rules.specs.declared.term.Need.TheVariants.{Required, Optional}
use Rattle.bidi_rules.specs.declared.term.Openness as code_openness
use Rattle.bidi_rules.specs.declared.term.Openness.TheVariants.{Extensible, Closed}
use Rattle.bidi_rules.specs.declared.term.Term.{Term, fold-Term}
use Rattle.bidi_rules.specs.declared.term.Term.TheOpen.{Term-F}

-- whether a member of the code is required
abbrev pub need_of : code_need.Need → Need
need_of Required = cddl.required
need_of Optional = cddl.optional

-- whether a map of the code may have more members
abbrev pub openness_of : code_openness.Openness → Openness
openness_of Extensible = cddl.extensible
openness_of Closed = cddl.closed

-- a choice of some terms
abbrev pub one_of : cddl.Term → List cddl.Term → cddl.Term
one_of σ [] = σ
one_of σ (τ ∷ τs) = either σ (one_of τ τs)

-- the rows of a map, in order
abbrev pub rows_of : List (Bor (List ℕ) × code_need.Need × cddl.Term) → Rows
rows_of [] = no_more
rows_of (r ∷ rs) = row r.0.now (need_of r.1) r.2 (rows_of rs)

-- one level, with each term inside already seen
abbrev pub grammar_step : Term-F cddl.Term → cddl.Term
grammar_step (Term-F.Exactly s) = cddl.exactly s.now
grammar_step Term-F.Text = cddl.text
grammar_step Term-F.Bool = cddl.bool
grammar_step Term-F.Null = cddl.null
grammar_step Term-F.JsUint = cddl.js_uint
grammar_step Term-F.JsInt = cddl.js_int
grammar_step Term-F.Any = cddl.any
grammar_step (Term-F.ListOf least τ) = cddl.list_of least τ.now
grammar_step (Term-F.PairOf σ τ) = cddl.pair_of σ.now τ.now
grammar_step (Term-F.MapOf rows o) = cddl.map_of (rows_of rows.now) (openness_of o)
grammar_step (Term-F.OneOf σ τs) = one_of σ.now τs.now
grammar_step (Term-F.Rule n) = cddl.rule (name_of n)
grammar_step (Term-F.Capped τ) = cddl.capped τ.now

-- the term of the grammar that a term of the code is
abbrev pub grammar : Term → cddl.Term
grammar = fold-Term cddl.Term grammar_step

-- the rows of a map
abbrev pub grammar_rows : List (Bor (List ℕ) × code_need.Need × Term) → Rows
grammar_rows rows = rows_of (map (λ r. (r.0, r.1, grammar r.2)) rows)
