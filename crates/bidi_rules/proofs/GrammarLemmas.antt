-- The term and the weight of each form of a term of the code.
use Rattle.std.proofs.Common.{◌≡◌, ℕ, suc, List, [], ◌∷◌, map, Bool, true, ◌&&◌, ◌+◌, nat_lt, drop, length, get_or, rules, arith, sym, ap, ◌∙◌, ltb-true}
use Rattle.std.proofs.Math.Seq.{drop-cons}
use Rattle.std.proofs.lemmas.Bool.{and_parts}
use Rattle.std.proofs.lemmas.List.Folds.{list_all-map}
use Rattle.std.specs.Prelude.{◌<◌, ◌≤◌}
use Rattle.std.specs.Borrow.{Bor}
use Rattle.std.specs.List.{list_all}
use Rattle.bidi_shape.specs.Term as cddl
use Rattle.bidi_rules.specs.Grammar.{grammar, grammar_rows, one_of, openness_of}
use Rattle.bidi_rules.specs.Names.{name_of}
use Rattle.bidi_rules.specs.Weight.{Weight, weight, height_of, is_light, is_ready, are_ready, chosen, rank, rows_are_ready}
use Rattle.bidi_rules.specs.declared.name.Name.{Name}
use Rattle.bidi_rules.specs.declared.term.Need.{Need}
use Rattle.bidi_rules.specs.declared.term.Openness.{Openness}
use Rattle.bidi_rules.specs.declared.term.Term.{Term, the_lemmas}
use Rattle.bidi_rules.specs.declared.term.Term.TheVariants as code
use Rattle.bidi_rules.specs.declared.term.Term.TheVariants.{ListOf, PairOf, MapOf, OneOf, Rule, Capped}

pub grammar-Exactly : (s : Bor (List ℕ)) → grammar (code.Exactly s) ≡ cddl.exactly s.now
grammar-Exactly s = search (rules, the_lemmas)

pub grammar-Text : grammar code.Text ≡ cddl.text
grammar-Text = search (rules, the_lemmas)

pub grammar-Bool : grammar code.Bool ≡ cddl.bool
grammar-Bool = search (rules, the_lemmas)

pub grammar-Null : grammar code.Null ≡ cddl.null
grammar-Null = search (rules, the_lemmas)

pub grammar-JsUint : grammar code.JsUint ≡ cddl.js_uint
grammar-JsUint = search (rules, the_lemmas)

pub grammar-JsInt : grammar code.JsInt ≡ cddl.js_int
grammar-JsInt = search (rules, the_lemmas)

pub grammar-Any : grammar code.Any ≡ cddl.any
grammar-Any = search (rules, the_lemmas)

pub weight-Exactly : (s : Bor (List ℕ)) → weight (code.Exactly s) ≡ (0, true)
weight-Exactly s = search (rules, the_lemmas)

pub weight-Text : weight code.Text ≡ (0, true)
weight-Text = search (rules, the_lemmas)

pub weight-Bool : weight code.Bool ≡ (0, true)
weight-Bool = search (rules, the_lemmas)

pub weight-Null : weight code.Null ≡ (0, true)
weight-Null = search (rules, the_lemmas)

pub weight-JsUint : weight code.JsUint ≡ (0, true)
weight-JsUint = search (rules, the_lemmas)

pub weight-JsInt : weight code.JsInt ≡ (0, true)
weight-JsInt = search (rules, the_lemmas)

pub weight-Any : weight code.Any ≡ (0, true)
weight-Any = search (rules, the_lemmas)

pub grammar-ListOf : (least : ℕ) (τ : Bor Term) → grammar (ListOf least τ) ≡ cddl.list_of least (grammar τ.now)
grammar-ListOf least τ = search (rules, the_lemmas)

pub grammar-PairOf : (σ τ : Bor Term) → grammar (PairOf σ τ) ≡ cddl.pair_of (grammar σ.now) (grammar τ.now)
grammar-PairOf σ τ = search (rules, the_lemmas)

pub grammar-MapOf : (rows : Bor (List (Bor (List ℕ) × Need × Term))) (o : Openness) → grammar (MapOf rows o) ≡ cddl.map_of (grammar_rows rows.now) (openness_of o)
grammar-MapOf rows o = search (rules, the_lemmas)

pub grammar-OneOf : (σ : Bor Term) (τs : Bor (List Term)) → grammar (OneOf σ τs) ≡ one_of (grammar σ.now) (map grammar τs.now)
grammar-OneOf σ τs = search (rules, the_lemmas)

pub grammar-Rule : (n : Name) → grammar (Rule n) ≡ cddl.rule (name_of n)
grammar-Rule n = search (rules, the_lemmas)

pub grammar-Capped : (τ : Bor Term) → grammar (Capped τ) ≡ cddl.capped (grammar τ.now)
grammar-Capped τ = search (rules, the_lemmas)

pub weight-ListOf : (least : ℕ) (τ : Bor Term) → weight (ListOf least τ) ≡ (0, is_light (weight τ.now))
weight-ListOf least τ = search (rules, the_lemmas)

pub weight-PairOf : (σ τ : Bor Term) → weight (PairOf σ τ) ≡ (0, is_light (weight σ.now) && is_light (weight τ.now))
weight-PairOf σ τ = search (rules, the_lemmas)

-- the weights of rows
abbrev rows_weighed : List (Bor (List ℕ) × Need × Term) → List (Bor (List ℕ) × Need × Weight)
rows_weighed rows = map (λ r. (r.0, r.1, weight r.2)) rows

rows-light : (rows : List (Bor (List ℕ) × Need × Term)) → list_all (λ r. is_light r.2) (rows_weighed rows) ≡ rows_are_ready rows
rows-light rows = list_all-map (λ r. is_light r.2) (λ r. (r.0, r.1, weight r.2)) rows

pub weight-MapOf : (rows : Bor (List (Bor (List ℕ) × Need × Term))) (o : Openness) → weight (MapOf rows o) ≡ (0, rows_are_ready rows.now)
weight-MapOf rows o =
    let says : weight (MapOf rows o) ≡ (0, list_all (λ r. is_light r.2) (rows_weighed rows.now)) = search (rules, the_lemmas) in
    says ∙ ap (λ b. (0, b)) (rows-light rows.now)

pub weight-OneOf : (σ : Bor Term) (τs : Bor (List Term))
    → weight (OneOf σ τs) ≡ (suc (chosen (weight σ.now) (map weight τs.now)), is_light (weight σ.now) && list_all is_light (map weight τs.now))
weight-OneOf σ τs = search (rules, the_lemmas)

pub weight-Rule : (n : Name) → weight (Rule n) ≡ (suc (rank n), true)
weight-Rule n = search (rules, the_lemmas)

pub weight-Capped : (τ : Bor Term) → weight (Capped τ) ≡ (suc (weight τ.now).0, is_light (weight τ.now))
weight-Capped τ = search (rules, the_lemmas)

-- ---- what is ready has parts that are

-- what is inside of a ready term is light
inside : (w : Weight) (n : ℕ) (b : Bool) → w ≡ (n, b) → is_light w ≡ true → b ≡ true
inside w n b e h = (and_parts (nat_lt n 40) b (ap is_light (sym e) ∙ h)).1

pub ready-PairOf : (σ τ : Bor Term) → is_ready (PairOf σ τ) ≡ true → (is_ready σ.now ≡ true) × (is_ready τ.now ≡ true)
ready-PairOf σ τ h = and_parts (is_ready σ.now) (is_ready τ.now) (inside (weight (PairOf σ τ)) 0 (is_ready σ.now && is_ready τ.now) (weight-PairOf σ τ) h)

pub ready-MapOf : (rows : Bor (List (Bor (List ℕ) × Need × Term))) (o : Openness) → is_ready (MapOf rows o) ≡ true → rows_are_ready rows.now ≡ true
ready-MapOf rows o h = inside (weight (MapOf rows o)) 0 (rows_are_ready rows.now) (weight-MapOf rows o) h

pub ready-OneOf : (σ : Bor Term) (τs : Bor (List Term)) → is_ready (OneOf σ τs) ≡ true → (is_ready σ.now ≡ true) × (are_ready τs.now ≡ true)
ready-OneOf σ τs h =
    let all = list_all is_light (map weight τs.now) in
    let p = and_parts (is_ready σ.now) all (inside (weight (OneOf σ τs)) (suc (chosen (weight σ.now) (map weight τs.now))) (is_ready σ.now && all) (weight-OneOf σ τs) h) in
    (p.0, sym (list_all-map is_light weight τs.now) ∙ p.1)

pub height-OneOf : (σ : Bor Term) (τs : Bor (List Term)) → height_of (OneOf σ τs) ≡ suc (chosen (weight σ.now) (map weight τs.now))
height-OneOf σ τs = ap (λ w. w.0) (weight-OneOf σ τs)

-- a choice is as high as its first alternative
pub chosen-first : (w : Weight) (ws : List Weight) → w.0 ≤ chosen w ws
chosen-first w [] = omega arith
chosen-first w (v ∷ vs) = omega arith

-- ---- rows, read on one by one

abbrev pub Row : Type 0
Row = Bor (List ℕ) × Need × Term

pub row_at : (rows : List Row) (i : ℕ) (d : Row) → i < length rows → drop i rows ≡ get_or rows i d ∷ drop (i + 1) rows
row_at rows i d few =
    let one : suc i ≡ i + 1 = omega arith in
    drop-cons rows i d few ∙ ap (λ j. get_or rows i d ∷ drop j rows) one

pub ready_at : (rows : List Row) (i : ℕ) (d : Row) → i < length rows → rows_are_ready (drop i rows) ≡ true
    → (is_ready (get_or rows i d).2 ≡ true) × (rows_are_ready (drop (i + 1) rows) ≡ true)
ready_at rows i d few h =
    let r = get_or rows i d in
    and_parts (is_ready r.2) (rows_are_ready (drop (i + 1) rows)) (ap rows_are_ready (sym (row_at rows i d few)) ∙ h)

-- a ready term is not high
pub height-ready : (τ : Term) → is_ready τ ≡ true → height_of τ < 40
height-ready τ h = ltb-true (height_of τ) 40 (and_parts (nat_lt (height_of τ) 40) (weight τ).1 h).0
