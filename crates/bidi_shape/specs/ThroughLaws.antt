-- A type whose values are those of another type under a rule of its own, such as a choice with names for its alternatives.
use Rattle.std.specs.Prelude.{◌≡◌}
use Rattle.std.proofs.Common.{sym, subst}
use Rattle.bidi_tree.specs.Node.{Node}
use Rattle.bidi_shape.specs.Term.{Term}
use Rattle.bidi_shape.specs.Fits.{Fits}
use Rattle.bidi_shape.specs.Value.{ShapeOf}
use Rattle.bidi_shape.specs.Table.{unfolded, fits_unfolded}

-- a tree that fits the term of a rule fits the rule
pub fits_named : (t : Node) (τ σ : Term) → unfolded τ ≡ σ → Fits t σ → Fits t τ
fits_named t τ σ is f = fits_unfolded t τ (subst (λ ρ. Fits t ρ) (sym is) f)

-- the shape of a type whose values each correspond to a value of another shape, under a rule with the same term
abbrev pub shape_through : {V E : Type 0} (τ : Term) (s : ShapeOf E) (m : V → E) → unfolded τ ≡ s.rule → ShapeOf V
shape_through τ s m is = record {
  rule = τ;
  tree_of = λ v. s.tree_of (m v);
  well = λ v. s.well (m v);
  same = λ v w. s.same (m v) (m w);
  fits = λ v w. fits_named (s.tree_of (m v)) τ s.rule is (s.fits (m v) w);
  one_value = λ v w a b e. s.one_value (m v) (m w) a b e;
  deepest = s.deepest;
  whole = λ v w. s.whole (m v) w;
}
