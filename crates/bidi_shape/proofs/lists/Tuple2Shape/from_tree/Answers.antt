use Rattle.std.proofs.Common.{◌≡◌, Some, None, sym, ap, ◌∙◌, subst}
use Rattle.bidi_tree.specs.Node.{Items}
use Rattle.bidi_shape.specs.Fits.{Fits}
use Rattle.bidi_shape.specs.Outcome.{handed_on}
use Rattle.bidi_shape.specs.ListLaws.{pair_fitting, pair_at, two_items}
use Rattle.bidi_shape.proofs.lists.Tuple2Shape.from_tree.Goals as goal
use Rattle.bidi_shape.proofs.lists.Tuple2Shape.from_tree.Goals.{in_default-via-in-Some+else-items-eq2, in_default-via-in_default}

none_items : {a : Items} → None ≡ Some a → ⊥
none_items e = cc

same_items : {a b : Items} → Some a ≡ Some b → a ≡ b
same_items e = cc

-- a tree that is not an array of two items fits no pair
pub returns-in_default-clause-no_fit : goal.returns-in_default-clause-no_fit
returns-in_default-clause-no_fit g c = λ f.
    let p = pair_fitting f in
    elim c.in_default.branch [
      | in_default-via-in-Some+else-items-eq2 w ↦
          w.if-items-eq2.false (two_items g.S.Parsed.tree w.in-Some.items.now p.0 p.1 (same_items (w.in-Some.ensures ∙ p.2)))
      | in_default-via-in_default w ↦ none_items (w.in_default.ensures ∙ p.2)
    ]

pub returns-in_err-first-in-Some-clause-no_fit : goal.returns-in_err-first-in-Some-clause-no_fit
returns-in_err-first-in-Some-clause-no_fit g c =
    handed_on _ _ c.from_residual.ensures.1 c.in_err-first-in-Some.ensures.no_fit (λ bad f.
    let p = pair_fitting f in
    let e = c.index-items-0.result in
    let there : g.S.Parsed.tree e ≡ p.0 = ap g.S.Parsed.tree c.index-items-0.is
    ∙ (pair_at g.S.Parsed.tree c.in-Some.items.now p.0 p.1 e (same_items (c.in-Some.ensures ∙ p.2))).0 in
    bad (subst (λ t. Fits t g.X.Shape.shape.rule) (sym there) p.3))

pub returns-in_err-second-in-Some-clause-no_fit : goal.returns-in_err-second-in-Some-clause-no_fit
returns-in_err-second-in-Some-clause-no_fit g c =
    handed_on _ _ c.from_residual-in_err-second-in-Some.ensures.1 c.in_err-second-in-Some.ensures.no_fit (λ bad f.
    let p = pair_fitting f in
    let e = c.index-items-1.result in
    let there : g.S.Parsed.tree e ≡ p.1 = ap g.S.Parsed.tree c.index-items-1.is
    ∙ (pair_at g.S.Parsed.tree c.in-Some.items.now p.0 p.1 e (same_items (c.in-Some.ensures ∙ p.2))).1 in
    bad (subst (λ t. Fits t g.Y.Shape.shape.rule) (sym there) p.4))
