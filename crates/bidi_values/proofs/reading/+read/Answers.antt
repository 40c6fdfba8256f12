use Rattle.std.proofs.Common.{map, sym, ap, subst, arith}
use Rattle.bidi_tree.specs.Node.{levels}
use Rattle.bidi_tree.specs.View.{items_of}
use Rattle.bidi_shape.specs.Term.{rule}
use Rattle.bidi_shape.specs.Fits.{Fits}
use Rattle.bidi_shape.specs.ListLaws.{AllFit-at}
use Rattle.bidi_shape.specs.Outcome.{handed_on, known_misfit}
use Rattle.bidi_shape.proofs.PartLemmas.{item_levels}
use Rattle.bidi_values.proofs.NestedLemmas.{list_read, pairs_read, list_misfit, pairs_misfit, no_value, key_misfit, value_misfit, list_levels}
use Rattle.bidi_values.proofs.reading.+read.Goals as goal

-- ---- a value

pub read_value-read_values-requires : goal.read_value-read_values-requires
read_value-read_values-requires g t c κs within =
    let below = list_levels g.L.Siblings.siblings c.in-Ok.siblings (items_of (map g.S.Parsed.tree c.in-Ok.items.now))
    (g.S.Parsed.tree c.args.tree.now) c.in-Ok.ensures.ok.0 in
    (omega (arith, below), within)

pub read_value-returns-in_err-values-in-Ok-clause-no_fit : goal.read_value-returns-in_err-values-in-Ok-clause-no_fit
read_value-returns-in_err-values-in-Ok-clause-no_fit g t c =
    handed_on _ _ c.from_residual.ensures.1 c.in_err-values-in-Ok.ensures.no_fit
    (list_misfit g.P.Nests.nesting g.met.P.Nests.agrees c.in-Ok.siblings (items_of (map g.S.Parsed.tree c.in-Ok.items.now))
    (g.S.Parsed.tree c.args.tree.now) c.in-Ok.ensures.ok.0 c.in-Ok.ensures.ok.1)

pub read_value-returns-in-Ok-clause-ok : goal.read_value-returns-in-Ok-clause-ok
read_value-returns-in-Ok-clause-ok g t c =
    list_read g.P.Nests.nesting g.met.P.Nests.agrees g.S.Parsed.tree c.in-Ok.siblings c.in_ok-values-in-Ok.values c.in-Ok.items.now
    (g.S.Parsed.tree c.args.tree.now) c.in-Ok.ensures.ok.0 c.in-Ok.ensures.ok.1
    c.in_ok-values-in-Ok.ensures.ok.0 c.in_ok-values-in-Ok.ensures.ok.1

pub read_value-read_pairs-requires : goal.read_value-read_pairs-requires
read_value-read_pairs-requires g t c κs within =
    let below = list_levels g.M.Siblings.siblings c.in-Ok-read_around.siblings (items_of (map g.S.Parsed.tree c.in-Ok-read_around.items.now))
    (g.S.Parsed.tree c.args.tree.now) c.in-Ok-read_around.ensures.ok.0 in
    (omega (arith, below), within)

pub read_value-returns-in_err-pairs-in-Ok-read_around-clause-no_fit : goal.read_value-returns-in_err-pairs-in-Ok-read_around-clause-no_fit
read_value-returns-in_err-pairs-in-Ok-read_around-clause-no_fit g t c =
    handed_on _ _ c.from_residual-in_err-pairs-in-Ok-read_around.ensures.1 c.in_err-pairs-in-Ok-read_around.ensures.no_fit
    (pairs_misfit g.P.Nests.nesting g.met.P.Nests.agrees c.in-Ok-read_around.siblings (items_of (map g.S.Parsed.tree c.in-Ok-read_around.items.now))
    (g.S.Parsed.tree c.args.tree.now) c.in-Ok-read_around.ensures.ok.0 c.in-Ok-read_around.ensures.ok.1)

pub read_value-returns-in_ok-pairs-in-Ok-read_around-clause-ok : goal.read_value-returns-in_ok-pairs-in-Ok-read_around-clause-ok
read_value-returns-in_ok-pairs-in-Ok-read_around-clause-ok g t c =
    pairs_read g.P.Nests.nesting g.met.P.Nests.agrees g.S.Parsed.tree c.in-Ok-read_around.siblings c.in_ok-pairs-in-Ok-read_around.pairs
    c.in-Ok-read_around.items.now (g.S.Parsed.tree c.args.tree.now) c.in-Ok-read_around.ensures.ok.0 c.in-Ok-read_around.ensures.ok.1
    c.in_ok-pairs-in-Ok-read_around.ensures.ok.0 c.in_ok-pairs-in-Ok-read_around.ensures.ok.1

pub read_value-returns-in_err-plain-in-Err-NoFit-read_around-clause-no_fit : goal.read_value-returns-in_err-plain-in-Err-NoFit-read_around-clause-no_fit
read_value-returns-in_err-plain-in-Err-NoFit-read_around-clause-no_fit g t c =
    handed_on _ _ c.from_residual-in_err-plain-in-Err-NoFit-read_around.ensures.1 c.in_err-plain-in-Err-NoFit-read_around.ensures.no_fit
    (no_value g.P.Nests.nesting g.met.P.Nests.agrees (g.S.Parsed.tree c.args.tree.now)
    (known_misfit c.in-Err-NoFit.field-0 c.in-Err-NoFit.field-0-is c.in-Err-NoFit.ensures.no_fit)
    (known_misfit c.in-Err-NoFit-read_around.field-0 c.in-Err-NoFit-read_around.field-0-is c.in-Err-NoFit-read_around.ensures.no_fit))

-- ---- lists

pub read_values-read_value-requires : goal.read_values-read_value-requires
read_values-read_value-requires g t c κs within =
    let up = item_levels g.S.Parsed.tree c.args.items.now c.loop-item.item-index c.item-item.result (omega arith) in
    let same = ap (λ x. levels (g.S.Parsed.tree x)) c.item-item.is in
    (omega (arith, up, same), within)

pub read_values-returns-in_err-read_value-clause-no_fit : goal.read_values-returns-in_err-read_value-clause-no_fit
read_values-returns-in_err-read_value-clause-no_fit g t c =
    handed_on _ _ c.from_residual-in_err-read_value.ensures.1 c.in_err-read_value.ensures.no_fit (λ bad a.
    let τ = rule g.P.Nests.nesting.values in
    bad (subst (λ x. Fits (g.S.Parsed.tree x) τ) (sym c.item-item.is)
    (AllFit-at g.S.Parsed.tree τ c.args.items.now c.loop-item.item-index c.item-item.result (omega arith) a)))

pub read_pairs-read_pair-requires : goal.read_pairs-read_pair-requires
read_pairs-read_pair-requires g t c κs within =
    let up = item_levels g.S.Parsed.tree c.args.items.now c.loop-item.item-index c.item-item.result (omega arith) in
    let same = ap (λ x. levels (g.S.Parsed.tree x)) c.item-item.is in
    (omega (arith, up, same), within)

pub read_pairs-returns-in_err-read_pair-clause-no_fit : goal.read_pairs-returns-in_err-read_pair-clause-no_fit
read_pairs-returns-in_err-read_pair-clause-no_fit g t c =
    handed_on _ _ c.from_residual-in_err-read_pair.ensures.1 c.in_err-read_pair.ensures.no_fit (λ bad a.
    let τ = rule g.P.Nests.nesting.pair_rule in
    bad (subst (λ x. Fits (g.S.Parsed.tree x) τ) (sym c.item-item.is)
    (AllFit-at g.S.Parsed.tree τ c.args.items.now c.loop-item.item-index c.item-item.result (omega arith) a)))

-- ---- a pair

pub read_pair-returns-in_err-key-in-Some-clause-no_fit : goal.read_pair-returns-in_err-key-in-Some-clause-no_fit
read_pair-returns-in_err-key-in-Some-clause-no_fit g t c =
    handed_on _ _ c.from_residual.ensures.1 c.in_err-key-in-Some.ensures.no_fit (key_misfit g.P.Nests.nesting
    (g.S.Parsed.tree c.args.tree.now) (g.S.Parsed.tree c.in-Some.key.now) (g.S.Parsed.tree c.in-Some.value.now) c.in-Some.ensures)

pub read_pair-returns-in_err-value-in-Some-clause-no_fit : goal.read_pair-returns-in_err-value-in-Some-clause-no_fit
read_pair-returns-in_err-value-in-Some-clause-no_fit g t c =
    handed_on _ _ c.from_residual-in_err-value-in-Some.ensures.1 c.in_err-value-in-Some.ensures.no_fit (value_misfit g.P.Nests.nesting
    (g.S.Parsed.tree c.args.tree.now) (g.S.Parsed.tree c.in-Some.key.now) (g.S.Parsed.tree c.in-Some.value.now) c.in-Some.ensures)
