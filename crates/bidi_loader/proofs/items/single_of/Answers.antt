use Rattle.std.proofs.Common.{ap, refl, subst, ◌∙◌, ◌<◌, arith}
use Rattle.bidi_loader.specs.Meaning.{item, type_at, written_trees}
use Rattle.bidi_loader.specs.Readings.{IsNode}
use Rattle.bidi_loader.proofs.NodeLemmas.{bare_items-is}
use Rattle.bidi_loader.proofs.items.single_of.Goals as goal

pub returns-else-not-is_once : goal.returns-else-not-is_once
returns-else-not-is_once c = λ h.
    let w = c.args.written.now in
    let k = c.args.k in
    let i = c.in-Bare.node in
    let l : i < k = omega (arith, c.if-node-k.false) in (
      l,
      bare_items-is w k i c.in-Bare.occurs (subst (λ n. IsNode w k n) c.in-Bare.is h) l
          ∙ ap (λ o. item o (type_at (written_trees w) i)) (c.if-not-is_once.ensures refl),
    )
