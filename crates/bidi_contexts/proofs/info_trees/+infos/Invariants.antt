use Rattle.std.proofs.Common.{◌+◌, ◌≤◌, ◌*◌, ◌∷◌, [], ℕ, List, None, map, length}
use Rattle.bidi_params.specs.contracts.browsing_context.info.InfoShape.TheImpl.{ghosts}
use Rattle.bidi_contexts.specs.Acts.{Act}
use Rattle.bidi_contexts.specs.Info.{info_within}
use Rattle.bidi_contexts.specs.InfosInHand.{AreWithin}
use Rattle.bidi_contexts.specs.Subtrees.{AreSubtrees}
use Rattle.bidi_contexts.proofs.SubtreeLemmas.{Left}
use Rattle.bidi_contexts.proofs.info_trees.+infos.Given as goal

abbrev pub decreases-infos : goal.decreases-infos
decreases-infos l = l.levels

abbrev pub invariant-loop-context : goal.invariant-loop-context
invariant-loop-context l = record {
  tree : (past : List Act) (level : ℕ) (cs : List ℕ) → AreSubtrees l.contexts past level cs → 17 ≤ l.levels + level
      → Left (λ c. info_within 16 past None c ∷ []) l.rest past level (map ghosts.shape.tree_of l.all.items) (map (info_within 16 past None) cs);
  well : AreWithin ghosts.shape (2 * l.levels) l.all.items;
}

abbrev pub decreases-loop-context : goal.decreases-loop-context
decreases-loop-context l = length l.rest
