use Rattle.std.proofs.Common.{ℕ, List, length}
use Rattle.std.specs.Prelude.{flat_map}
use Rattle.bidi_contexts.specs.Acts.{Act}
use Rattle.bidi_contexts.specs.View.{AreWell}
use Rattle.bidi_contexts.specs.Subtrees.{AreSubtrees}
use Rattle.bidi_contexts.specs.View.{seen}
use Rattle.bidi_contexts.proofs.ToldLemmas.{removal_with}
use Rattle.bidi_contexts.proofs.SubtreeLemmas.{Left}
use Rattle.bidi_contexts.proofs.telling.removal_from.Given as goal

abbrev pub invariant-loop-context : goal.invariant-loop-context
invariant-loop-context l = record {
  told : (past : List Act) (cs : List ℕ) → AreSubtrees l.contexts past 1 cs
      → Left (removal_with past l.user) l.rest past 1 (seen l.events.items) (flat_map (removal_with past l.user) cs);
  well : AreWell l.events.items;
}

abbrev pub decreases-loop-context : goal.decreases-loop-context
decreases-loop-context l = length l.rest
