use Rattle.std.proofs.Common.{◌++◌, ℕ, List, length}
use Rattle.std.specs.Prelude.{flat_map}
use Rattle.bidi_contexts.specs.Acts.{Act}
use Rattle.bidi_contexts.specs.Occurrences.{removal}
use Rattle.bidi_contexts.specs.View.{AreWell}
use Rattle.bidi_contexts.specs.Subtrees.{AreSubtrees}
use Rattle.bidi_contexts.specs.View.{seen}
use Rattle.bidi_contexts.proofs.SubtreeLemmas.{Left}
use Rattle.bidi_contexts.proofs.telling.push_removals.Given as goal

abbrev pub invariant-loop-context : goal.invariant-loop-context
invariant-loop-context l = record {
  told : (past : List Act) (level : ℕ) (cs : List ℕ) → AreSubtrees l.contexts past level cs
      → Left (removal past) l.rest past level (seen l.events.items) (seen l.initial.events.items ++ flat_map (removal past) cs);
  well : AreWell l.initial.events.items → AreWell l.events.items;
}

abbrev pub decreases-loop-context : goal.decreases-loop-context
decreases-loop-context l = length l.rest
