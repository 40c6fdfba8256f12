use Rattle.std.proofs.Common.{◌∷◌, [], ℕ, List, map, length}
use Rattle.bidi_contexts.specs.Acts.{Act}
use Rattle.bidi_contexts.specs.Info.{info_of}
use Rattle.bidi_contexts.specs.InfosWritten.{WroteInfos}
use Rattle.bidi_contexts.specs.Subtrees.{AreSubtrees}
use Rattle.bidi_contexts.proofs.SubtreeLemmas.{Left}
use Rattle.bidi_contexts.proofs.info_texts.write_tops.Given as goal

abbrev pub invariant-loop-context : goal.invariant-loop-context
invariant-loop-context l =
    WroteInfos l.fn.out l.out 34 (λ infos. (past : List Act) (cs : List ℕ) → AreSubtrees l.contexts past 1 cs
    → Left (λ c. info_of past l.depth c ∷ []) l.rest past 1 infos (map (info_of past l.depth) cs))

abbrev pub decreases-loop-context : goal.decreases-loop-context
decreases-loop-context l = length l.rest
