use Rattle.std.proofs.Common.{◌≤◌, ◌+◌, ◌*◌, ◌∷◌, [], ℕ, List, map, length}
use Rattle.bidi_contexts.specs.Acts.{Act}
use Rattle.bidi_contexts.specs.Info.{info_within}
use Rattle.bidi_contexts.specs.InfosWritten.{WroteInfos}
use Rattle.bidi_contexts.specs.Subtrees.{AreSubtrees}
use Rattle.bidi_contexts.proofs.SubtreeLemmas.{Left}
use Rattle.bidi_contexts.proofs.info_texts.+write.Given as goal

abbrev pub decreases-write_info : goal.decreases-write_info
decreases-write_info l = 4 * l.levels + 3

abbrev pub decreases-write_children : goal.decreases-write_children
decreases-write_children l = 4 * l.levels + 2

abbrev pub decreases-write_list : goal.decreases-write_list
decreases-write_list l = 4 * l.levels + 1

abbrev pub decreases-write_infos : goal.decreases-write_infos
decreases-write_infos l = 4 * l.levels

abbrev pub invariant-write_infos-loop-context : goal.invariant-write_infos-loop-context
invariant-write_infos-loop-context l =
    WroteInfos l.fn.out l.out (2 * l.levels) (λ infos. (past : List Act) (level : ℕ) (cs : List ℕ) → AreSubtrees l.contexts past level cs → 17 ≤ l.levels + level
    → Left (λ c. info_within 16 past l.depth c ∷ []) l.rest past level infos (map (info_within 16 past l.depth) cs))

abbrev pub decreases-write_infos-loop-context : goal.decreases-write_infos-loop-context
decreases-write_infos-loop-context l = length l.rest
