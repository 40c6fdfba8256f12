use Rattle.std.proofs.Common.{◌≡◌, map, drop}
use Rattle.std.specs.List.{list_all}
use Rattle.bidi_names.specs.Names.{can_be_known}
use Rattle.bidi_names.proofs.names.can_all_be_known.Given as goal

abbrev pub invariant-loop-word : goal.invariant-loop-word
invariant-loop-word l =
    list_all can_be_known (map (λ w. w.now) l.words) ≡ list_all can_be_known (map (λ w. w.now) (drop l.word-index l.words))
