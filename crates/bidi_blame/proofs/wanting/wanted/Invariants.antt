use Rattle.std.proofs.Common.{◌≡◌, [], map, flat_map, drop}
use Rattle.bidi_blame.specs.Said.{said_text}
use Rattle.bidi_blame.specs.View.{want_of}
use Rattle.bidi_blame.specs.Words.{alternatives, each_once}
use Rattle.bidi_blame.proofs.wanting.wanted.Given as goal

abbrev pub invariant-loop-want : goal.invariant-loop-want
invariant-loop-want l =
    each_once (map said_text l.told.items) (flat_map alternatives (map want_of (drop l.want-index l.wants)))
    ≡ each_once [] (flat_map alternatives (map want_of l.wants))
