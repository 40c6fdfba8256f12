use Rattle.std.proofs.Common.{◌≡◌, filter, take}
use Rattle.std.specs.Prelude.{not}
use Rattle.bidi_handles.specs.Handles.{handles_seen}
use Rattle.bidi_handles.proofs.NumberLemmas.{among}
use Rattle.bidi_handles.proofs.handles.Handles.disown.Given as goal

abbrev pub invariant-loop-number : goal.invariant-loop-number
invariant-loop-number l = handles_seen l.self ≡ filter (λ s. not (among s.0 (take l.number-index l.numbers))) (handles_seen l.initial.self)
