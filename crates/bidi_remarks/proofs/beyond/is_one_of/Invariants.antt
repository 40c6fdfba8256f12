use Rattle.std.proofs.Common.{◌≡◌, map, drop}
use Rattle.bidi_remarks.specs.Beyond.{is_one_of}
use Rattle.bidi_remarks.proofs.beyond.is_one_of.Given as goal

abbrev pub invariant-loop-other : goal.invariant-loop-other
invariant-loop-other l = is_one_of (map (λ s. s.now) l.texts) l.text ≡ is_one_of (map (λ s. s.now) (drop l.other-index l.texts)) l.text
