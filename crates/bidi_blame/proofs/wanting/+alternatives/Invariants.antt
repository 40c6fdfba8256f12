use Rattle.std.proofs.Common.{◌≡◌, map, flat_map, drop}
use Rattle.bidi_blame.specs.Said.{said_text}
use Rattle.bidi_rules.specs.Grammar.{grammar}
use Rattle.bidi_blame.specs.Words.{alternatives, each_once}
use Rattle.bidi_blame.proofs.wanting.+alternatives.Given as goal

abbrev pub invariant-tell_terms-loop-term : goal.invariant-tell_terms-loop-term
invariant-tell_terms-loop-term l =
    each_once (map said_text l.told.items) (flat_map alternatives (map grammar (drop l.term-index l.terms)))
    ≡ each_once (map said_text l.fn.told.items) (flat_map alternatives (map grammar l.terms))
