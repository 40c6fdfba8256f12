use Rattle.std.proofs.Common.{◌≡◌, drop}
use Rattle.bidi_rows.specs.Matching.{passes_each}
use Rattle.bidi_rows.specs.Part.{members_of}
use Rattle.bidi_rows.proofs.matching.passes_each.Given as goal

abbrev pub invariant-loop-test : goal.invariant-loop-test
invariant-loop-test l = passes_each l.text (members_of l.tests.items) ≡ passes_each l.text (members_of (drop l.test-index l.tests.items))
