-- The digits that are left decide from here on.
use Rattle.std.proofs.Common.{◌≡◌, drop}
use Rattle.bidi_cddl.specs.Reads.{number_value, number_value_from}
use Rattle.bidi_cddl.proofs.count.count_of.Given as goal

abbrev pub invariant-loop-byte : goal.invariant-loop-byte
invariant-loop-byte l = number_value_from l.value (drop l.byte-index l.bytes) ≡ number_value l.bytes
