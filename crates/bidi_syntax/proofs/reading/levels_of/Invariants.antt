-- What is left of the text decides from here on, and the place is that of the next byte.
use Rattle.std.proofs.Common.{◌≡◌, ◌+◌, drop}
use Rattle.bidi_syntax.specs.Reading.{levels_from, levels_of, reading_of}
use Rattle.bidi_syntax.proofs.reading.levels_of.Given as goal

abbrev pub invariant-loop-byte : goal.invariant-loop-byte
invariant-loop-byte l = (levels_from (reading_of l.reader) l.place (drop l.byte-index l.text) ≡ levels_of l.text) × (l.place ≡ l.byte-index + 1)
