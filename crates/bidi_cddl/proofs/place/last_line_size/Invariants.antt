-- The bytes so far that are behind the last line feed.
use Rattle.std.proofs.Common.{◌≡◌, ◌≤◌, take}
use Rattle.std.specs.List.{suffix_len}
use Rattle.bidi_cddl.specs.Sizes.{is_in_line}
use Rattle.bidi_cddl.proofs.place.last_line_size.Given as goal

abbrev pub invariant-loop-byte : goal.invariant-loop-byte
invariant-loop-byte l = record { size : l.size ≡ suffix_len is_in_line (take l.byte-index l.bytes); within : l.size ≤ l.byte-index }
