use Rattle.std.proofs.Common.{◌≡◌, ◌+◌, ◌<◌, ◌^◌, drop, length}
use Rattle.json.specs.Print.{escape, quoted}
use Rattle.bidi_handles.specs.Sizes.{counted}
use Rattle.bidi_handles.proofs.size.quoted_bytes.Given as goal

abbrev pub invariant-loop-byte : goal.invariant-loop-byte
invariant-loop-byte l = (counted (l.bytes + length (escape (drop l.byte-index l.text))) ≡ counted (length (quoted l.text))) × (l.bytes < 2 ^ 64)
