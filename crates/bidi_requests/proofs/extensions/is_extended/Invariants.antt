use Rattle.std.proofs.Common.{◌≡◌, drop}
use Rattle.bidi_requests.specs.Extensions.{ends_well}
use Rattle.bidi_requests.specs.declared.extensions.Place.TheVariants as place
use Rattle.bidi_requests.proofs.extensions.is_extended.Given as goal

-- the bytes that are left decide, from the place so far on
abbrev pub invariant-loop-byte : goal.invariant-loop-byte
invariant-loop-byte l = ends_well place.Word l.line ≡ ends_well l.place (drop l.byte-index l.line)
