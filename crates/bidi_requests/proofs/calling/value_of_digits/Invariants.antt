use Rattle.std.proofs.Common.{◌≡◌, ◌≤◌, drop, min}
use Rattle.std.specs.Str.Parse.{digits_value_after}
use Rattle.bidi_requests.proofs.calling.value_of_digits.Given as goal

-- the number so far, followed by the digits that are left, is the number of all
abbrev pub invariant-loop-digit : goal.invariant-loop-digit
invariant-loop-digit l =
    (l.value ≤ 65537) × (min (digits_value_after 10 0 l.digits) 65537 ≡ min (digits_value_after 10 l.value (drop l.digit-index l.digits)) 65537)
