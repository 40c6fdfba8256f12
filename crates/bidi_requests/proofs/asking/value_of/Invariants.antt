use Rattle.std.proofs.Common.{◌≡◌, drop}
use Rattle.websocket.specs.Headers.{fields_of, header_value}
use Rattle.bidi_requests.proofs.asking.value_of.Given as goal

-- the first in what is left is the first of all
abbrev pub invariant-loop-header : goal.invariant-loop-header
invariant-loop-header l =
    header_value (fields_of l.bytes l.headers) l.name ≡ header_value (fields_of l.bytes (drop l.header-index l.headers)) l.name
