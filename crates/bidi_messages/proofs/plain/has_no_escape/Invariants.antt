use Rattle.std.proofs.Common.{◌≡◌, take}
use Rattle.std.specs.Prelude.{IsTrue}
use Rattle.json.specs.Print.{escape}
use Rattle.bidi_messages.proofs.plain.has_no_escape.Given as goal

abbrev pub invariant-loop-byte : goal.invariant-loop-byte
invariant-loop-byte l = IsTrue l.plain → escape (take l.byte-index l.text) ≡ take l.byte-index l.text
