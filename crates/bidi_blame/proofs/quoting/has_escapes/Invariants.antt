use Rattle.std.proofs.Common.{◌≡◌, ◌≢◌, true, false, drop}
use Rattle.json.specs.Print.{escape}
use Rattle.bidi_blame.proofs.quoting.has_escapes.Given as goal

abbrev pub invariant-loop-byte : goal.invariant-loop-byte
invariant-loop-byte l =
    (l.has_escapes ≡ false → escape (drop l.byte-index l.text) ≡ drop l.byte-index l.text → escape l.text ≡ l.text)
    × (l.has_escapes ≡ true → escape l.text ≢ l.text)
