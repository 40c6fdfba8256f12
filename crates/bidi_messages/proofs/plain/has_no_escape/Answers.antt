use Rattle.bidi_messages.proofs.StraightLemmas.{plain-still}
use Rattle.bidi_messages.proofs.plain.has_no_escape.Goals as goal

pub loop-byte-preserved : goal.loop-byte-preserved
loop-byte-preserved c =
    plain-still c.loop-byte.plain c.args.text.now c.as_bytes-byte-items.result.now c.loop-byte.byte-index c.as_bytes-byte-items.ensures.value c.loop-byte.invariant
    c.loop-byte-test.true
