use Rattle.std.proofs.Common.{sym, ◌∙◌}
use Rattle.bidi_lenient.proofs.SourceLemmas.{feed-later}
use Rattle.bidi_lenient.proofs.source.before_feed.Goals as goal

pub loop-i-preserved : goal.loop-i-preserved
loop-i-preserved c =
    let other = sym c.is_end.ensures ∙ c.if-is_end.false in
    c.loop-i.invariant ∙ feed-later c.as_bytes-bytes.result.now c.loop-i.i c.loop-i-test.true other
