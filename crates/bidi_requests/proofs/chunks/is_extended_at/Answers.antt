use Rattle.std.proofs.Common.{◌∙◌}
use Rattle.bidi_requests.proofs.BodyLemmas.{line-parts}
use Rattle.bidi_requests.proofs.chunks.is_extended_at.Goals as goal

pub overflow_sub-start : goal.overflow_sub-start
overflow_sub-start c = (line-parts c.args.bytes.now c.args.start c.requires.line.0 c.requires.line.1 c.requires.line.2).0

pub returns : goal.returns
returns c =
    λ size l at. c.is_extended.ensures l at.reads.0 (c.split_at.ensures.front ∙ (line-parts c.args.bytes.now c.args.start size l at).1)
