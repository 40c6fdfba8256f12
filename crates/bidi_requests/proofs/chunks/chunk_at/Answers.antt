use Rattle.std.proofs.Common.{rules, ◌<◌, ◌+◌, arith, ap, inl, length, length-drop, subst}
use Rattle.bidi_requests.proofs.BodyLemmas.{data-bad, data-part, data-whole}
use Rattle.bidi_requests.proofs.chunks.chunk_at.Goals as goal

pub returns-then-rest-size : goal.returns-then-rest-size
returns-then-rest-size c =
    λ room fits.
    data-part c.args.bytes.now c.args.start c.args.size c.requires.line.0 c.requires.line.1 c.requires.some
    (subst (λ (xs : _). length xs < c.args.size + 2) c.split_at.ensures.back c.if-rest-size.true)

pub returns-then-is_ended : goal.returns-then-is_ended
returns-then-is_ended c =
    λ room fits. (
      data-whole c.args.bytes.now c.args.start c.args.size c.requires.line.0 c.requires.line.1 c.requires.line.2 c.requires.some
          (omega (arith, c.if-rest-size.false, ap length c.split_at.ensures.back)) (search rules),
      omega (arith, c.if-rest-size.false, ap length c.split_at.ensures.back, length-drop c.args.start c.args.bytes.now, c.requires.inside),
      c.requires.some,
      fits,
    )

pub returns-else-is_ended : goal.returns-else-is_ended
returns-else-is_ended c =
    λ room fits.
    inl (data-bad c.args.bytes.now c.args.start c.args.size c.requires.line.0 c.requires.line.1 c.requires.some (omega (arith, c.if-rest-size.false, ap length c.split_at.ensures.back)) (λ e. search rules))
