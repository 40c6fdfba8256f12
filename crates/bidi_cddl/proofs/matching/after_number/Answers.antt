use Rattle.std.proofs.Common.{◌≡◌, drop, arith}
use Rattle.bidi_cddl.specs.Steps.{tokens_of}
use Rattle.bidi_cddl.proofs.ReadLemmas.{count_says}
use Rattle.bidi_cddl.proofs.matching.after_number.Goals as goal

pub returns : goal.returns
returns c =
    let ts = tokens_of c.args.tokens.now in
    let same : c.in_ok-count.count ≡ c.args.least = omega arith in
    count_says c.in_ok-count.count c.args.least c.args.number.now (drop c.args.from ts) (drop c.in_ok-star.star ts) (drop c.in_ok-next.next ts) c.in_ok-count.ensures same
    c.in_ok-star.ensures c.in_ok-next.ensures
