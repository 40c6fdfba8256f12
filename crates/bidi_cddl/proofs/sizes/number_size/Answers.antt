use Rattle.bidi_cddl.proofs.SizeLemmas.{ascii_append}
use Rattle.bidi_cddl.proofs.sizes.number_size.Goals as goal

pub returns-clause-ascii : goal.returns-clause-ascii
returns-clause-ascii c =
    ascii_append c.args.bytes.now c.split_at.result.1.now c.decimal_size-decimal.result c.exponent_size.result c.split_at.ensures.back
    c.decimal_size-decimal.ensures.ascii c.exponent_size.ensures.ascii
