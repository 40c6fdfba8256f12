use Rattle.std.proofs.Common.{sym}
use Rattle.bidi_cddl.specs.Token.{token_of}
use Rattle.bidi_cddl.proofs.ReadLemmas.{holds, token_there}
use Rattle.bidi_cddl.proofs.matching.after.Goals as goal

pub returns : goal.returns
returns c =
    token_there c.args.tokens.now c.args.from c.in_ok-placed.placed (token_of c.args.token) (sym c.in_ok-placed.ensures)
    (c.is_same.ensures (holds c.is_same.result c.if-not-is_same.false))
