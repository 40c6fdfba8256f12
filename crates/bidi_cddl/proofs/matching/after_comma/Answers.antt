use Rattle.std.proofs.Common.{drop}
use Rattle.bidi_cddl.specs.Steps.{tokens_of}
use Rattle.bidi_cddl.specs.Reads.{no_comma}
use Rattle.bidi_cddl.proofs.ReadLemmas.{comma_says}
use Rattle.bidi_cddl.proofs.matching.after_comma.Goals as goal

pub returns-in-Some : goal.returns-in-Some
returns-in-Some c =
    let ts = tokens_of c.args.tokens.now in
    comma_says (drop c.args.from ts) (drop c.in-Some.next ts) c.in-Some.ensures

pub returns-in-None : goal.returns-in-None
returns-in-None c =
    let ts = tokens_of c.args.tokens.now in
    no_comma (drop c.args.from ts)
