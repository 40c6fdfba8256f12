use Rattle.std.proofs.Common.{◌≡◌, drop, arith}
use Rattle.bidi_cddl.specs.Steps.{tokens_of}
use Rattle.std.proofs.Common.{◌∷◌}
use Rattle.bidi_cddl.specs.Reads.{OccursReads}
use Rattle.bidi_cddl.specs.Token.{a_sign}
use Rattle.bidi_cddl.specs.declared.token.Sign.TheVariants.{Plus}
use Rattle.bidi_cddl.specs.declared.written.Occurs.TheVariants.{AtLeast}
use Rattle.bidi_cddl.proofs.ReadLemmas.{match_map, plus_says}
use Rattle.bidi_cddl.proofs.matching.after_plus.Goals as goal

pub returns : goal.returns
returns c =
    let ts = tokens_of c.args.tokens.now in
    let same : 1 ≡ c.args.least = omega arith in
    match_map c.after.result (λ n. drop c.args.from ts ≡ a_sign Plus ∷ drop n ts) (λ n. OccursReads (AtLeast c.args.least) (drop c.args.from ts) (drop n ts))
    (λ n e. plus_says c.args.least (drop c.args.from ts) (drop n ts) same e) c.after.ensures
