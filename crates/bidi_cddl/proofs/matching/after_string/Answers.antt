use Rattle.std.proofs.Common.{◌≡◌, drop}
use Rattle.bidi_cddl.specs.Steps.{tokens_of}
use Rattle.std.proofs.Common.{◌∷◌}
use Rattle.bidi_cddl.specs.Reads.{KeyReads}
use Rattle.bidi_cddl.specs.Token.{a_sign}
use Rattle.bidi_cddl.specs.declared.token.Sign.TheVariants.{Arrow}
use Rattle.bidi_cddl.proofs.ReadLemmas.{arrow_says, match_map, quoted_says}
use Rattle.bidi_cddl.proofs.matching.after_string.Goals as goal

pub returns-in-Some : goal.returns-in-Some
returns-in-Some c =
    let ts = tokens_of c.args.tokens.now in
    quoted_says c.args.key.now (drop c.args.from ts) (drop c.in_ok-next.next ts) (drop c.in-Some.end ts) c.in_ok-next.ensures c.in-Some.ensures

pub returns-in-None : goal.returns-in-None
returns-in-None c =
    let ts = tokens_of c.args.tokens.now in
    match_map c.after-in-None.result (λ n. drop c.in_ok-next.next ts ≡ a_sign Arrow ∷ drop n ts) (λ n. KeyReads c.args.key.now (drop c.args.from ts) (drop n ts))
    (λ n e. arrow_says c.args.key.now (drop c.args.from ts) (drop c.in_ok-next.next ts) (drop n ts) c.in_ok-next.ensures e) c.after-in-None.ensures
