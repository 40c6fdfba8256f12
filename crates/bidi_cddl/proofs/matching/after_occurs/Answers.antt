use Rattle.std.proofs.Common.{◌≡◌, drop, subst, sym}
use Rattle.bidi_cddl.specs.Steps.{tokens_of}
use Rattle.std.proofs.Common.{◌∷◌}
use Rattle.bidi_cddl.specs.Reads.{OccursReads, once}
use Rattle.bidi_cddl.specs.Token.{a_sign}
use Rattle.bidi_cddl.specs.declared.token.Sign.TheVariants.{Question}
use Rattle.bidi_cddl.proofs.ReadLemmas.{match_map, optional_says}
use Rattle.bidi_cddl.proofs.matching.after_occurs.Goals as goal

pub returns-in-Once : goal.returns-in-Once
returns-in-Once c =
    let ts = tokens_of c.args.tokens.now in
    subst (λ o. OccursReads o (drop c.args.from ts) (drop c.args.from ts)) (sym c.in-Once.is) (once (drop c.args.from ts))

pub returns-in-Optional : goal.returns-in-Optional
returns-in-Optional c =
    let ts = tokens_of c.args.tokens.now in
    match_map c.after.result (λ n. drop c.args.from ts ≡ a_sign Question ∷ drop n ts) (λ n. OccursReads c.args.occurs (drop c.args.from ts) (drop n ts))
    (λ n e. subst (λ o. OccursReads o (drop c.args.from ts) (drop n ts)) (sym c.in-Optional.is) (optional_says (drop c.args.from ts) (drop n ts) e)) c.after.ensures
