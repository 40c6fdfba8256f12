use Rattle.std.proofs.Common.{◌≡◌, drop}
use Rattle.bidi_cddl.specs.Steps.{tokens_of}
use Rattle.std.proofs.Common.{◌∷◌}
use Rattle.std.specs.Prelude.{codes}
use Rattle.bidi_cddl.specs.Reads.{TextReads}
use Rattle.bidi_cddl.specs.Token.{a_name, a_sign}
use Rattle.bidi_cddl.specs.declared.token.Sign.TheVariants.{Arrow}
use Rattle.bidi_cddl.proofs.ReadLemmas.{any_text_says, match_map, tstr_says}
use Rattle.bidi_cddl.proofs.matching.after_text.Goals as goal

pub returns-in-Some : goal.returns-in-Some
returns-in-Some c =
    let ts = tokens_of c.args.tokens.now in
    any_text_says (drop c.args.from ts) (drop c.in-Some.next ts) c.in-Some.ensures

pub returns-in-None : goal.returns-in-None
returns-in-None c =
    let ts = tokens_of c.args.tokens.now in
    match_map c.after_name-in-None.result (λ n. drop c.args.from ts ≡ a_name (codes "tstr") ∷ a_sign Arrow ∷ drop n ts) (λ n. TextReads (drop c.args.from ts) (drop n ts))
    (λ n e. tstr_says (drop c.args.from ts) (drop n ts) e) c.after_name-in-None.ensures
