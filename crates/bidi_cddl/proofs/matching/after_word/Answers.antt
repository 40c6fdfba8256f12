use Rattle.std.proofs.Common.{◌≡◌, drop}
use Rattle.bidi_cddl.specs.Steps.{tokens_of}
use Rattle.std.proofs.Common.{◌∷◌}
use Rattle.bidi_cddl.specs.Reads.{KeyReads}
use Rattle.bidi_cddl.specs.Token.{a_sign}
use Rattle.bidi_cddl.specs.declared.token.Sign.TheVariants.{Colon}
use Rattle.bidi_cddl.proofs.ReadLemmas.{match_map, word_says}
use Rattle.bidi_cddl.proofs.matching.after_word.Goals as goal

pub returns : goal.returns
returns c =
    let ts = tokens_of c.args.tokens.now in
    match_map c.after-2.result (λ n. drop c.in_ok-next.next ts ≡ a_sign Colon ∷ drop n ts) (λ n. KeyReads c.args.key.now (drop c.args.from ts) (drop n ts))
    (λ n e. word_says c.args.key.now (drop c.args.from ts) (drop c.in_ok-next.next ts) (drop n ts) c.in_ok-next.ensures e) c.after-2.ensures
