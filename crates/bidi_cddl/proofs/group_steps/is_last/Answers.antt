use Rattle.std.proofs.Common.{◌≡◌, drop, arith, ap, subst}
use Rattle.bidi_cddl.specs.Steps.{tokens_of}
use Rattle.bidi_cddl.specs.Reads.{CommaReads}
use Rattle.bidi_cddl.proofs.ReadLemmas.{last_says}
use Rattle.bidi_cddl.proofs.group_steps.is_last.Goals as goal

pub returns : goal.returns
returns c =
    let ts = tokens_of c.args.tokens.now in
    let s = c.args.step.now in
    let p = c.in-Some.entry in
    let same : p.node ≡ s.node = omega arith in
    let front-at : p.from ≡ s.from = omega arith in
    let front : drop (p.from) ts ≡ drop (s.from) ts = ap (λ k. drop k ts) front-at in
    let end-at : c.after_comma-next.result ≡ s.to = omega arith in
    let end : drop (c.after_comma-next.result) ts ≡ drop (s.to) ts = ap (λ k. drop k ts) end-at in
    λ right nodes all. last_says nodes p.node s.node (drop s.from ts) (drop p.from ts) (drop p.to ts) (drop s.to ts) same front
    (subst (λ us. CommaReads (drop p.to ts) us) end c.after_comma-next.ensures) (c.in-Some.ensures nodes ts all)
