use Rattle.std.proofs.Common.{◌≡◌, drop, arith, ap}
use Rattle.bidi_cddl.proofs.ReadLemmas.{entry_body}
use Rattle.bidi_cddl.proofs.definition_steps.is_entry.Goals as goal

pub returns : goal.returns
returns c =
    let p = c.in-Some.entry in
    let n = c.in-Group.node in
    let same : p.node ≡ n = omega arith in
    let from-at : p.from ≡ c.args.from = omega arith in
    let to-at : p.to ≡ c.args.to = omega arith in
    λ right ts nodes all. entry_body nodes p.node n c.args.definition.now.body (drop c.args.from ts) (drop p.from ts) (drop p.to ts) (drop c.args.to ts) c.in-Group.is same
    (ap (λ k. drop k ts) from-at) (ap (λ k. drop k ts) to-at) (c.in-Some.ensures nodes ts all)
