use Rattle.std.proofs.Common.{◌<◌, arith, length, sym}
use Rattle.std.proofs.lemmas.Option.{slice_get_within}
use Rattle.bidi_cddl.specs.Steps.{nodes_of, tokens_of}
use Rattle.bidi_cddl.proofs.ReadLemmas.{all_below, holds, read_more}
use Rattle.bidi_cddl.proofs.checking.are_right.Goals as goal

pub loop-i-preserved : goal.loop-i-preserved
loop-i-preserved c =
    let N = nodes_of c.args.nodes.now in
    let ts = tokens_of c.args.tokens.now in
    let steps = c.args.steps.now in
    let s = c.in-Some.step in
    read_more N ts steps c.loop-i.i s (sym c.in-Some.ensures) c.loop-i.invariant
    (c.is_right.ensures (holds c.is_right.result c.if-not-is_right.false) (all_below N ts steps c.split_at.result.0.now c.loop-i.i c.split_at.ensures.front c.loop-i.invariant))

pub returns : goal.returns
returns c = λ right j t e. let within : j < length c.args.steps.now = slice_get_within c.args.steps.now j t e in c.loop-i.invariant j t (omega arith) e
