use Rattle.std.proofs.Common.{◌∙◌, ◌<◌, false, length, get_or, ap, arith}
use Rattle.bidi_scripted.proofs.UseLemmas.{get_or-any}
use Rattle.bidi_scripted.proofs.method_set.MethodSet.has.Goals as goal

pub returns : goal.returns
returns c =
    let marks = c.args.self.now.marks in
    let less : c.slot_of.result < length marks.items = omega (arith, c.slot_of.ensures.bound, c.args.self.now.whole, marks.ok.0) in
    c.index.ensures ∙ (get_or-any marks.items c.slot_of.result c.index.result.now false less ∙ ap (λ i. get_or marks.items i false) c.slot_of.ensures.slot)
