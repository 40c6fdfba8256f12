use Rattle.std.proofs.Common.{◌∙◌, ◌<◌, true, false, length, get_or, set, sym, ap, arith}
use Rattle.std.proofs.lemmas.List.{get_or-set_same}
use Rattle.bidi_scripted.specs.Slots.{slot_of}
use Rattle.bidi_scripted.proofs.MethodLemmas.{mark-kept}
use Rattle.bidi_scripted.proofs.method_set.MethodSet.add.Goals as goal

pub returns-clause-added : goal.returns-clause-added
returns-clause-added c =
    let marks = c.args.self.now.marks in
    let slot = c.slot_of.result in
    let less : slot < length marks.items = omega (arith, c.slot_of.ensures.bound, c.args.self.now.whole, marks.ok.0) in
    ap (λ i. get_or (set marks.items slot true) i false) (sym c.slot_of.ensures.slot) ∙ get_or-set_same marks.items slot true false less

pub returns-clause-kept : goal.returns-clause-kept
returns-clause-kept c = λ m marked. mark-kept c.args.self.now.marks.items c.slot_of.result (slot_of m) marked
