use Rattle.std.proofs.Common.{map, arith}
use Rattle.bidi_handles.specs.Handles.{values_in}
use Rattle.bidi_handles.specs.Resolves.{stands_for}
use Rattle.bidi_handles.specs.Values.{arguments}
use Rattle.bidi_handles.specs.ValuesInHand.{local_tree}
use Rattle.bidi_handles.proofs.ArgumentLemmas.{arguments-more, arguments-refused, arguments-all}
use Rattle.bidi_handles.proofs.ResolveLemmas.{handed}
use Rattle.bidi_handles.proofs.resolving.check_arguments.Goals as goal

pub loop-value-preserved : goal.loop-value-preserved
loop-value-preserved c =
    arguments-more (values_in c.args.handles.now) c.args.values.now c.loop-value.value-index c.value-item.result c.in_ok-checked.field-0
    c.loop-value.all.items c.push.new.self.items c.loop-value-test.true c.value-item.is c.in_ok-checked.ensures c.in_ok-push.ensures.items c.loop-value.invariant

pub returns-in_err-checked : goal.returns-in_err-checked
returns-in_err-checked c =
    let held = values_in c.args.handles.now in
    let e = c.in_err-checked.field-0.0 in
    handed (λ all. map stands_for all.items) c.from_residual-in_err-checked.result e (arguments held (map local_tree c.args.values.now))
    c.from_residual-in_err-checked.ensures.1
    (arguments-refused held c.args.values.now c.loop-value.value-index c.value-item.result e c.loop-value.all.items c.loop-value-test.true
    c.value-item.is c.in_err-checked.ensures c.loop-value.invariant)

pub returns : goal.returns
returns c = arguments-all (values_in c.args.handles.now) c.args.values.now c.loop-value.value-index c.loop-value.all.items (omega arith) c.loop-value.invariant
