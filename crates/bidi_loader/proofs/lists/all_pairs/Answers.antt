use Rattle.std.proofs.Common.{◌≡◌, ◌<◌, length, get_or, ap, arith}
use Rattle.bidi_loader.specs.Readings.{lists_view}
use Rattle.bidi_loader.proofs.GroupLemmas.{pairs_more}
use Rattle.bidi_loader.proofs.lists.all_pairs.Goals as goal

pub firsts-preserved : goal.firsts-preserved
firsts-preserved c = λ trees.
    let firsts = c.args.firsts.now.items in
    let i = c.firsts.first-index in
    let x = c.first-item.result in
    let few : i < length firsts = omega (arith, c.firsts-test.true, ap length c.deref-first-items.ensures.value) in
    let e : x ≡ get_or firsts i x = cc (c.first-item.is) in
    pairs_more trees firsts (lists_view trees c.args.seconds.now) (lists_view trees c.firsts.lists) (lists_view trees c.push_pairs.new.lists) i x few e
    (c.firsts.invariant trees) (c.in_ok-push_pairs.ensures trees)
