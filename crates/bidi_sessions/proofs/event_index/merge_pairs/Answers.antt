use Rattle.std.proofs.Common.{take, length, sym, subst, arith}
use Rattle.std.proofs.lemmas.List.{length-take-le, take-take}
use Rattle.std.proofs.Math.ListN.{drop_of_length-le}
use Rattle.bidi_sessions.proofs.MergeLemmas.{IsMerged, merged-none, put-pair, put-context, merged-some, merged-up}
use Rattle.bidi_sessions.proofs.event_index.merge_pairs.Goals as goal

pub loop-right-init : goal.loop-right-init
loop-right-init c =
    let asked = c.requires in
    let first = take c.args.held c.args.pairs.now in
    let long = length-take-le c.args.held c.args.pairs.now (omega (arith, asked)) in (
      omega arith,
      omega arith,
      sym (take-take c.args.held c.args.held c.args.pairs.now (omega arith)),
      subst (IsMerged first c.args.tops.now c.args.number c.args.held (length c.args.tops.now))
          (sym (drop_of_length-le c.args.pairs.now (omega (arith, asked))))
          (merged-none first c.args.tops.now c.args.number c.args.held (length c.args.tops.now) (omega (arith, long)) (omega arith)),
    )

pub overflow_sub-left : goal.overflow_sub-left
overflow_sub-left c = let above = (c.is_last_above.ensures.above c.if-is_last_above.true (0, 0)).0 in omega (arith, above)

pub bounds-pairs-left : goal.bounds-pairs-left
bounds-pairs-left c =
    let above = (c.is_last_above.ensures.above c.if-is_last_above.true (0, 0)).0 in
    let asked = c.requires in
    let long = c.loop-right.auto.pairs in
    let left = c.loop-right.invariant.0 in
    let right = c.loop-right.invariant.1 in
    omega (arith, above, asked, long, left, right)

pub loop-right-smaller-then-is_last_above : goal.loop-right-smaller-then-is_last_above
loop-right-smaller-then-is_last_above c = let above = (c.is_last_above.ensures.above c.if-is_last_above.true (0, 0)).0 in omega (arith, above)

pub loop-right-preserved-then-is_last_above : goal.loop-right-preserved-then-is_last_above
loop-right-preserved-then-is_last_above c =
    let above = c.is_last_above.ensures.above c.if-is_last_above.true (0, 0) in
    let some = above.0 in
    let asked = c.requires in
    let same = c.loop-right.auto.pairs in
    let left = c.loop-right.invariant.0 in
    let right = c.loop-right.invariant.1 in
    let more = c.loop-right-test.true in
    let long = length-take-le c.args.held c.args.pairs.now (omega (arith, asked)) in
    let put = put-pair (take c.args.held c.args.pairs.now) c.args.tops.now c.args.number c.loop-right.left c.loop-right.right c.loop-right.pairs
    c.loop-right.invariant.2 c.loop-right.invariant.3 some (omega (arith, left, long)) more right (omega (arith, asked, same, left, right)) above.1 in
    (omega (arith, left), right, put.0, put.1)

pub loop-right-preserved : goal.loop-right-preserved
loop-right-preserved c =
    let asked = c.requires in
    let same = c.loop-right.auto.pairs in
    let left = c.loop-right.invariant.0 in
    let right = c.loop-right.invariant.1 in
    let more = c.loop-right-test.true in
    let long = length-take-le c.args.held c.args.pairs.now (omega (arith, asked)) in
    let put = put-context (take c.args.held c.args.pairs.now) c.args.tops.now c.args.number c.loop-right.left c.loop-right.right c.loop-right.pairs
    c.loop-right.invariant.2 c.loop-right.invariant.3 (omega (arith, left, long)) more right (omega (arith, asked, same, left, right))
    (c.is_last_above.ensures.not_above c.if-is_last_above.false) in
    (left, omega (arith, right), put.0, put.1)

pub returns-clause-order : goal.returns-clause-order
returns-clause-order c =
    let asked = c.requires in
    let left = c.loop-right.invariant.0 in
    let long = length-take-le c.args.held c.args.pairs.now (omega (arith, asked)) in
    merged-up (take c.args.held c.args.pairs.now) c.args.tops.now c.args.number c.loop-right.left c.loop-right.right c.loop-right.pairs
    c.loop-right.invariant.2 c.loop-right.invariant.3 c.loop-right-test.false (omega (arith, left, long))

pub returns-clause-added : goal.returns-clause-added
returns-clause-added c =
    merged-some (take c.args.held c.args.pairs.now) c.args.tops.now c.args.number c.loop-right.left c.loop-right.right c.loop-right.pairs
    c.loop-right.invariant.2 c.loop-right.invariant.3 c.loop-right-test.false
