use Rattle.std.proofs.Common.{◌<◌, map, length, arith}
use Rattle.bidi_blame.specs.Said.{said_text}
use Rattle.bidi_blame.specs.View.{want_of}
use Rattle.bidi_blame.proofs.WordLemmas.{told_one_more}
use Rattle.bidi_blame.proofs.wanting.wanted.Goals as goal

pub loop-want-preserved : goal.loop-want-preserved
loop-want-preserved c =
    let l = c.loop-want in
    let wants = c.args.wants.now in
    let few : l.want-index < length wants = omega (arith, c.loop-want-test.true, l.auto.want-index-end) in
    told_one_more want_of (map said_text l.told.items) (map said_text c.tell_want.new.told.items) _ wants l.want-index _ few l.invariant c.in_ok-tell_want.ensures
