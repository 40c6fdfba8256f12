use Rattle.bidi_syntax.proofs.StepLemmas.{mended_on}
use Rattle.bidi_syntax.proofs.mending.mended.Goals as goal

pub loop-place-preserved : goal.loop-place-preserved
loop-place-preserved c =
    let at = c.loop-place in
    mended_on c.args.text.now at.bytes.items c.push-in-loop-place.new.self.items at.replaces at.left at.place c.split_at.result.1.now c.is_lone-replaces.result
    c.rest_of_character-left.result c.loop-place-test.true c.if-left-gt0.false c.split_at.ensures.back c.in_ok-push-2.ensures.items c.is_lone-replaces.ensures
    c.rest_of_character-left.ensures at.invariant
