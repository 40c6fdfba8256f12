use Rattle.std.proofs.Common.{arith, string_bytes}
use Rattle.std.proofs.lemmas.List.{length-map}
use Rattle.bidi_host_loop.proofs.RunLemmas.{all_played, next_played, none_played}
use Rattle.bidi_host_loop.proofs.hosting.Hosted.play_page.Goals as goal

pub loop-place-init : goal.loop-place-init
loop-place-init g c = none_played c.args.self.now

pub loop-place-preserved : goal.loop-place-preserved
loop-place-preserved g c =
    next_played c.loop-place.place c.args.self.now c.loop-place.self c.play.new.self
    (let test = c.loop-place-test.true in let end = c.len-place-end.ensures in let long = length-map c.args.self.now.page.items string_bytes in
    omega (arith, test, end, long))
    c.loop-place.invariant (c.in_ok-play.ensures c.if-not-branch.false)

pub returns : goal.returns
returns g c =
    all_played c.loop-place.place c.args.self.now c.loop-place.self
    (let test = c.loop-place-test.false in let end = c.len-place-end.ensures in let long = length-map c.args.self.now.page.items string_bytes in
    omega (arith, test, end, long))
    c.loop-place.invariant
