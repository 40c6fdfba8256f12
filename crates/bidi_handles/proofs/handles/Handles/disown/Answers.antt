use Rattle.std.proofs.Common.{◌∙◌, filter, take_all, ap, arith}
use Rattle.std.specs.Prelude.{not}
use Rattle.bidi_handles.specs.Handles.{handles_seen}
use Rattle.bidi_handles.proofs.NumberLemmas.{among, none-left_out, left-more}
use Rattle.bidi_handles.proofs.handles.Handles.disown.Goals as goal

pub loop-number-init : goal.loop-number-init
loop-number-init c = none-left_out (handles_seen c.args.self.now)

pub loop-number-preserved : goal.loop-number-preserved
loop-number-preserved c =
    let held = c.loop-number in
    left-more c.args.numbers.now held.number-index 0 (handles_seen c.args.self.now) (handles_seen held.self) (handles_seen c.release.new.self)
    c.loop-number-test.true held.invariant c.release.ensures

pub returns : goal.returns
returns c =
    c.loop-number.invariant
    ∙ ap (λ ns. filter (λ s. not (among s.0 ns)) (handles_seen c.args.self.now)) (take_all c.loop-number.number-index c.args.numbers.now (omega arith))
