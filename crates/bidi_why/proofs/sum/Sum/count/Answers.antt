use Rattle.std.proofs.Common.{ap, refl}
use Rattle.std.specs.Prelude.{◌||◌, Bool}
use Rattle.bidi_why.proofs.SummaryLemmas.{sum_more}
use Rattle.bidi_why.proofs.sum.Sum.count.Goals as goal

pub returns-clause-sum : goal.returns-clause-sum
returns-clause-sum c n told room p =
    let added = c.in_ok-add.ensures in
    sum_more c.args.self.now _ n told (record { counted_as = c.args.counted_as; cause = c.args.cause.items; is_log = c.args.is_log }) room p refl
    (ap (λ (b : Bool). c.args.self.now.has_fault || b) c.is_fault.ensures) refl
    c.more_if-self.ensures c.more_if-self-2.ensures c.more_if-self-3.ensures c.more_if-self-4.ensures added.met added.counts
