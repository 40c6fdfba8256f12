use Rattle.std.proofs.Common.{refl}
use Rattle.bidi_why.proofs.SummaryLemmas.{sum_line}
use Rattle.bidi_why.proofs.sum.Sum.next_line.Goals as goal

pub returns-clause-sum : goal.returns-clause-sum
returns-clause-sum c n told p = sum_line c.args.self.now _ n told p refl refl refl refl refl refl refl refl
