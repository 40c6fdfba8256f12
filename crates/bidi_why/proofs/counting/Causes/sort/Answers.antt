use Rattle.std.proofs.Common.{rules}
use Rattle.bidi_why.proofs.SummaryLemmas.{ranked}
use Rattle.bidi_why.proofs.counting.Causes.sort.Goals as goal

pub returns-clause-ranking : goal.returns-clause-ranking
returns-clause-ranking c =
    ranked c.args.self.now.rows.items c.sort_unstable_by.new.self.items c.sort_unstable_by.ensures.permutation c.sort_unstable_by.ensures.sorted
    (λ a r f k. search rules)
