use Rattle.std.proofs.Common.{refl}
use Rattle.bidi_why.specs.Summary.{sum_text}
use Rattle.bidi_why.specs.declared.sum.Sum.{Sum}
use Rattle.bidi_why.proofs.SummaryLemmas.{given, sums_up}
use Rattle.bidi_why.proofs.sum.Sum.tell.Goals as goal

pub returns-clause-told : goal.returns-clause-told
returns-clause-told g c some n told p =
    let old = c.args.self.now in
    let now : Sum = record {
      lines = old.lines;
      has_fault = old.has_fault;
      has_log = old.has_log;
      refused = old.refused;
      beyond = old.beyond;
      failed = old.failed;
      unanswered = old.unanswered;
      causes = c.sort.new.self;
    } in
    let sorted = c.sort.ensures in
    sums_up old now n told (g.F.Sink.contents c.args.faults.now) (g.F.Sink.contents c.write.new.faults) (g.F.Sink.failures c.args.faults.now)
    (g.F.Sink.failures c.write.new.faults) p sorted.ranking sorted.others refl refl refl refl refl refl
    (given c.write.result (g.F.Sink.contents c.args.faults.now) (g.F.Sink.contents c.write.new.faults) (g.F.Sink.failures c.args.faults.now)
    (g.F.Sink.failures c.write.new.faults) (sum_text now) c.write.ensures.ok c.write.ensures.err c.write.ensures.counts)
