use Rattle.std.proofs.Common.{List, ℕ, subst}
use Rattle.std.specs.Prelude.{OnErr, OnOk}
use Rattle.std.specs.Io.KnownBytes.{Appends}
use Rattle.bidi_lines.specs.Devices.{AppendsBeginning}
use Rattle.bidi_why.proofs.SummaryLemmas.{others_are}
use Rattle.bidi_why.proofs.counting.write_others.Goals as goal

pub returns-clause-ok : goal.returns-clause-ok
returns-clause-ok g c =
    let a = g.F.Sink.contents c.args.faults.now in
    let b = g.F.Sink.contents c.write_count.new.faults in
    subst (λ (t : List ℕ). OnOk c.write_count.result (Appends a b t)) (others_are c.args.count c.if-count-eq0.false) c.write_count.ensures.ok

pub returns-clause-err : goal.returns-clause-err
returns-clause-err g c =
    let a = g.F.Sink.contents c.args.faults.now in
    let b = g.F.Sink.contents c.write_count.new.faults in
    subst (λ (t : List ℕ). OnErr c.write_count.result (AppendsBeginning a b t)) (others_are c.args.count c.if-count-eq0.false) c.write_count.ensures.err
