use Rattle.std.proofs.Common.{◌++◌, ◌∷◌, [], List, ℕ, subst}
use Rattle.std.specs.Prelude.{OnErr, OnOk, flat_map}
use Rattle.std.specs.Io.KnownBytes.{Appends}
use Rattle.std.proofs.KnownBytes.{Appends-trans}
use Rattle.bidi_lines.specs.Devices.{AppendsBeginning}
use Rattle.bidi_lines.proofs.DeviceLemmas.{OnErr-anyhow}
use Rattle.bidi_why.specs.Counting.{counts_of, others_line, row_line}
use Rattle.bidi_why.specs.Summary.{head_line, hint_line}
use Rattle.bidi_why.proofs.SummaryLemmas.{begins_later, begins_parts, err_later, ok_later}
use Rattle.bidi_why.proofs.sum.Sum.write.Goals as goal

pub returns-in_err-write_head-clause-err : goal.returns-in_err-write_head-clause-err
returns-in_err-write_head-clause-err g c =
    let sum = c.args.self.now in
    let counts = counts_of sum.causes in
    let head = head_line sum.lines sum.refused sum.beyond sum.failed sum.unanswered in
    let causes = flat_map row_line counts.rows ++ others_line counts.others in
    let hint = hint_line sum.has_log in
    let a = g.F.Sink.contents c.args.faults.now in
    let b1 = g.F.Sink.contents c.write_head.new.faults in
    OnErr-anyhow _ (begins_parts a b1 head (causes ∷ hint ∷ []) c.in_err-write_head.ensures.err)

pub returns-in_err-write-clause-err : goal.returns-in_err-write-clause-err
returns-in_err-write-clause-err g c =
    let sum = c.args.self.now in
    let counts = counts_of sum.causes in
    let head = head_line sum.lines sum.refused sum.beyond sum.failed sum.unanswered in
    let causes = flat_map row_line counts.rows ++ others_line counts.others in
    let hint = hint_line sum.has_log in
    let a = g.F.Sink.contents c.args.faults.now in
    let b1 = g.F.Sink.contents c.write_head.new.faults in
    let b2 = g.F.Sink.contents c.write.new.faults in
    let s1 = c.in_ok-write_head.ensures.ok in
    OnErr-anyhow _ (begins_parts a b2 (head ++ causes) (hint ∷ []) (begins_later a b1 b2 head causes s1 c.in_err-write.ensures.err))

pub returns-clause-ok : goal.returns-clause-ok
returns-clause-ok g c =
    let sum = c.args.self.now in
    let counts = counts_of sum.causes in
    let head = head_line sum.lines sum.refused sum.beyond sum.failed sum.unanswered in
    let causes = flat_map row_line counts.rows ++ others_line counts.others in
    let hint = hint_line sum.has_log in
    let a = g.F.Sink.contents c.args.faults.now in
    let b1 = g.F.Sink.contents c.write_head.new.faults in
    let b2 = g.F.Sink.contents c.write.new.faults in
    let b3 = g.F.Sink.contents c.write_all.new.sink in
    let s1 = c.in_ok-write_head.ensures.ok in
    let s2 = Appends-trans a b1 b2 head causes s1 c.in_ok-write.ensures.ok in
    ok_later c.write_all.result a b2 b3 (head ++ causes) hint s2 (subst (λ (t : List ℕ). OnOk c.write_all.result (Appends b2 b3 t)) c.hint.ensures c.write_all.ensures.ok)

pub returns-clause-err : goal.returns-clause-err
returns-clause-err g c =
    let sum = c.args.self.now in
    let counts = counts_of sum.causes in
    let head = head_line sum.lines sum.refused sum.beyond sum.failed sum.unanswered in
    let causes = flat_map row_line counts.rows ++ others_line counts.others in
    let hint = hint_line sum.has_log in
    let a = g.F.Sink.contents c.args.faults.now in
    let b1 = g.F.Sink.contents c.write_head.new.faults in
    let b2 = g.F.Sink.contents c.write.new.faults in
    let b3 = g.F.Sink.contents c.write_all.new.sink in
    let s1 = c.in_ok-write_head.ensures.ok in
    let s2 = Appends-trans a b1 b2 head causes s1 c.in_ok-write.ensures.ok in
    err_later c.write_all.result a b2 b3 (head ++ causes) hint s2 (subst (λ (t : List ℕ). OnErr c.write_all.result (AppendsBeginning b2 b3 t)) c.hint.ensures c.write_all.ensures.err)
