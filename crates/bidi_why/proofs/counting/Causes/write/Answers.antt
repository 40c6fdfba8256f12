use Rattle.std.proofs.Common.{◌∷◌, [], List, ℕ, ap, map, subst}
use Rattle.std.specs.Prelude.{flat_map}
use Rattle.std.specs.Io.KnownBytes.{Appends}
use Rattle.bidi_lines.specs.Devices.{AppendsBeginning}
use Rattle.bidi_lines.proofs.DeviceLemmas.{OnErr-anyhow}
use Rattle.bidi_why.specs.Counting.{others_line, row_line, row_of}
use Rattle.bidi_why.specs.declared.counting.Cause.{Cause}
use Rattle.bidi_why.proofs.SummaryLemmas.{begins_parts, err_later, ok_later}
use Rattle.bidi_why.proofs.counting.Causes.write.Goals as goal

pub returns-in_err-write_rows-clause-err : goal.returns-in_err-write_rows-clause-err
returns-in_err-write_rows-clause-err g c =
    let rows = flat_map row_line (map row_of c.args.self.now.rows.items) in
    let others = others_line c.args.self.now.others in
    let same = ap (λ (rs : List Cause). flat_map row_line (map row_of rs)) c.deref.ensures.value in
    let a = g.F.Sink.contents c.args.faults.now in
    let b1 = g.F.Sink.contents c.write_rows.new.faults in
    OnErr-anyhow _ (begins_parts a b1 rows (others ∷ []) (subst (λ (t : List ℕ). AppendsBeginning a b1 t) same c.in_err-write_rows.ensures.err))

pub returns-clause-ok : goal.returns-clause-ok
returns-clause-ok g c =
    let rows = flat_map row_line (map row_of c.args.self.now.rows.items) in
    let others = others_line c.args.self.now.others in
    let same = ap (λ (rs : List Cause). flat_map row_line (map row_of rs)) c.deref.ensures.value in
    let a = g.F.Sink.contents c.args.faults.now in
    let b1 = g.F.Sink.contents c.write_rows.new.faults in
    let b2 = g.F.Sink.contents c.write_others.new.faults in
    let s1 = subst (λ (t : List ℕ). Appends a b1 t) same c.in_ok-write_rows.ensures.ok in
    ok_later c.write_others.result a b1 b2 rows others s1 c.write_others.ensures.ok

pub returns-clause-err : goal.returns-clause-err
returns-clause-err g c =
    let rows = flat_map row_line (map row_of c.args.self.now.rows.items) in
    let others = others_line c.args.self.now.others in
    let same = ap (λ (rs : List Cause). flat_map row_line (map row_of rs)) c.deref.ensures.value in
    let a = g.F.Sink.contents c.args.faults.now in
    let b1 = g.F.Sink.contents c.write_rows.new.faults in
    let b2 = g.F.Sink.contents c.write_others.new.faults in
    let s1 = subst (λ (t : List ℕ). Appends a b1 t) same c.in_ok-write_rows.ensures.ok in
    err_later c.write_others.result a b1 b2 rows others s1 c.write_others.ensures.err
