use Rattle.std.proofs.Common.{◌++◌, ◌∷◌, [], List, ℕ, subst}
use Rattle.std.specs.Prelude.{OnErr, OnOk, codes, decimal}
use Rattle.std.specs.Io.KnownBytes.{Appends}
use Rattle.std.proofs.KnownBytes.{Appends-trans}
use Rattle.bidi_lines.specs.Devices.{AppendsBeginning}
use Rattle.bidi_lines.proofs.DeviceLemmas.{OnErr-anyhow}
use Rattle.bidi_why.proofs.SummaryLemmas.{begins_later, begins_parts, err_later, ok_later, some_are}
use Rattle.bidi_why.proofs.sum.write_some.Goals as goal

pub returns-in_err-write_all-clause-err : goal.returns-in_err-write_all-clause-err
returns-in_err-write_all-clause-err g c =
    let comma = codes ", " in
    let number = decimal c.args.count in
    let what = c.args.what.now in
    let a = g.F.Sink.contents c.args.faults.now in
    let b1 = g.F.Sink.contents c.write_all.new.sink in
    OnErr-anyhow _ (subst (AppendsBeginning a b1) (some_are c.args.count what c.if-count-eq0.false) (begins_parts a b1 comma (number ∷ what ∷ []) c.in_err-write_all.ensures.err))

pub returns-in_err-write_number-clause-err : goal.returns-in_err-write_number-clause-err
returns-in_err-write_number-clause-err g c =
    let comma = codes ", " in
    let number = decimal c.args.count in
    let what = c.args.what.now in
    let a = g.F.Sink.contents c.args.faults.now in
    let b1 = g.F.Sink.contents c.write_all.new.sink in
    let b2 = g.F.Sink.contents c.write_number.new.sink in
    let s1 = c.in_ok-write_all.ensures.ok in
    OnErr-anyhow _ (subst (AppendsBeginning a b2) (some_are c.args.count what c.if-count-eq0.false) (begins_parts a b2 (comma ++ number) (what ∷ []) (begins_later a b1 b2 comma number s1 c.in_err-write_number.ensures.err)))

pub returns-clause-ok : goal.returns-clause-ok
returns-clause-ok g c =
    let comma = codes ", " in
    let number = decimal c.args.count in
    let what = c.args.what.now in
    let a = g.F.Sink.contents c.args.faults.now in
    let b1 = g.F.Sink.contents c.write_all.new.sink in
    let b2 = g.F.Sink.contents c.write_number.new.sink in
    let b3 = g.F.Sink.contents c.write_all-2.new.sink in
    let s1 = c.in_ok-write_all.ensures.ok in
    let s2 = Appends-trans a b1 b2 comma number s1 c.in_ok-write_number.ensures.ok in
    subst (λ (t : List ℕ). OnOk c.write_all-2.result (Appends a b3 t)) (some_are c.args.count what c.if-count-eq0.false) (ok_later c.write_all-2.result a b2 b3 (comma ++ number) what s2 c.write_all-2.ensures.ok)

pub returns-clause-err : goal.returns-clause-err
returns-clause-err g c =
    let comma = codes ", " in
    let number = decimal c.args.count in
    let what = c.args.what.now in
    let a = g.F.Sink.contents c.args.faults.now in
    let b1 = g.F.Sink.contents c.write_all.new.sink in
    let b2 = g.F.Sink.contents c.write_number.new.sink in
    let b3 = g.F.Sink.contents c.write_all-2.new.sink in
    let s1 = c.in_ok-write_all.ensures.ok in
    let s2 = Appends-trans a b1 b2 comma number s1 c.in_ok-write_number.ensures.ok in
    subst (λ (t : List ℕ). OnErr c.write_all-2.result (AppendsBeginning a b3 t)) (some_are c.args.count what c.if-count-eq0.false) (err_later c.write_all-2.result a b2 b3 (comma ++ number) what s2 c.write_all-2.ensures.err)
