use Rattle.std.proofs.Common.{◌++◌, ◌∷◌, []}
use Rattle.std.specs.Prelude.{codes, decimal}
use Rattle.std.proofs.KnownBytes.{Appends-trans}
use Rattle.bidi_lines.proofs.DeviceLemmas.{OnErr-anyhow}
use Rattle.bidi_why.proofs.SummaryLemmas.{begins_later, begins_parts, err_later, ok_later}
use Rattle.bidi_why.proofs.counting.write_count.Goals as goal

pub returns-in_err-write_number-clause-err : goal.returns-in_err-write_number-clause-err
returns-in_err-write_number-clause-err g c =
    let number = decimal c.args.count in
    let space = codes " " in
    let text = c.args.text.now in
    let feed = codes "\n" in
    let a = g.F.Sink.contents c.args.faults.now in
    let b1 = g.F.Sink.contents c.write_number.new.sink in
    OnErr-anyhow _ (begins_parts a b1 number (space ∷ text ∷ feed ∷ []) c.in_err-write_number.ensures.err)

pub returns-in_err-write_all-clause-err : goal.returns-in_err-write_all-clause-err
returns-in_err-write_all-clause-err g c =
    let number = decimal c.args.count in
    let space = codes " " in
    let text = c.args.text.now in
    let feed = codes "\n" in
    let a = g.F.Sink.contents c.args.faults.now in
    let b1 = g.F.Sink.contents c.write_number.new.sink in
    let b2 = g.F.Sink.contents c.write_all.new.sink in
    let s1 = c.in_ok-write_number.ensures.ok in
    OnErr-anyhow _ (begins_parts a b2 (number ++ space) (text ∷ feed ∷ []) (begins_later a b1 b2 number space s1 c.in_err-write_all.ensures.err))

pub returns-in_err-write_all-2-clause-err : goal.returns-in_err-write_all-2-clause-err
returns-in_err-write_all-2-clause-err g c =
    let number = decimal c.args.count in
    let space = codes " " in
    let text = c.args.text.now in
    let feed = codes "\n" in
    let a = g.F.Sink.contents c.args.faults.now in
    let b1 = g.F.Sink.contents c.write_number.new.sink in
    let b2 = g.F.Sink.contents c.write_all.new.sink in
    let b3 = g.F.Sink.contents c.write_all-2.new.sink in
    let s1 = c.in_ok-write_number.ensures.ok in
    let s2 = Appends-trans a b1 b2 number space s1 c.in_ok-write_all.ensures.ok in
    OnErr-anyhow _ (begins_parts a b3 (number ++ space ++ text) (feed ∷ []) (begins_later a b2 b3 (number ++ space) text s2 c.in_err-write_all-2.ensures.err))

pub returns-clause-ok : goal.returns-clause-ok
returns-clause-ok g c =
    let number = decimal c.args.count in
    let space = codes " " in
    let text = c.args.text.now in
    let feed = codes "\n" in
    let a = g.F.Sink.contents c.args.faults.now in
    let b1 = g.F.Sink.contents c.write_number.new.sink in
    let b2 = g.F.Sink.contents c.write_all.new.sink in
    let b3 = g.F.Sink.contents c.write_all-2.new.sink in
    let b4 = g.F.Sink.contents c.write_all-3.new.sink in
    let s1 = c.in_ok-write_number.ensures.ok in
    let s2 = Appends-trans a b1 b2 number space s1 c.in_ok-write_all.ensures.ok in
    let s3 = Appends-trans a b2 b3 (number ++ space) text s2 c.in_ok-write_all-2.ensures.ok in
    ok_later c.write_all-3.result a b3 b4 (number ++ space ++ text) feed s3 c.write_all-3.ensures.ok

pub returns-clause-err : goal.returns-clause-err
returns-clause-err g c =
    let number = decimal c.args.count in
    let space = codes " " in
    let text = c.args.text.now in
    let feed = codes "\n" in
    let a = g.F.Sink.contents c.args.faults.now in
    let b1 = g.F.Sink.contents c.write_number.new.sink in
    let b2 = g.F.Sink.contents c.write_all.new.sink in
    let b3 = g.F.Sink.contents c.write_all-2.new.sink in
    let b4 = g.F.Sink.contents c.write_all-3.new.sink in
    let s1 = c.in_ok-write_number.ensures.ok in
    let s2 = Appends-trans a b1 b2 number space s1 c.in_ok-write_all.ensures.ok in
    let s3 = Appends-trans a b2 b3 (number ++ space) text s2 c.in_ok-write_all-2.ensures.ok in
    err_later c.write_all-3.result a b3 b4 (number ++ space ++ text) feed s3 c.write_all-3.ensures.err
