use Rattle.std.proofs.Common.{◌++◌, ◌∷◌, []}
use Rattle.std.specs.Prelude.{codes, decimal}
use Rattle.std.proofs.KnownBytes.{Appends-trans}
use Rattle.bidi_lines.proofs.DeviceLemmas.{OnErr-anyhow}
use Rattle.bidi_why.specs.Summary.{some_words}
use Rattle.bidi_why.proofs.SummaryLemmas.{begins_later, begins_parts, err_later, ok_later}
use Rattle.bidi_why.proofs.sum.Sum.write_head.Goals as goal

pub returns-in_err-write_number-clause-err : goal.returns-in_err-write_number-clause-err
returns-in_err-write_number-clause-err g c =
    let sum = c.args.self.now in
    let refused = decimal sum.refused in
    let of = codes " of " in
    let lines = decimal sum.lines in
    let are = codes " lines are refused" in
    let beyond = some_words sum.beyond (codes " beyond the profile") in
    let failed = some_words sum.failed (codes " failed") in
    let never = some_words sum.unanswered (codes " unanswered") in
    let feed = codes "\n" in
    let a = g.F.Sink.contents c.args.faults.now in
    let b1 = g.F.Sink.contents c.write_number.new.sink in
    OnErr-anyhow _ (begins_parts a b1 refused (of ∷ lines ∷ are ∷ beyond ∷ failed ∷ never ∷ feed ∷ []) c.in_err-write_number.ensures.err)

pub returns-in_err-write_all-clause-err : goal.returns-in_err-write_all-clause-err
returns-in_err-write_all-clause-err g c =
    let sum = c.args.self.now in
    let refused = decimal sum.refused in
    let of = codes " of " in
    let lines = decimal sum.lines in
    let are = codes " lines are refused" in
    let beyond = some_words sum.beyond (codes " beyond the profile") in
    let failed = some_words sum.failed (codes " failed") in
    let never = some_words sum.unanswered (codes " unanswered") in
    let feed = codes "\n" in
    let a = g.F.Sink.contents c.args.faults.now in
    let b1 = g.F.Sink.contents c.write_number.new.sink in
    let b2 = g.F.Sink.contents c.write_all.new.sink in
    let s1 = c.in_ok-write_number.ensures.ok in
    OnErr-anyhow _ (begins_parts a b2 (refused ++ of) (lines ∷ are ∷ beyond ∷ failed ∷ never ∷ feed ∷ []) (begins_later a b1 b2 refused of s1 c.in_err-write_all.ensures.err))

pub returns-in_err-write_number-2-clause-err : goal.returns-in_err-write_number-2-clause-err
returns-in_err-write_number-2-clause-err g c =
    let sum = c.args.self.now in
    let refused = decimal sum.refused in
    let of = codes " of " in
    let lines = decimal sum.lines in
    let are = codes " lines are refused" in
    let beyond = some_words sum.beyond (codes " beyond the profile") in
    let failed = some_words sum.failed (codes " failed") in
    let never = some_words sum.unanswered (codes " unanswered") in
    let feed = codes "\n" in
    let a = g.F.Sink.contents c.args.faults.now in
    let b1 = g.F.Sink.contents c.write_number.new.sink in
    let b2 = g.F.Sink.contents c.write_all.new.sink in
    let b3 = g.F.Sink.contents c.write_number-2.new.sink in
    let s1 = c.in_ok-write_number.ensures.ok in
    let s2 = Appends-trans a b1 b2 refused of s1 c.in_ok-write_all.ensures.ok in
    OnErr-anyhow _ (begins_parts a b3 (refused ++ of ++ lines) (are ∷ beyond ∷ failed ∷ never ∷ feed ∷ []) (begins_later a b2 b3 (refused ++ of) lines s2 c.in_err-write_number-2.ensures.err))

pub returns-in_err-write_all-2-clause-err : goal.returns-in_err-write_all-2-clause-err
returns-in_err-write_all-2-clause-err g c =
    let sum = c.args.self.now in
    let refused = decimal sum.refused in
    let of = codes " of " in
    let lines = decimal sum.lines in
    let are = codes " lines are refused" in
    let beyond = some_words sum.beyond (codes " beyond the profile") in
    let failed = some_words sum.failed (codes " failed") in
    let never = some_words sum.unanswered (codes " unanswered") in
    let feed = codes "\n" in
    let a = g.F.Sink.contents c.args.faults.now in
    let b1 = g.F.Sink.contents c.write_number.new.sink in
    let b2 = g.F.Sink.contents c.write_all.new.sink in
    let b3 = g.F.Sink.contents c.write_number-2.new.sink in
    let b4 = g.F.Sink.contents c.write_all-2.new.sink in
    let s1 = c.in_ok-write_number.ensures.ok in
    let s2 = Appends-trans a b1 b2 refused of s1 c.in_ok-write_all.ensures.ok in
    let s3 = Appends-trans a b2 b3 (refused ++ of) lines s2 c.in_ok-write_number-2.ensures.ok in
    OnErr-anyhow _ (begins_parts a b4 (refused ++ of ++ lines ++ are) (beyond ∷ failed ∷ never ∷ feed ∷ []) (begins_later a b3 b4 (refused ++ of ++ lines) are s3 c.in_err-write_all-2.ensures.err))

pub returns-in_err-write_some-clause-err : goal.returns-in_err-write_some-clause-err
returns-in_err-write_some-clause-err g c =
    let sum = c.args.self.now in
    let refused = decimal sum.refused in
    let of = codes " of " in
    let lines = decimal sum.lines in
    let are = codes " lines are refused" in
    let beyond = some_words sum.beyond (codes " beyond the profile") in
    let failed = some_words sum.failed (codes " failed") in
    let never = some_words sum.unanswered (codes " unanswered") in
    let feed = codes "\n" in
    let a = g.F.Sink.contents c.args.faults.now in
    let b1 = g.F.Sink.contents c.write_number.new.sink in
    let b2 = g.F.Sink.contents c.write_all.new.sink in
    let b3 = g.F.Sink.contents c.write_number-2.new.sink in
    let b4 = g.F.Sink.contents c.write_all-2.new.sink in
    let b5 = g.F.Sink.contents c.write_some.new.faults in
    let s1 = c.in_ok-write_number.ensures.ok in
    let s2 = Appends-trans a b1 b2 refused of s1 c.in_ok-write_all.ensures.ok in
    let s3 = Appends-trans a b2 b3 (refused ++ of) lines s2 c.in_ok-write_number-2.ensures.ok in
    let s4 = Appends-trans a b3 b4 (refused ++ of ++ lines) are s3 c.in_ok-write_all-2.ensures.ok in
    OnErr-anyhow _ (begins_parts a b5 (refused ++ of ++ lines ++ are ++ beyond) (failed ∷ never ∷ feed ∷ []) (begins_later a b4 b5 (refused ++ of ++ lines ++ are) beyond s4 c.in_err-write_some.ensures.err))

pub returns-in_err-write_some-2-clause-err : goal.returns-in_err-write_some-2-clause-err
returns-in_err-write_some-2-clause-err g c =
    let sum = c.args.self.now in
    let refused = decimal sum.refused in
    let of = codes " of " in
    let lines = decimal sum.lines in
    let are = codes " lines are refused" in
    let beyond = some_words sum.beyond (codes " beyond the profile") in
    let failed = some_words sum.failed (codes " failed") in
    let never = some_words sum.unanswered (codes " unanswered") in
    let feed = codes "\n" in
    let a = g.F.Sink.contents c.args.faults.now in
    let b1 = g.F.Sink.contents c.write_number.new.sink in
    let b2 = g.F.Sink.contents c.write_all.new.sink in
    let b3 = g.F.Sink.contents c.write_number-2.new.sink in
    let b4 = g.F.Sink.contents c.write_all-2.new.sink in
    let b5 = g.F.Sink.contents c.write_some.new.faults in
    let b6 = g.F.Sink.contents c.write_some-2.new.faults in
    let s1 = c.in_ok-write_number.ensures.ok in
    let s2 = Appends-trans a b1 b2 refused of s1 c.in_ok-write_all.ensures.ok in
    let s3 = Appends-trans a b2 b3 (refused ++ of) lines s2 c.in_ok-write_number-2.ensures.ok in
    let s4 = Appends-trans a b3 b4 (refused ++ of ++ lines) are s3 c.in_ok-write_all-2.ensures.ok in
    let s5 = Appends-trans a b4 b5 (refused ++ of ++ lines ++ are) beyond s4 c.in_ok-write_some.ensures.ok in
    OnErr-anyhow _ (begins_parts a b6 (refused ++ of ++ lines ++ are ++ beyond ++ failed) (never ∷ feed ∷ []) (begins_later a b5 b6 (refused ++ of ++ lines ++ are ++ beyond) failed s5 c.in_err-write_some-2.ensures.err))

pub returns-in_err-write_some-3-clause-err : goal.returns-in_err-write_some-3-clause-err
returns-in_err-write_some-3-clause-err g c =
    let sum = c.args.self.now in
    let refused = decimal sum.refused in
    let of = codes " of " in
    let lines = decimal sum.lines in
    let are = codes " lines are refused" in
    let beyond = some_words sum.beyond (codes " beyond the profile") in
    let failed = some_words sum.failed (codes " failed") in
    let never = some_words sum.unanswered (codes " unanswered") in
    let feed = codes "\n" in
    let a = g.F.Sink.contents c.args.faults.now in
    let b1 = g.F.Sink.contents c.write_number.new.sink in
    let b2 = g.F.Sink.contents c.write_all.new.sink in
    let b3 = g.F.Sink.contents c.write_number-2.new.sink in
    let b4 = g.F.Sink.contents c.write_all-2.new.sink in
    let b5 = g.F.Sink.contents c.write_some.new.faults in
    let b6 = g.F.Sink.contents c.write_some-2.new.faults in
    let b7 = g.F.Sink.contents c.write_some-3.new.faults in
    let s1 = c.in_ok-write_number.ensures.ok in
    let s2 = Appends-trans a b1 b2 refused of s1 c.in_ok-write_all.ensures.ok in
    let s3 = Appends-trans a b2 b3 (refused ++ of) lines s2 c.in_ok-write_number-2.ensures.ok in
    let s4 = Appends-trans a b3 b4 (refused ++ of ++ lines) are s3 c.in_ok-write_all-2.ensures.ok in
    let s5 = Appends-trans a b4 b5 (refused ++ of ++ lines ++ are) beyond s4 c.in_ok-write_some.ensures.ok in
    let s6 = Appends-trans a b5 b6 (refused ++ of ++ lines ++ are ++ beyond) failed s5 c.in_ok-write_some-2.ensures.ok in
    OnErr-anyhow _ (begins_parts a b7 (refused ++ of ++ lines ++ are ++ beyond ++ failed ++ never) (feed ∷ []) (begins_later a b6 b7 (refused ++ of ++ lines ++ are ++ beyond ++ failed) never s6 c.in_err-write_some-3.ensures.err))

pub returns-clause-ok : goal.returns-clause-ok
returns-clause-ok g c =
    let sum = c.args.self.now in
    let refused = decimal sum.refused in
    let of = codes " of " in
    let lines = decimal sum.lines in
    let are = codes " lines are refused" in
    let beyond = some_words sum.beyond (codes " beyond the profile") in
    let failed = some_words sum.failed (codes " failed") in
    let never = some_words sum.unanswered (codes " unanswered") in
    let feed = codes "\n" in
    let a = g.F.Sink.contents c.args.faults.now in
    let b1 = g.F.Sink.contents c.write_number.new.sink in
    let b2 = g.F.Sink.contents c.write_all.new.sink in
    let b3 = g.F.Sink.contents c.write_number-2.new.sink in
    let b4 = g.F.Sink.contents c.write_all-2.new.sink in
    let b5 = g.F.Sink.contents c.write_some.new.faults in
    let b6 = g.F.Sink.contents c.write_some-2.new.faults in
    let b7 = g.F.Sink.contents c.write_some-3.new.faults in
    let b8 = g.F.Sink.contents c.write_all-3.new.sink in
    let s1 = c.in_ok-write_number.ensures.ok in
    let s2 = Appends-trans a b1 b2 refused of s1 c.in_ok-write_all.ensures.ok in
    let s3 = Appends-trans a b2 b3 (refused ++ of) lines s2 c.in_ok-write_number-2.ensures.ok in
    let s4 = Appends-trans a b3 b4 (refused ++ of ++ lines) are s3 c.in_ok-write_all-2.ensures.ok in
    let s5 = Appends-trans a b4 b5 (refused ++ of ++ lines ++ are) beyond s4 c.in_ok-write_some.ensures.ok in
    let s6 = Appends-trans a b5 b6 (refused ++ of ++ lines ++ are ++ beyond) failed s5 c.in_ok-write_some-2.ensures.ok in
    let s7 = Appends-trans a b6 b7 (refused ++ of ++ lines ++ are ++ beyond ++ failed) never s6 c.in_ok-write_some-3.ensures.ok in
    ok_later c.write_all-3.result a b7 b8 (refused ++ of ++ lines ++ are ++ beyond ++ failed ++ never) feed s7 c.write_all-3.ensures.ok

pub returns-clause-err : goal.returns-clause-err
returns-clause-err g c =
    let sum = c.args.self.now in
    let refused = decimal sum.refused in
    let of = codes " of " in
    let lines = decimal sum.lines in
    let are = codes " lines are refused" in
    let beyond = some_words sum.beyond (codes " beyond the profile") in
    let failed = some_words sum.failed (codes " failed") in
    let never = some_words sum.unanswered (codes " unanswered") in
    let feed = codes "\n" in
    let a = g.F.Sink.contents c.args.faults.now in
    let b1 = g.F.Sink.contents c.write_number.new.sink in
    let b2 = g.F.Sink.contents c.write_all.new.sink in
    let b3 = g.F.Sink.contents c.write_number-2.new.sink in
    let b4 = g.F.Sink.contents c.write_all-2.new.sink in
    let b5 = g.F.Sink.contents c.write_some.new.faults in
    let b6 = g.F.Sink.contents c.write_some-2.new.faults in
    let b7 = g.F.Sink.contents c.write_some-3.new.faults in
    let b8 = g.F.Sink.contents c.write_all-3.new.sink in
    let s1 = c.in_ok-write_number.ensures.ok in
    let s2 = Appends-trans a b1 b2 refused of s1 c.in_ok-write_all.ensures.ok in
    let s3 = Appends-trans a b2 b3 (refused ++ of) lines s2 c.in_ok-write_number-2.ensures.ok in
    let s4 = Appends-trans a b3 b4 (refused ++ of ++ lines) are s3 c.in_ok-write_all-2.ensures.ok in
    let s5 = Appends-trans a b4 b5 (refused ++ of ++ lines ++ are) beyond s4 c.in_ok-write_some.ensures.ok in
    let s6 = Appends-trans a b5 b6 (refused ++ of ++ lines ++ are ++ beyond) failed s5 c.in_ok-write_some-2.ensures.ok in
    let s7 = Appends-trans a b6 b7 (refused ++ of ++ lines ++ are ++ beyond ++ failed) never s6 c.in_ok-write_some-3.ensures.ok in
    err_later c.write_all-3.result a b7 b8 (refused ++ of ++ lines ++ are ++ beyond ++ failed ++ never) feed s7 c.write_all-3.ensures.err
