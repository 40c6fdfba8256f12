use Rattle.std.proofs.Common.{ℕ, List, ◌++◌, codes, decimal, subst, ◌∙◌}
use Rattle.std.specs.Io.KnownBytes.{Appends}
use Rattle.std.proofs.KnownBytes.{Appends-trans}
use Rattle.bidi_lines.specs.Devices.{AppendsBeginning}
use Rattle.bidi_lines.proofs.DeviceLemmas.{OnErr-anyhow}
use Rattle.bidi_run.proofs.TellingLemmas.{begins_first, begins_second, on_err, on_ok}
use Rattle.bidi_run.proofs.faults.write_numbered.Goals as goal

pub returns-in_err-write_all-clause-err : goal.returns-in_err-write_all-clause-err
returns-in_err-write_all-clause-err g c =
    OnErr-anyhow _ (begins_first _ _ (codes "bidi: line ") (decimal c.args.number ++ c.args.rest.now) c.in_err-write_all.ensures.err)

pub returns-in_err-write_all-2-clause-err : goal.returns-in_err-write_all-2-clause-err
returns-in_err-write_all-2-clause-err g c =
    let digits = decimal c.args.number in let rest = c.args.rest.now in
    let b = g.F.Sink.contents c.write_all.new.sink in let d = g.F.Sink.contents c.write_all-2.new.sink in
    let part = subst (λ (t : List ℕ). AppendsBeginning b d t) (c.as_bytes.ensures.value ∙ c.format.ensures.text) c.in_err-write_all-2.ensures.err in
    OnErr-anyhow _ (begins_second _ b d (codes "bidi: line ") (digits ++ rest) c.in_ok-write_all.ensures.ok (begins_first b d digits rest part))

pub returns-clause-ok : goal.returns-clause-ok
returns-clause-ok g c =
    let digits = decimal c.args.number in let rest = c.args.rest.now in
    let a = g.F.Sink.contents c.args.faults.now in let b = g.F.Sink.contents c.write_all.new.sink in
    let d = g.F.Sink.contents c.write_all-2.new.sink in let e = g.F.Sink.contents c.write_all-3.new.sink in
    let whole = subst (λ (t : List ℕ). Appends b d t) (c.as_bytes.ensures.value ∙ c.format.ensures.text) c.in_ok-write_all-2.ensures.ok in
    on_ok c.write_all-3.result (λ last. Appends-trans a b e (codes "bidi: line ") (digits ++ rest) c.in_ok-write_all.ensures.ok
    (Appends-trans b d e digits rest whole (subst (λ (t : List ℕ). Appends d e t) c.as_bytes-2.ensures.value last))) c.write_all-3.ensures.ok

pub returns-clause-err : goal.returns-clause-err
returns-clause-err g c =
    let digits = decimal c.args.number in let rest = c.args.rest.now in
    let a = g.F.Sink.contents c.args.faults.now in let b = g.F.Sink.contents c.write_all.new.sink in
    let d = g.F.Sink.contents c.write_all-2.new.sink in let e = g.F.Sink.contents c.write_all-3.new.sink in
    let whole = subst (λ (t : List ℕ). Appends b d t) (c.as_bytes.ensures.value ∙ c.format.ensures.text) c.in_ok-write_all-2.ensures.ok in
    on_err c.write_all-3.result (λ part. begins_second a b e (codes "bidi: line ") (digits ++ rest) c.in_ok-write_all.ensures.ok
    (begins_second b d e digits rest whole (subst (λ (t : List ℕ). AppendsBeginning d e t) c.as_bytes-2.ensures.value part))) c.write_all-3.ensures.err
