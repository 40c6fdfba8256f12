use Rattle.std.proofs.Common.{◌∙◌, ◌++◌, take, rules}
use Rattle.std.proofs.KnownBytes.{Appends-trans}
use Rattle.bidi_lines.proofs.DeviceLemmas.{OnErr-anyhow, moves_front, AppendsBeginning-kept}
use Rattle.bidi_lines.proofs.device.write_all.Goals as goal

pub writes-preserved : goal.writes-preserved
writes-preserved g c =
    let (done, whole, appended) = c.writes.invariant.appended in
    let rest = c.writes.rest.now in
    let n = c.in_ok-n.n in
    record {
      appended = (done ++ take n rest, moves_front _ done rest n whole, Appends-trans _ _ _ _ _ appended (c.in_ok-n.ensures).bytes);
      counts = (c.in_ok-n.ensures).counts ∙ c.writes.invariant.counts;
    }

pub returns-in_err-n-clause-err : goal.returns-in_err-n-clause-err
returns-in_err-n-clause-err g c =
    let (done, whole, appended) = c.writes.invariant.appended in
    OnErr-anyhow _ (AppendsBeginning-kept _ _ _ _ done _ whole (search rules) appended (c.in_err-n.ensures).bytes)
