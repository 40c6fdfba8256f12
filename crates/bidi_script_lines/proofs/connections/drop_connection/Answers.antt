use Rattle.std.proofs.Common.{◌∷◌, sym, subst}
use Rattle.std.specs.Prelude.{IfOk, IsErrOf, OnErr, OnOk}
use Rattle.bidi_sessions.specs.Step as steps
use Rattle.bidi_remote.specs.Machine.Outcome.{deeds}
use Rattle.bidi_remote.specs.State.Stands.{StandsFor}
use Rattle.bidi_remote.specs.declared.remote_end.RemoteFault.TheVariants.{WornOut}
use Rattle.bidi_scripted.specs.Becomes.{Becomes}
use Rattle.bidi_scripted.specs.Fate.{fate}
use Rattle.bidi_scripted.specs.View.{script_of}
use Rattle.bidi_scripted.proofs.FateLemmas.{err-beside}
use Rattle.bidi_script_lines.specs.Performing.{Drops, StandsAsBefore}
use Rattle.bidi_script_lines.proofs.connections.drop_connection.Goals.{in-Ok, in-Err}
use Rattle.bidi_script_lines.proofs.connections.drop_connection.Goals as goal

pub returns-clause-drops : goal.returns-clause-drops
returns-clause-drops c = λ h s.
    let old = c.args.end.now in
    let new = c.step.new.self in
    let step = steps.Drop c.args.conn.value in
    let drops = Drops c.args.conn.value h old new in
    elim c.match-step.branch [
      | in-Ok w ↦
          let it = subst (λ r. IfOk r (λ t. Becomes (fate (deeds h) (script_of old.script) step) h step old.end (script_of old.script) new.end (script_of new.script) t))
          w.in-Ok.is (c.step.ensures.becomes h s) in
          subst (λ r. OnOk r drops) (sym w.result-is) (subst (λ i. StandsFor new.end (i ∷ h)) it.1 it.3, it.4, it.5)
      | in-Err w ↦ subst (λ r. OnOk r drops) (sym w.result-is) tt
    ]

pub returns-clause-err : goal.returns-clause-err
returns-clause-err c =
    let stays = StandsAsBefore c.args.end.now c.step.new.self in
    elim c.match-step.branch [
      | in-Ok w ↦ subst (λ r. OnErr r stays) (sym w.result-is) tt
      | in-Err w ↦ subst (λ r. OnErr r stays) (sym w.result-is) (subst (λ r. OnErr r stays) w.in-Err.is c.step.ensures.err)
    ]

pub returns-clause-worn_out : goal.returns-clause-worn_out
returns-clause-worn_out c = λ h s is.
    elim c.match-step.branch [
      | in-Ok w ↦ let ok = subst (λ r. IsErrOf r WornOut) w.result-is is in cc
      | in-Err w ↦
          c.step.ensures.worn_out h s
          (subst (λ r. IsErrOf r WornOut) (sym w.in-Err.is) (err-beside _ _ (subst (λ r. IsErrOf r WornOut) w.result-is is)))
    ]
