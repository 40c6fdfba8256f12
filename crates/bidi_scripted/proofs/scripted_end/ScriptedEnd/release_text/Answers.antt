use Rattle.std.proofs.Common.{◌∙◌, Some, refl, sym, ap, subst}
use Rattle.bidi_sessions.specs.Step as steps
use Rattle.bidi_remote.specs.Machine.History.{IsHeardAs}
use Rattle.bidi_scripted.specs.Faults.{RefusesRelease}
use Rattle.bidi_scripted.specs.Kept.{NamesAsked}
use Rattle.bidi_scripted.specs.View.{script_of}
use Rattle.bidi_scripted.specs.Script.{without_held}
use Rattle.bidi_scripted.proofs.FateLemmas.{on-short}
use Rattle.bidi_scripted.proofs.FaultLemmas.{remote-fault}
use Rattle.bidi_scripted.proofs.OnlyLemmas.{only-without}
use Rattle.bidi_scripted.proofs.scripted_end.ScriptedEnd.release_text.Goals as goal

pub returns-in-Ok-clause-handed_on : goal.returns-in-Ok-clause-handed_on
returns-in-Ok-clause-handed_on c = λ none.
    let it = c.in-Ok.ensures.plain none in
    let on = it.0.ok in (
      on.0,
      subst (λ text. IsHeardAs (steps.Text c.args.conn.value text) on.0) c.as_str.ensures.value on.1,
      (λ h s. ((on.2 h s).0, (on.2 h s).2, on-short _ _ _ _ h s it.0)),
      c.release.ensures ∙ ap (λ x. without_held c.args.number (script_of x)) it.1,
    )

pub returns-in-Ok-clause-named : goal.returns-in-Ok-clause-named
returns-in-Ok-clause-named c = λ h s some.
    let script = script_of c.args.self.now.script in
    let new = c.hear_names.new.self in
    let it = c.in-Ok.ensures.named h s some in (
      script_of new.script,
      subst (λ text. NamesAsked c.args.conn.value text h c.args.self.now.end script new.end (script_of new.script) c.in-Ok.taken) c.as_str.ensures.value it,
      c.release.ensures,
    )

pub returns-in-Ok-clause-released : goal.returns-in-Ok-clause-released
returns-in-Ok-clause-released c =
    only-without c.args.number (script_of c.args.self.now.script) (script_of c.hear_names.new.self.script) _ c.in-Ok.ensures.rest c.release.ensures

pub returns-clause-why : goal.returns-clause-why
returns-clause-why c = λ held lives.
    subst (RefusesRelease (Some held)) (sym c.from.ensures) (remote-fault (RefusesRelease (Some held)) c.in-Err.fault tt (held, refl, lives))
