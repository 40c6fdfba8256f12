use Rattle.std.proofs.Common.{Some, Err, sym, subst}
use Rattle.bidi_remote.specs.Machine.Outcome.{deeds}
use Rattle.bidi_handles.specs.declared.refusal.Refusal.{Refusal}
use Rattle.bidi_sessions.specs.Checked.{IfChecked}
use Rattle.bidi_sessions.specs.SubscriptionView.{scope_of}
use Rattle.bidi_names.specs.Asked.{Subscribes}
use Rattle.bidi_names.specs.View.{wanted_of}
use Rattle.bidi_scripted.specs.Kept.{scope_wanted, subscribing}
use Rattle.bidi_scripted.specs.View.{script_of}
use Rattle.bidi_scripted.proofs.FateLemmas.{anyhow, anyway}
use Rattle.bidi_scripted.proofs.KeptLemmas.{takes-refused, takes-as}
use Rattle.std.proofs.Common.{refl, ap}
use Rattle.bidi_scripted.proofs.scripted_end.ScriptedEnd.subscribe.Goals as goal

pub returns-in-Ok-clause-takes : goal.returns-in-Ok-clause-takes
returns-in-Ok-clause-takes c = λ h s.
    let self = c.args.self.now in
    let new = c.subscribe_in.new.self in
    let script = script_of self.script in
    let w = wanted_of c.args.wanted in
    let is = c.in-Ok.ensures h s in
    takes-as c.args.conn.value h c.args.session (Some (Subscribes w)) self.end script c.subscribe_in.result new.end (script_of new.script) _ _
    (ap (subscribing (deeds h) script c.args.session c.args.text.now w) (sym is)) (c.subscribe_in.ensures.takes h s is)

pub returns-in-Err-Code-clause-takes : goal.returns-in-Err-Code-clause-takes
returns-in-Err-Code-clause-takes c = λ h s.
    let self = c.args.self.now in
    let script = script_of self.script in
    let w = wanted_of c.args.wanted in
    let is = subst (λ (r : Refusal). IfChecked (Err r) scope_of (scope_wanted (deeds h) w)) c.in-Err-Code.field-0-is (c.in-Err-Code.ensures h s) in
    takes-as c.args.conn.value h c.args.session (Some (Subscribes w)) self.end script c.refuse_with.result self.end script _ _
    (ap (subscribing (deeds h) script c.args.session c.args.text.now w) (sym is))
    (takes-refused c.args.conn.value h c.args.session (Some (Subscribes w)) self.end script c.refuse_with.result w.id c.in-Err-Code.code c.refuse_with.ensures.answers)

pub returns-in-Err-Code-clause-rest : goal.returns-in-Err-Code-clause-rest
returns-in-Err-Code-clause-rest c = anyhow c.refuse_with.result refl

pub returns-in-Err-Code-clause-err : goal.returns-in-Err-Code-clause-err
returns-in-Err-Code-clause-err c = anyway c.refuse_with.result (refl, λ h s. s)
