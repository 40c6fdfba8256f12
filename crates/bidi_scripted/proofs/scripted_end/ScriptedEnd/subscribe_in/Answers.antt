use Rattle.std.proofs.Common.{◌≡◌, ◌∙◌, Some, length, refl, sym, ap, arith}
use Rattle.std.proofs.lemmas.List.{length-map}
use Rattle.std.specs.Prelude.{string_bytes}
use Rattle.bidi_params.specs.declared.error_code.ErrorCode.TheVariants.{UnknownError}
use Rattle.bidi_remote.specs.Machine.Outcome.{deeds}
use Rattle.bidi_sessions.specs.SubscriptionView.{scope_of}
use Rattle.bidi_names.specs.Asked.{Subscribes}
use Rattle.bidi_names.specs.View.{wanted_of}
use Rattle.bidi_scripted.specs.Kept.{has_room}
use Rattle.bidi_scripted.specs.View.{script_of}
use Rattle.bidi_scripted.proofs.FateLemmas.{anyhow, anyway}
use Rattle.bidi_scripted.proofs.KeptLemmas.{takes-as, takes-refused, subscribing-full}
use Rattle.bidi_scripted.proofs.scripted_end.ScriptedEnd.subscribe_in.Goals as goal

pub returns-in-Ok-true-clause-takes : goal.returns-in-Ok-true-clause-takes
returns-in-Ok-true-clause-takes c = λ h s is.
    let script = script_of c.args.self.now.script in
    let foreign = c.args.wanted.foreign in
    let many = length-map foreign.items string_bytes in
    let long : length (wanted_of c.args.wanted).foreign ≡ c.len.result = let a = c.len.ensures in omega (arith, a, many) in
    c.subscribe_room.ensures.takes h s is (ap (has_room (deeds h) script c.args.session) long ∙ sym (c.in-Ok-true.ensures.room h s) ∙ c.in-Ok-true.field-0-test)

pub returns-in-Ok-false-clause-takes : goal.returns-in-Ok-false-clause-takes
returns-in-Ok-false-clause-takes c = λ h s is.
    let self = c.args.self.now in
    let script = script_of self.script in
    let w = wanted_of c.args.wanted in
    let foreign = c.args.wanted.foreign in
    let many = length-map foreign.items string_bytes in
    let long : length (wanted_of c.args.wanted).foreign ≡ c.len.result = let a = c.len.ensures in omega (arith, a, many) in
    takes-as c.args.conn.value h c.args.session (Some (Subscribes w)) self.end script c.refuse_with.result self.end script _ _
    (subscribing-full (deeds h) script c.args.session c.args.text.now w (scope_of c.args.scope) (ap (has_room (deeds h) script c.args.session) long ∙ sym (c.in-Ok-false.ensures.room h s) ∙ c.in-Ok-false.field-0-test))
    (takes-refused c.args.conn.value h c.args.session (Some (Subscribes w)) self.end script c.refuse_with.result w.id UnknownError c.refuse_with.ensures.answers)

pub returns-in-Ok-false-clause-rest : goal.returns-in-Ok-false-clause-rest
returns-in-Ok-false-clause-rest c = anyhow c.refuse_with.result refl

pub returns-in-Ok-false-clause-err : goal.returns-in-Ok-false-clause-err
returns-in-Ok-false-clause-err c = anyway c.refuse_with.result (refl, λ h s. s)
