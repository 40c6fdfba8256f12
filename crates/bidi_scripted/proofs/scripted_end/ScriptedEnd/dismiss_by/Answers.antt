use Rattle.std.proofs.Common.{◌∙◌, Some, map, sym, ap, subst}
use Rattle.bidi_sessions.specs.View.{sent_of}
use Rattle.bidi_sessions.specs.Step as steps
use Rattle.bidi_names.specs.Asked.{Unsubscribes}
use Rattle.bidi_names.specs.Replies.{succeeded}
use Rattle.bidi_names.specs.Subscriptions.{dismissed}
use Rattle.bidi_names.specs.View.{texts_of, wanted_of}
use Rattle.bidi_scripted.specs.declared.scripted_end.ScriptedEnd.{ScriptedEnd}
use Rattle.bidi_scripted.specs.declared.scripted_end.Taken.TheVariants.{HandedOn}
use Rattle.bidi_scripted.specs.Taken.{handed}
use Rattle.bidi_scripted.specs.Becomes.{IsHandedOn}
use Rattle.bidi_scripted.specs.Kept.{Hears, Takes, part_or}
use Rattle.bidi_scripted.specs.Script.{OnlySubscriptionsChange}
use Rattle.bidi_scripted.specs.View.{script_of}
use Rattle.bidi_scripted.proofs.KeptLemmas.{takes-dismissed, takes-undismissed}
use Rattle.bidi_scripted.proofs.OnlyLemmas.{only-named, only-same}
use Rattle.bidi_scripted.proofs.scripted_end.ScriptedEnd.dismiss_by.Goals.{then-is_success, else-is_success}
use Rattle.bidi_scripted.proofs.scripted_end.ScriptedEnd.dismiss_by.Goals as goal

pub returns-in-Ok-clause-takes : goal.returns-in-Ok-clause-takes
returns-in-Ok-clause-takes c = λ h s.
    let self = c.args.self.now in
    let script = script_of self.script in
    let w = wanted_of c.args.wanted in
    let part = part_or w.part c.args.text.now in
    let conn = c.args.conn.value in
    let session = c.args.session in
    let new = c.pass_on.new.self in
    let sent = c.in-Ok.sent in
    let P : ScriptedEnd → Type 0 = λ x. Takes conn h session (Some (Unsubscribes w)) self.end script x.end (script_of x.script) (HandedOn sent) (Hears part) in
    let on = subst (λ x. IsHandedOn (steps.Text conn x) self.end new.end (handed c.pass_on.result)) c.part_or.ensures c.pass_on.ensures.handed_on in
    let heard = subst (λ r. IsHandedOn (steps.Text conn part) self.end new.end (handed r)) c.in-Ok.is on in
    let stays = ap script_of c.in-Ok.ensures.script in
    let success = c.is_success.ensures ∙ ap (λ xs. succeeded (map sent_of xs)) c.deref.ensures.value in
    elim c.if-is_success.branch [
      | then-is_success v ↦
          subst P (sym v.self-is)
          (takes-dismissed conn part h session self.end new.end script (script_of v.dismiss_named.new.self) sent s heard w (sym success ∙ v.if-is_success.true)
          (v.dismiss_named.ensures ∙ (λ i. record (stays i) {
            named = dismissed session (texts_of (v.deref-then-is_success.ensures.value i)) (texts_of (v.deref-then-is_success-2.ensures.value i)) (stays i).named;
          })))
      | else-is_success v ↦
          subst P (sym v.self-is)
          (takes-undismissed conn part h session self.end new.end script (script_of new.script) sent s heard w (sym success ∙ v.if-is_success.false) stays)
    ]

pub returns-in-Ok-clause-rest : goal.returns-in-Ok-clause-rest
returns-in-Ok-clause-rest c =
    let script = script_of c.args.self.now.script in
    let P : ScriptedEnd → Type 0 = λ x. OnlySubscriptionsChange script (script_of x.script) in
    let stays = ap script_of c.in-Ok.ensures.script in
    elim c.if-is_success.branch [
      | then-is_success v ↦ subst P (sym v.self-is) (only-named script _ _ _ stays v.dismiss_named.ensures)
      | else-is_success v ↦ subst P (sym v.self-is) (only-same script _ stays)
    ]
