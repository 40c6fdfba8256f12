use Rattle.std.proofs.Common.{◌∙◌, Some, map, sym, ap, subst}
use Rattle.bidi_sessions.specs.View.{sent_of}
use Rattle.bidi_names.specs.Asked.{Ends}
use Rattle.bidi_names.specs.Replies.{succeeded}
use Rattle.bidi_names.specs.Subscriptions.{cancelled}
use Rattle.bidi_scripted.specs.declared.scripted_end.ScriptedEnd.{ScriptedEnd}
use Rattle.bidi_scripted.specs.declared.scripted_end.Taken.TheVariants.{HandedOn}
use Rattle.bidi_scripted.specs.Kept.{Hears, Takes}
use Rattle.bidi_scripted.specs.View.{script_of}
use Rattle.bidi_scripted.proofs.KeptLemmas.{takes-cancelled, takes-uncancelled}
use Rattle.bidi_scripted.proofs.scripted_end.ScriptedEnd.cancel_by.Goals.{then-is_success, else-is_success}
use Rattle.bidi_scripted.proofs.scripted_end.ScriptedEnd.cancel_by.Goals as goal

pub returns-after-is_success-clause-takes : goal.returns-after-is_success-clause-takes
returns-after-is_success-clause-takes c = λ h id ids s are.
    let self = c.args.self.now in
    let script = script_of self.script in
    let conn = c.args.conn.value in
    let text = c.args.text.now in
    let session = c.args.session in
    let numbers = c.args.numbers.now in
    let new = c.pass_on.new.self in
    let sent = c.in-Ok.sent in
    let P : ScriptedEnd → Type 0 = λ x. Takes conn h session (Some (Ends id ids)) self.end script x.end (script_of x.script) (HandedOn sent) (Hears text) in
    let heard = c.in-Ok.ensures.handed_on in
    let stays = ap script_of c.in-Ok.ensures.script in
    let success = c.is_success.ensures ∙ ap (λ xs. succeeded (map sent_of xs)) c.deref.ensures.value in
    elim c.if-is_success.branch [
      | then-is_success v ↦
          subst P (sym v.self-is)
          (takes-cancelled conn text h session self.end new.end script (script_of v.cancel_named.new.self) sent s heard id ids numbers are
          (sym success ∙ v.if-is_success.true) (v.cancel_named.ensures ∙ (λ i. record (stays i) { named = cancelled session numbers (stays i).named })))
      | else-is_success v ↦
          subst P (sym v.self-is)
          (takes-uncancelled conn text h session self.end new.end script (script_of new.script) sent s heard id ids (sym success ∙ v.if-is_success.false) stays)
    ]
