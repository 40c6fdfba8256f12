use Rattle.std.proofs.Common.{◌≡◌, ◌∙◌, Ok, Result, false, refl, sym, ap, subst}
use Rattle.bidi_remote.specs.Machine.Outcome.{deeds}
use Rattle.bidi_sessions.specs.Step as steps
use Rattle.bidi_remote.specs.declared.remote_end.RemoteFault.{RemoteFault}
use Rattle.bidi_scripted.specs.Becomes.{IsLooked}
use Rattle.bidi_scripted.specs.Fate.{HandedOn, fate}
use Rattle.bidi_scripted.specs.Script.{is_plain}
use Rattle.bidi_scripted.specs.View.{script_of}
use Rattle.bidi_scripted.specs.declared.finding.Looked.{Looked}
use Rattle.bidi_scripted.specs.declared.scripted_end.Taken.{Taken}
use Rattle.bidi_scripted.specs.declared.scripted_end.Taken.TheVariants as code
use Rattle.bidi_scripted.proofs.FateLemmas.{fate-plain, fate-nothing, heard-on, becomes, taken-handed, taken-found}
use Rattle.bidi_scripted.proofs.scripted_end.ScriptedEnd.hear.Goals as goal

pub returns-then-is_plain : goal.returns-then-is_plain
returns-then-is_plain c =
    let script = script_of c.args.self.now.script in
    let n = c.args.conn.value in
    let text = c.args.text.now in
    taken-handed (steps.Text n text) _ _ script _ _ (λ h s. fate-plain (deeds h) script n text (sym c.is_plain.ensures ∙ c.if-is_plain.true)) (λ past. refl)
    c.hand_on_text.ensures.handed_on (ap script_of c.hand_on_text.ensures.script)

pub returns-in-Ok-Heard : goal.returns-in-Ok-Heard
returns-in-Ok-Heard c =
    let self = c.args.self.now in
    let script = script_of self.script in
    let n = c.args.conn.value in
    let text = c.args.text.now in
    let step = steps.Text n text in
    let no : is_plain script ≡ false = sym c.is_plain.ensures ∙ c.if-is_plain.false in
    let it = subst (λ (l : Looked). IsLooked self.script.rows.all.items script.known n text self.end c.look.new.end l) c.in-Ok-Heard.field-0-is c.in-Ok-Heard.ensures.ok in
    let end = c.look.new.end in
    let done : Result Taken RemoteFault = Ok (code.HandedOn c.in-Ok-Heard.sent) in
    taken-found step self.end end script script done no
    (λ h s. becomes HandedOn (fate (deeds h) script step) step self.end end script script done h (sym (fate-nothing (deeds h) script n text it.0))
    (heard-on n text self.end end script c.in-Ok-Heard.sent h s it.1))
    tt (λ h s e. cc)
