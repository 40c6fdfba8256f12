use Rattle.std.proofs.Common.{◌≡◌, Option, map, Vec, Global, refl, sym, subst}
use Rattle.std.specs.Prelude.{find, option_map, IfOk}
use Rattle.bidi_rows.specs.Rows.{matches}
use Rattle.bidi_remote.specs.Machine.Outcome.{deeds}
use Rattle.bidi_sessions.specs.Step as steps
use Rattle.bidi_sessions.specs.View.{sent_of}
use Rattle.bidi_sessions.specs.declared.step.Sent as declared_sent
use Rattle.bidi_scripted.specs.declared.scripted_end.Taken.{Taken}
use Rattle.bidi_scripted.specs.declared.scripted_end.Taken.TheVariants as code
use Rattle.bidi_scripted.specs.Becomes.{Becomes, sent_by}
use Rattle.bidi_scripted.specs.View.{script_of}
use Rattle.bidi_scripted.proofs.FateLemmas.{row-answers, row-holds}
use Rattle.bidi_scripted.proofs.UseLemmas.{found-some}
use Rattle.bidi_scripted.proofs.scripted_end.ScriptedEnd.use_row.Goals as goal

pub returns-in-Ok-Some-clause-becomes : goal.returns-in-Ok-Some-clause-becomes
returns-in-Ok-Some-clause-becomes c = λ h command s same at.
    let script = script_of c.args.self.now.script in
    let n = c.args.conn.value in
    let text = c.args.text.now in
    let past = deeds h in
    let r = found-some command c.args.self.now.script.rows.all.items c.args.found.place at in
    let by = subst (λ (o : Option (Vec declared_sent.Sent Global)). option_map (λ v. map sent_of v.items) o ≡ sent_by past script.named n c.args.found.id.value r.0.action)
    c.in-Ok-Some.field-0-is (c.in-Ok-Some.ensures.sends h command r.0 s at r.1) in
    let it = row-answers script n text command c.args.found.id.value past (find (matches command) script.rows) r.0 (map sent_of c.in-Ok-Some.sent.items) r.1 by same in
    let taken : Taken = code.Answered c.in-Ok-Some.sent in
    subst (λ f. Becomes f h (steps.Text n text) c.args.self.now.end script c.args.self.now.end (script_of c.use_row.new.self) taken) (sym it.1)
    (it.2, refl, c.use_row.ensures.script command at)

pub returns-in-Ok-None-clause-becomes : goal.returns-in-Ok-None-clause-becomes
returns-in-Ok-None-clause-becomes c = λ h command s same at.
    let script = script_of c.args.self.now.script in
    let n = c.args.conn.value in
    let text = c.args.text.now in
    let past = deeds h in
    let new = c.hold_command.new.self in
    let r = found-some command c.args.self.now.script.rows.all.items c.args.found.place at in
    let by = subst (λ (o : Option (Vec declared_sent.Sent Global)). option_map (λ v. map sent_of v.items) o ≡ sent_by past script.named n c.args.found.id.value r.0.action)
    c.in-Ok-None.field-0-is (c.in-Ok-None.ensures.sends h command r.0 s at r.1) in
    subst (λ f. IfOk c.hold_command.result (λ t. Becomes f h (steps.Text n text) c.args.self.now.end script new.end (script_of new.script) t))
    (sym (row-holds script n text command c.args.found.id.value past (find (matches command) script.rows) r.0 r.1 by))
    (c.hold_command.ensures.becomes h command same at)
