use Rattle.std.proofs.Common.{refl, sym, subst, ap}
use Rattle.bidi_sessions.specs.declared.step.Step.{Step}
use Rattle.bidi_sessions.specs.Step as steps
use Rattle.bidi_sessions.specs.View.{page_of, step_of}
use Rattle.bidi_scripted.specs.Becomes.{IsTaken}
use Rattle.bidi_scripted.specs.View.{script_of}
use Rattle.bidi_scripted.proofs.FateLemmas.{taken-handed, taken-opened}
use Rattle.bidi_scripted.proofs.scripted_end.ScriptedEnd.step.Goals as goal

pub returns-in-Text : goal.returns-in-Text
returns-in-Text c =
    let new = c.hear.new.self in
    let script = script_of c.args.self.now.script in
    subst (λ (s : Step). IsTaken (step_of s) c.args.self.now.end script new.end (script_of new.script) c.hear.result) (sym c.in-Text.is)
    (subst (λ t. IsTaken (steps.Text c.in-Text.conn.value t) c.args.self.now.end script new.end (script_of new.script) c.hear.result)
    c.as_str.ensures.value c.hear.ensures)

pub returns-in-Open : goal.returns-in-Open
returns-in-Open c =
    subst (λ (s : Step). IsTaken (step_of s) c.args.self.now.end (script_of c.args.self.now.script) c.open.new.self.end (script_of c.open.new.self.script) c.open.result)
    (sym c.in-Open.is) (taken-opened _ _ _ _ _ _ _ c.open.ensures.handed_on c.open.ensures.script c.open.ensures.kept c.open.ensures.plain)

pub returns-in-At : goal.returns-in-At
returns-in-At c =
    subst (λ (s : Step). IsTaken (step_of s) c.args.self.now.end (script_of c.args.self.now.script) c.hand_on.new.self.end (script_of c.hand_on.new.self.script) c.hand_on.result)
    (sym c.in-At.is) (taken-handed (steps.At c.in-At.moment.value) _ _ _ _ _ (λ h s. refl) (λ past. refl) c.hand_on.ensures.handed_on (ap script_of c.hand_on.ensures.script))

pub returns-in-Drop : goal.returns-in-Drop
returns-in-Drop c =
    subst (λ (s : Step). IsTaken (step_of s) c.args.self.now.end (script_of c.args.self.now.script) c.hand_on-in-Drop.new.self.end (script_of c.hand_on-in-Drop.new.self.script) c.hand_on-in-Drop.result)
    (sym c.in-Drop.is) (taken-handed (steps.Drop c.in-Drop.conn.value) _ _ _ _ _ (λ h s. refl) (λ past. refl) c.hand_on-in-Drop.ensures.handed_on (ap script_of c.hand_on-in-Drop.ensures.script))

pub returns-in-NotText : goal.returns-in-NotText
returns-in-NotText c =
    subst (λ (s : Step). IsTaken (step_of s) c.args.self.now.end (script_of c.args.self.now.script) c.hand_on-in-NotText.new.self.end (script_of c.hand_on-in-NotText.new.self.script) c.hand_on-in-NotText.result)
    (sym c.in-NotText.is) (taken-handed (steps.NotText c.in-NotText.conn.value) _ _ _ _ _ (λ h s. refl) (λ past. refl) c.hand_on-in-NotText.ensures.handed_on (ap script_of c.hand_on-in-NotText.ensures.script))

pub returns-in-Page : goal.returns-in-Page
returns-in-Page c =
    subst (λ (s : Step). IsTaken (step_of s) c.args.self.now.end (script_of c.args.self.now.script) c.hand_on-in-Page.new.self.end (script_of c.hand_on-in-Page.new.self.script) c.hand_on-in-Page.result)
    (sym c.in-Page.is) (taken-handed (steps.Page (page_of c.in-Page.page)) _ _ _ _ _ (λ h s. refl) (λ past. refl) c.hand_on-in-Page.ensures.handed_on (ap script_of c.hand_on-in-Page.ensures.script))
