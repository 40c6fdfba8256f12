use Rattle.std.proofs.Common.{◌∙◌, IfOk, sym, ap, subst}
use Rattle.bidi_scripted.specs.Kept.{IsNamed}
use Rattle.bidi_scripted.specs.View.{script_of}
use Rattle.bidi_scripted.proofs.FateLemmas.{with_err, anyhow}
use Rattle.bidi_scripted.proofs.KeptLemmas.{named-none}
use Rattle.bidi_scripted.proofs.OnlyLemmas.{only-same}
use Rattle.bidi_scripted.proofs.scripted_end.ScriptedEnd.hear_known.Goals as goal

pub returns-in-Some-clause-named : goal.returns-in-Some-clause-named
returns-in-Some-clause-named c = λ h s.
    let self = c.args.self.now in
    let new = c.hear_session.new.self in
    subst (λ o. IfOk c.hear_session.result (λ t. IsNamed c.args.conn.value c.args.text.now h o self.end (script_of self.script) new.end (script_of new.script) t))
    (sym c.in-Some.is ∙ c.session_of.ensures h s) (c.hear_session.ensures.named h s)

pub returns-in-None-clause-named : goal.returns-in-None-clause-named
returns-in-None-clause-named c = λ h s.
    named-none c.args.conn.value c.args.text.now _ _ _ _ c.hand_on_text.result h _ (sym (c.session_of.ensures h s) ∙ c.in-None.is) s
    c.hand_on_text.ensures.handed_on (ap script_of c.hand_on_text.ensures.script)

pub returns-in-None-clause-rest : goal.returns-in-None-clause-rest
returns-in-None-clause-rest c = anyhow c.hand_on_text.result (only-same _ _ (ap script_of c.hand_on_text.ensures.script))

pub returns-in-None-clause-err : goal.returns-in-None-clause-err
returns-in-None-clause-err c = with_err _ _ _ (ap script_of c.hand_on_text.ensures.script) c.hand_on_text.ensures.handed_on.err
