use Rattle.std.proofs.Common.{IfOk, option_map, sym, ap, subst}
use Rattle.bidi_remote.specs.Machine.Outcome.{deeds}
use Rattle.bidi_names.specs.View.{asked_seen}
use Rattle.bidi_scripted.specs.Kept.{Takes, taking}
use Rattle.bidi_scripted.specs.View.{script_of}
use Rattle.bidi_scripted.proofs.FateLemmas.{with_err, anyhow}
use Rattle.bidi_scripted.proofs.KeptLemmas.{takes-none}
use Rattle.bidi_scripted.proofs.OnlyLemmas.{only-same}
use Rattle.bidi_scripted.proofs.scripted_end.ScriptedEnd.take_names.Goals as goal

pub returns-in-None-clause-takes : goal.returns-in-None-clause-takes
returns-in-None-clause-takes c = λ h s.
    let self = c.args.self.now in
    let new = c.hand_on_text.new.self in
    let script = script_of self.script in
    subst (λ a. IfOk c.hand_on_text.result (λ t. Takes c.args.conn.value h c.args.session (option_map asked_seen a) self.end script new.end (script_of new.script) t
    (taking (deeds h) script c.args.session c.args.text.now (option_map asked_seen a)))) (sym c.in-None.is)
    (takes-none c.args.conn.value c.args.text.now _ _ _ _ c.hand_on_text.result h c.args.session s c.hand_on_text.ensures.handed_on (ap script_of c.hand_on_text.ensures.script))

pub returns-in-None-clause-rest : goal.returns-in-None-clause-rest
returns-in-None-clause-rest c = anyhow c.hand_on_text.result (only-same _ _ (ap script_of c.hand_on_text.ensures.script))

pub returns-in-None-clause-err : goal.returns-in-None-clause-err
returns-in-None-clause-err c = with_err _ _ _ (ap script_of c.hand_on_text.ensures.script) c.hand_on_text.ensures.handed_on.err
