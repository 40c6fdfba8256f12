use Rattle.std.proofs.Common.{◌∙◌, ap, subst}
use Rattle.bidi_remote.specs.Machine.Outcome.{deeds}
use Rattle.bidi_names.specs.View.{texts_of}
use Rattle.bidi_scripted.specs.Kept.{Takes, asked_in, taking}
use Rattle.bidi_scripted.specs.View.{script_of}
use Rattle.bidi_scripted.proofs.FateLemmas.{if-ok}
use Rattle.bidi_scripted.proofs.scripted_end.ScriptedEnd.hear_session.Goals as goal

pub returns-in-Ok-clause-named : goal.returns-in-Ok-clause-named
returns-in-Ok-clause-named c = λ h s.
    let self = c.args.self.now in
    let new = c.take_names.new.self in
    let script = script_of self.script in
    let text = c.args.text.now in
    let it = c.in-Ok.ensures in
    let same = it.2 ∙ ap (λ ns. asked_in (texts_of ns) text it.0) c.deref.ensures.value in
    if-ok c.take_names.result (λ t p. (
      it.0,
      it.1,
      subst (λ a. Takes c.args.conn.value h c.args.session a self.end script new.end (script_of new.script) t (taking (deeds h) script c.args.session text a)) same p,
    )) (c.take_names.ensures.takes h s)
