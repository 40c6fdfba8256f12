use Rattle.std.proofs.Common.{refl, ◌∙◌, Some}
use Rattle.bidi_names.specs.Asked.{Unsubscribes}
use Rattle.bidi_names.specs.Subscriptions.{dismissed}
use Rattle.bidi_names.specs.View.{texts_of, wanted_of}
use Rattle.bidi_scripted.specs.View.{script_of}
use Rattle.bidi_scripted.proofs.KeptLemmas.{takes-succeeded}
use Rattle.bidi_scripted.proofs.OnlyLemmas.{only-named}
use Rattle.bidi_scripted.proofs.scripted_end.ScriptedEnd.dismiss.Goals as goal

pub returns-clause-takes : goal.returns-clause-takes
returns-clause-takes c = λ h s.
    let script = script_of c.args.self.now.script in
    let w = wanted_of c.args.wanted in
    takes-succeeded c.args.conn.value h c.args.session (Some (Unsubscribes w)) c.args.self.now.end script (script_of c.dismiss_named.new.self)
    c.in_ok-taken.taken w.id c.in_ok-taken.ensures.answers
    (c.dismiss_named.ensures ∙ (λ i. record script {
      named = dismissed c.args.session (texts_of (c.deref.ensures.value i)) (texts_of (c.deref-2.ensures.value i)) script.named;
    }))

pub returns-clause-rest : goal.returns-clause-rest
returns-clause-rest c = only-named (script_of c.args.self.now.script) _ _ _ refl c.dismiss_named.ensures
