use Rattle.std.proofs.Common.{◌∙◌, ◌++◌, ◌∷◌, [], map, suc}
use Rattle.bidi_sessions.specs.SubscriptionView.{scope_of}
use Rattle.bidi_names.specs.Subscriptions.{Named, named_of, of_active}
use Rattle.bidi_names.specs.View.{wanted_of}
use Rattle.bidi_scripted.specs.View.{script_of}
use Rattle.bidi_scripted.proofs.KeptLemmas.{takes-made}
use Rattle.bidi_scripted.proofs.OnlyLemmas.{only-made}
use Rattle.bidi_scripted.proofs.scripted_end.ScriptedEnd.make_alone.Goals as goal

pub returns-clause-takes : goal.returns-clause-takes
returns-clause-takes c = λ h s.
    let script = script_of c.args.self.now.script in
    let w = wanted_of c.args.wanted in
    let live = c.deref.ensures.value ∙ c.in_ok-active.ensures h s in
    let n : Named = record {
      session = c.args.session;
      number = c.next_alone-number.result;
      names = w.foreign;
      modules = w.modules;
      scope = scope_of c.args.scope;
    } in
    takes-made c.args.conn.value h c.args.session c.args.self.now.end script (script_of c.add_alone.new.self) c.in_ok-taken.taken w (scope_of c.args.scope)
    c.next_alone-number.result _ c.in_ok-taken.ensures.answers c.in_ok-made.ensures c.next_alone-number.ensures.number
    (c.add_alone.ensures ∙ (λ i. record script {
      named = of_active (live i) (map named_of (c.reserve.ensures.items i)) ++ n ∷ [];
      made = suc script.made;
    }))

pub returns-clause-rest : goal.returns-clause-rest
returns-clause-rest c = only-made (script_of c.args.self.now.script) _ _ _ c.add_alone.ensures
