use Rattle.std.proofs.Common.{◌≡◌, ◌∙◌, ◌++◌, ◌∷◌, [], Some, map, sym, ap, subst}
use Rattle.std.specs.Prelude.{if◌then◌else◌}
use Rattle.bidi_sessions.specs.SubscriptionView.{scope_of}
use Rattle.bidi_names.specs.Asked.{Subscribes}
use Rattle.bidi_names.specs.Subscriptions.{Named, named_of, of_active, has_any}
use Rattle.bidi_names.specs.View.{wanted_of}
use Rattle.bidi_scripted.specs.declared.scripted_end.ScriptedEnd.{ScriptedEnd}
use Rattle.bidi_scripted.specs.declared.scripted_end.Taken.TheVariants.{HandedOn}
use Rattle.bidi_scripted.specs.Kept.{Hears, Takes, part_or}
use Rattle.bidi_scripted.specs.Script.{OnlySubscriptionsChange}
use Rattle.bidi_scripted.specs.View.{script_of}
use Rattle.bidi_scripted.proofs.KeptLemmas.{takes-subscribed, takes-unsubscribed}
use Rattle.bidi_scripted.proofs.OnlyLemmas.{only-either, only-same}
use Rattle.bidi_scripted.proofs.scripted_end.ScriptedEnd.subscribe_to.Goals.{in-Some, in_default}
use Rattle.bidi_scripted.proofs.scripted_end.ScriptedEnd.subscribe_to.Goals as goal

pub returns-in-Ok-clause-takes : goal.returns-in-Ok-clause-takes
returns-in-Ok-clause-takes c = λ h s is.
    let self = c.args.self.now in
    let script = script_of self.script in
    let w = wanted_of c.args.wanted in
    let conn = c.args.conn.value in
    let new = c.pass_on.new.self in
    let P : ScriptedEnd → Type 0 = λ x.
    Takes conn h c.args.session (Some (Subscribes w)) self.end script x.end (script_of x.script) (HandedOn c.in-Ok.sent) (Hears (part_or w.part c.args.text.now)) in
    let stays = c.in-Ok.ensures.script in
    let as_it_was : script_of new.script ≡ script =
    ap script_of stays ∙ (λ i. record script { named = map named_of (c.reserve.ensures.items i) }) in
    elim c.match-number_made.branch [
      | in-Some v ↦
          let live = v.deref-in-Some.ensures.value ∙ c.in_ok-active.ensures h s in
          let n : Named = record {
            session = c.args.session;
            number = v.in-Some.number;
            names = w.foreign;
            modules = w.modules;
            scope = scope_of c.args.scope;
          } in
          subst P (sym v.self-is)
          (takes-subscribed conn _ _ h c.args.session self.end new.end script (script_of v.add_named.new.self) c.in-Ok.sent s c.in-Ok.ensures.handed_on
          c.part_or.ensures w (scope_of c.args.scope) is _ c.deref.ensures.value v.in-Some.number v.in-Some.ensures.some v.in-Some.ensures.every
          (v.add_named.ensures
          ∙ (λ i. if has_any n then record (as_it_was i) { named = of_active (live i) (as_it_was i).named ++ n ∷ [] } else as_it_was i)))
      | in_default v ↦
          subst P (sym v.self-is)
          (takes-unsubscribed conn _ _ h c.args.session self.end new.end script (script_of new.script) c.in-Ok.sent s c.in-Ok.ensures.handed_on
          c.part_or.ensures w (scope_of c.args.scope) is _ c.deref.ensures.value v.in_default.ensures.every as_it_was)
    ]

pub returns-in-Ok-clause-rest : goal.returns-in-Ok-clause-rest
returns-in-Ok-clause-rest c =
    let new = c.pass_on.new.self in
    let script = script_of c.args.self.now.script in
    let P : ScriptedEnd → Type 0 = λ x. OnlySubscriptionsChange script (script_of x.script) in
    let as_it_was : script_of new.script ≡ script =
    ap script_of c.in-Ok.ensures.script ∙ (λ i. record script { named = map named_of (c.reserve.ensures.items i) }) in
    elim c.match-number_made.branch [
      | in-Some v ↦ subst P (sym v.self-is) (only-either _ script (script_of new.script) _ _ as_it_was v.add_named.ensures)
      | in_default v ↦ subst P (sym v.self-is) (only-same script _ as_it_was)
    ]
