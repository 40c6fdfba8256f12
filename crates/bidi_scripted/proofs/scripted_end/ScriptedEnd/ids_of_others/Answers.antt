use Rattle.std.proofs.Common.{◌≡◌, ◌∙◌, map, IfOk, subst}
use Rattle.bidi_names.specs.Subscriptions.{Named, named_of, unlisted, other_ids}
use Rattle.bidi_names.specs.View.{texts_of}
use Rattle.bidi_scripted.proofs.scripted_end.ScriptedEnd.ids_of_others.Goals as goal

pub returns : goal.returns
returns c = λ h s.
    let session = c.args.session in
    let machine = c.deref-2.ensures.value ∙ c.in_ok-machine.ensures h s in
    let alone = c.deref-3.ensures.value
    ∙ (c.in_ok-alone.ensures ∙ (λ i. map (λ (n : Named). n.number) (unlisted (machine i) session (map named_of (c.deref.ensures.value i))))) in
    subst (λ ns. IfOk c.other_ids.result (λ others. texts_of others.items ≡ other_ids ns session (texts_of c.args.ids.now))) alone c.other_ids.ensures
