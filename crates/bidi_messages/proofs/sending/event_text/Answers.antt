use Rattle.std.proofs.Common.{◌∙◌, refl, sym, ap, subst, arith}
use Rattle.bidi_shape.specs.Name as rules
use Rattle.bidi_shape.specs.Term.{rule}
use Rattle.bidi_shape.specs.Fits.{Fits}
use Rattle.bidi_methods.specs.EventData.{event_of}
use Rattle.bidi_methods.specs.EventName.{event_name_text}
use Rattle.bidi_methods.specs.contracts.event_data.EventDataPayloadEventName.TheImpl as told
use Rattle.bidi_messages.specs.Message.{event_tree}
use Rattle.bidi_messages.specs.contracts.message.MessageShape.TheImpl.{ghosts}
use Rattle.bidi_messages.proofs.SendingLemmas.{writable, an_event, event_well, event-is, event-text, event-back}
use Rattle.bidi_messages.proofs.sending.event_text.Goals as goal

pub append_params-requires : goal.append_params-requires
append_params-requires c =
    let whole = told.ghosts.payload.whole c.args.event.now c.requires in
    let few = whole.1 in
    (whole.0, omega (arith, few))

pub returns-clause-text : goal.returns-clause-text
returns-clause-text c =
    event-text _ _ _ _ _ _ c.name-name.result.now _ (event_of c.args.event.now) (told.ghosts.payload.tree_of c.args.event.now)
    c.in_ok-text.ensures.bytes c.in_ok-push_str.ensures.bytes c.in_ok-push_str-2.ensures.bytes c.in_ok-push_str-3.ensures.bytes
    c.in_ok-text-2.ensures.text c.in_ok-push_str-4.ensures.bytes (c.name-name.ensures ∙ ap event_name_text c.kind.ensures) refl

pub returns-clause-reads_back : goal.returns-clause-reads_back
returns-clause-reads_back c =
    let d = c.args.event.now in
    let t = event_tree (event_of d) (told.ghosts.payload.tree_of d) in
    let m = an_event d c.empty-ext.result in
    let well = event_well d c.empty-ext.result c.requires c.empty-ext.ensures in
    let is = event-is d c.empty-ext.result c.empty-ext.ensures in
    let text = returns-clause-text c in (
      t,
      subst (λ u. Fits u (rule rules.message)) (sym is) (ghosts.shape.fits m well),
      text,
      event-back _ (event_of d) _ text c.in_ok-text-2.ensures.sound (writable ghosts.shape refl m t well is),
      λ e params same. (m, well, tt, sym is),
    )
