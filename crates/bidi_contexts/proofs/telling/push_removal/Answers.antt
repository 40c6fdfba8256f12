use Rattle.std.proofs.Common.{◌∙◌, ◌∷◌, [], map, ap}
use Rattle.std.specs.Prelude.{None}
use Rattle.std.proofs.lemmas.List.{map-append}
use Rattle.bidi_methods.specs.declared.event_data.EventName.TheVariants.{ContextDestroyed}
use Rattle.bidi_contexts.specs.ContextRows.{row_of, occurrence_in, realm_destroyed_in}
use Rattle.bidi_contexts.specs.Info.{info_of}
use Rattle.bidi_contexts.specs.View.{occurrence_of, seen}
use Rattle.bidi_contexts.proofs.ToldLemmas.{removal-told}
use Rattle.bidi_contexts.proofs.telling.push_removal.Goals as goal

pub returns-clause-told : goal.returns-clause-told
returns-clause-told c = λ past k is below.
    removal-told past k below.accepted (map row_of c.args.below.now) (seen c.args.events.now.items) (seen c.push.new.self.items)
    (seen c.push_realms_gone.new.all.items) (seen c.push-2.new.self.items) (occurrence_of c.in_ok-realm_destroyed.field-0) (occurrence_of c.destroyed.result)
    below.rows
    (c.in_ok-realm_destroyed.ensures.told ∙ ap realm_destroyed_in is)
    (ap seen c.in_ok-push.ensures.items ∙ map-append occurrence_of c.args.events.now.items (c.in_ok-realm_destroyed.field-0 ∷ []))
    c.in_ok-push_realms_gone.ensures.told
    (ap seen c.in_ok-push-2.ensures.items ∙ map-append occurrence_of c.push_realms_gone.new.all.items (c.destroyed.result ∷ []))
    (c.destroyed.ensures.told ∙ (ap (occurrence_in (row_of c.args.context.now) ContextDestroyed)
    (c.in_ok-info.ensures.tree past k is below) ∙ ap (λ r. occurrence_in r ContextDestroyed (info_of past None k)) is))
