use Rattle.std.proofs.Common.{◌∙◌, refl}
use Rattle.bidi_shape.specs.ValueLaws.{others_of}
use Rattle.bidi_contexts.proofs.InfoLemmas.{none-further}
use Rattle.bidi_contexts.proofs.TellingLemmas.{told-of, well-of}
use Rattle.bidi_contexts.proofs.context.Context.realm_destroyed.Goals as goal

pub returns-clause-told : goal.returns-clause-told
returns-clause-told c =
    told-of c.occurrence.result _ _ _ c.occurrence.ensures.event c.occurrence.ensures.context c.occurrence.ensures.top
    ∙ rw (c.in_ok-realm.ensures, c.realm.ensures.realm, c.empty.ensures) refl

pub returns-clause-well : goal.returns-clause-well
returns-clause-well c = well-of c.occurrence.result _ c.occurrence.ensures.event ((tt, tt), none-further _ (others_of c.empty.result) c.empty.ensures)
