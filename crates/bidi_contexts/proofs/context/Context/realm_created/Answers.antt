use Rattle.std.proofs.Common.{◌∙◌, ap, ap₂}
use Rattle.bidi_contexts.specs.ContextRows.{row_of, realm_began_in}
use Rattle.bidi_contexts.specs.Places.{present}
use Rattle.bidi_contexts.specs.View.{occurrence_of}
use Rattle.bidi_contexts.proofs.TableLemmas.{ok-told}
use Rattle.bidi_contexts.proofs.context.Context.realm_created.Goals as goal

pub returns-clause-told : goal.returns-clause-told
returns-clause-told c =
    ok-told occurrence_of c.realm_began.result _ _ c.realm_began.ensures.told
    (ap₂ (realm_began_in (row_of c.args.self.now)) c.realm.ensures.realm (c.present.ensures ∙ ap present c.history.ensures))
