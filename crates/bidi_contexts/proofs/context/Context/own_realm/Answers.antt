use Rattle.std.proofs.Common.{◌∙◌, ap, ap₂}
use Rattle.bidi_scripts.specs.contracts.realms.RealmInfoShape.TheImpl.{ghosts}
use Rattle.bidi_contexts.specs.ContextRows.{row_of, realm_info_at}
use Rattle.bidi_contexts.specs.Places.{present}
use Rattle.bidi_contexts.proofs.TableLemmas.{ok-told}
use Rattle.bidi_contexts.proofs.context.Context.own_realm.Goals as goal

pub returns-clause-tree : goal.returns-clause-tree
returns-clause-tree c =
    ok-told ghosts.shape.tree_of c.realm_info.result _ _ c.realm_info.ensures.tree
    (ap₂ (realm_info_at (row_of c.args.self.now)) c.realm.ensures.realm (c.present.ensures ∙ ap present c.history.ensures))
