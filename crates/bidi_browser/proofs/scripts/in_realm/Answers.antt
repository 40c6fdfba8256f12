use Rattle.std.proofs.Common.{subst}
use Rattle.std.specs.Prelude.{bytes_eq}
use Rattle.bidi_params.specs.declared.error_code.ErrorCode.TheVariants.{NoSuchFrame}
use Rattle.bidi_handles.specs.declared.id.IdKind.TheVariants.{Realm}
use Rattle.bidi_contexts.specs.Actions.{RealmTarget}
use Rattle.bidi_handles.specs.Checks.{found}
use Rattle.bidi_browser.specs.Found.{IsTargeted}
use Rattle.bidi_handles.specs.Ids.{id_of}
use Rattle.bidi_contexts.specs.Outcome.{realm_targeted}
use Rattle.bidi_browser.proofs.ScriptLemmas.{realm-targeted}
use Rattle.bidi_browser.proofs.scripts.in_realm.Goals as goal

pub returns-in-Some : goal.returns-in-Some
returns-in-Some c = λ past table.
    subst (λ o. IsTargeted (found o NoSuchFrame) past (realm_targeted past (RealmTarget c.args.id.now))) c.in-Some.is
    (realm-targeted past (λ r. bytes_eq c.args.id.now (id_of Realm r)) c.in_realm.result (c.in_realm.ensures past table))

pub returns-in-None : goal.returns-in-None
returns-in-None c = λ past table.
    subst (λ o. IsTargeted (found o NoSuchFrame) past (realm_targeted past (RealmTarget c.args.id.now))) c.in-None.is
    (realm-targeted past (λ r. bytes_eq c.args.id.now (id_of Realm r)) c.in_realm.result (c.in_realm.ensures past table))
