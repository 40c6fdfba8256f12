use Rattle.std.proofs.Common.{◌∙◌, ◌<◌, ◌^◌, ap, map, subst}
use Rattle.std.specs.Prelude.{bytes_eq, option_map}
use Rattle.bidi_handles.specs.declared.id.IdKind.TheVariants.{Realm}
use Rattle.bidi_handles.specs.Ids.{id_of}
use Rattle.bidi_contexts.specs.ContextRows.{ContextRow, row_of}
use Rattle.bidi_contexts.specs.Realms.{realm_of}
use Rattle.bidi_contexts.proofs.HeldLemmas.{alive-one}
use Rattle.bidi_contexts.proofs.RowLemmas.{realm-stands, live-in-hand}
use Rattle.bidi_contexts.proofs.TableLemmas.{row-now}
use Rattle.bidi_contexts.proofs.contexts.Contexts.in_realm.Goals as goal

pub returns : goal.returns
returns c = λ past table.
    let items = c.deref.result.now in
    let rows = ap (map row_of) c.deref.ensures.value ∙ table.rows in
    row-now c.in_realm.result ∙ (ap (option_map row_of) c.in_realm.ensures.found
    ∙ realm-stands past items (λ n. bytes_eq c.args.id.now (id_of Realm n)) rows table.accepted
    (λ a b lives other is too.
    let x = live-in-hand past items a rows table.accepted lives in
    let y = live-in-hand past items b rows table.accepted other in
    alive-one past a b lives other (c.in_realm.ensures.one (realm_of past a) (realm_of past b)
    (subst (λ n. n < 2 ^ 48) (ap (λ (r : ContextRow). r.realm) x.is) x.item.details.value.realm_fits)
    (subst (λ n. n < 2 ^ 48) (ap (λ (r : ContextRow). r.realm) y.is) y.item.details.value.realm_fits) is too)))
