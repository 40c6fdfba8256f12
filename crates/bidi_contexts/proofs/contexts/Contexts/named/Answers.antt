use Rattle.std.proofs.Common.{◌∙◌, ◌<◌, ◌^◌, ap, map, subst}
use Rattle.std.specs.Prelude.{bytes_eq, option_map}
use Rattle.bidi_handles.specs.declared.id.IdKind.TheVariants.{Context}
use Rattle.bidi_handles.specs.Ids.{id_of}
use Rattle.bidi_contexts.specs.ContextRows.{ContextRow, row_of}
use Rattle.bidi_contexts.proofs.RowLemmas.{find-stands, live-in-hand}
use Rattle.bidi_contexts.proofs.TableLemmas.{row-now}
use Rattle.bidi_contexts.proofs.contexts.Contexts.named.Goals as goal

pub returns : goal.returns
returns c = λ past table.
    let items = c.deref.result.now in
    let rows = ap (map row_of) c.deref.ensures.value ∙ table.rows in
    row-now c.named.result ∙ (ap (option_map row_of) c.named.ensures.found
    ∙ find-stands past items (λ n. bytes_eq c.args.id.now (id_of Context n)) rows table.accepted
    (λ a b lives other.
    let x = live-in-hand past items a rows table.accepted lives in
    let y = live-in-hand past items b rows table.accepted other in
    c.named.ensures.one a b
    (subst (λ n. n < 2 ^ 48) (ap (λ (r : ContextRow). r.number) x.is) x.item.number_fits)
    (subst (λ n. n < 2 ^ 48) (ap (λ (r : ContextRow). r.number) y.is) y.item.number_fits)))
