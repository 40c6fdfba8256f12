use Rattle.std.proofs.Common.{map, ap}
use Rattle.bidi_contexts.specs.ContextRows.{row_of}
use Rattle.bidi_contexts.specs.View.{seen}
use Rattle.bidi_contexts.proofs.ToldLemmas.{events-told}
use Rattle.bidi_contexts.proofs.telling.tree_events.Goals as goal

pub returns-clause-ok : goal.returns-clause-ok
returns-clause-ok c = λ past stands.
    let order = c.in_tree_order-live.ensures past stands in
    let rows = map row_of c.in_tree_order-live.result.now in
    events-told past rows rows (seen c.new-all.result.items) (seen c.push_created.new.all.items) (seen c.push_realms.new.all.items) order order
    (ap seen c.new-all.ensures.items)
    c.in_ok-push_created.ensures.told c.in_ok-push_realms.ensures.told
