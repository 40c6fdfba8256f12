use Rattle.bidi_loader.specs.Meaning.{group_at, rules_of, written_trees}
use Rattle.bidi_loader.specs.Readings.{lists_view}
use Rattle.bidi_loader.proofs.AlternativeLemmas.{entry_lists}
use Rattle.bidi_loader.proofs.lists.lists_of_entry.Goals as goal

pub returns-in_ok-list_of-in-Some : goal.returns-in_ok-list_of-in-Some
returns-in_ok-list_of-in-Some c = λ e.
    let w = c.args.written.now in
    let trees = written_trees w in
    entry_lists (rules_of w) trees c.args.texts.now c.args.node c.in-Some.field-0 (group_at trees c.args.node) (lists_view trees c.in_ok-list_of-in-Some.field-0)
    (c.in-Some.ensures e) (c.in_ok-list_of-in-Some.ensures trees)
