use Rattle.std.proofs.Common.{◌≡◌, ◌+◌, ◌*◌, drop, map, true}
use Rattle.std.specs.Prelude.{◌≤◌}
use Rattle.bidi_tree.specs.Node.{levels, items_levels, members_levels}
use Rattle.bidi_tree.specs.Outline.{outline_node, outline_items, outline_members, named_outlines}
use Rattle.bidi_shape.specs.Term.{names_of}
use Rattle.bidi_shape.specs.Fits.{AllFit, RowsFit, OthersFit, without}
use Rattle.bidi_blame.specs.Blames.{ItemsBlame, RowsBlame, OthersBlame}
use Rattle.bidi_rules.specs.Grammar.{grammar, grammar_rows, openness_of}
use Rattle.bidi_blame.specs.Reason.{Reason}
use Rattle.bidi_rules.specs.Weight.{height_of, rows_are_ready, chosen, weight, rank}
use Rattle.bidi_blame.proofs.blaming.+blame.Given as goal

-- what is left to do: the levels below, then the choices, names and caps that are passed before one goes down
abbrev pub decreases-fits_term : goal.decreases-fits_term
decreases-fits_term l = 256 * levels (outline_node l.tree.now) + (4 * height_of l.term.now + 2)

abbrev pub decreases-fits_inside : goal.decreases-fits_inside
decreases-fits_inside l = 256 * levels (outline_node l.tree.now) + (4 * height_of l.term.now + 1)

abbrev pub decreases-fits_rule : goal.decreases-fits_rule
decreases-fits_rule l = 256 * levels (outline_node l.tree.now) + (4 * rank l.name + 3)

abbrev pub decreases-fits_choice : goal.decreases-fits_choice
decreases-fits_choice l = 256 * levels (outline_node l.tree.now) + (4 * chosen (weight l.first.now) (map weight l.rest.now) + 3)

abbrev pub decreases-fits_any : goal.decreases-fits_any
decreases-fits_any l = 256 * levels (outline_node l.tree.now)

abbrev pub decreases-fit_items : goal.decreases-fit_items
decreases-fit_items l = 256 * items_levels (outline_items l.items.now) + 255

abbrev pub decreases-fit_pair : goal.decreases-fit_pair
decreases-fit_pair l = 256 * items_levels (outline_items l.items.now) + 255

abbrev pub decreases-fit_rows : goal.decreases-fit_rows
decreases-fit_rows l = 256 * members_levels (outline_members l.members.now) + 255

abbrev pub decreases-fit_others : goal.decreases-fit_others
decreases-fit_others l = 256 * members_levels (outline_members l.members.now) + 254

-- ---- what is left is judged as the whole

abbrev pub invariant-fit_items-items : goal.invariant-fit_items-items
invariant-fit_items-items l = record {
  fits : AllFit (outline_items (drop l.i l.items)) (grammar l.term) → AllFit (outline_items l.items) (grammar l.term);
  blames : (r : Reason) → ItemsBlame l.i (outline_items (drop l.i l.items)) (grammar l.term) r → ItemsBlame 0 (outline_items l.items) (grammar l.term) r;
  fewer : items_levels (outline_items (drop l.i l.items)) ≤ items_levels (outline_items l.items);
}

abbrev pub invariant-fit_rows-rows : goal.invariant-fit_rows-rows
invariant-fit_rows-rows l =
    let ms = outline_members l.members in
    let left = drop l.row-index l.rows in
    let o = openness_of l.openness in
    let others = without (names_of (grammar_rows l.rows)) ms in
    record {
      fits : RowsFit ms (grammar_rows left) → RowsFit ms (grammar_rows l.rows);
      blames : (r : Reason) → RowsBlame o others l.tags ms (grammar_rows left) r → RowsBlame o others 0 ms (grammar_rows l.rows) r;
      ready : rows_are_ready left ≡ true;
      few : l.tags ≤ l.row-index;
    }

abbrev pub invariant-fit_others-members : goal.invariant-fit_others-members
invariant-fit_others-members l =
    let names = names_of (grammar_rows l.rows) in
    let left = without names (named_outlines (drop l.member-index l.members.entries.items)) in
    let all = without names (outline_members l.members) in
    let o = openness_of l.openness in
    record {
      fits : OthersFit o left → OthersFit o all;
      blames : (r : Reason) → OthersBlame o l.tags left r → OthersBlame o l.tags all r;
      fewer : members_levels (named_outlines (drop l.member-index l.members.entries.items)) ≤ members_levels (outline_members l.members);
    }
