use Rattle.std.proofs.Common.{◌≡◌, ◌+◌, ◌*◌, max, drop, map, length, true}
use Rattle.std.specs.Prelude.{◌≤◌}
use Rattle.json.specs.Value.{value_view, items_view, members_view}
use Rattle.bidi_grammar.specs.Term.{names_of}
use Rattle.bidi_grammar.specs.Fits.{without}
use Rattle.bidi_grammar.specs.Judges.{Answer, ItemsJudge, PartsJudge, RowsJudge, OthersJudge}
use Rattle.bidi_grammar.specs.View.{row_of, rows_are_within, table}
use Rattle.bidi_grammar.proofs.LevelLemmas.{levels, items_levels, members_levels}
use Rattle.bidi_grammar.proofs.judging.+judge.Given as goal

-- what is left to do: the levels below, then the choices and rules, which come earlier in the table
abbrev pub decreases-judge_term : goal.decreases-judge_term
decreases-judge_term l = 400000 * levels (value_view l.value.now) + (5 * l.n + 5)

abbrev pub decreases-judge_inside : goal.decreases-judge_inside
decreases-judge_inside l = 400000 * levels (value_view l.value.now) + (5 * l.n + 4)

abbrev pub decreases-judge_rule : goal.decreases-judge_rule
decreases-judge_rule l = 400000 * levels (value_view l.value.now) + (5 * l.rule + 6)

abbrev pub decreases-judge_either : goal.decreases-judge_either
decreases-judge_either l = 400000 * levels (value_view l.value.now) + (5 * max l.first l.second + 8)

abbrev pub decreases-judge_second : goal.decreases-judge_second
decreases-judge_second l = 400000 * levels (value_view l.value.now) + (5 * l.second + 6)

abbrev pub decreases-judge_items : goal.decreases-judge_items
decreases-judge_items l = 400000 * items_levels (items_view l.items.now) + 350000

abbrev pub decreases-judge_parts : goal.decreases-judge_parts
decreases-judge_parts l = 400000 * items_levels (items_view l.items.now) + 350000

abbrev pub decreases-judge_rows : goal.decreases-judge_rows
decreases-judge_rows l = 400000 * levels (value_view l.value.now) + 1

abbrev pub decreases-judge_others : goal.decreases-judge_others
decreases-judge_others l = 400000 * members_levels (members_view l.members.now) + 350000

-- ---- what is left is judged as the whole

abbrev pub invariant-judge_items-items : goal.invariant-judge_items-items
invariant-judge_items-items l =
    let g = table l.terms in
    record {
      so_far : (a : Answer) → ItemsJudge g l.left l.i (items_view (drop l.i l.items)) l.n a → ItemsJudge g l.looks 0 (items_view l.items) l.n a;
      fewer : items_levels (items_view (drop l.i l.items)) ≤ items_levels (items_view l.items);
    }

abbrev pub invariant-judge_parts-items : goal.invariant-judge_parts-items
invariant-judge_parts-items l =
    let g = table l.terms in
    record {
      so_far : (a : Answer) → PartsJudge g l.left l.i (items_view (drop l.i l.items)) (drop l.i l.parts) a → PartsJudge g l.looks 0 (items_view l.items) l.parts a;
      fewer : items_levels (items_view (drop l.i l.items)) ≤ items_levels (items_view l.items);
    }

abbrev pub invariant-judge_rows-rows : goal.invariant-judge_rows-rows
invariant-judge_rows-rows l =
    let g = table l.terms in
    let t = value_view l.value in
    let others = without (names_of (map row_of l.rows)) (members_view l.members) in
    let left = map row_of (drop l.row-index l.rows) in
    record {
      so_far : (a : Answer) → RowsJudge g l.left l.rest others l.tags t left a → RowsJudge g l.looks l.rest others 0 t (map row_of l.rows) a;
      within : rows_are_within (length l.terms) left ≡ true;
      few : l.tags ≤ l.row-index;
    }

abbrev pub invariant-judge_others-members : goal.invariant-judge_others-members
invariant-judge_others-members l =
    let g = table l.terms in
    let names = names_of (map row_of l.rows) in
    let left = members_view (drop l.member-index l.members) in
    record {
      so_far : (a : Answer) → OthersJudge g l.left l.rest l.tags (without names left) a
          → OthersJudge g l.looks l.rest l.tags (without names (members_view l.members)) a;
      fewer : members_levels left ≤ members_levels (members_view l.members);
    }
