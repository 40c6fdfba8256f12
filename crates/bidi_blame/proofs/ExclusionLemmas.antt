-- A tree that a reason speaks against does not fit.
use Rattle.std.proofs.Common.{◌≡◌, ℕ, suc, List, Option, Some, None, inl, inr, sym, ◌∙◌, arith, true≢false}
use Rattle.std.proofs.lemmas.Bool.{or_parts}
use Rattle.std.specs.Prelude.{max, ◌≤◌}
use Rattle.bidi_tree.specs.Node as node
use Rattle.bidi_tree.specs.Node.{Node, Items, no_items, item, Members, no_members, member, get_member, levels, items_levels, members_levels, has_odd, items_have_odd, ItemsAreWhole}
use Rattle.bidi_shape.specs.Term.{Need, required, Openness, extensible, Term, any, Rows, row}
use Rattle.bidi_shape.specs.Fits.{OthersFit, Fits, fits_any, AllFit, no_item, an_item, RowsFit}
use Rattle.bidi_shape.proofs.FitsLemmas.{any_inside, list_inside, item_inside, pair_inside, map_inside, RowFits, row_inside, others_inside, either_inside, rule_inside, capped_inside}
use Rattle.bidi_blame.specs.Reason.{Reason}
use Rattle.bidi_blame.specs.Blames.{Blames, not_taken, in_any_list, in_any_map, in_list, in_first, in_second, in_map, of_both, of_rule, of_capped}
use Rattle.bidi_blame.specs.Blames.{ItemsBlame, this_item, later_item, RowsBlame, is_missing, in_member, is_there, is_absent, in_others}
use Rattle.bidi_blame.specs.Blames.{OthersBlame, is_unknown, in_other, later_other}
use Rattle.bidi_blame.proofs.PlainLemmas.{taken}

-- in a list that fits any, each item does
items_any : (ts : Items) → ItemsAreWhole ts 60 → AllFit ts any
items_any no_items h = no_item any
items_any (item t ts) h =
    let whole = or_parts (has_odd t) (items_have_odd ts) h.0 in
    let deep : max (levels t) (items_levels ts) ≤ 60 = h.1 in
    an_item t ts any (fits_any t (whole.0, omega arith)) (items_any ts (whole.1, omega arith))

pub list_any_inside : (ts : Items) → Fits (node.list ts) any → AllFit ts any
list_any_inside ts f =
    let w = any_inside f in
    let deep : suc (items_levels ts) ≤ 60 = w.1 in
    items_any ts (w.0, omega arith)

pub map_any_inside : (ms : Members) → Fits (node.map ms) any → OthersFit extensible ms
map_any_inside ms f =
    let w = any_inside f in
    let deep : suc (members_levels ms) ≤ 60 = w.1 in (w.0, omega arith)

-- a row that fits is met
missing_row : {ms : Members} (k : List ℕ) (τ : Term) (rows : Rows) → get_member k ms ≡ None → RowsFit ms (row k required τ rows) → ⊥
missing_row {ms} k τ rows e f = without_it (get_member k ms) e (row_inside f).0
  where
    without_it : (o : Option Node) → o ≡ None → RowFits required τ o → ⊥
    without_it None e f = f
    without_it (Some t) e f = cc

found_row : {ms : Members} (k : List ℕ) (need : Need) (τ : Term) (rows : Rows) (t : Node)
    → get_member k ms ≡ Some t → RowsFit ms (row k need τ rows) → Fits t τ
found_row {ms} k need τ rows t e f = with_it (get_member k ms) e (row_inside f).0
  where
    with_it : (o : Option Node) → o ≡ Some t → RowFits need τ o → Fits t τ
    with_it None e f = absurd (cc)
    with_it (Some u) e f = let same : u ≡ t = cc in rw (← same) f

mutual
  -- a reason excludes that the tree fits
  pub excludes : {t : Node} {τ : Term} {r : Reason} → Blames t τ r → Fits t τ → ⊥
  excludes (not_taken t τ e) f = true≢false (sym (taken f) ∙ e)
  excludes (in_any_list ts r e b) f = items_exclude b (list_any_inside ts f)
  excludes (in_any_map ms r e b) f = others_exclude b (map_any_inside ms f)
  excludes (in_list ts least τ r b) f = items_exclude b (list_inside f).1
  excludes (in_first t u σ τ r b) f = excludes b (pair_inside f).0
  excludes (in_second t u σ τ r g b) f = excludes b (pair_inside f).1
  excludes (in_map ms rows o r b) f = rows_exclude b (map_inside f).0 (map_inside f).1
  excludes (of_both t σ τ a b p q) f = elim (either_inside f) [ inl g ↦ excludes p g | inr g ↦ excludes q g ]
  excludes (of_rule t n r b) f = excludes b (rule_inside f)
  excludes (of_capped t τ r e b) f = excludes b (capped_inside f).1

  items_exclude : {i : ℕ} {ts : Items} {τ : Term} {r : Reason} → ItemsBlame i ts τ r → AllFit ts τ → ⊥
  items_exclude (this_item i t ts τ r b) f = excludes b (item_inside f).0
  items_exclude (later_item i t ts τ r g b) f = items_exclude b (item_inside f).1

  rows_exclude : {o : Openness} {others : Members} {n : ℕ} {ms : Members} {rows : Rows} {r : Reason}
      → RowsBlame o others n ms rows r → RowsFit ms rows → OthersFit o others → ⊥
  rows_exclude (is_missing o others n ms k τ rows e) f h = missing_row k τ rows e f
  rows_exclude (in_member o others n ms k need τ rows t r e b) f h = excludes b (found_row k need τ rows t e f)
  rows_exclude (is_there o others n ms k need τ rows t r e g b) f h = rows_exclude b (row_inside f).1 h
  rows_exclude (is_absent o others n ms k τ rows r e b) f h = rows_exclude b (row_inside f).1 h
  rows_exclude (in_others o others n ms r b) f h = others_exclude b h

  others_exclude : {o : Openness} {n : ℕ} {others : Members} {r : Reason} → OthersBlame o n others r → OthersFit o others → ⊥
  others_exclude (is_unknown n k t ms) h = cc
  others_exclude (in_other n k t ms r b) h = excludes b (others_inside k t ms h).0
  others_exclude (later_other n k t ms r g b) h = others_exclude b (others_inside k t ms h).1
