use Rattle.std.proofs.Common.{◌++◌, List, map, drop}
use Rattle.bidi_rows.specs.declared.fault.RowFault.{RowFault}
use Rattle.bidi_rows.specs.Refusals.{RefusesItems}
use Rattle.json.specs.Tree.{ItemsHaveNumbers}
use Rattle.json.specs.Value.{items_view}
use Rattle.bidi_rows.specs.Filling.{Template, template_of}
use Rattle.bidi_rows.specs.Templates.{AreTemplates}
use Rattle.bidi_rows.proofs.events.all_templates_in.Given as goal

-- the events so far, with those of the items that are left, are those of all items; and why those left are refused, all are
abbrev pub invariant-loop-item : goal.invariant-loop-item
invariant-loop-item l = record {
  numbers : ItemsHaveNumbers (items_view (drop l.item-index l.items.items));
  templates : (rest : List Template) → AreTemplates (items_view (drop l.item-index l.items.items)) rest → AreTemplates (items_view l.items.items) ((map template_of) l.templates.items ++ rest);
  why : (f : RowFault) → RefusesItems (items_view (drop l.item-index l.items.items)) f → RefusesItems (items_view l.items.items) f;
}
