use Rattle.std.proofs.Common.{◌++◌, List, drop}
use Rattle.bidi_rows.specs.declared.fault.RowFault.{RowFault}
use Rattle.bidi_rows.specs.Refusals.{RefusesItems}
use Rattle.json.specs.Tree.{ItemsHaveNumbers}
use Rattle.json.specs.Value.{items_view}
use Rattle.bidi_rows.specs.Rows.{Event}
use Rattle.bidi_rows.specs.Reading.{AreEvents}
use Rattle.bidi_rows.specs.View.{events_of}
use Rattle.bidi_rows.proofs.events.all_events_in.Given as goal

-- the events so far, with those of the items that are left, are those of all items; and why those left are refused, all are
abbrev pub invariant-loop-item : goal.invariant-loop-item
invariant-loop-item l = record {
  numbers : ItemsHaveNumbers (items_view (drop l.item-index l.items.items));
  events : (rest : List Event) → AreEvents (items_view (drop l.item-index l.items.items)) rest → AreEvents (items_view l.items.items) (events_of l.events.items ++ rest);
  why : (f : RowFault) → RefusesItems (items_view (drop l.item-index l.items.items)) f → RefusesItems (items_view l.items.items) f;
}
