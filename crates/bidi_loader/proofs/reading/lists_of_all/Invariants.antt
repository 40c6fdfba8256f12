use Rattle.std.proofs.Common.{take}
use Rattle.std.specs.List.{AllZip}
use Rattle.bidi_loader.specs.Readings.{AreTexts, ListsOf}
use Rattle.bidi_loader.proofs.reading.lists_of_all.Given as goal

abbrev pub invariant-nodes : goal.invariant-nodes
invariant-nodes l = AreTexts l.written l.texts → AllZip (ListsOf l.written) (take l.k l.written.nodes.items) l.lists.items
