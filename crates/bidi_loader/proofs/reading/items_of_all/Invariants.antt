use Rattle.std.proofs.Common.{take}
use Rattle.std.specs.List.{AllZip}
use Rattle.bidi_loader.specs.Readings.{ItemsOf}
use Rattle.bidi_loader.proofs.reading.items_of_all.Given as goal

abbrev pub invariant-nodes : goal.invariant-nodes
invariant-nodes l = AllZip (ItemsOf l.written) (take l.k l.written.nodes.items) l.items.items
