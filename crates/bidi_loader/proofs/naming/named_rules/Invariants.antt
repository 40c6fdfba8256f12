use Rattle.std.proofs.Common.{take}
use Rattle.std.specs.List.{AllZip}
use Rattle.bidi_loader.specs.Loading.{IsNamed}
use Rattle.bidi_loader.proofs.naming.named_rules.Given as goal

abbrev pub invariant-rules : goal.invariant-rules
invariant-rules l = AllZip (IsNamed l.written l.reading l.made.origins.items) (take l.i l.written.rules.items) l.rules.items
