-- Parts of a map that no value can spoil.
use Rattle.std.specs.Prelude.{List, String}
use Rattle.std.specs.List.{AllByRecursion}
use Rattle.std.proofs.Common.{Global}
use Rattle.bidi_shape.proofs.PartLemmas.{each_well}

-- texts, each of which is well
pub texts_are_well : (ss : List (String Global)) → AllByRecursion (λ s. Unit {0}) ss
texts_are_well = each_well (λ s. tt)
