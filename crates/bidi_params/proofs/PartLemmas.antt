-- A part of a map that no value can spoil.
use Rattle.std.specs.Prelude.{Option, String}
use Rattle.std.proofs.Common.{Global}
use Rattle.bidi_shape.specs.Term.{text}
use Rattle.bidi_shape.specs.ChoiceLaws.{NullableWell}
use Rattle.bidi_shape.proofs.PartLemmas.{text_or_null_well}

-- a text, or null
pub text_or_null : (o : Option (String Global)) → NullableWell (λ s. Unit {0}) text o
text_or_null = text_or_null_well (λ s. tt)
