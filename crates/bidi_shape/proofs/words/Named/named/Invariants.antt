use Rattle.std.proofs.Common.{◌≡◌, drop}
use Rattle.bidi_shape.specs.WordLaws.{value_named, value_among}
use Rattle.bidi_shape.proofs.words.Named.named.Given as goal

abbrev pub invariant-loop-value : goal.invariant-loop-value
invariant-loop-value g l =
    let words = g.Self.Named.words in
    value_named words.first words.rest l.text ≡ value_among words.text_of (drop l.value-index l.value-items) l.text
