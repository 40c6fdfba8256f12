use Rattle.bidi_shape.specs.WordLaws.{value_named-all}
use Rattle.bidi_shape.proofs.words.Named.named.Goals as goal

pub loop-value-init : goal.loop-value-init
loop-value-init g c =
    let words = g.Self.Named.words in
    value_named-all words.text_of words.first words.rest c.all-value-items.result.now c.args.text.now c.all-value-items.ensures
