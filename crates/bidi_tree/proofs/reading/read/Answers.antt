use Rattle.std.proofs.Common.{Some, sym, ap, ◌∙◌}
use Rattle.bidi_tree.specs.View.{node}
use Rattle.bidi_tree.proofs.JsonLemmas.{in_limit}
use Rattle.bidi_tree.proofs.SoundLemmas.{IsSound-tree_of}
use Rattle.bidi_tree.proofs.reading.read.Goals as goal

pub returns-in-Ok-clause-sound : goal.returns-in-Ok-clause-sound
returns-in-Ok-clause-sound c =
    let t = c.in_ok-own-in-Ok in
    let text = c.args.text.now in
    IsSound-tree_of text (node t.field-0) (in_limit c.args.limit text (node t.field-0) (c.in-Ok.ensures.ok ∙ ap Some (sym t.ensures)))
