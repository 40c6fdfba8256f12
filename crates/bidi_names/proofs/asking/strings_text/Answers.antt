use Rattle.std.proofs.Common.{sym, subst, take}
use Rattle.json.specs.Tree.{ItemsHaveNumbers}
use Rattle.json.specs.Value.{items_of}
use Rattle.bidi_names.specs.View.{texts_of}
use Rattle.bidi_names.proofs.AskLemmas.{strings-numbers}
use Rattle.bidi_names.proofs.asking.strings_text.Goals as goal

pub array_text-requires : goal.array_text-requires
array_text-requires c =
    subst (λ js. ItemsHaveNumbers (items_of js)) (sym c.loop-text.invariant) (strings-numbers (texts_of (take c.loop-text.text-index c.args.texts.now)))
