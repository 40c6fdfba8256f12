use Rattle.bidi_values.specs.contracts.local_value.LocalPlainShape.TheImpl.{ghosts}
use Rattle.bidi_handles.proofs.ArgumentLemmas.{handle-given}
use Rattle.bidi_handles.proofs.ResolveLemmas.{local-plain}
use Rattle.bidi_handles.proofs.resolving.held_whole.Goals as goal

pub returns-in-Plain : goal.returns-in-Plain
returns-in-Plain c =
    handle-given c.args.given.now c.held_plain.result (ghosts.shape.tree_of c.in-Plain.plain)
    (local-plain c.args.given.now.value.now c.in-Plain.plain c.in-Plain.is) c.held_plain.ensures
