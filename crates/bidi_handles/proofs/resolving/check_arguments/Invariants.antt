use Rattle.bidi_handles.specs.Handles.{values_in}
use Rattle.bidi_handles.proofs.ArgumentLemmas.{IsFront}
use Rattle.bidi_handles.proofs.resolving.check_arguments.Given as goal

abbrev pub invariant-loop-value : goal.invariant-loop-value
invariant-loop-value l = IsFront (values_in l.handles) l.values l.all.items l.value-index
