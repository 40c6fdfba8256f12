use Rattle.bidi_handles.specs.Handles.{values_in}
use Rattle.bidi_handles.proofs.ResolveLemmas.{shared-refused}
use Rattle.bidi_handles.proofs.resolving.referred.Goals as goal

pub returns-in-Shared : goal.returns-in-Shared
returns-in-Shared c = shared-refused (values_in c.args.handles.now) c.args.reference.now c.in-Shared.field-0 c.in-Shared.is
