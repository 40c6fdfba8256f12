use Rattle.bidi_values.proofs.WellLemmas.{remote-well}
use Rattle.bidi_handles.proofs.resolving.copy_held.Goals as goal

pub copy-requires : goal.copy-requires
copy-requires c = remote-well c.deref.result.now.value c.deref.result.now.few
