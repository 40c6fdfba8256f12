use Rattle.bidi_values.proofs.CutLemmas.{well_cut}
use Rattle.bidi_values.proofs.cut.Nested+RemotePlain+RemoteList+RemotePairs.cut.Goals as goal

pub returns-clause-well : goal.returns-clause-well
returns-clause-well c = well_cut c.args.depth.value c.args.self c.cut_value.result c.cut_value.ensures
