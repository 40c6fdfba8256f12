use Rattle.bidi_local.proofs.MeaningLemmas.{event_means}
use Rattle.bidi_local.proofs.receiving.receive_event.Goals as goal

pub returns-clause-means : goal.returns-clause-means
returns-clause-means c = λ waiting. event_means waiting c.args.event c.requires
