use Rattle.bidi_loader.proofs.GroupLemmas.{maybe_is}
use Rattle.bidi_loader.proofs.lists.maybe.Goals as goal

pub returns-in-Optional : goal.returns-in-Optional
returns-in-Optional c = maybe_is c.or_none.result c.args.lists c.args.occurs c.in-Optional.is c.or_none.ensures
