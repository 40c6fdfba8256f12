use Rattle.bidi_requests.specs.Origins.{IsThisMachine}
use Rattle.bidi_requests.proofs.FrontLemmas.{behind-tests}
use Rattle.bidi_requests.proofs.origins.is_local_by.Goals as goal

pub returns-in-Some : goal.returns-in-Some
returns-in-Some c = behind-tests IsThisMachine c.args.origin.now c.args.scheme.now c.in-Some.place.now c.is_this_machine.result c.in-Some.ensures c.is_this_machine.ensures
