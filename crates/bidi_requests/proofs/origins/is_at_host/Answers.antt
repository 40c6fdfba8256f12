use Rattle.bidi_requests.specs.Origins.{IsPort}
use Rattle.bidi_requests.proofs.FrontLemmas.{behind-tests}
use Rattle.bidi_requests.proofs.origins.is_at_host.Goals as goal

pub returns-in-Some : goal.returns-in-Some
returns-in-Some c = behind-tests IsPort c.args.place.now c.args.host.now c.in-Some.port.now c.is_port.result c.in-Some.ensures c.is_port.ensures
