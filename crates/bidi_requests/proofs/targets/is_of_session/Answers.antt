use Rattle.std.proofs.Common.{rules, ◌≡◌, codes, false}
use Rattle.bidi_requests.specs.Targets.{has_slash}
use Rattle.bidi_requests.proofs.FrontLemmas.{behind-tests}
use Rattle.bidi_requests.proofs.targets.is_of_session.Goals as goal

pub returns-in-Some : goal.returns-in-Some
returns-in-Some c = behind-tests (λ id. has_slash id ≡ false) c.args.resource.now (codes "/session/") c.in-Some.id.now _ c.in-Some.ensures (search rules)
