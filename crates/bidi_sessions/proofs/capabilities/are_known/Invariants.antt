use Rattle.std.proofs.Common.{◌≡◌, map, drop}
use Rattle.std.specs.List.{list_all, AllByRecursion}
use Rattle.bidi_params.specs.contracts.session.capabilities.CapabilityRequestShape.TheImpl.{ghosts}
use Rattle.bidi_sessions.specs.Capabilities.{is_known}
use Rattle.bidi_sessions.proofs.CapabilityLemmas.{asked}
use Rattle.bidi_sessions.proofs.capabilities.are_known.Given as goal

abbrev pub invariant-loop-choice : goal.invariant-loop-choice
invariant-loop-choice l =
    let test = list_all is_known in
    let left = drop l.choice-index l.choices in
    AllByRecursion ghosts.shape.well left × (list_all test (map asked l.choices) ≡ list_all test (map asked left))
