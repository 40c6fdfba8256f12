use Rattle.std.proofs.Common.{◌≡◌, true, map, drop}
use Rattle.std.specs.List.{list_all, list_any, AllByRecursion}
use Rattle.bidi_params.specs.contracts.session.capabilities.CapabilityRequestShape.TheImpl.{ghosts}
use Rattle.bidi_sessions.specs.Capabilities.{is_known, is_match}
use Rattle.bidi_sessions.proofs.CapabilityLemmas.{asked, asked_if_any}
use Rattle.bidi_sessions.proofs.capabilities.is_any_match.Given as goal

abbrev pub invariant-loop-choice : goal.invariant-loop-choice
invariant-loop-choice l =
    let test = is_match (asked_if_any l.always) in
    let left = drop l.choice-index l.choices in
    AllByRecursion ghosts.shape.well left
    × (list_all (list_all is_known) (map asked left) ≡ true) × (list_any test (map asked l.choices) ≡ list_any test (map asked left))
