-- The pasts that can be: lists of acts that the browser did, each at some action.
use Rattle.std.specs.Prelude.{◌≡◌, List, [], ◌∷◌, Ok}
use Rattle.bidi_contexts.specs.Acts.{Act}
use Rattle.bidi_contexts.specs.Actions.{Action}
use Rattle.bidi_contexts.specs.Outcome.{outcome}

-- Each act in the past is what the browser did at some action, after the acts before it.
abbrev pub AreAccepted : List Act → Type 0
AreAccepted [] = Unit {0}
AreAccepted (act ∷ past) = (action : Action) × (outcome past action ≡ Ok act) × AreAccepted past
