-- The meaning of a message in short, without the result or the event that it carries. Defined by this project.
use Rattle.std.specs.Prelude.{◌≡◌, Some}
use Rattle.bidi_tree.specs.declared.number.JsUint.{JsUint}
use Rattle.bidi_methods.specs.declared.method.Method.{Method}
use Rattle.bidi_local.specs.Pending.{Pending, method_of}
use Rattle.bidi_local.specs.Received as means
use Rattle.bidi_local.specs.Received.{Meaning}
use Rattle.bidi_local.specs.declared.outcome.Outcome as in_hand
use Rattle.bidi_local.specs.declared.outcome.Outcome.TheVariants.{Fine, BadResult, Refusal, Stray, NoMessage}

-- the outcome is the meaning in short; a bad result and a refusal have the id and the method of the pending command
abbrev pub IsOutcomeOf : Pending → Meaning → in_hand.Outcome → Type 0
IsOutcomeOf waiting (means.Answer id method result) o = o ≡ Fine
IsOutcomeOf waiting (means.Event event params) o = o ≡ Fine
-- the command that is pending under this id has this method
IsOutcomeOf waiting (means.BadResult id) o =
    (n : JsUint) × (method : Method) × (o ≡ BadResult n method) × (n.value ≡ id) × (method_of waiting id ≡ Some method)
IsOutcomeOf waiting (means.Refusal id code) o =
    (n : JsUint) × (method : Method) × (o ≡ Refusal n method code) × (n.value ≡ id) × (method_of waiting id ≡ Some method)
IsOutcomeOf waiting means.Stray o = o ≡ Stray
IsOutcomeOf waiting means.NotInProfile o = o ≡ NoMessage
IsOutcomeOf waiting means.NotJson o = o ≡ NoMessage
