-- The meaning of a message in short.
use Rattle.std.proofs.Common.{◌≡◌, ◌∙◌, Option, Some, None, refl, sym, subst}
use Rattle.std.specs.Prelude.{MatchOption, ⊤}
use Rattle.bidi_tree.specs.declared.number.JsUint.{JsUint}
use Rattle.bidi_methods.specs.declared.method.Method.{Method}
use Rattle.bidi_params.specs.declared.error_code.ErrorCode.{ErrorCode}
use Rattle.bidi_local.specs.Pending.{Pending, method_of}
use Rattle.bidi_local.specs.Received as means
use Rattle.bidi_local.specs.Received.{IsSettledBy}
use Rattle.bidi_local.specs.View.{meaning_of}
use Rattle.bidi_local.specs.declared.received.Received.{Received}
use Rattle.bidi_local.specs.declared.received.Received.TheVariants as in_hand
use Rattle.bidi_local.specs.declared.outcome.Outcome as outcome
use Rattle.bidi_local.specs.declared.outcome.Outcome.TheVariants.{BadResult, Refusal}
use Rattle.bidi_local.specs.Outcome.{IsOutcomeOf}

-- if the method is known, the outcome has it
module _ (waiting : Pending) (id : JsUint) (r : outcome.Outcome) where
  bad_by : (o : Option Method) → IsSettledBy waiting (means.BadResult id.value) o → MatchOption o ⊤ (λ m. r ≡ BadResult id m)
      → IsOutcomeOf waiting (means.BadResult id.value) r
  bad_by (Some m) (n, e, waits) h = (id, m, h, refl, waits ∙ sym e)
  bad_by None (n, e, waits) h = absurd cc

  refused_by : (code : ErrorCode) (o : Option Method) → IsSettledBy waiting (means.Refusal id.value code) o → MatchOption o ⊤ (λ m. r ≡ Refusal id m code)
      → IsOutcomeOf waiting (means.Refusal id.value code) r
  refused_by code (Some m) (n, e, waits) h = (id, m, h, refl, waits ∙ sym e)
  refused_by code None (n, e, waits) h = absurd cc

  pub bad_result_told : (v : Received) (o : Option Method) → v ≡ in_hand.BadResult id → MatchOption o ⊤ (λ m. r ≡ BadResult id m)
      → IsSettledBy waiting (meaning_of v) o → IsOutcomeOf waiting (meaning_of v) r
  bad_result_told v o is h =
      subst (λ (x : Received). IsSettledBy waiting (meaning_of x) o → IsOutcomeOf waiting (meaning_of x) r) (sym is) (λ s. bad_by o s h)

  pub refusal_told : (code : ErrorCode) (v : Received) (o : Option Method) → v ≡ in_hand.Refusal id code → MatchOption o ⊤ (λ m. r ≡ Refusal id m code)
      → IsSettledBy waiting (meaning_of v) o → IsOutcomeOf waiting (meaning_of v) r
  refusal_told code v o is h =
      subst (λ (x : Received). IsSettledBy waiting (meaning_of x) o → IsOutcomeOf waiting (meaning_of x) r) (sym is) (λ s. refused_by code o s h)
