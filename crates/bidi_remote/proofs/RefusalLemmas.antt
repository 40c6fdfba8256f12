-- Why a step of a page has no effect: the code with which the browser refuses it.
use Rattle.std.proofs.Common.{◌≡◌, ◌<◌, ℕ, length, List, Option, Some, None, Result, Ok, Err, IfOk, sym, ap}
use Rattle.bidi_params.specs.declared.error_code.ErrorCode.{ErrorCode}
use Rattle.bidi_handles.specs.declared.refusal.Refusal.TheVariants.{Code}
use Rattle.bidi_browser.specs.declared.plan.Plan.{Plan}
use Rattle.bidi_contexts.specs.Acts.{Act}
use Rattle.bidi_contexts.specs.Actions.{Action}
use Rattle.bidi_contexts.specs.Outcome as browser
use Rattle.bidi_browser.specs.Plans.{Plans}
use Rattle.bidi_remote.specs.declared.remote_end.RemoteEnd.{RemoteEnd}
use Rattle.bidi_remote.specs.declared.state.State.{State}
use Rattle.bidi_sessions.specs.Step.{PageStep}
use Rattle.bidi_remote.specs.Machine.History.{Input, IsTakenAs}
use Rattle.bidi_remote.specs.Machine.Outcome.{deeds, page_refusal, refusal_in}
use Rattle.bidi_remote.specs.State.Stands.{AgreeWith, IsShort, StandsFor}
use Rattle.bidi_sessions.specs.Limits.{most_steps}

-- an action that is planned is not refused
pub planned_none : (plan : Plan) (past : List Act) (moment : ℕ) (action : Action) → Plans (Ok plan) past moment action
    → None ≡ refusal_in (browser.outcome past action)
planned_none plan past moment action (act, is, told, replied, made, quiet) = sym (ap refusal_in is)

-- an action without a plan is refused with the code
pub refused_code : (code : ErrorCode) (past : List Act) (moment : ℕ) (action : Action) → Plans (Err (Code code)) past moment action
    → Some code ≡ refusal_in (browser.outcome past action)
refused_code code past moment action is = sym (ap refusal_in is)

-- a step of a page is refused as the action that it is taken as
pub page_refused : {E : Type 0} (r : Result (Option ErrorCode) E) (page : PageStep) (state : State) (action : Action) → IsTakenAs page action
    → ((h : List Input) → IsShort h → AgreeWith state (deeds h) → IfOk r (λ code. code ≡ page_refusal (deeds h) action))
    → IfOk r (λ code. (a : Action) × IsTakenAs page a
    × ((h : List Input) → IsShort h → AgreeWith state (deeds h) → code ≡ page_refusal (deeds h) a))
page_refused (Err e) page state action is same = tt
page_refused (Ok code) page state action is same = (action, is, same)

-- the end refuses it as its state does
pub end_refused : {E : Type 0} (r : Result (Option ErrorCode) E) (page : PageStep) (end : RemoteEnd)
    → IfOk r (λ code. (a : Action) × IsTakenAs page a
    × ((h : List Input) → IsShort h → AgreeWith end.state (deeds h) → code ≡ page_refusal (deeds h) a))
    → IfOk r (λ code. (a : Action) × IsTakenAs page a
    × ((h : List Input) → StandsFor end h → length h < most_steps → code ≡ page_refusal (deeds h) a))
end_refused (Err e) page end is = tt
end_refused (Ok code) page end (a, taken, same) = (a, taken, λ h stands short. same h short stands.state)
