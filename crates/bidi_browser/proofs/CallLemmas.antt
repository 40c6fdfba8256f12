-- What a call of a function comes to.
use Rattle.std.proofs.Common.{◌≡◌, ◌∙◌, ℕ, Bool, true, List, [], ◌∷◌, Option, Some, None, Result, Ok, Err, refl, sym, ap, subst}
use Rattle.std.specs.Prelude.{slice_get, unwrap_or}
use Rattle.std.specs.Result.{IsErrAnd}
use Rattle.bidi_tree.specs.Node.{Node}
use Rattle.bidi_params.specs.declared.error_code.ErrorCode.{ErrorCode}
use Rattle.bidi_params.specs.declared.error_code.ErrorCode.TheVariants.{UnsupportedOperation}
use Rattle.bidi_handles.specs.declared.handle.Ending as declared_ending
use Rattle.bidi_browser.specs.declared.plan.Edit.{Edit}
use Rattle.bidi_browser.specs.declared.plan.Plan.{Plan}
use Rattle.bidi_handles.specs.declared.refusal.Refusal.{Refusal}
use Rattle.bidi_handles.specs.declared.refusal.Refusal.TheVariants.{Code, NoMemory}
use Rattle.bidi_contexts.specs.Acts.{Act, Ending, ScriptEffect, GivesBack}
use Rattle.bidi_contexts.specs.Actions.{Action, Target, is_asked}
use Rattle.bidi_handles.specs.Checks.{◌>>=◌, found}
use Rattle.bidi_browser.specs.Occurs.{Replies, occurs}
use Rattle.bidi_contexts.specs.Outcome.{call_outcome, ending_of, ending_outcome, outcome, realm_targeted, this_resolved, undefined}
use Rattle.bidi_browser.specs.Plans.{Plans, EditMakes}
use Rattle.bidi_contexts.specs.Realms.{held_value, realm_of, row_of}
use Rattle.bidi_handles.specs.Resolves.{Gives, Passes, this_argument}
use Rattle.bidi_browser.specs.Runs.{HasReturned, HasRun, IsEnding, call_ending}
use Rattle.bidi_browser.specs.TableInHand.{ending_seen}
use Rattle.bidi_handles.specs.Values.{arguments}
use Rattle.bidi_browser.specs.View.{result_tree}
use Rattle.bidi_browser.specs.declared.command_result.CommandResult.{CommandResult}

-- ---- how it ends

-- a row that gives an argument back ends in it
pub gives-ending : (r : Result declared_ending.Ending Refusal) (past : List Act) (script : List ℕ) (vs : List Node) (n : ℕ)
    → row_of past script ≡ Some (GivesBack n) → HasReturned r (unwrap_or (slice_get vs n) undefined) → IsEnding r past script vs
gives-ending (Ok ending) past script vs n row returned = (GivesBack n, row, returned)
gives-ending (Err (Code code)) past script vs n row returned = absurd returned
gives-ending (Err NoMemory) past script vs n row returned = tt

-- `this` in the realm
pub this-in : (past : List Act) (r : ℕ) (this : Option Node) → this_argument (held_value past r) this ≡ this_resolved past r this
this-in past r None = refl
this-in past r (Some value) = refl

pub call-ends : (result : Result declared_ending.Ending Refusal) (past : List Act) (r : ℕ) (declaration : List ℕ) (values vs : List Node)
    (this self : Option Node) → arguments (held_value past r) values ≡ Ok vs → this_argument (held_value past r) this ≡ Ok self
    → IsEnding result past declaration vs → Gives ending_seen result (call_ending past r declaration values this)
call-ends (Ok ending) past r declaration values vs this self passed own ends = rw (passed, sym (this-in past r this) ∙ own, ends.1) (ap Ok (sym ends.2))
call-ends (Err (Code code)) past r declaration values vs this self passed own ends = rw (passed, sym (this-in past r this) ∙ own, ends.0, ends.1) refl
call-ends (Err NoMemory) past r declaration values vs this self passed own ends = tt

pub arguments-refuse : (result : Result declared_ending.Ending Refusal) (e : Refusal) (past : List Act) (r : ℕ) (declaration : List ℕ)
    (values : List Node) (this : Option Node) → IsErrAnd result (λ f. f ≡ e)
    → ((code : ErrorCode) → e ≡ Code code → arguments (held_value past r) values ≡ Err code)
    → Gives ending_seen result (call_ending past r declaration values this)
arguments-refuse (Ok ending) e past r declaration values this is refused = absurd is
arguments-refuse (Err (Code code)) e past r declaration values this is refused = rw (refused code (sym is)) refl
arguments-refuse (Err NoMemory) e past r declaration values this is refused = tt

pub this-refuses : (result : Result declared_ending.Ending Refusal) (e : Refusal) (past : List Act) (r : ℕ) (declaration : List ℕ)
    (values vs : List Node) (this : Option Node) → arguments (held_value past r) values ≡ Ok vs → IsErrAnd result (λ f. f ≡ e)
    → ((code : ErrorCode) → e ≡ Code code → this_argument (held_value past r) this ≡ Err code)
    → Gives ending_seen result (call_ending past r declaration values this)
this-refuses (Ok ending) e past r declaration values vs this passed is refused = absurd is
this-refuses (Err (Code code)) e past r declaration values vs this passed is refused = rw (passed, sym (this-in past r this) ∙ refused code (sym is)) refl
this-refuses (Err NoMemory) e past r declaration values vs this passed is refused = tt

-- the code of what is refused
pub passes-code : {B : Type 0} (e : Refusal) (answer : Result B ErrorCode) → Passes (Err e) answer → (code : ErrorCode) → e ≡ Code code → answer ≡ Err code
passes-code e answer passes code is = subst (λ f. Passes (Err f) answer) is passes

pub gives-code : {A B : Type 0} (view : A → B) (e : Refusal) (answer : Result B ErrorCode)
    → Gives view (Err e) answer → (code : ErrorCode) → e ≡ Code code → answer ≡ Err code
gives-code view e answer gives code is = subst (λ f. Gives view (Err f) answer) is gives

pub run-code : (e : Refusal) (past : List Act) (c : ℕ) (owned : Bool) (depth : Option ℕ) (ending : Ending) → HasRun (Err e) past c owned depth ending
    → (code : ErrorCode) → e ≡ Code code → ending_outcome past (realm_of past c) owned ending ≡ Err code
run-code e past c owned depth ending has_run code is = subst (λ f. HasRun (Err f) past c owned depth ending) is has_run

-- ---- what is planned

-- a call is the realm, then how it ends, then the number of handles
pub call-outcome : (past : List Act) (declaration : List ℕ) (target : Target) (values : List Node) (this : Option Node) (owned : Bool) (r : ℕ)
    → realm_targeted past target ≡ Ok r
    → call_outcome past declaration target values this owned ≡ (call_ending past r declaration values this >>= λ ending. ending_outcome past r owned ending)
call-outcome past declaration target values this owned r at =
    rw at (by (arguments (held_value past r) values) (this_resolved past r this) (found (row_of past declaration) UnsupportedOperation))
  where
    by : (a : Result (List Node) ErrorCode) (s : Result (Option Node) ErrorCode) (o : Result ScriptEffect ErrorCode)
        → (a >>= λ vs. s >>= λ self. o >>= λ row. ending_outcome past r owned (ending_of row vs))
        ≡ ((a >>= λ vs. s >>= λ self. o >>= λ row. Ok (ending_of row vs)) >>= λ ending. ending_outcome past r owned ending)
    by (Ok vs) (Ok self) (Ok row) = refl
    by (Ok vs) (Ok self) (Err code) = refl
    by (Ok vs) (Err code) o = refl
    by (Err code) s o = refl

-- an action that is refused
pub refused-plans : (r : Result Plan Refusal) (e : Refusal) (past : List Act) (moment : ℕ) (action : Action)
    → IsErrAnd r (λ f. f ≡ e) → ((code : ErrorCode) → e ≡ Code code → outcome past action ≡ Err code) → Plans r past moment action
refused-plans (Ok plan) e past moment action is refused = absurd is
refused-plans (Err (Code code)) e past moment action is refused = refused code (sym is)
refused-plans (Err NoMemory) e past moment action is refused = tt

-- an action that is answered, and tells of no event
pub answered-plans : (plan : Plan) (past : List Act) (moment : ℕ) (action : Action) (act : Act) (r : CommandResult) (edit : Edit)
    → is_asked action ≡ true → outcome past action ≡ Ok act → Replies (result_tree r) ∷ [] ≡ occurs past moment action act
    → plan.before.items ≡ [] → plan.result ≡ Some r
    → plan.after.items ≡ [] → plan.change.edit ≡ edit → EditMakes edit past act → Plans (Ok plan) past moment action
answered-plans plan past moment action act r edit asked checked told before reply after change makes =
    (act, checked, rw (before, reply, after) told, rw (reply, asked) refl, rw change makes, λ unasked. after)
