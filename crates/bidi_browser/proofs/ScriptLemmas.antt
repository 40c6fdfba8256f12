-- Where a script in hand runs.
use Rattle.std.proofs.Common.{◌≡◌, ◌∙◌, ℕ, Bool, true, false, List, [], Option, Some, None, Ok, refl, sym, ap}
use Rattle.std.specs.Prelude.{find, option_map}
use Rattle.std.specs.Borrow.{Bor}
use Rattle.bidi_params.specs.declared.error_code.ErrorCode.TheVariants.{NoSuchFrame}
use Rattle.bidi_contexts.specs.declared.context.Context.{Context}
use Rattle.bidi_contexts.specs.Acts.{Act}
use Rattle.bidi_handles.specs.Checks.{found}
use Rattle.std.specs.Prelude.{map, filter, bytes_eq, ◌∷◌, Vec}
use Rattle.std.specs.declared.alloc.Global.{Global}
use Rattle.std.proofs.Common.{subst}
use Rattle.bidi_methods.specs.declared.result_data.ResultData.{ResultData}
use Rattle.bidi_handles.specs.declared.id.IdKind.TheVariants as kind
use Rattle.bidi_browser.specs.declared.plan.Plan.{Plan}
use Rattle.bidi_browser.specs.declared.plan.Edit.TheVariants.{Disown}
use Rattle.bidi_contexts.specs.Acts.{Disowned, given}
use Rattle.bidi_contexts.specs.Actions.{Action, ContextTarget, is_asked}
use Rattle.std.specs.Prelude.{◌&&◌, nat_lt, length}
use Rattle.std.proofs.Common.{ap₂}
use Rattle.bidi_tree.specs.Node.{Node}
use Rattle.bidi_browser.specs.declared.plan.Edit.TheVariants.{Keep}
use Rattle.bidi_contexts.specs.Acts.{Ran, Ending, Returned, Threw, next_number}
use Rattle.bidi_browser.specs.Occurs.{script_result}
use Rattle.bidi_contexts.specs.Outcome.{ending_outcome}
use Rattle.bidi_browser.specs.Plans.{EditMakes}
use Rattle.bidi_contexts.specs.Realms.{value_of}
use Rattle.bidi_browser.specs.Runs.{result_told}
use Rattle.bidi_values.specs.Cut.{cut_to}
use Rattle.bidi_handles.specs.Values.{takes_handle, shown_as}
use Rattle.bidi_contexts.specs.Contexts.{contexts, is_alive, up_to}
use Rattle.bidi_browser.specs.Occurs.{Replies, occurs}
use Rattle.bidi_contexts.specs.Outcome.{context_named, realm_targeted, outcome}
use Rattle.bidi_browser.specs.Plans.{Plans}
use Rattle.bidi_browser.specs.View.{result_tree}
use Rattle.bidi_browser.specs.declared.command_result.CommandResult.TheVariants.{Data}
use Rattle.bidi_contexts.proofs.AcceptedLemmas.{find-passes, named-alive}
use Rattle.bidi_contexts.specs.ContextRows as rows
use Rattle.bidi_contexts.specs.ContextRows.{row_at}
use Rattle.bidi_browser.specs.Found.{IsTargeted}
use Rattle.bidi_handles.specs.Ids.{has_id}
use Rattle.bidi_contexts.specs.Realms.{realm_of, realms, handles_of}
use Rattle.bidi_contexts.proofs.RowLemmas.{realm-found}

-- the context in hand whose realm passes, where there is one
pub realm-targeted : (past : List Act) (p : ℕ → Bool) (o : Option (Bor Context))
    → option_map (λ c. rows.row_of c.now) o ≡ option_map (row_at past) (find (λ c. p (realm_of past c)) (contexts past))
    → IsTargeted (found o NoSuchFrame) past (found (find p (realms past)) NoSuchFrame)
realm-targeted past p o stands =
    by o (find (λ c. p (realm_of past c)) (contexts past)) stands (realm-found past p)
    (λ c e. find-passes (λ c. p (realm_of past c)) (is_alive past) (up_to (given past kind.Context)) c e)
  where
    by : (o : Option (Bor Context)) (q : Option ℕ) → option_map (λ c. rows.row_of c.now) o ≡ option_map (row_at past) q
        → find p (realms past) ≡ option_map (realm_of past) q → ((c : ℕ) → q ≡ Some c → is_alive past c ≡ true)
        → IsTargeted (found o NoSuchFrame) past (found (find p (realms past)) NoSuchFrame)
    by None None e is alive = ap (λ r. found r NoSuchFrame) is
    by None (Some c) e is alive = absurd (cc)
    by (Some x) None e is alive = absurd (cc)
    by (Some x) (Some c) e is alive = (c, alive c refl, ap (λ r. found r NoSuchFrame) is, cc)

-- a context that is named is targeted, where no sandbox is meant
pub context-targeted : (past : List Act) (id sandbox : List ℕ) (c : ℕ) → context_named past id ≡ Ok c
    → bytes_eq sandbox [] ≡ true → (is_alive past c ≡ true) × (realm_targeted past (ContextTarget id sandbox) ≡ Ok (realm_of past c))
context-targeted past id sandbox c named empty = (named-alive past id c named, rw (named, empty) refl)

-- what plans that handles are held no longer
pub disown-plans : (plan : Plan) (past : List Act) (moment : ℕ) (action : Action) (c : ℕ) (ids : List (List ℕ)) (r : ResultData) (number : ℕ)
    (numbers : Vec ℕ Global) → is_asked action ≡ true → is_alive past c ≡ true → outcome past action ≡ Ok (Disowned (realm_of past c) ids)
    → Replies (result_tree (Data r)) ∷ [] ≡ occurs past moment action (Disowned (realm_of past c) ids)
    → number ≡ c → numbers.items ≡ map (λ h. h.0) (filter (λ h. has_id ids h.0) (handles_of past (realm_of past c)))
    → plan.before.items ≡ [] → plan.result ≡ Some (Data r) → plan.after.items ≡ [] → plan.change.edit ≡ Disown number numbers → Plans (Ok plan) past moment action
disown-plans plan past moment action c ids r number numbers asked alive checked told at gone before reply after change = (
  Disowned (realm_of past c) ids,
  checked,
  rw (before, reply, after) told,
  rw (reply, asked) refl,
  rw change (
    ids,
    subst (λ k. is_alive past k ≡ true) (sym at) alive,
    ap (λ k. Disowned (realm_of past k) ids) (sym at),
    gone ∙ ap (λ k. map (λ h. h.0) (filter (λ h. has_id ids h.0) (handles_of past (realm_of past k)))) (sym at),
  ),
  λ unasked. after,
)

-- ---- scripts that ended

-- a script whose value gets no handle
pub ran-unheld : (past : List Act) (c : ℕ) (owned : Bool) (depth : Option ℕ) (ending : Ending) (realm : ℕ) (t : Node)
    → (owned && takes_handle (value_of ending)) ≡ false → realm ≡ realm_of past c → t ≡ result_told realm ending (cut_to depth (value_of ending))
    → (let r = realm_of past c in let held = owned && takes_handle (value_of ending) in
    (ending_outcome past r owned ending ≡ Ok (Ran r ending held)) × (t ≡ script_result past r depth ending held) × EditMakes Keep past (Ran r ending held))
ran-unheld past c owned depth (Returned v) realm t none at told = rw none (refl, told ∙ ap (λ r. result_told r (Returned v) (cut_to depth v)) at, refl)
ran-unheld past c owned depth (Threw v) realm t none at told = rw none (refl, told ∙ ap (λ r. result_told r (Threw v) (cut_to depth v)) at, refl)

-- and one whose value gets one
pub ran-held : (past : List Act) (c : ℕ) (owned : Bool) (depth : Option ℕ) (ending : Ending) (realm : ℕ) (t : Node) (n : ℕ) (seen : ℕ × Node) (number : ℕ)
    → (owned && takes_handle (value_of ending)) ≡ true
    → nat_lt (length (handles_of past (realm_of past c))) 1000 ≡ true → n ≡ next_number past kind.Handle
    → is_alive past c ≡ true → realm ≡ realm_of past c
    → number ≡ c → t ≡ result_told realm ending (shown_as (Some n) (cut_to depth (value_of ending))) → seen ≡ (n, value_of ending)
    → (let r = realm_of past c in let held = owned && takes_handle (value_of ending) in
    (ending_outcome past r owned ending ≡ Ok (Ran r ending held)) × (t ≡ script_result past r depth ending held)
    × ((e : Ending) × (is_alive past number ≡ true)
    × (Ran r ending held ≡ Ran (realm_of past number) e true) × (seen ≡ (next_number past kind.Handle, value_of e))))
ran-held past c owned depth (Returned v) realm t n seen number some room next alive at is told holds =
    rw (some, room) (
      refl,
      told ∙ ap₂ (λ r k. result_told r (Returned v) (shown_as (Some k) (cut_to depth v))) at next,
      (
        Returned v,
        subst (λ k. is_alive past k ≡ true) (sym is) alive,
        ap (λ k. Ran (realm_of past k) (Returned v) true) (sym is),
        holds ∙ ap (λ k. (k, v)) next,
      ),
    )
ran-held past c owned depth (Threw v) realm t n seen number some room next alive at is told holds =
    rw (some, room) (
      refl,
      told ∙ ap₂ (λ r k. result_told r (Threw v) (shown_as (Some k) (cut_to depth v))) at next,
      (Threw v, subst (λ k. is_alive past k ≡ true) (sym is) alive, ap (λ k. Ran (realm_of past k) (Threw v) true) (sym is), holds ∙ ap (λ k. (k, v)) next),
    )
