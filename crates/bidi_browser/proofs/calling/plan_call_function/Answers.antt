use Rattle.std.proofs.Common.{◌∙◌, [], ◌∷◌, string_bytes, refl, sym, ap}
use Rattle.std.specs.Prelude.{option_map, ◌&&◌}
use Rattle.bidi_browser.specs.declared.command_result.CommandResult.TheVariants.{Text}
use Rattle.bidi_contexts.specs.Acts.{Ran}
use Rattle.bidi_browser.specs.Asked.{arguments_asked, call_function_asked, is_owned, target_of}
use Rattle.bidi_handles.specs.Checks.{◌>>=◌}
use Rattle.bidi_browser.specs.Occurs.{Replies, script_result}
use Rattle.bidi_contexts.specs.Outcome.{ending_outcome}
use Rattle.bidi_contexts.specs.Realms.{realm_of, value_of}
use Rattle.bidi_browser.specs.Runs.{call_ending}
use Rattle.bidi_browser.specs.TableInHand.{ending_seen}
use Rattle.bidi_handles.specs.Values.{takes_handle}
use Rattle.bidi_handles.specs.ValuesInHand.{local_tree}
use Rattle.bidi_browser.proofs.CallLemmas.{call-outcome, gives-code, run-code, refused-plans, answered-plans}
use Rattle.bidi_browser.proofs.calling.plan_call_function.Goals as goal

pub returns-in_err-ending-clause-plans : goal.returns-in_err-ending-clause-plans
returns-in_err-ending-clause-plans c = λ past moment stands ids.
    let p = c.args.params.now in
    let at = c.in_ok-context.ensures past stands.contexts in
    let owned = is_owned p.result_ownership in
    let ends = call_ending past (realm_of past at.0) (string_bytes p.function_declaration) (arguments_asked p) (option_map local_tree p.this) in
    refused-plans c.from_residual-in_err-ending.result c.in_err-ending.field-0.0 past moment (call_function_asked p) c.from_residual-in_err-ending.ensures.1
    (λ code is. call-outcome past (string_bytes p.function_declaration) (target_of p.target) (arguments_asked p)
    (option_map local_tree p.this) owned (realm_of past at.0) at.2
    ∙ ap (λ r. r >>= λ ending. ending_outcome past (realm_of past at.0) owned ending)
    (gives-code ending_seen c.in_err-ending.field-0.0 ends (c.in_err-ending.ensures past at.0 stands at.3) code is))

pub returns-in_err-result-clause-plans : goal.returns-in_err-result-clause-plans
returns-in_err-result-clause-plans c = λ past moment stands ids.
    let p = c.args.params.now in
    let at = c.in_ok-context.ensures past stands.contexts in
    let owned = is_owned p.result_ownership in
    let ended = c.in_ok-ending.ensures past at.0 stands at.3 in
    refused-plans c.from_residual-in_err-result.result c.in_err-result.field-0.0 past moment (call_function_asked p) c.from_residual-in_err-result.ensures.1
    (λ code is. call-outcome past (string_bytes p.function_declaration) (target_of p.target) (arguments_asked p)
    (option_map local_tree p.this) owned (realm_of past at.0) at.2
    ∙ (ap (λ r. r >>= λ ending. ending_outcome past (realm_of past at.0) owned ending) ended
    ∙ (ap (λ b. ending_outcome past (realm_of past at.0) b (ending_seen c.in_ok-ending.ending)) (sym c.is_owned-owned.ensures)
    ∙ run-code c.in_err-result.field-0.0 past at.0 c.is_owned-owned.result (option_map (λ d. d.value) c.object_depth-depth.result) (ending_seen c.in_ok-ending.ending)
    (c.in_err-result.ensures.ran past at.0 stands ids at.1 at.3) code is)))

pub returns-clause-plans : goal.returns-clause-plans
returns-clause-plans c = λ past moment stands ids.
    let p = c.args.params.now in
    let at = c.in_ok-context.ensures past stands.contexts in
    let owned = is_owned p.result_ownership in
    let ended = c.in_ok-ending.ensures past at.0 stands at.3 in
    let ending = ending_seen c.in_ok-ending.ending in
    let ran = c.in_ok-result.ensures.ran past at.0 stands ids at.1 at.3 in
    let act = Ran (realm_of past at.0) ending (c.is_owned-owned.result && takes_handle (value_of ending)) in
    answered-plans c.answered.result past moment (call_function_asked p) act (Text c.in_ok-result.field-0.result) c.in_ok-result.field-0.edit refl
    (call-outcome past (string_bytes p.function_declaration) (target_of p.target) (arguments_asked p) (option_map local_tree p.this)
    owned (realm_of past at.0) at.2
    ∙ (ap (λ r. r >>= λ e. ending_outcome past (realm_of past at.0) owned e) ended
    ∙ (ap (λ b. ending_outcome past (realm_of past at.0) b ending) (sym c.is_owned-owned.ensures) ∙ ran.0)))
    (ap (λ t. Replies t ∷ []) (ran.1 ∙ ap (λ d. script_result past (realm_of past at.0) d ending (c.is_owned-owned.result && takes_handle (value_of ending)))
    c.object_depth-depth.ensures)) c.answered.ensures.before c.answered.ensures.outcome c.answered.ensures.after c.answered.ensures.change ran.2
