-- The methods of commands, as strings, and the params and the result of each. After WebDriver BiDi, "Protocol".
use Rattle.std.specs.Prelude.{◌≡◌, ℕ, List, [], ◌∷◌, Some, codes, map, refl}
use Rattle.bidi_params.specs.contracts.base.EmptyParamsShape.TheImpl as none
use Rattle.bidi_params.specs.contracts.base.EmptyResultShape.TheImpl as nothing
use Rattle.bidi_params.specs.contracts.session.status.StatusResultShape.TheImpl as status_told
use Rattle.bidi_params.specs.contracts.session.capabilities.NewParametersShape.TheImpl as new
use Rattle.bidi_params.specs.contracts.session.capabilities.NewResultShape.TheImpl as new_told
use Rattle.bidi_params.specs.contracts.session.subscribe.SubscribeParametersShape.TheImpl as subscribe
use Rattle.bidi_params.specs.contracts.session.subscribe.SubscribeResultShape.TheImpl as subscribe_told
use Rattle.bidi_params.specs.contracts.session.subscribe.UnsubscribeParametersShape.TheImpl as unsubscribe
use Rattle.bidi_params.specs.contracts.browsing_context.create.ActivateParametersShape.TheImpl as activate
use Rattle.bidi_params.specs.contracts.browsing_context.create.CloseParametersShape.TheImpl as close
use Rattle.bidi_params.specs.contracts.browsing_context.create.CreateParametersShape.TheImpl as create
use Rattle.bidi_params.specs.contracts.browsing_context.create.CreateResultShape.TheImpl as create_told
use Rattle.bidi_params.specs.contracts.browsing_context.get_tree.GetTreeParametersShape.TheImpl as get_tree
use Rattle.bidi_params.specs.contracts.browsing_context.get_tree.GetTreeResultShape.TheImpl as get_tree_told
use Rattle.bidi_params.specs.contracts.browsing_context.navigate.NavigateParametersShape.TheImpl as navigate
use Rattle.bidi_params.specs.contracts.browsing_context.navigate.ReloadParametersShape.TheImpl as reload
use Rattle.bidi_params.specs.contracts.browsing_context.navigate.TraverseHistoryParametersShape.TheImpl as traverse
use Rattle.bidi_params.specs.contracts.browsing_context.navigate.NavigateResultShape.TheImpl as navigate_told
use Rattle.bidi_scripts.specs.contracts.evaluate.EvaluateParametersShape.TheImpl as evaluate
use Rattle.bidi_scripts.specs.contracts.evaluate_result.EvaluateResultShape.TheImpl as script_told
use Rattle.bidi_scripts.specs.contracts.call_function.CallFunctionParametersShape.TheImpl as call_function
use Rattle.bidi_scripts.specs.contracts.call_function.DisownParametersShape.TheImpl as disown
use Rattle.bidi_scripts.specs.contracts.realms.GetRealmsParametersShape.TheImpl as get_realms
use Rattle.bidi_scripts.specs.contracts.realms.GetRealmsResultShape.TheImpl as get_realms_told
use Rattle.bidi_params.specs.contracts.browser.UserContextInfoShape.TheImpl as user_context_told
use Rattle.bidi_params.specs.contracts.browser.GetUserContextsResultShape.TheImpl as user_contexts_told
use Rattle.bidi_params.specs.contracts.browser.RemoveUserContextParametersShape.TheImpl as remove_user_context
use Rattle.bidi_shape.specs.Name as rule
use Rattle.bidi_shape.specs.Name.{Name}
use Rattle.bidi_shape.specs.Profile.{session_status_row, further_commands}
use Rattle.bidi_shape.specs.WordLaws.{Word, Words, word, one_of, value_named}
use Rattle.bidi_methods.specs.Payload.{Part, part}
use Rattle.bidi_methods.specs.declared.method.Method.{Method}
use Rattle.bidi_methods.specs.declared.method.Method.TheVariants.{SessionStatus, SessionNew, SessionEnd, SessionSubscribe}
use Rattle.bidi_methods.specs.declared.method.Method.TheVariants.{SessionUnsubscribe, BrowsingContextActivate, BrowsingContextClose}
use Rattle.bidi_methods.specs.declared.method.Method.TheVariants.{BrowsingContextCreate, BrowsingContextGetTree}
use Rattle.bidi_methods.specs.declared.method.Method.TheVariants.{BrowsingContextNavigate, BrowsingContextReload}
use Rattle.bidi_methods.specs.declared.method.Method.TheVariants.{BrowsingContextTraverseHistory, ScriptEvaluate, ScriptCallFunction}
use Rattle.bidi_methods.specs.declared.method.Method.TheVariants.{ScriptDisown, ScriptGetRealms, BrowserCreateUserContext}
use Rattle.bidi_methods.specs.declared.method.Method.TheVariants.{BrowserGetUserContexts, BrowserRemoveUserContext}

-- the params of commands that have none, and the results of commands that return nothing, that navigate, or that run a script
abbrev nothing_asked : Part
nothing_asked = part rule.empty_params none.ghosts.shape refl refl

abbrev nothing_given : Part
nothing_given = part rule.empty_result nothing.ghosts.shape refl refl

abbrev navigation_given : Part
navigation_given = part rule.navigate_result navigate_told.ghosts.shape refl refl

abbrev script_given : Part
script_given = part rule.evaluate_result script_told.ghosts.shape refl refl

-- the string of a method
-- example: `session.status`
abbrev pub method_text : Method → List ℕ
method_text SessionStatus = codes "session.status"
method_text SessionNew = codes "session.new"
method_text SessionEnd = codes "session.end"
method_text SessionSubscribe = codes "session.subscribe"
method_text SessionUnsubscribe = codes "session.unsubscribe"
method_text BrowsingContextActivate = codes "browsingContext.activate"
method_text BrowsingContextClose = codes "browsingContext.close"
method_text BrowsingContextCreate = codes "browsingContext.create"
method_text BrowsingContextGetTree = codes "browsingContext.getTree"
method_text BrowsingContextNavigate = codes "browsingContext.navigate"
method_text BrowsingContextReload = codes "browsingContext.reload"
method_text BrowsingContextTraverseHistory = codes "browsingContext.traverseHistory"
method_text ScriptEvaluate = codes "script.evaluate"
method_text ScriptCallFunction = codes "script.callFunction"
method_text ScriptDisown = codes "script.disown"
method_text ScriptGetRealms = codes "script.getRealms"
method_text BrowserCreateUserContext = codes "browser.createUserContext"
method_text BrowserGetUserContexts = codes "browser.getUserContexts"
method_text BrowserRemoveUserContext = codes "browser.removeUserContext"

-- the params and the result of a method's commands
pub record MethodRow : Type 1 where
  pub params : Part
  pub result : Part

abbrev row : Part → Part → MethodRow
row p r = record { params = p; result = r }

-- the params and the result of each method: their types, rules and shapes
abbrev pub method_row : Method → MethodRow
method_row SessionStatus = row nothing_asked (part rule.status_result status_told.ghosts.shape refl refl)
method_row SessionNew =
    row (part rule.new_parameters new.ghosts.shape refl refl) (part rule.new_result new_told.ghosts.shape refl refl)
method_row SessionEnd = row nothing_asked nothing_given
method_row SessionSubscribe =
    row (part rule.subscribe_parameters subscribe.ghosts.shape refl refl)
    (part rule.subscribe_result subscribe_told.ghosts.shape refl refl)
method_row SessionUnsubscribe = row (part rule.unsubscribe_parameters unsubscribe.ghosts.shape refl refl) nothing_given
method_row BrowsingContextActivate = row (part rule.activate_parameters activate.ghosts.shape refl refl) nothing_given
method_row BrowsingContextClose = row (part rule.close_parameters close.ghosts.shape refl refl) nothing_given
method_row BrowsingContextCreate =
    row (part rule.create_parameters create.ghosts.shape refl refl)
    (part rule.create_result create_told.ghosts.shape refl refl)
method_row BrowsingContextGetTree =
    row (part rule.get_tree_parameters get_tree.ghosts.shape refl refl)
    (part rule.get_tree_result get_tree_told.ghosts.shape refl refl)
method_row BrowsingContextNavigate = row (part rule.navigate_parameters navigate.ghosts.shape refl refl) navigation_given
method_row BrowsingContextReload = row (part rule.reload_parameters reload.ghosts.shape refl refl) navigation_given
method_row BrowsingContextTraverseHistory =
    row (part rule.traverse_history_parameters traverse.ghosts.shape refl refl) nothing_given
method_row ScriptEvaluate = row (part rule.evaluate_parameters evaluate.ghosts.shape refl refl) script_given
method_row ScriptCallFunction = row (part rule.call_function_parameters call_function.ghosts.shape refl refl) script_given
method_row ScriptDisown = row (part rule.disown_parameters disown.ghosts.shape refl refl) nothing_given
method_row ScriptGetRealms =
    row (part rule.get_realms_parameters get_realms.ghosts.shape refl refl)
    (part rule.get_realms_result get_realms_told.ghosts.shape refl refl)
method_row BrowserCreateUserContext = row nothing_asked (part rule.user_context_info user_context_told.ghosts.shape refl refl)
method_row BrowserGetUserContexts = row nothing_asked (part rule.get_user_contexts_result user_contexts_told.ghosts.shape refl refl)
method_row BrowserRemoveUserContext =
    row (part rule.remove_user_context_parameters remove_user_context.ghosts.shape refl refl) nothing_given

-- the params of a method
abbrev pub params_part : Method → Part
params_part m = (method_row m).params

-- the result of a method
abbrev pub result_part : Method → Part
result_part m = (method_row m).result

-- the rule of a method's params
abbrev pub params_of : Method → Name
params_of m = (params_part m).name

-- the rule of a method's result
-- example: a `browsingContext.activate` gives the empty result
abbrev pub result_of : Method → Name
result_of m = (result_part m).name

-- the methods after session.status, in the order of the profile
abbrev further_methods : List Method
further_methods = SessionNew
    ∷ SessionEnd
    ∷ SessionSubscribe
    ∷ SessionUnsubscribe
    ∷ BrowsingContextActivate
    ∷ BrowsingContextClose
    ∷ BrowsingContextCreate
    ∷ BrowsingContextGetTree
    ∷ BrowsingContextNavigate
    ∷ BrowsingContextReload
    ∷ BrowsingContextTraverseHistory
    ∷ ScriptEvaluate
    ∷ ScriptCallFunction
    ∷ ScriptDisown
    ∷ ScriptGetRealms
    ∷ BrowserCreateUserContext
    ∷ BrowserGetUserContexts
    ∷ BrowserRemoveUserContext
    ∷ []

-- these methods and rules are those of the profile
pub methods_are_the_profiles : map {B = List ℕ × (Name × Name)} (λ m. (method_text m, (params_of m, result_of m))) (SessionStatus ∷ further_methods)
    ≡ map {B = List ℕ × (Name × Name)} (λ r. (codes r.method, (r.params, r.result))) (session_status_row ∷ further_commands)
methods_are_the_profiles = refl

-- the strings of the methods after the first
abbrev pub method_rest : List (Word Method)
method_rest = map (word method_text) further_methods

-- the string of each method names that method
pub method_named : (m : Method) → value_named (word method_text SessionStatus) method_rest (method_text m) ≡ Some m
method_named SessionStatus = refl
method_named SessionNew = refl
method_named SessionEnd = refl
method_named SessionSubscribe = refl
method_named SessionUnsubscribe = refl
method_named BrowsingContextActivate = refl
method_named BrowsingContextClose = refl
method_named BrowsingContextCreate = refl
method_named BrowsingContextGetTree = refl
method_named BrowsingContextNavigate = refl
method_named BrowsingContextReload = refl
method_named BrowsingContextTraverseHistory = refl
method_named ScriptEvaluate = refl
method_named ScriptCallFunction = refl
method_named ScriptDisown = refl
method_named ScriptGetRealms = refl
method_named BrowserCreateUserContext = refl
method_named BrowserGetUserContexts = refl
method_named BrowserRemoveUserContext = refl

-- the methods as a type whose values are a few strings
abbrev pub method_words : Words Method
method_words = record {
  rule = one_of (word method_text SessionStatus) method_rest;
  first = word method_text SessionStatus;
  rest = method_rest;
  text_of = method_text;
  is_rule = refl;
  has_texts =
      (refl, (refl, (refl, (refl, (refl, (refl, (refl, (refl, (refl, (refl, (refl, (refl, (refl, (refl, (refl, (refl, (refl, (refl, refl))))))))))))))))));
  names_it = method_named;
}
