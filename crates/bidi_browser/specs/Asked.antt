-- What an action that the code has asks for.
use Rattle.std.specs.Prelude.{ℕ, Bool, true, false, List, [], map, Option, Some, None, option_map, option_and_then, unwrap_or, string_bytes}
use Rattle.bidi_params.specs.declared.browsing_context.create.ContextType.{ContextType}
use Rattle.bidi_params.specs.declared.browsing_context.create.ContextType.TheVariants as type
use Rattle.bidi_params.specs.declared.browsing_context.create.ActivateParameters.{ActivateParameters}
use Rattle.bidi_params.specs.declared.browsing_context.create.CloseParameters.{CloseParameters}
use Rattle.bidi_params.specs.declared.browsing_context.create.CreateParameters.{CreateParameters}
use Rattle.bidi_params.specs.declared.browsing_context.get_tree.GetTreeParameters.{GetTreeParameters}
use Rattle.bidi_params.specs.declared.browsing_context.navigate.Wait as declared_wait
use Rattle.bidi_params.specs.declared.browsing_context.navigate.Wait.TheVariants as wait
use Rattle.bidi_params.specs.declared.browsing_context.navigate.NavigateParameters.{NavigateParameters}
use Rattle.bidi_params.specs.declared.browsing_context.navigate.ReloadParameters.{ReloadParameters}
use Rattle.bidi_params.specs.declared.browsing_context.navigate.TraverseHistoryParameters.{TraverseHistoryParameters}
use Rattle.bidi_params.specs.declared.browser.RemoveUserContextParameters.{RemoveUserContextParameters}
use Rattle.bidi_scripts.specs.RealmType.{realm_type_text}
use Rattle.bidi_scripts.specs.declared.evaluate.Ownership.{Ownership}
use Rattle.bidi_scripts.specs.declared.evaluate.Ownership.TheVariants as ownership
use Rattle.bidi_scripts.specs.declared.serialization_options.SerializationOptions.{SerializationOptions}
use Rattle.bidi_scripts.specs.declared.evaluate.EvaluateParameters.{EvaluateParameters}
use Rattle.bidi_scripts.specs.declared.call_function.CallFunctionParameters.{CallFunctionParameters}
use Rattle.bidi_scripts.specs.declared.call_function.DisownParameters.{DisownParameters}
use Rattle.bidi_scripts.specs.declared.realms.GetRealmsParameters.{GetRealmsParameters}
use Rattle.bidi_scripts.specs.declared.target.Target as declared_target
use Rattle.bidi_scripts.specs.declared.target.Target.TheVariants as target
use Rattle.bidi_scripts.specs.declared.table_row.TableRow as declared_row
use Rattle.bidi_scripts.specs.contracts.table_row.TableRowShape.TheImpl as rows
use Rattle.bidi_tree.specs.Node.{Node}
use Rattle.bidi_handles.specs.ValuesInHand.{local_tree}
use Rattle.bidi_methods.specs.declared.command_data.BrowserCommand.{BrowserCommand}
use Rattle.bidi_methods.specs.declared.command_data.BrowserCommand.TheVariants as browser
use Rattle.bidi_browser.specs.declared.action.Action as declared_action
use Rattle.bidi_browser.specs.declared.action.Action.TheVariants as in_code
use Rattle.bidi_contexts.specs.Actions.{CreateType, Tab, OwnWindow, Wait, Started, Interactive, Complete, Action, Activate, Close}
use Rattle.bidi_contexts.specs.Actions.{Create, GetTree, Navigate, Reload, TraverseHistory, Target, ContextTarget, RealmTarget}
use Rattle.bidi_contexts.specs.Actions.{Evaluate, CallFunction, Disown, GetRealms, CreateUserContext, GetUserContexts, RemoveUserContext, Frame, Unframe, Log, TableRow}

-- The type of the context that a create asks for.
abbrev pub create_type_of : ContextType → CreateType
create_type_of type.Tab = Tab
create_type_of type.Window = OwnWindow

-- What the reply to a navigation waits for; without one, it is the start.
abbrev pub wait_of : Option declared_wait.Wait → Wait
wait_of None = Started
wait_of (Some wait.None) = Started
wait_of (Some wait.Interactive) = Interactive
wait_of (Some wait.Complete) = Complete

-- What `browsingContext.activate` asks for.
abbrev pub activate_asked : ActivateParameters → Action
activate_asked p = Activate (string_bytes p.context)

-- What `browsingContext.close` asks for.
abbrev pub close_asked : CloseParameters → Action
close_asked p = Close (string_bytes p.context)

-- What `browsingContext.create` asks for.
abbrev pub create_asked : CreateParameters → Action
create_asked p = Create (create_type_of p.kind) (option_map string_bytes p.reference_context) (option_map string_bytes p.user_context)

-- What `browsingContext.getTree` asks for.
abbrev pub get_tree_asked : GetTreeParameters → Action
get_tree_asked p = GetTree (option_map (λ n. n.value) p.max_depth) (option_map string_bytes p.root)

-- What `browsingContext.navigate` asks for.
abbrev pub navigate_asked : NavigateParameters → Action
navigate_asked p = Navigate (string_bytes p.context) (string_bytes p.url) (wait_of p.wait)

-- What `browsingContext.reload` asks for.
abbrev pub reload_asked : ReloadParameters → Action
reload_asked p = Reload (string_bytes p.context) (wait_of p.wait)

-- What `browsingContext.traverseHistory` asks for.
abbrev pub traverse_asked : TraverseHistoryParameters → Action
traverse_asked p = TraverseHistory (string_bytes p.context) p.delta.value

-- Where a script is to run.
abbrev pub target_of : declared_target.Target → Target
target_of (target.Context t) = ContextTarget (string_bytes t.context) (unwrap_or (option_map string_bytes t.sandbox) [])
target_of (target.Realm t) = RealmTarget (string_bytes t.realm)

-- The value is to get a handle: the ownership is `root`.
abbrev pub is_owned : Option Ownership → Bool
is_owned (Some ownership.Root) = true
is_owned (Some ownership.None) = false
is_owned None = false

-- The depth at which the value is cut; without one, or with null, the value stays whole.
abbrev pub object_depth : Option SerializationOptions → Option ℕ
object_depth options = option_map (λ n. n.value) (option_and_then (λ o. unwrap_or o.max_object_depth None) options)

-- What `script.evaluate` asks for.
abbrev pub evaluate_asked : EvaluateParameters → Action
evaluate_asked p = Evaluate (string_bytes p.expression) (target_of p.target) (is_owned p.result_ownership) (object_depth p.serialization_options)

-- The trees of the arguments; without the member there are none.
abbrev pub arguments_asked : CallFunctionParameters → List Node
arguments_asked p = unwrap_or (option_map (λ vs. map local_tree vs.items) p.arguments) []

-- What `script.callFunction` asks for.
abbrev pub call_function_asked : CallFunctionParameters → Action
call_function_asked p =
    CallFunction (string_bytes p.function_declaration) (target_of p.target) (arguments_asked p)
    (option_map local_tree p.this) (is_owned p.result_ownership) (object_depth p.serialization_options)

-- What `script.disown` asks for.
abbrev pub disown_asked : DisownParameters → Action
disown_asked p = Disown (map string_bytes p.handles.items) (target_of p.target)

-- What `script.getRealms` asks for.
abbrev pub get_realms_asked : GetRealmsParameters → Action
get_realms_asked p = GetRealms (option_map string_bytes p.context) (option_map realm_type_text p.kind)

-- What a step that sets a row of the script table asks for.
abbrev pub row_asked : Option declared_row.TableRow → Action
row_asked row = TableRow (option_map rows.ghosts.shape.tree_of row)

-- What `browser.removeUserContext` asks for.
abbrev pub remove_user_asked : RemoveUserContextParameters → Action
remove_user_asked p = RemoveUserContext (string_bytes p.user_context)

-- What a command asks for.
abbrev pub command_asked : BrowserCommand → Action
command_asked (browser.Activate params) = activate_asked params
command_asked (browser.Close params) = close_asked params
command_asked (browser.Create params) = create_asked params
command_asked (browser.GetTree params) = get_tree_asked params
command_asked (browser.Navigate params) = navigate_asked params
command_asked (browser.Reload params) = reload_asked params
command_asked (browser.TraverseHistory params) = traverse_asked params
command_asked (browser.Evaluate params) = evaluate_asked params.value
command_asked (browser.CallFunction params) = call_function_asked params.value
command_asked (browser.Disown params) = disown_asked params.value
command_asked (browser.GetRealms params) = get_realms_asked params
command_asked (browser.CreateUserContext params) = CreateUserContext
command_asked (browser.GetUserContexts params) = GetUserContexts
command_asked (browser.RemoveUserContext params) = remove_user_asked params

-- What an action that the code has asks for.
abbrev pub action_of : declared_action.Action → Action
action_of (in_code.Asked command) = command_asked command.now
action_of (in_code.Frame context url) = Frame context.now url.now
action_of (in_code.Unframe context) = Unframe context.now
action_of (in_code.Log context level text) = Log context.now level text.now
action_of (in_code.TableRow row) = row_asked row
