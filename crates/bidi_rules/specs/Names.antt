-- The names of the rules: what a name of the code stands for, and how it is written.
use Rattle.std.specs.Prelude.{ℕ, List, [], ◌∷◌, codes}
use Rattle.bidi_shape.specs.Name as rule
use Rattle.bidi_rules.specs.declared.name.Name.{Name}
use Rattle.bidi_rules.specs.declared.name.Name.TheVariants as code

-- the rule that has this name in the code
abbrev pub name_of : Name → rule.Name
name_of code.EmptyParams = rule.empty_params
name_of code.EmptyResult = rule.empty_result
name_of code.Command = rule.command
name_of code.Message = rule.message
name_of code.CommandResponse = rule.command_response
name_of code.ErrorResponse = rule.error_response
name_of code.Event = rule.event
name_of code.ErrorCode = rule.error_code
name_of code.StatusResult = rule.status_result
name_of code.NewParameters = rule.new_parameters
name_of code.CapabilitiesRequest = rule.capabilities_request
name_of code.CapabilityRequest = rule.capability_request
name_of code.NewResult = rule.new_result
name_of code.Capabilities = rule.capabilities
name_of code.SubscribeParameters = rule.subscribe_parameters
name_of code.SubscribeResult = rule.subscribe_result
name_of code.UnsubscribeParameters = rule.unsubscribe_parameters
name_of code.UnsubscribeById = rule.unsubscribe_by_id
name_of code.UnsubscribeByEvents = rule.unsubscribe_by_events
name_of code.Info = rule.info
name_of code.NavigationInfo = rule.navigation_info
name_of code.Wait = rule.wait
name_of code.ActivateParameters = rule.activate_parameters
name_of code.CloseParameters = rule.close_parameters
name_of code.CreateParameters = rule.create_parameters
name_of code.CreateResult = rule.create_result
name_of code.GetTreeParameters = rule.get_tree_parameters
name_of code.GetTreeResult = rule.get_tree_result
name_of code.NavigateParameters = rule.navigate_parameters
name_of code.ReloadParameters = rule.reload_parameters
name_of code.NavigateResult = rule.navigate_result
name_of code.TraverseHistoryParameters = rule.traverse_history_parameters
name_of code.Target = rule.target
name_of code.ContextTarget = rule.context_target
name_of code.RealmTarget = rule.realm_target
name_of code.Ownership = rule.ownership
name_of code.SerializationOptions = rule.serialization_options
name_of code.EvaluateParameters = rule.evaluate_parameters
name_of code.CallFunctionParameters = rule.call_function_parameters
name_of code.DisownParameters = rule.disown_parameters
name_of code.GetRealmsParameters = rule.get_realms_parameters
name_of code.RealmType = rule.realm_type
name_of code.GetRealmsResult = rule.get_realms_result
name_of code.RealmInfo = rule.realm_info
name_of code.RealmDestroyedParameters = rule.realm_destroyed_parameters
name_of code.Primitive = rule.primitive
name_of code.RegExpValue = rule.reg_exp_value
name_of code.Reference = rule.reference
name_of code.SharedReference = rule.shared_reference
name_of code.RemoteObjectReference = rule.remote_object_reference
name_of code.LocalValue = rule.local_value
name_of code.LocalPair = rule.local_pair
name_of code.RemoteValue = rule.remote_value
name_of code.RemotePair = rule.remote_pair
name_of code.Opaque = rule.opaque
name_of code.EvaluateResult = rule.evaluate_result
name_of code.ExceptionDetails = rule.exception_details
name_of code.StackTrace = rule.stack_trace
name_of code.StackFrame = rule.stack_frame
name_of code.Source = rule.source
name_of code.TableRow = rule.table_row
name_of code.LogEntry = rule.log_entry
name_of code.ConsoleEntry = rule.console_entry
name_of code.JavascriptEntry = rule.javascript_entry
name_of code.GenericLogEntry = rule.generic_log_entry
name_of code.UserContextInfo = rule.user_context_info
name_of code.GetUserContextsResult = rule.get_user_contexts_result
name_of code.RemoveUserContextParameters = rule.remove_user_context_parameters

-- the name of a rule, as FORMATS.md writes it
abbrev pub rule_text : rule.Name → List ℕ
rule_text rule.empty_params = codes "EmptyParams"
rule_text rule.empty_result = codes "EmptyResult"
rule_text rule.command = codes "Command"
rule_text rule.message = codes "Message"
rule_text rule.command_response = codes "CommandResponse"
rule_text rule.error_response = codes "ErrorResponse"
rule_text rule.event = codes "Event"
rule_text rule.error_code = codes "ErrorCode"
rule_text rule.status_result = codes "StatusResult"
rule_text rule.new_parameters = codes "NewParameters"
rule_text rule.capabilities_request = codes "CapabilitiesRequest"
rule_text rule.capability_request = codes "CapabilityRequest"
rule_text rule.new_result = codes "NewResult"
rule_text rule.capabilities = codes "Capabilities"
rule_text rule.subscribe_parameters = codes "SubscribeParameters"
rule_text rule.subscribe_result = codes "SubscribeResult"
rule_text rule.unsubscribe_parameters = codes "UnsubscribeParameters"
rule_text rule.unsubscribe_by_id = codes "UnsubscribeById"
rule_text rule.unsubscribe_by_events = codes "UnsubscribeByEvents"
rule_text rule.info = codes "Info"
rule_text rule.navigation_info = codes "NavigationInfo"
rule_text rule.wait = codes "Wait"
rule_text rule.activate_parameters = codes "ActivateParameters"
rule_text rule.close_parameters = codes "CloseParameters"
rule_text rule.create_parameters = codes "CreateParameters"
rule_text rule.create_result = codes "CreateResult"
rule_text rule.get_tree_parameters = codes "GetTreeParameters"
rule_text rule.get_tree_result = codes "GetTreeResult"
rule_text rule.navigate_parameters = codes "NavigateParameters"
rule_text rule.reload_parameters = codes "ReloadParameters"
rule_text rule.navigate_result = codes "NavigateResult"
rule_text rule.traverse_history_parameters = codes "TraverseHistoryParameters"
rule_text rule.target = codes "Target"
rule_text rule.context_target = codes "ContextTarget"
rule_text rule.realm_target = codes "RealmTarget"
rule_text rule.ownership = codes "Ownership"
rule_text rule.serialization_options = codes "SerializationOptions"
rule_text rule.evaluate_parameters = codes "EvaluateParameters"
rule_text rule.call_function_parameters = codes "CallFunctionParameters"
rule_text rule.disown_parameters = codes "DisownParameters"
rule_text rule.get_realms_parameters = codes "GetRealmsParameters"
rule_text rule.realm_type = codes "RealmType"
rule_text rule.get_realms_result = codes "GetRealmsResult"
rule_text rule.realm_info = codes "RealmInfo"
rule_text rule.realm_destroyed_parameters = codes "RealmDestroyedParameters"
rule_text rule.primitive = codes "Primitive"
rule_text rule.reg_exp_value = codes "RegExpValue"
rule_text rule.reference = codes "Reference"
rule_text rule.shared_reference = codes "SharedReference"
rule_text rule.remote_object_reference = codes "RemoteObjectReference"
rule_text rule.local_value = codes "LocalValue"
rule_text rule.local_pair = codes "LocalPair"
rule_text rule.remote_value = codes "RemoteValue"
rule_text rule.remote_pair = codes "RemotePair"
rule_text rule.opaque = codes "Opaque"
rule_text rule.evaluate_result = codes "EvaluateResult"
rule_text rule.exception_details = codes "ExceptionDetails"
rule_text rule.stack_trace = codes "StackTrace"
rule_text rule.stack_frame = codes "StackFrame"
rule_text rule.source = codes "Source"
rule_text rule.table_row = codes "TableRow"
rule_text rule.log_entry = codes "LogEntry"
rule_text rule.console_entry = codes "ConsoleEntry"
rule_text rule.javascript_entry = codes "JavascriptEntry"
rule_text rule.generic_log_entry = codes "GenericLogEntry"
rule_text rule.user_context_info = codes "UserContextInfo"
rule_text rule.get_user_contexts_result = codes "GetUserContextsResult"
rule_text rule.remove_user_context_parameters = codes "RemoveUserContextParameters"

-- all names, in the order of FORMATS.md
abbrev pub all_names : List Name
all_names =
    code.EmptyParams
    ∷ code.EmptyResult
    ∷ code.Command
    ∷ code.Message
    ∷ code.CommandResponse
    ∷ code.ErrorResponse
    ∷ code.Event
    ∷ code.ErrorCode
    ∷ code.StatusResult
    ∷ code.NewParameters
    ∷ code.CapabilitiesRequest
    ∷ code.CapabilityRequest
    ∷ code.NewResult
    ∷ code.Capabilities
    ∷ code.SubscribeParameters
    ∷ code.SubscribeResult
    ∷ code.UnsubscribeParameters
    ∷ code.UnsubscribeById
    ∷ code.UnsubscribeByEvents
    ∷ code.Info
    ∷ code.NavigationInfo
    ∷ code.Wait
    ∷ code.ActivateParameters
    ∷ code.CloseParameters
    ∷ code.CreateParameters
    ∷ code.CreateResult
    ∷ code.GetTreeParameters
    ∷ code.GetTreeResult
    ∷ code.NavigateParameters
    ∷ code.ReloadParameters
    ∷ code.NavigateResult
    ∷ code.TraverseHistoryParameters
    ∷ code.Target
    ∷ code.ContextTarget
    ∷ code.RealmTarget
    ∷ code.Ownership
    ∷ code.SerializationOptions
    ∷ code.EvaluateParameters
    ∷ code.CallFunctionParameters
    ∷ code.DisownParameters
    ∷ code.GetRealmsParameters
    ∷ code.RealmType
    ∷ code.GetRealmsResult
    ∷ code.RealmInfo
    ∷ code.RealmDestroyedParameters
    ∷ code.Primitive
    ∷ code.RegExpValue
    ∷ code.Reference
    ∷ code.SharedReference
    ∷ code.RemoteObjectReference
    ∷ code.LocalValue
    ∷ code.LocalPair
    ∷ code.RemoteValue
    ∷ code.RemotePair
    ∷ code.Opaque
    ∷ code.EvaluateResult
    ∷ code.ExceptionDetails
    ∷ code.StackTrace
    ∷ code.StackFrame
    ∷ code.Source
    ∷ code.TableRow
    ∷ code.LogEntry
    ∷ code.ConsoleEntry
    ∷ code.JavascriptEntry
    ∷ code.GenericLogEntry
    ∷ code.UserContextInfo
    ∷ code.GetUserContextsResult
    ∷ code.RemoveUserContextParameters
    ∷ []
