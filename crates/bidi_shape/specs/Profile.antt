-- The rules of the profile, for comparison with docs/FORMATS.md. After WebDriver BiDi, "Protocol" and its modules; the choice is this project's own.
use Prim.Native.String.{String}
use Rattle.std.specs.Prelude.{List, [], ◌∷◌}
use Rattle.bidi_shape.specs.Name.{Name, empty_params, empty_result, command, message, command_response, error_response, event, error_code}
use Rattle.bidi_shape.specs.Name.{status_result, new_parameters, capabilities_request, capability_request, new_result, capabilities}
use Rattle.bidi_shape.specs.Name.{subscribe_parameters, subscribe_result, unsubscribe_parameters, unsubscribe_by_id, unsubscribe_by_events}
use Rattle.bidi_shape.specs.Name.{info, navigation_info, wait, activate_parameters, close_parameters, create_parameters, create_result}
use Rattle.bidi_shape.specs.Name.{get_tree_parameters, get_tree_result, navigate_parameters, reload_parameters, navigate_result}
use Rattle.bidi_shape.specs.Name.{traverse_history_parameters, target, context_target, realm_target, ownership, serialization_options}
use Rattle.bidi_shape.specs.Name.{evaluate_parameters, call_function_parameters, disown_parameters, get_realms_parameters, realm_type, get_realms_result}
use Rattle.bidi_shape.specs.Name.{realm_info, realm_destroyed_parameters, primitive, reg_exp_value, reference, shared_reference}
use Rattle.bidi_shape.specs.Name.{remote_object_reference, local_value, local_pair, remote_value, remote_pair, opaque, evaluate_result}
use Rattle.bidi_shape.specs.Name.{exception_details, stack_trace, stack_frame, source, table_row, log_entry, console_entry}
use Rattle.bidi_shape.specs.Name.{javascript_entry, generic_log_entry, user_context_info, get_user_contexts_result}
use Rattle.bidi_shape.specs.Name.{remove_user_context_parameters}
use Rattle.bidi_shape.specs.Term.{Term, Rows, no_more, text, bool, null, js_uint, js_int, pair_of, rule, capped, ◌is◌and◌}
use Rattle.bidi_shape.specs.Term.{◌may_be◌and◌, ◌or◌, the, any_number_of, at_least_one, open_map, closed_map}

-- ---- commands and events

-- a command: its method, and the rules of its params and of its result
pub record CommandRow : Type 0 where
  pub method : String
  pub params : Name
  pub result : Name

-- the row of a command with this method, rule of params and rule of result
abbrev pub command_row : String → Name → Name → CommandRow
command_row m p r = record { method = m; params = p; result = r }

-- an event: its method, and the rule of its params
pub record EventRow : Type 0 where
  pub method : String
  pub params : Name

-- the row of an event with this method and rule of params
abbrev pub event_row : String → Name → EventRow
event_row m p = record { method = m; params = p }

-- the command `session.status`, the first of the list
abbrev pub session_status_row : CommandRow
session_status_row = command_row "session.status" empty_params status_result

-- the other commands, in the order of docs/FORMATS.md
abbrev pub further_commands : List CommandRow
further_commands =
    command_row "session.new" new_parameters new_result
    ∷ command_row "session.end" empty_params empty_result
    ∷ command_row "session.subscribe" subscribe_parameters subscribe_result
    ∷ command_row "session.unsubscribe" unsubscribe_parameters empty_result
    ∷ command_row "browsingContext.activate" activate_parameters empty_result
    ∷ command_row "browsingContext.close" close_parameters empty_result
    ∷ command_row "browsingContext.create" create_parameters create_result
    ∷ command_row "browsingContext.getTree" get_tree_parameters get_tree_result
    ∷ command_row "browsingContext.navigate" navigate_parameters navigate_result
    ∷ command_row "browsingContext.reload" reload_parameters navigate_result
    ∷ command_row "browsingContext.traverseHistory" traverse_history_parameters empty_result
    ∷ command_row "script.evaluate" evaluate_parameters evaluate_result
    ∷ command_row "script.callFunction" call_function_parameters evaluate_result
    ∷ command_row "script.disown" disown_parameters empty_result
    ∷ command_row "script.getRealms" get_realms_parameters get_realms_result
    ∷ command_row "browser.createUserContext" empty_params user_context_info
    ∷ command_row "browser.getUserContexts" empty_params get_user_contexts_result
    ∷ command_row "browser.removeUserContext" remove_user_context_parameters empty_result
    ∷ []

-- the event `browsingContext.contextCreated`, the first of the list
abbrev pub context_created_row : EventRow
context_created_row = event_row "browsingContext.contextCreated" info

-- the other events, in the order of docs/FORMATS.md
abbrev pub further_events : List EventRow
further_events =
    event_row "browsingContext.contextDestroyed" info
    ∷ event_row "browsingContext.navigationStarted" navigation_info
    ∷ event_row "browsingContext.domContentLoaded" navigation_info
    ∷ event_row "browsingContext.load" navigation_info
    ∷ event_row "script.realmCreated" realm_info
    ∷ event_row "script.realmDestroyed" realm_destroyed_parameters
    ∷ event_row "log.entryAdded" log_entry
    ∷ []

-- the term of one command: an extensible object with its id, method and params
abbrev pub command_map : CommandRow → Term
command_map c = open_map (
    "id" is js_uint and
    "method" is the c.method and
    "params" is rule c.params and no_more)

-- the choice of these commands
abbrev pub one_of_commands : CommandRow → List CommandRow → Term
one_of_commands c [] = command_map c
one_of_commands c (d ∷ ds) = command_map c or one_of_commands d ds

-- the term of one event: an extensible object with its type, method and params
abbrev pub event_map : EventRow → Term
event_map e = open_map (
    "type" is the "event" and
    "method" is the e.method and
    "params" is rule e.params and no_more)

-- the choice of these events
abbrev pub one_of_events : EventRow → List EventRow → Term
one_of_events e [] = event_map e
one_of_events e (f ∷ fs) = event_map e or one_of_events f fs

-- ---- terms that several rules share

-- an object that has only a type: `{ type: "T" }`
abbrev pub typed : String → Term
typed t = closed_map ("type" is the t and no_more)

-- an object that has a type and a value: `{ type: "T", value: X }`
abbrev pub typed_value : String → Term → Term
typed_value t τ = closed_map (
    "type" is the t and
    "value" is τ and no_more)

-- the rows `? handle: text, ? internalId: text`, which a remote value may have, before these rows
abbrev pub held : Rows → Rows
held rows = "handle" may_be text and "internalId" may_be text and rows

-- the rows that every log entry has (the group Base of the draft), before these rows
abbrev pub base : Rows → Rows
base rows =
    "level" is (the "debug" or the "info" or the "warn" or the "error") and
    "source" is rule source and
    "text" is (text or null) and
    "timestamp" is js_uint and
    "stackTrace" may_be rule stack_trace and rows

-- ---- the rules

-- the term of each named rule
abbrev pub term_of : Name → Term
-- base
term_of empty_params = open_map no_more
term_of empty_result = open_map no_more
-- messages
term_of command = one_of_commands session_status_row further_commands
term_of message = rule command_response or rule error_response or rule event
term_of command_response = open_map (
    "type" is the "success" and
    "id" is js_uint and
    "result" is open_map no_more and no_more)
term_of error_response = open_map (
    "type" is the "error" and
    "id" is (js_uint or null) and
    "error" is rule error_code and
    "message" is text and
    "stacktrace" may_be text and no_more)
term_of event = one_of_events context_created_row further_events
term_of error_code =
    the "invalid argument" or the "invalid selector" or the "invalid session id"
    or the "move target out of bounds" or the "no such alert" or the "no such element"
    or the "no such frame" or the "no such handle" or the "no such history entry"
    or the "no such intercept" or the "no such node" or the "no such request"
    or the "no such script" or the "no such storage partition" or the "no such user context"
    or the "session not created" or the "unable to capture screen" or the "unable to close browser"
    or the "unable to set cookie" or the "unable to set file input" or the "unknown command"
    or the "unknown error" or the "unsupported operation"
-- session
term_of status_result = open_map (
    "ready" is bool and
    "message" is text and no_more)
term_of new_parameters = open_map (
    "capabilities" is rule capabilities_request and no_more)
term_of capabilities_request = open_map (
    "alwaysMatch" may_be rule capability_request and
    "firstMatch" may_be any_number_of (rule capability_request) and no_more)
term_of capability_request = open_map (
    "acceptInsecureCerts" may_be bool and
    "browserName" may_be text and
    "browserVersion" may_be text and
    "platformName" may_be text and no_more)
term_of new_result = open_map (
    "sessionId" is text and
    "capabilities" is rule capabilities and no_more)
term_of capabilities = open_map (
    "acceptInsecureCerts" is bool and
    "browserName" is text and
    "browserVersion" is text and
    "platformName" is text and
    "setWindowRect" is bool and
    "userAgent" is text and no_more)
term_of subscribe_parameters = open_map (
    "events" is at_least_one text and
    "contexts" may_be at_least_one text and
    "userContexts" may_be at_least_one text and no_more)
term_of subscribe_result = open_map (
    "subscription" is text and no_more)
term_of unsubscribe_parameters = rule unsubscribe_by_id or rule unsubscribe_by_events
term_of unsubscribe_by_id = open_map (
    "subscriptions" is at_least_one text and no_more)
term_of unsubscribe_by_events = open_map (
    "events" is at_least_one text and no_more)
-- browsingContext
term_of info = capped (open_map (
    "children" is (any_number_of (rule info) or null) and
    "clientWindow" is text and
    "context" is text and
    "originalOpener" is (text or null) and
    "url" is text and
    "userContext" is text and
    "parent" may_be (text or null) and no_more))
term_of navigation_info = open_map (
    "context" is text and
    "navigation" is (text or null) and
    "timestamp" is js_uint and
    "url" is text and no_more)
term_of wait = the "none" or the "interactive" or the "complete"
term_of activate_parameters = open_map (
    "context" is text and no_more)
term_of close_parameters = open_map (
    "context" is text and
    "promptUnload" may_be bool and no_more)
term_of create_parameters = open_map (
    "type" is (the "tab" or the "window") and
    "referenceContext" may_be text and
    "background" may_be bool and
    "userContext" may_be text and no_more)
term_of create_result = open_map (
    "context" is text and no_more)
term_of get_tree_parameters = open_map (
    "maxDepth" may_be js_uint and
    "root" may_be text and no_more)
term_of get_tree_result = open_map (
    "contexts" is any_number_of (rule info) and no_more)
term_of navigate_parameters = open_map (
    "context" is text and
    "url" is text and
    "wait" may_be rule wait and no_more)
term_of reload_parameters = open_map (
    "context" is text and
    "ignoreCache" may_be bool and
    "wait" may_be rule wait and no_more)
term_of navigate_result = open_map (
    "navigation" is (text or null) and
    "url" is text and no_more)
term_of traverse_history_parameters = open_map (
    "context" is text and
    "delta" is js_int and no_more)
-- script
term_of target = rule context_target or rule realm_target
term_of context_target = open_map (
    "context" is text and
    "sandbox" may_be text and no_more)
term_of realm_target = open_map (
    "realm" is text and no_more)
term_of ownership = the "root" or the "none"
term_of serialization_options = open_map (
    "maxObjectDepth" may_be (js_uint or null) and no_more)
term_of evaluate_parameters = open_map (
    "expression" is text and
    "target" is rule target and
    "awaitPromise" is bool and
    "resultOwnership" may_be rule ownership and
    "serializationOptions" may_be rule serialization_options and
    "userActivation" may_be bool and no_more)
term_of call_function_parameters = open_map (
    "functionDeclaration" is text and
    "awaitPromise" is bool and
    "target" is rule target and
    "arguments" may_be any_number_of (rule local_value) and
    "resultOwnership" may_be rule ownership and
    "serializationOptions" may_be rule serialization_options and
    "this" may_be rule local_value and
    "userActivation" may_be bool and no_more)
term_of disown_parameters = open_map (
    "handles" is any_number_of text and
    "target" is rule target and no_more)
term_of get_realms_parameters = open_map (
    "context" may_be text and
    "type" may_be rule realm_type and no_more)
term_of realm_type =
    the "window" or the "dedicated-worker" or the "shared-worker" or the "service-worker"
    or the "worker" or the "paint-worklet" or the "audio-worklet" or the "worklet"
term_of get_realms_result = open_map (
    "realms" is any_number_of (rule realm_info) and no_more)
term_of realm_info = open_map (
    "realm" is text and
    "origin" is text and
    "type" is the "window" and
    "context" is text and no_more)
term_of realm_destroyed_parameters = open_map (
    "realm" is text and no_more)
term_of primitive =
    typed "undefined" or typed "null"
    or typed_value "string" text
    or typed_value "number" (js_int or the "NaN" or the "-0" or the "Infinity" or the "-Infinity")
    or typed_value "boolean" bool or typed_value "bigint" text
term_of reg_exp_value = closed_map (
    "pattern" is text and
    "flags" may_be text and no_more)
term_of reference = rule shared_reference or rule remote_object_reference
term_of shared_reference = open_map (
    "sharedId" is text and
    "handle" may_be text and no_more)
term_of remote_object_reference = open_map (
    "handle" is text and
    "sharedId" may_be text and no_more)
term_of local_value = capped (
    rule reference or rule primitive
    or typed_value "array" (any_number_of (rule local_value))
    or typed_value "date" text
    or typed_value "map" (any_number_of (rule local_pair))
    or typed_value "object" (any_number_of (rule local_pair))
    or typed_value "regexp" (rule reg_exp_value)
    or typed_value "set" (any_number_of (rule local_value)))
term_of local_pair = pair_of (rule local_value or text) (rule local_value)
term_of remote_value = capped (
    rule primitive
    or closed_map (
    "type" is (the "array" or the "set") and
    held ("value" may_be any_number_of (rule remote_value) and no_more))
    or closed_map (
    "type" is (the "object" or the "map") and
    held ("value" may_be any_number_of (rule remote_pair) and no_more))
    or closed_map (
    "type" is the "regexp" and
    "value" is rule reg_exp_value and held no_more)
    or closed_map (
    "type" is the "date" and
    "value" is text and held no_more)
    or closed_map (
    "type" is rule opaque and held no_more))
term_of remote_pair = pair_of (rule remote_value or text) (rule remote_value)
term_of opaque =
    the "symbol" or the "function" or the "weakmap" or the "weakset" or the "generator"
    or the "error" or the "proxy" or the "promise" or the "typedarray" or the "arraybuffer"
term_of evaluate_result =
    closed_map (
    "type" is the "success" and
    "result" is rule remote_value and
    "realm" is text and no_more)
    or closed_map (
    "type" is the "exception" and
    "exceptionDetails" is rule exception_details and
    "realm" is text and no_more)
term_of exception_details = closed_map (
    "columnNumber" is js_uint and
    "exception" is rule remote_value and
    "lineNumber" is js_uint and
    "stackTrace" is rule stack_trace and
    "text" is text and no_more)
term_of stack_trace = closed_map (
    "callFrames" is any_number_of (rule stack_frame) and no_more)
term_of stack_frame = closed_map (
    "columnNumber" is js_uint and
    "functionName" is text and
    "lineNumber" is js_uint and
    "url" is text and no_more)
term_of source = closed_map (
    "realm" is text and
    "context" may_be text and no_more)
-- the table of a play
term_of table_row =
    closed_map (
    "text" is text and
    "returns" is rule remote_value and no_more)
    or closed_map (
    "text" is text and
    "throws" is rule remote_value and no_more)
    or closed_map (
    "text" is text and
    "argument" is js_uint and no_more)
-- log
term_of log_entry = rule console_entry or rule javascript_entry or rule generic_log_entry
term_of console_entry = closed_map (base (
    "type" is the "console" and
    "method" is text and
    "args" is any_number_of (rule remote_value) and no_more))
term_of javascript_entry = closed_map (base (
    "type" is the "javascript" and no_more))
term_of generic_log_entry = open_map (base (
    "type" is text and no_more))
-- browser
term_of user_context_info = open_map (
    "userContext" is text and no_more)
term_of get_user_contexts_result = open_map (
    "userContexts" is at_least_one (rule user_context_info) and no_more)
term_of remove_user_context_parameters = open_map (
    "userContext" is text and no_more)
