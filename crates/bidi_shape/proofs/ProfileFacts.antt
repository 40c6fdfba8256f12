-- Worked examples of the profile's rules: trees that fit them, and trees that do not. After RFC 8610, 3.5.4, and docs/FORMATS.md.
use Prim.Native.String.{String}
use Rattle.std.proofs.Common.{◌≡◌, ℕ, zero, suc, pos, negsuc, List, [], ◌∷◌, codes, refl}
use Rattle.bidi_tree.specs.Node as node
use Rattle.bidi_tree.specs.Node.{Node, no_items, item, Members, no_members, put, levels}
use Rattle.bidi_tree.specs.View.{items_of}
use Rattle.bidi_tree.proofs.TextFacts.{nested, status_tree}
use Rattle.bidi_shape.specs.Name.{command, command_response, console_entry, context_target, create_parameters, empty_params}
use Rattle.bidi_shape.specs.Name.{error_response, generic_log_entry, get_tree_parameters, get_user_contexts_result, info}
use Rattle.bidi_shape.specs.Name.{javascript_entry, local_pair}
use Rattle.bidi_shape.specs.Name.{local_value, log_entry, message, navigate_result, primitive, realm_target, reference}
use Rattle.bidi_shape.specs.Name.{remote_object_reference, remote_value, remove_user_context_parameters, serialization_options}
use Rattle.bidi_shape.specs.Name.{shared_reference, stack_trace}
use Rattle.bidi_shape.specs.Name.{subscribe_parameters, table_row}
use Rattle.bidi_shape.specs.Name.{target, traverse_history_parameters, unsubscribe_by_events, unsubscribe_by_id, unsubscribe_parameters}
use Rattle.bidi_shape.specs.Name.{user_context_info, wait}
use Rattle.bidi_shape.specs.Term.{text, js_uint, js_int, any, rule, any_number_of, at_least_one}
use Rattle.bidi_shape.specs.Fits.{Fits}
use Rattle.bidi_shape.proofs.FitsTest.{fits_by, misfits_by}

-- ---- notation for trees

-- the string `"text"`
abbrev pub word : String → Node
word s = node.text (codes s)

-- a number from 0 on
abbrev pub number : ℕ → Node
number n = node.whole (pos n)

-- the array `[t, ..]`
abbrev pub listed : List Node → Node
listed ts = node.list (items_of ts)

-- the members `"name": t, ..`
infixr 3 ◌being◌and◌
abbrev pub ◌being◌and◌ : String → Node → Members → Members
◌being◌and◌ name t ms = put (codes name) t ms

-- the object `{ "name": t, .. }`
abbrev pub mapped : Members → Node
mapped ms = node.map ms

-- ---- members with a cut

-- `{"maxDepth":0}` fits GetTreeParameters
pub max_depth_zero_fits : Fits (mapped ("maxDepth" being number 0 and no_members)) (rule get_tree_parameters)
max_depth_zero_fits = fits_by 1000 refl

-- `{}` fits GetTreeParameters, because the member is optional
pub max_depth_absent_fits : Fits (mapped no_members) (rule get_tree_parameters)
max_depth_absent_fits = fits_by 1000 refl

-- `{"maxDepth":null}` does not fit: the name is there, so its value has to fit, and it is not taken as a further member
pub max_depth_null_misfits : Fits (mapped ("maxDepth" being node.null and no_members)) (rule get_tree_parameters) → ⊥
max_depth_null_misfits = misfits_by 1000 refl

-- `{"maxDepth":-1}` does not fit GetTreeParameters
pub max_depth_below_nought_misfits : Fits (mapped ("maxDepth" being node.whole (negsuc 0) and no_members)) (rule get_tree_parameters) → ⊥
max_depth_below_nought_misfits = misfits_by 1000 refl

-- `{"maxDepth":"0"}` does not fit GetTreeParameters
pub max_depth_as_text_misfits : Fits (mapped ("maxDepth" being word "0" and no_members)) (rule get_tree_parameters) → ⊥
max_depth_as_text_misfits = misfits_by 1000 refl

-- ---- serialization options

-- `{"maxObjectDepth":1}` fits SerializationOptions
pub object_depth_fits : Fits (mapped ("maxObjectDepth" being number 1 and no_members)) (rule serialization_options)
object_depth_fits = fits_by 1000 refl

-- null at `maxObjectDepth` fits SerializationOptions, and leaves a value whole
pub object_depth_null_fits : Fits (mapped ("maxObjectDepth" being node.null and no_members)) (rule serialization_options)
object_depth_null_fits = fits_by 1000 refl

-- an object without `maxObjectDepth` fits SerializationOptions
pub no_object_depth_fits : Fits (mapped ("x" being number 1 and no_members)) (rule serialization_options)
no_object_depth_fits = fits_by 1000 refl

-- `{"maxObjectDepth":"1"}` does not fit SerializationOptions
pub object_depth_as_text_misfits : Fits (mapped ("maxObjectDepth" being word "1" and no_members)) (rule serialization_options) → ⊥
object_depth_as_text_misfits = misfits_by 1000 refl

-- `{"maxObjectDepth":-1}` does not fit SerializationOptions
pub object_depth_below_nought_misfits : Fits (mapped ("maxObjectDepth" being node.whole (negsuc 0) and no_members)) (rule serialization_options) → ⊥
object_depth_below_nought_misfits = misfits_by 1000 refl

-- Odd at `maxObjectDepth`, which is how 1.5 is read, does not fit SerializationOptions
pub odd_object_depth_misfits : Fits (mapped ("maxObjectDepth" being node.odd and no_members)) (rule serialization_options) → ⊥
odd_object_depth_misfits = misfits_by 1000 refl

-- neither a number nor null fits SerializationOptions
pub number_misfits_serialization_options : Fits (number 5) (rule serialization_options) → ⊥
number_misfits_serialization_options = misfits_by 1000 refl

pub null_misfits_serialization_options : Fits node.null (rule serialization_options) → ⊥
null_misfits_serialization_options = misfits_by 1000 refl

-- ---- further members

-- an extensible object may have `"x":null`
pub unknown_member_of_an_open_map_fits : Fits (mapped ("maxDepth" being number 0 and "x" being node.null and no_members)) (rule get_tree_parameters)
unknown_member_of_an_open_map_fits = fits_by 1000 refl

-- `{"callFrames":[]}` fits StackTrace
pub stack_trace_fits : Fits (mapped ("callFrames" being listed [] and no_members)) (rule stack_trace)
stack_trace_fits = fits_by 1000 refl

-- `{"callFrames":[],"x":null}` does not fit StackTrace, because that object is closed
pub unknown_member_of_a_closed_map_misfits : Fits (mapped ("callFrames" being listed [] and "x" being node.null and no_members)) (rule stack_trace) → ⊥
unknown_member_of_a_closed_map_misfits = misfits_by 1000 refl

-- `{}` does not fit StackTrace, because the required member is absent
pub required_member_absent_misfits : Fits (mapped no_members) (rule stack_trace) → ⊥
required_member_absent_misfits = misfits_by 1000 refl

-- an array does not fit a rule for objects
pub map_rule_on_a_list_misfits : Fits (listed []) (rule empty_params) → ⊥
map_rule_on_a_list_misfits = misfits_by 1000 refl

-- ---- the levels of any

-- 60 arrays within each other fit any
pub any_at_60_levels_fits : Fits (nested 60) any
any_at_60_levels_fits = fits_by 1000 refl

-- 61 arrays within each other do not fit any
pub any_at_61_levels_misfits : Fits (nested 61) any → ⊥
any_at_61_levels_misfits = misfits_by 1000 refl

-- a further member may have 60 levels of its own, and the object around it has 61 then
pub unknown_member_at_60_levels_fits : Fits (mapped ("x" being nested 60 and no_members)) (rule empty_params)
unknown_member_at_60_levels_fits = fits_by 1000 refl

-- a further member may not have 61 levels
pub unknown_member_at_61_levels_misfits : Fits (mapped ("x" being nested 61 and no_members)) (rule empty_params) → ⊥
unknown_member_at_61_levels_misfits = misfits_by 1000 refl

-- ---- numbers that are not whole numbers in range

-- Odd does not fit any
pub odd_misfits_any : Fits node.odd any → ⊥
odd_misfits_any = misfits_by 1000 refl

-- Odd does not fit js-uint
pub odd_misfits_js_uint : Fits node.odd js_uint → ⊥
odd_misfits_js_uint = misfits_by 1000 refl

-- Odd does not fit js-int
pub odd_misfits_js_int : Fits node.odd js_int → ⊥
odd_misfits_js_int = misfits_by 1000 refl

-- `{"x":[{"y":[1]}]}` fits EmptyParams
pub whole_number_deep_in_an_extension_fits : Fits
    (mapped ("x" being listed (mapped ("y" being listed (number 1 ∷ []) and no_members) ∷ []) and no_members)) (rule empty_params)
whole_number_deep_in_an_extension_fits = fits_by 1000 refl

-- `{"x":[{"y":[1.5]}]}` does not fit EmptyParams, because 1.5 is Odd
pub odd_deep_in_an_extension_misfits : Fits
    (mapped ("x" being listed (mapped ("y" being listed (node.odd ∷ []) and no_members) ∷ []) and no_members)) (rule empty_params) → ⊥
odd_deep_in_an_extension_misfits = misfits_by 1000 refl

-- a response whose result has an Odd does not fit CommandResponse
pub odd_in_a_result_misfits : Fits (mapped ("type" being word "success" and "id" being number 1 and "result" being mapped
    ("x" being node.odd and no_members) and no_members)) (rule command_response) → ⊥
odd_in_a_result_misfits = misfits_by 1000 refl

-- ---- the range of js-uint and of js-int

-- 2^53 - 1 fits js-uint
pub greatest_js_uint_fits : Fits (number 9007199254740991) js_uint
greatest_js_uint_fits = fits_by 1000 refl

-- 2^53 does not fit js-uint
pub past_js_uint_misfits : Fits (number 9007199254740992) js_uint → ⊥
past_js_uint_misfits = misfits_by 1000 refl

-- -(2^53 - 1) fits js-int
pub least_js_int_fits : Fits (node.whole (negsuc 9007199254740990)) js_int
least_js_int_fits = fits_by 1000 refl

-- -2^53 does not fit js-int
pub before_js_int_misfits : Fits (node.whole (negsuc 9007199254740991)) js_int → ⊥
before_js_int_misfits = misfits_by 1000 refl

-- `{"context":"c","delta":-2}` fits TraverseHistoryParameters
pub delta_below_nought_fits : Fits (mapped ("context" being word "c" and "delta" being node.whole (negsuc 1) and no_members)) (rule traverse_history_parameters)
delta_below_nought_fits = fits_by 1000 refl

-- ---- arrays with at least one item, and pairs

-- `[]` does not fit `[+text]`
pub no_text_misfits_at_least_one : Fits (listed []) (at_least_one text) → ⊥
no_text_misfits_at_least_one = misfits_by 1000 refl

-- `["a"]` fits `[+text]`
pub one_text_fits_at_least_one : Fits (listed (word "a" ∷ [])) (at_least_one text)
one_text_fits_at_least_one = fits_by 1000 refl

-- `[]` fits `[*text]`
pub no_text_fits_any_number : Fits (listed []) (any_number_of text)
no_text_fits_any_number = fits_by 1000 refl

-- `["a",1]` does not fit `[*text]`
pub number_among_texts_misfits : Fits (listed (word "a" ∷ number 1 ∷ [])) (any_number_of text) → ⊥
number_among_texts_misfits = misfits_by 1000 refl

-- `{"events":["log"]}` fits SubscribeParameters
pub subscribe_to_one_event_fits : Fits (mapped ("events" being listed (word "log" ∷ []) and no_members)) (rule subscribe_parameters)
subscribe_to_one_event_fits = fits_by 1000 refl

-- `{"events":[]}` does not fit SubscribeParameters
pub subscribe_to_no_event_misfits : Fits (mapped ("events" being listed [] and no_members)) (rule subscribe_parameters) → ⊥
subscribe_to_no_event_misfits = misfits_by 1000 refl

-- `{"events":["log"],"contexts":[]}` does not fit SubscribeParameters
pub subscribe_to_no_context_misfits : Fits (mapped ("events" being listed (word "log" ∷ []) and "contexts" being listed [] and no_members))
    (rule subscribe_parameters) → ⊥
subscribe_to_no_context_misfits = misfits_by 1000 refl

-- a string and a value fit LocalPair
pub pair_with_a_text_fits : Fits (listed (word "k" ∷ mapped ("type" being word "undefined" and no_members) ∷ [])) (rule local_pair)
pair_with_a_text_fits = fits_by 1000 refl

-- a single value does not fit LocalPair
pub pair_of_one_misfits : Fits (listed (mapped ("type" being word "undefined" and no_members) ∷ [])) (rule local_pair) → ⊥
pair_of_one_misfits = misfits_by 1000 refl

-- three values do not fit LocalPair
pub pair_of_three_misfits : Fits (listed (mapped ("type" being word "undefined" and no_members)
    ∷ mapped ("type" being word "undefined" and no_members) ∷ mapped ("type" being word "undefined" and no_members) ∷ [])) (rule local_pair) → ⊥
pair_of_three_misfits = misfits_by 1000 refl

-- a value and a string do not fit LocalPair
pub pair_with_a_text_last_misfits : Fits (listed (mapped ("type" being word "undefined" and no_members) ∷ word "k" ∷ [])) (rule local_pair) → ⊥
pair_with_a_text_last_misfits = misfits_by 1000 refl

-- ---- null and absent

-- `{"navigation":null,"url":"u"}` fits NavigateResult, whose navigation may be null
pub navigation_null_fits : Fits (mapped ("navigation" being node.null and "url" being word "u" and no_members)) (rule navigate_result)
navigation_null_fits = fits_by 1000 refl

-- `{"url":"u"}` does not fit NavigateResult, because its navigation is required
pub navigation_absent_misfits : Fits (mapped ("url" being word "u" and no_members)) (rule navigate_result) → ⊥
navigation_absent_misfits = misfits_by 1000 refl

-- `{"type":"tab"}` fits CreateParameters, whose referenceContext is optional
pub reference_context_absent_fits : Fits (mapped ("type" being word "tab" and no_members)) (rule create_parameters)
reference_context_absent_fits = fits_by 1000 refl

-- `{"type":"tab","referenceContext":null}` does not fit CreateParameters, because it may not be null
pub reference_context_null_misfits : Fits (mapped ("type" being word "tab" and "referenceContext" being node.null and no_members)) (rule create_parameters) → ⊥
reference_context_null_misfits = misfits_by 1000 refl

-- the parent of an Info may be absent
pub parent_absent_fits : Fits (mapped ("children" being node.null and "clientWindow" being word "w" and "context" being word "c" and
    "originalOpener" being node.null and "url" being word "u" and "userContext" being word "default" and no_members)) (rule info)
parent_absent_fits = fits_by 1000 refl

-- the parent of an Info may be null
pub parent_null_fits : Fits (mapped ("children" being node.null and "clientWindow" being word "w" and "context" being word "c" and "originalOpener"
    being node.null and "url" being word "u" and "userContext" being word "default" and "parent" being node.null and no_members)) (rule info)
parent_null_fits = fits_by 1000 refl

-- the parent of an Info may not be a number
pub parent_number_misfits : Fits (mapped ("children" being node.null and "clientWindow" being word "w" and "context" being word "c" and "originalOpener"
    being node.null and "url" being word "u" and "userContext" being word "default" and "parent" being number 1 and no_members)) (rule info) → ⊥
parent_number_misfits = misfits_by 1000 refl

-- an error with `"id":null` fits ErrorResponse
pub error_with_id_null_fits : Fits (mapped ("type" being word "error" and "error" being word "unknown error" and "message" being word "m"
    and "id" being node.null and no_members)) (rule error_response)
error_with_id_null_fits = fits_by 1000 refl

-- an error without id does not fit ErrorResponse
pub error_without_id_misfits : Fits
    (mapped ("type" being word "error" and "error" being word "unknown error" and "message" being word "m" and no_members)) (rule error_response) → ⊥
error_without_id_misfits = misfits_by 1000 refl

-- an error with a code outside the list does not fit ErrorResponse
pub error_of_another_code_misfits : Fits (mapped ("type" being word "error" and "id" being number 1 and "error" being word "unknown" and
    "message" being word "m" and no_members)) (rule error_response) → ⊥
error_of_another_code_misfits = misfits_by 1000 refl

-- ---- one string of several

-- `"complete"` fits Wait
pub wait_complete_fits : Fits (word "complete") (rule wait)
wait_complete_fits = fits_by 1000 refl

-- `"Complete"` does not fit Wait
pub wait_in_upper_case_misfits : Fits (word "Complete") (rule wait) → ⊥
wait_in_upper_case_misfits = misfits_by 1000 refl

-- ---- choices where both alternatives fit

-- `{"realm":"r","context":"c"}` fits ContextTarget, with realm as an extension
pub both_members_fit_context_target : Fits (mapped ("context" being word "c" and "realm" being word "r" and no_members)) (rule context_target)
both_members_fit_context_target = fits_by 1000 refl

-- `{"realm":"r","context":"c"}` fits RealmTarget too, with context as an extension
pub both_members_fit_realm_target : Fits (mapped ("context" being word "c" and "realm" being word "r" and no_members)) (rule realm_target)
both_members_fit_realm_target = fits_by 1000 refl

-- `{"realm":"r","context":"c"}` fits Target
pub both_members_fit_target : Fits (mapped ("context" being word "c" and "realm" being word "r" and no_members)) (rule target)
both_members_fit_target = fits_by 1000 refl

-- `{"realm":"r","context":5}` fits RealmTarget
pub context_of_a_number_fits_realm_target : Fits (mapped ("realm" being word "r" and "context" being number 5 and no_members)) (rule realm_target)
context_of_a_number_fits_realm_target = fits_by 1000 refl

-- `{"realm":"r","context":5}` does not fit ContextTarget
pub context_of_a_number_misfits_context_target : Fits (mapped ("realm" being word "r" and "context" being number 5 and no_members)) (rule context_target) → ⊥
context_of_a_number_misfits_context_target = misfits_by 1000 refl

-- `{"realm":"r","context":5}` fits Target, but only by its second alternative
pub context_of_a_number_fits_target : Fits (mapped ("realm" being word "r" and "context" being number 5 and no_members)) (rule target)
context_of_a_number_fits_target = fits_by 1000 refl

-- `{"sandbox":"s"}` fits no Target
pub neither_member_misfits_target : Fits (mapped ("sandbox" being word "s" and no_members)) (rule target) → ⊥
neither_member_misfits_target = misfits_by 1000 refl

-- ---- UnsubscribeParameters

-- `{"subscriptions":["a"],"events":["b"]}` fits UnsubscribeById
pub both_lists_fit_by_id : Fits
    (mapped ("subscriptions" being listed (word "a" ∷ []) and "events" being listed (word "b" ∷ []) and no_members)) (rule unsubscribe_by_id)
both_lists_fit_by_id = fits_by 1000 refl

-- `{"subscriptions":["a"],"events":["b"]}` fits UnsubscribeByEvents
pub both_lists_fit_by_events : Fits
    (mapped ("subscriptions" being listed (word "a" ∷ []) and "events" being listed (word "b" ∷ []) and no_members)) (rule unsubscribe_by_events)
both_lists_fit_by_events = fits_by 1000 refl

-- `{"subscriptions":["a"],"events":["b"]}` fits UnsubscribeParameters
pub both_lists_fit_unsubscribe : Fits
    (mapped ("subscriptions" being listed (word "a" ∷ []) and "events" being listed (word "b" ∷ []) and no_members)) (rule unsubscribe_parameters)
both_lists_fit_unsubscribe = fits_by 1000 refl

-- `{"subscriptions":[],"events":["b"]}` does not fit UnsubscribeById
pub no_id_misfits_by_id : Fits (mapped ("subscriptions" being listed [] and "events" being listed (word "b" ∷ []) and no_members)) (rule unsubscribe_by_id) → ⊥
no_id_misfits_by_id = misfits_by 1000 refl

-- `{"subscriptions":[],"events":["b"]}` fits UnsubscribeByEvents
pub no_id_fits_by_events : Fits (mapped ("subscriptions" being listed [] and "events" being listed (word "b" ∷ []) and no_members)) (rule unsubscribe_by_events)
no_id_fits_by_events = fits_by 1000 refl

-- `{"subscriptions":[],"events":["b"]}` fits UnsubscribeParameters
pub no_id_fits_unsubscribe : Fits (mapped ("subscriptions" being listed [] and "events" being listed (word "b" ∷ []) and no_members))
    (rule unsubscribe_parameters)
no_id_fits_unsubscribe = fits_by 1000 refl

-- `{"subscriptions":[],"events":[]}` does not fit UnsubscribeById
pub empty_lists_misfit_by_id : Fits (mapped ("subscriptions" being listed [] and "events" being listed [] and no_members)) (rule unsubscribe_by_id) → ⊥
empty_lists_misfit_by_id = misfits_by 1000 refl

-- `{"subscriptions":[],"events":[]}` does not fit UnsubscribeByEvents
pub empty_lists_misfit_by_events : Fits (mapped ("subscriptions" being listed [] and "events" being listed [] and no_members)) (rule unsubscribe_by_events) → ⊥
empty_lists_misfit_by_events = misfits_by 1000 refl

-- `{"subscriptions":[],"events":[]}` does not fit UnsubscribeParameters
pub empty_lists_misfit_unsubscribe : Fits (mapped ("subscriptions" being listed [] and "events" being listed [] and no_members))
    (rule unsubscribe_parameters) → ⊥
empty_lists_misfit_unsubscribe = misfits_by 1000 refl

-- ---- log entries

-- a log entry of this type, with the members of Base and these further members
abbrev pub entry : String → Members → Node
entry kind more =
    mapped ("level" being word "info" and "source" being mapped ("realm" being word "r" and no_members) and "text" being node.null and
    "timestamp" being number 0 and "type" being word kind and more)

-- an entry of type console with method and args fits ConsoleEntry
pub console_entry_fits : Fits (entry "console" ("method" being word "log" and "args" being listed [] and no_members)) (rule console_entry)
console_entry_fits = fits_by 1000 refl

-- an entry of type console without args does not fit ConsoleEntry
pub console_without_args_misfits_console_entry : Fits (entry "console" ("method" being word "log" and no_members)) (rule console_entry) → ⊥
console_without_args_misfits_console_entry = misfits_by 1000 refl

-- an entry of type console without args fits GenericLogEntry, whose type is any string and which is extensible
pub console_without_args_fits_generic_log_entry : Fits (entry "console" ("method" being word "log" and no_members)) (rule generic_log_entry)
console_without_args_fits_generic_log_entry = fits_by 1000 refl

-- an entry of type console without args fits LogEntry
pub console_without_args_fits_log_entry : Fits (entry "console" ("method" being word "log" and no_members)) (rule log_entry)
console_without_args_fits_log_entry = fits_by 1000 refl

-- an entry of type javascript fits JavascriptEntry
pub javascript_entry_fits : Fits (entry "javascript" no_members) (rule javascript_entry)
javascript_entry_fits = fits_by 1000 refl

-- an entry of type javascript with a further member does not fit JavascriptEntry
pub javascript_with_a_further_member_misfits : Fits (entry "javascript" ("x" being node.null and no_members)) (rule javascript_entry) → ⊥
javascript_with_a_further_member_misfits = misfits_by 1000 refl

-- an entry of type javascript with a further member fits GenericLogEntry
pub javascript_with_a_further_member_is_generic : Fits (entry "javascript" ("x" being node.null and no_members)) (rule generic_log_entry)
javascript_with_a_further_member_is_generic = fits_by 1000 refl

-- an entry whose stackTrace is null fits no LogEntry
pub wrong_stack_trace_misfits_log_entry : Fits
    (entry "console" ("method" being word "log" and "args" being listed [] and "stackTrace" being node.null and no_members)) (rule log_entry) → ⊥
wrong_stack_trace_misfits_log_entry = misfits_by 1000 refl

-- ---- LocalValue and RemoteValue

-- `{"type":"array","value":[],"handle":"h"}` fits RemoteObjectReference, with type and value as extensions
pub array_with_a_handle_fits_reference : Fits (mapped ("type" being word "array" and "value" being listed [] and "handle" being word "h" and no_members))
    (rule remote_object_reference)
array_with_a_handle_fits_reference = fits_by 1000 refl

-- this object does not fit SharedReference, which requires a sharedId
pub array_with_a_handle_misfits_shared_reference : Fits
    (mapped ("type" being word "array" and "value" being listed [] and "handle" being word "h" and no_members)) (rule shared_reference) → ⊥
array_with_a_handle_misfits_shared_reference = misfits_by 1000 refl

-- this object fits LocalValue, as a Reference
pub array_with_a_handle_fits_local_value : Fits
    (mapped ("type" being word "array" and "value" being listed [] and "handle" being word "h" and no_members)) (rule local_value)
array_with_a_handle_fits_local_value = fits_by 1000 refl

-- with `"handle":5` it fits no LocalValue: it is not a reference, and the array is closed
pub array_with_a_wrong_handle_misfits_local_value : Fits
    (mapped ("type" being word "array" and "value" being listed [] and "handle" being number 5 and no_members)) (rule local_value) → ⊥
array_with_a_wrong_handle_misfits_local_value = misfits_by 1000 refl

-- `{"type":"undefined"}` fits Primitive
pub undefined_fits_primitive : Fits (mapped ("type" being word "undefined" and no_members)) (rule primitive)
undefined_fits_primitive = fits_by 1000 refl

-- `{"type":"undefined","handle":"h"}` does not
pub undefined_with_a_handle_misfits_primitive : Fits (mapped ("type" being word "undefined" and "handle" being word "h" and no_members)) (rule primitive) → ⊥
undefined_with_a_handle_misfits_primitive = misfits_by 1000 refl

-- `{"type":"undefined","handle":"h"}` fits Reference
pub undefined_with_a_handle_fits_reference : Fits (mapped ("type" being word "undefined" and "handle" being word "h" and no_members)) (rule reference)
undefined_with_a_handle_fits_reference = fits_by 1000 refl

-- `{"type":"undefined","handle":"h"}` does not fit RemoteValue, which has no references
pub undefined_with_a_handle_misfits_remote_value : Fits (mapped ("type" being word "undefined" and "handle" being word "h" and no_members))
    (rule remote_value) → ⊥
undefined_with_a_handle_misfits_remote_value = misfits_by 1000 refl

-- `{"type":"symbol","handle":"h"}` fits RemoteValue
pub symbol_with_a_handle_fits_remote_value : Fits (mapped ("type" being word "symbol" and "handle" being word "h" and no_members)) (rule remote_value)
symbol_with_a_handle_fits_remote_value = fits_by 1000 refl

-- `{"type":"symbol","handle":"h"}` with a further member does not fit RemoteValue
pub symbol_with_a_further_member_misfits_remote_value : Fits
    (mapped ("type" being word "symbol" and "handle" being word "h" and "x" being node.null and no_members)) (rule remote_value) → ⊥
symbol_with_a_further_member_misfits_remote_value = misfits_by 1000 refl

-- `{"type":"number","value":"NaN"}` fits Primitive
pub not_a_number_fits_primitive : Fits (mapped ("type" being word "number" and "value" being word "NaN" and no_members)) (rule primitive)
not_a_number_fits_primitive = fits_by 1000 refl

-- `{"type":"number","value":1.5}` does not, since 1.5 is Odd
pub fraction_misfits_primitive : Fits (mapped ("type" being word "number" and "value" being node.odd and no_members)) (rule primitive) → ⊥
fraction_misfits_primitive = misfits_by 1000 refl

-- an array with n further arrays within each other inside; the innermost is empty
abbrev pub arrays : ℕ → Node
arrays zero = mapped ("type" being word "array" and "value" being node.list no_items and no_members)
arrays (suc n) = mapped ("type" being word "array" and "value" being node.list (item (arrays n) no_items) and no_members)

-- 30 arrays have 60 levels, because each is an object with an array
pub thirty_arrays_have_60_levels : levels (arrays 29) ≡ 60
thirty_arrays_have_60_levels = refl

-- 30 arrays fit LocalValue
pub thirty_arrays_fit_local_value : Fits (arrays 29) (rule local_value)
thirty_arrays_fit_local_value = fits_by 1000 refl

-- 31 arrays do not fit LocalValue
pub thirty_one_arrays_misfit_local_value : Fits (arrays 30) (rule local_value) → ⊥
thirty_one_arrays_misfit_local_value = misfits_by 1000 refl

-- 30 arrays fit RemoteValue
pub thirty_arrays_fit_remote_value : Fits (arrays 29) (rule remote_value)
thirty_arrays_fit_remote_value = fits_by 1000 refl

-- 31 arrays do not fit RemoteValue
pub thirty_one_arrays_misfit_remote_value : Fits (arrays 30) (rule remote_value) → ⊥
thirty_one_arrays_misfit_remote_value = misfits_by 1000 refl

-- ---- commands

-- the command for session.status fits Command
pub status_command_fits : Fits status_tree (rule command)
status_command_fits = fits_by 1000 refl

-- a command with this id, this method and these params
abbrev pub command_of : Node → String → Node → Node
command_of id method params = mapped ("id" being id and "method" being word method and "params" being params and no_members)

-- the greatest js-uint is an id
pub command_of_the_greatest_id_fits : Fits (command_of (number 9007199254740991) "session.status" (mapped no_members)) (rule command)
command_of_the_greatest_id_fits = fits_by 1000 refl

-- a greater number is not an id
pub command_of_a_greater_id_misfits : Fits (command_of (number 9007199254740992) "session.status" (mapped no_members)) (rule command) → ⊥
command_of_a_greater_id_misfits = misfits_by 1000 refl

-- Odd, which is how such a number is read, is not an id
pub command_of_an_odd_id_misfits : Fits (command_of node.odd "session.status" (mapped no_members)) (rule command) → ⊥
command_of_an_odd_id_misfits = misfits_by 1000 refl

-- a command with Odd in its params does not fit
pub command_with_odd_params_misfits : Fits (command_of (number 1) "session.status" (mapped ("x" being node.odd and no_members))) (rule command) → ⊥
command_with_odd_params_misfits = misfits_by 1000 refl

-- a method that names no command does not fit
pub unknown_command_misfits : Fits (command_of (number 1) "session.fly" (mapped no_members)) (rule command) → ⊥
unknown_command_misfits = misfits_by 1000 refl

-- a command without params does not fit
pub command_without_params_misfits : Fits (mapped ("id" being number 1 and "method" being word "session.status" and no_members)) (rule command) → ⊥
command_without_params_misfits = misfits_by 1000 refl

-- the last alternative is reached: browser.removeUserContext fits
pub last_command_fits : Fits (command_of (number 1) "browser.removeUserContext" (mapped ("userContext" being word "u" and no_members))) (rule command)
last_command_fits = fits_by 1000 refl

-- params that do not fit the rule of their own method do not fit
pub params_of_another_command_misfit : Fits (command_of (number 1) "browser.removeUserContext" (mapped ("context" being word "u" and no_members)))
    (rule command) → ⊥
params_of_another_command_misfit = misfits_by 1000 refl

-- a command may have a further member
pub command_with_a_further_member_fits : Fits (mapped ("id" being number 1 and "method" being word "session.end" and "params" being mapped
    no_members and "x" being node.null and no_members)) (rule command)
command_with_a_further_member_fits = fits_by 1000 refl

-- ---- user contexts

-- `{"userContext":"u","x":null}` fits UserContextInfo, which is extensible
pub user_context_fits : Fits (mapped ("userContext" being word "u" and "x" being node.null and no_members)) (rule user_context_info)
user_context_fits = fits_by 1000 refl

-- `{"userContexts":[{"userContext":"u"}]}` fits GetUserContextsResult
pub one_user_context_fits : Fits (mapped ("userContexts" being listed (mapped ("userContext" being word "u" and no_members) ∷ []) and no_members))
    (rule get_user_contexts_result)
one_user_context_fits = fits_by 1000 refl

-- an empty array of user contexts does not fit GetUserContextsResult
pub no_user_context_misfits : Fits (mapped ("userContexts" being listed [] and no_members)) (rule get_user_contexts_result) → ⊥
no_user_context_misfits = misfits_by 1000 refl

-- an array with a string in it does not fit GetUserContextsResult
pub user_context_as_a_text_misfits : Fits (mapped ("userContexts" being listed (word "u" ∷ []) and no_members)) (rule get_user_contexts_result) → ⊥
user_context_as_a_text_misfits = misfits_by 1000 refl

-- `{"userContext":null}` does not fit RemoveUserContextParameters
pub removal_of_null_misfits : Fits (mapped ("userContext" being node.null and no_members)) (rule remove_user_context_parameters) → ⊥
removal_of_null_misfits = misfits_by 1000 refl

-- ---- messages

-- a response fits Message
pub response_fits_message : Fits
    (mapped ("type" being word "success" and "id" being number 1 and "result" being mapped no_members and no_members)) (rule message)
response_fits_message = fits_by 1000 refl

-- an event fits Message
pub event_fits_message : Fits (mapped ("type" being word "event" and "method" being word "script.realmDestroyed" and "params" being mapped
    ("realm" being word "r" and no_members) and no_members)) (rule message)
event_fits_message = fits_by 1000 refl

-- an event of another name does not fit Message
pub event_of_another_name_misfits_message : Fits (mapped ("type" being word "event" and "method" being word
    "browsingContext.navigationFailed" and "params" being mapped ("realm" being word "r" and no_members) and no_members)) (rule message) → ⊥
event_of_another_name_misfits_message = misfits_by 1000 refl

-- `{"text":"o","argument":0}` fits TableRow
pub table_row_fits : Fits (mapped ("text" being word "o" and "argument" being number 0 and no_members)) (rule table_row)
table_row_fits = fits_by 1000 refl

-- `{"text":"o","argument":0}` with `returns` does not fit TableRow
pub table_row_of_two_kinds_misfits : Fits (mapped ("text" being word "o" and "argument" being number 0 and "returns" being mapped
    ("type" being word "undefined" and no_members) and no_members)) (rule table_row) → ⊥
table_row_of_two_kinds_misfits = misfits_by 1000 refl
