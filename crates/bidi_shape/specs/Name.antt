-- The names of the profile's rules, in the order of docs/FORMATS.md. The profile is this project's own choice of rules.

-- the name of a rule
pub data Name : Type 0 where
  -- base
  empty_params : Name
  empty_result : Name
  -- messages
  command : Name
  message : Name
  command_response : Name
  error_response : Name
  event : Name
  error_code : Name
  -- session
  status_result : Name
  new_parameters : Name
  capabilities_request : Name
  capability_request : Name
  new_result : Name
  capabilities : Name
  subscribe_parameters : Name
  subscribe_result : Name
  unsubscribe_parameters : Name
  unsubscribe_by_id : Name
  unsubscribe_by_events : Name
  -- browsingContext
  info : Name
  navigation_info : Name
  wait : Name
  activate_parameters : Name
  close_parameters : Name
  create_parameters : Name
  create_result : Name
  get_tree_parameters : Name
  get_tree_result : Name
  navigate_parameters : Name
  reload_parameters : Name
  navigate_result : Name
  traverse_history_parameters : Name
  -- script
  target : Name
  context_target : Name
  realm_target : Name
  ownership : Name
  serialization_options : Name
  evaluate_parameters : Name
  call_function_parameters : Name
  disown_parameters : Name
  get_realms_parameters : Name
  realm_type : Name
  get_realms_result : Name
  realm_info : Name
  realm_destroyed_parameters : Name
  primitive : Name
  reg_exp_value : Name
  reference : Name
  shared_reference : Name
  remote_object_reference : Name
  local_value : Name
  local_pair : Name
  remote_value : Name
  remote_pair : Name
  opaque : Name
  evaluate_result : Name
  exception_details : Name
  stack_trace : Name
  stack_frame : Name
  source : Name
  -- the table of a play
  table_row : Name
  -- log
  log_entry : Name
  console_entry : Name
  javascript_entry : Name
  generic_log_entry : Name
  -- browser
  user_context_info : Name
  get_user_contexts_result : Name
  remove_user_context_parameters : Name
