-- Worked examples of scripts, values and handles.
use Rattle.std.specs.Prelude.{◌≡◌, ℕ, List, [], ◌∷◌, ◌++◌, codes, zero, suc, refl}
use Prim.Native.String.{String}
use Rattle.bidi_handles.proofs.Spelling.{said}
use Rattle.bidi_sessions.specs.Step.{Step, Text, Page, TableRow}
use Rattle.bidi_remote.specs.Machine.Sent as sent
use Rattle.machine_facts.proofs.Rows.{after, ask, begun, frame, machine_on_literals, refusal, success, value}

-- ---- targets

pub target_is_checked_before_the_row :
    after begun (ask "{'id':1,'method':'script.evaluate','params':{'awaitPromise':false,'expression':'nothing','target':{'context':'nowhere'}}}")
    ≡ refusal 1 1 "no such frame" ∷ []
unfolding machine_on_literals
target_is_checked_before_the_row = refl

pub script_without_a_row_is_not_supported :
    after begun (ask "{'id':1,'method':'script.evaluate','params':{'awaitPromise':false,'expression':'nothing','target':{'context':'$c1'}}}")
    ≡ refusal 1 1 "unsupported operation" ∷ []
unfolding machine_on_literals
script_without_a_row_is_not_supported = refl

pub unknown_realm_is_no_frame :
    after begun (ask "{'id':1,'method':'script.evaluate','params':{'awaitPromise':false,'expression':'nothing','target':{'realm':'$r9'}}}")
    ≡ refusal 1 1 "no such frame" ∷ []
unfolding machine_on_literals
unknown_realm_is_no_frame = refl

pub realm_may_be_the_target :
    after (begun
    ++ value "{'text':'o','returns':{'type':'object','value':[['a',{'type':'number','value':1}]]}}" ∷ [])
    (ask "{'id':1,'method':'script.evaluate','params':{'awaitPromise':false,'expression':'o','target':{'realm':'$r1'}}}")
    ≡ success 1 1 "{'realm':'$r1','result':{'type':'object','value':[['a',{'type':'number','value':1}]]},'type':'success'}" ∷ []
unfolding machine_on_literals
realm_may_be_the_target = refl

pub realm_of_before_a_navigation_is_unknown :
    after (begun
    ++ value "{'text':'o','returns':{'type':'object','value':[['a',{'type':'number','value':1}]]}}"
    ∷ ask "{'id':1,'method':'browsingContext.navigate','params':{'context':'$c1','url':'about:blank'}}" ∷ [])
    (ask "{'id':2,'method':'script.evaluate','params':{'awaitPromise':false,'expression':'o','target':{'realm':'$r1'}}}")
    ≡ refusal 1 2 "no such frame" ∷ []
unfolding machine_on_literals
realm_of_before_a_navigation_is_unknown = refl

pub realm_of_a_frame_may_be_the_target :
    after (begun
    ++ value "{'text':'o','returns':{'type':'object','value':[['a',{'type':'number','value':1}]]}}"
    ∷ frame "$c1" "about:blank" ∷ [])
    (ask "{'id':1,'method':'script.evaluate','params':{'awaitPromise':false,'expression':'o','target':{'realm':'$r2'}}}")
    ≡ success 1 1 "{'realm':'$r2','result':{'type':'object','value':[['a',{'type':'number','value':1}]]},'type':'success'}" ∷ []
unfolding machine_on_literals
realm_of_a_frame_may_be_the_target = refl

pub empty_sandbox_is_none :
    after (begun
    ++ value "{'text':'o','returns':{'type':'object','value':[['a',{'type':'number','value':1}]]}}" ∷ [])
    (ask "{'id':1,'method':'script.evaluate','params':{'awaitPromise':false,'expression':'o','target':{'context':'$c1','sandbox':''}}}")
    ≡ success 1 1 "{'realm':'$r1','result':{'type':'object','value':[['a',{'type':'number','value':1}]]},'type':'success'}" ∷ []
unfolding machine_on_literals
empty_sandbox_is_none = refl

pub sandbox_is_not_supported :
    after (begun
    ++ value "{'text':'o','returns':{'type':'object','value':[['a',{'type':'number','value':1}]]}}" ∷ [])
    (ask "{'id':1,'method':'script.evaluate','params':{'awaitPromise':false,'expression':'o','target':{'context':'$c1','sandbox':'x'}}}")
    ≡ refusal 1 1 "unsupported operation" ∷ []
unfolding machine_on_literals
sandbox_is_not_supported = refl

pub context_is_checked_before_the_sandbox :
    after (begun
    ++ value "{'text':'o','returns':{'type':'object','value':[['a',{'type':'number','value':1}]]}}" ∷ [])
    (ask "{'id':1,'method':'script.evaluate','params':{'awaitPromise':false,'expression':'o','target':{'context':'nowhere','sandbox':'x'}}}")
    ≡ refusal 1 1 "no such frame" ∷ []
unfolding machine_on_literals
context_is_checked_before_the_sandbox = refl

pub sandbox_of_a_realm_is_an_extension :
    after (begun
    ++ value "{'text':'o','returns':{'type':'object','value':[['a',{'type':'number','value':1}]]}}" ∷ [])
    (ask "{'id':1,'method':'script.evaluate','params':{'awaitPromise':false,'expression':'o','target':{'realm':'$r1','sandbox':'x'}}}")
    ≡ success 1 1 "{'realm':'$r1','result':{'type':'object','value':[['a',{'type':'number','value':1}]]},'type':'success'}" ∷ []
unfolding machine_on_literals
sandbox_of_a_realm_is_an_extension = refl

pub context_of_another_kind_is_an_extension_of_a_realm :
    after begun
    (ask "{'id':1,'method':'script.callFunction','params':{'arguments':[{'type':'undefined','handle':'h'}],'awaitPromise':false,'functionDeclaration':'f','target':{'realm':'r','context':5}}}")
    ≡ refusal 1 1 "no such frame" ∷ []
unfolding machine_on_literals
context_of_another_kind_is_an_extension_of_a_realm = refl

pub context_comes_before_a_realm :
    after begun
    (ask "{'id':1,'method':'script.callFunction','params':{'arguments':[{'type':'undefined','handle':'h'}],'awaitPromise':false,'functionDeclaration':'f','target':{'realm':'r','context':'$c1'}}}")
    ≡ refusal 1 1 "no such handle" ∷ []
unfolding machine_on_literals
context_comes_before_a_realm = refl

pub sandbox_of_another_kind_leaves_the_realm :
    after (begun
    ++ value "{'text':'o','returns':{'type':'object','value':[['a',{'type':'number','value':1}]]}}" ∷ [])
    (ask "{'id':1,'method':'script.evaluate','params':{'awaitPromise':false,'expression':'o','target':{'realm':'$r1','context':'$c1','sandbox':5}}}")
    ≡ success 1 1 "{'realm':'$r1','result':{'type':'object','value':[['a',{'type':'number','value':1}]]},'type':'success'}" ∷ []
unfolding machine_on_literals
sandbox_of_another_kind_leaves_the_realm = refl

-- ---- rows

pub value_that_a_row_returns_gets_a_handle :
    after (begun
    ++ value "{'text':'o','returns':{'type':'object','value':[['a',{'type':'number','value':1}]]}}" ∷ [])
    (ask "{'id':1,'method':'script.evaluate','params':{'awaitPromise':false,'expression':'o','resultOwnership':'root','target':{'context':'$c1'}}}")
    ≡ sent.Text 1 (said "{'id':1,'result':{'realm':'$r1','result':{'handle':'$h1','type':'object','value':[['a',{'type':'number','value':1}]]},'type':'success'},'type':'success'}") ∷ []
unfolding machine_on_literals
value_that_a_row_returns_gets_a_handle = refl

pub no_handle_is_given_where_none_is_asked_for :
    after (begun
    ++ value "{'text':'o','returns':{'type':'object','value':[['a',{'type':'number','value':1}]]}}"
    ∷ ask "{'id':1,'method':'script.evaluate','params':{'awaitPromise':false,'expression':'o','target':{'context':'$c1'}}}"
    ∷ ask "{'id':2,'method':'script.evaluate','params':{'awaitPromise':false,'expression':'o','resultOwnership':'none','target':{'context':'$c1'}}}" ∷ [])
    (ask "{'id':3,'method':'script.evaluate','params':{'awaitPromise':false,'expression':'o','resultOwnership':'root','target':{'context':'$c1'}}}")
    ≡ success 1 3 "{'realm':'$r1','result':{'handle':'$h1','type':'object','value':[['a',{'type':'number','value':1}]]},'type':'success'}" ∷ []
unfolding machine_on_literals
no_handle_is_given_where_none_is_asked_for = refl

pub value_that_a_row_throws_is_told_with_its_details :
    after (begun ++ value "{'text':'t','throws':{'type':'error'}}" ∷ [])
    (ask "{'id':1,'method':'script.evaluate','params':{'awaitPromise':false,'expression':'t','target':{'context':'$c1'}}}")
    ≡ sent.Text 1 (said "{'id':1,'result':{'exceptionDetails':{'columnNumber':0,'exception':{'type':'error'},'lineNumber':0,'stackTrace':{'callFrames':[]},'text':'thrown'},'realm':'$r1','type':'exception'},'type':'success'}") ∷ []
unfolding machine_on_literals
value_that_a_row_throws_is_told_with_its_details = refl

pub thrown_value_gets_a_handle_too :
    after (begun ++ value "{'text':'t','throws':{'type':'error'}}" ∷ [])
    (ask "{'id':1,'method':'script.evaluate','params':{'awaitPromise':false,'expression':'t','resultOwnership':'root','target':{'context':'$c1'}}}")
    ≡ success 1 1 "{'exceptionDetails':{'columnNumber':0,'exception':{'handle':'$h1','type':'error'},'lineNumber':0,'stackTrace':{'callFrames':[]},'text':'thrown'},'realm':'$r1','type':'exception'}" ∷ []
unfolding machine_on_literals
thrown_value_gets_a_handle_too = refl

pub row_gives_back_an_argument :
    after (begun ++ value "{'text':'f','argument':0}" ∷ [])
    (ask "{'id':1,'method':'script.callFunction','params':{'arguments':[{'type':'number','value':7}],'awaitPromise':false,'functionDeclaration':'f','target':{'context':'$c1'}}}")
    ≡ success 1 1 "{'realm':'$r1','result':{'type':'number','value':7},'type':'success'}" ∷ []
unfolding machine_on_literals
row_gives_back_an_argument = refl

pub argument_that_is_not_there_is_undefined :
    after (begun ++ value "{'text':'f','argument':1}" ∷ [])
    (ask "{'id':1,'method':'script.callFunction','params':{'arguments':[{'type':'number','value':7}],'awaitPromise':false,'functionDeclaration':'f','target':{'context':'$c1'}}}")
    ≡ success 1 1 "{'realm':'$r1','result':{'type':'undefined'},'type':'success'}" ∷ []
unfolding machine_on_literals
argument_that_is_not_there_is_undefined = refl

pub evaluation_has_no_arguments :
    after (begun ++ value "{'text':'f','argument':0}" ∷ [])
    (ask "{'id':1,'method':'script.evaluate','params':{'awaitPromise':false,'expression':'f','target':{'context':'$c1'}}}")
    ≡ success 1 1 "{'realm':'$r1','result':{'type':'undefined'},'type':'success'}" ∷ []
unfolding machine_on_literals
evaluation_has_no_arguments = refl

pub last_row_of_a_text_counts :
    after (begun
    ++ value "{'text':'o','returns':{'type':'object','value':[['a',{'type':'number','value':1}]]}}"
    ∷ value "{'text':'o','returns':{'type':'null'}}" ∷ [])
    (ask "{'id':1,'method':'script.evaluate','params':{'awaitPromise':false,'expression':'o','target':{'context':'$c1'}}}")
    ≡ success 1 1 "{'realm':'$r1','result':{'type':'null'},'type':'success'}" ∷ []
unfolding machine_on_literals
last_row_of_a_text_counts = refl

pub function_may_return_its_row :
    after (begun
    ++ value "{'text':'o','returns':{'type':'object','value':[['a',{'type':'number','value':1}]]}}" ∷ [])
    (ask "{'id':1,'method':'script.callFunction','params':{'awaitPromise':false,'functionDeclaration':'o','target':{'context':'$c1'}}}")
    ≡ success 1 1 "{'realm':'$r1','result':{'type':'object','value':[['a',{'type':'number','value':1}]]},'type':'success'}" ∷ []
unfolding machine_on_literals
function_may_return_its_row = refl

pub text_of_a_row_is_exact :
    after (begun
    ++ value "{'text':'o','returns':{'type':'object','value':[['a',{'type':'number','value':1}]]}}" ∷ [])
    (ask "{'id':1,'method':'script.evaluate','params':{'awaitPromise':false,'expression':'o ','target':{'context':'$c1'}}}")
    ≡ refusal 1 1 "unsupported operation" ∷ []
unfolding machine_on_literals
text_of_a_row_is_exact = refl

-- ---- which values take a handle

pub undefined_takes_no_handle :
    after (begun
    ++ value "{'text':'p','returns':{'type':'undefined'}}"
    ∷ value "{'text':'o','returns':{'type':'object','value':[['a',{'type':'number','value':1}]]}}"
    ∷ ask "{'id':1,'method':'script.evaluate','params':{'awaitPromise':false,'expression':'p','resultOwnership':'root','target':{'context':'$c1'}}}" ∷ [])
    (ask "{'id':2,'method':'script.evaluate','params':{'awaitPromise':false,'expression':'o','resultOwnership':'root','target':{'context':'$c1'}}}")
    ≡ success 1 2 "{'realm':'$r1','result':{'handle':'$h1','type':'object','value':[['a',{'type':'number','value':1}]]},'type':'success'}" ∷ []
unfolding machine_on_literals
undefined_takes_no_handle = refl

pub null_takes_no_handle :
    after (begun
    ++ value "{'text':'p','returns':{'type':'null'}}"
    ∷ value "{'text':'o','returns':{'type':'object','value':[['a',{'type':'number','value':1}]]}}"
    ∷ ask "{'id':1,'method':'script.evaluate','params':{'awaitPromise':false,'expression':'p','resultOwnership':'root','target':{'context':'$c1'}}}" ∷ [])
    (ask "{'id':2,'method':'script.evaluate','params':{'awaitPromise':false,'expression':'o','resultOwnership':'root','target':{'context':'$c1'}}}")
    ≡ success 1 2 "{'realm':'$r1','result':{'handle':'$h1','type':'object','value':[['a',{'type':'number','value':1}]]},'type':'success'}" ∷ []
unfolding machine_on_literals
null_takes_no_handle = refl

pub string_takes_no_handle :
    after (begun
    ++ value "{'text':'p','returns':{'type':'string','value':'s'}}"
    ∷ value "{'text':'o','returns':{'type':'object','value':[['a',{'type':'number','value':1}]]}}"
    ∷ ask "{'id':1,'method':'script.evaluate','params':{'awaitPromise':false,'expression':'p','resultOwnership':'root','target':{'context':'$c1'}}}" ∷ [])
    (ask "{'id':2,'method':'script.evaluate','params':{'awaitPromise':false,'expression':'o','resultOwnership':'root','target':{'context':'$c1'}}}")
    ≡ success 1 2 "{'realm':'$r1','result':{'handle':'$h1','type':'object','value':[['a',{'type':'number','value':1}]]},'type':'success'}" ∷ []
unfolding machine_on_literals
string_takes_no_handle = refl

pub number_takes_no_handle :
    after (begun
    ++ value "{'text':'p','returns':{'type':'number','value':1}}"
    ∷ value "{'text':'o','returns':{'type':'object','value':[['a',{'type':'number','value':1}]]}}"
    ∷ ask "{'id':1,'method':'script.evaluate','params':{'awaitPromise':false,'expression':'p','resultOwnership':'root','target':{'context':'$c1'}}}" ∷ [])
    (ask "{'id':2,'method':'script.evaluate','params':{'awaitPromise':false,'expression':'o','resultOwnership':'root','target':{'context':'$c1'}}}")
    ≡ success 1 2 "{'realm':'$r1','result':{'handle':'$h1','type':'object','value':[['a',{'type':'number','value':1}]]},'type':'success'}" ∷ []
unfolding machine_on_literals
number_takes_no_handle = refl

pub boolean_takes_no_handle :
    after (begun
    ++ value "{'text':'p','returns':{'type':'boolean','value':true}}"
    ∷ value "{'text':'o','returns':{'type':'object','value':[['a',{'type':'number','value':1}]]}}"
    ∷ ask "{'id':1,'method':'script.evaluate','params':{'awaitPromise':false,'expression':'p','resultOwnership':'root','target':{'context':'$c1'}}}" ∷ [])
    (ask "{'id':2,'method':'script.evaluate','params':{'awaitPromise':false,'expression':'o','resultOwnership':'root','target':{'context':'$c1'}}}")
    ≡ success 1 2 "{'realm':'$r1','result':{'handle':'$h1','type':'object','value':[['a',{'type':'number','value':1}]]},'type':'success'}" ∷ []
unfolding machine_on_literals
boolean_takes_no_handle = refl

pub bigint_takes_no_handle :
    after (begun
    ++ value "{'text':'p','returns':{'type':'bigint','value':'1'}}"
    ∷ value "{'text':'o','returns':{'type':'object','value':[['a',{'type':'number','value':1}]]}}"
    ∷ ask "{'id':1,'method':'script.evaluate','params':{'awaitPromise':false,'expression':'p','resultOwnership':'root','target':{'context':'$c1'}}}" ∷ [])
    (ask "{'id':2,'method':'script.evaluate','params':{'awaitPromise':false,'expression':'o','resultOwnership':'root','target':{'context':'$c1'}}}")
    ≡ success 1 2 "{'realm':'$r1','result':{'handle':'$h1','type':'object','value':[['a',{'type':'number','value':1}]]},'type':'success'}" ∷ []
unfolding machine_on_literals
bigint_takes_no_handle = refl

pub primitive_is_returned_without_a_handle :
    after (begun ++ value "{'text':'p','returns':{'type':'string','value':'s'}}" ∷ [])
    (ask "{'id':1,'method':'script.evaluate','params':{'awaitPromise':false,'expression':'p','resultOwnership':'root','target':{'context':'$c1'}}}")
    ≡ success 1 1 "{'realm':'$r1','result':{'type':'string','value':'s'},'type':'success'}" ∷ []
unfolding machine_on_literals
primitive_is_returned_without_a_handle = refl

pub regexp_takes_a_handle :
    after (begun ++ value "{'text':'p','returns':{'type':'regexp','value':{'pattern':'x'}}}" ∷ [])
    (ask "{'id':1,'method':'script.evaluate','params':{'awaitPromise':false,'expression':'p','resultOwnership':'root','target':{'context':'$c1'}}}")
    ≡ success 1 1 "{'realm':'$r1','result':{'handle':'$h1','type':'regexp','value':{'pattern':'x'}},'type':'success'}" ∷ []
unfolding machine_on_literals
regexp_takes_a_handle = refl

pub symbol_takes_a_handle :
    after (begun ++ value "{'text':'p','returns':{'type':'symbol'}}" ∷ [])
    (ask "{'id':1,'method':'script.evaluate','params':{'awaitPromise':false,'expression':'p','resultOwnership':'root','target':{'context':'$c1'}}}")
    ≡ success 1 1 "{'realm':'$r1','result':{'handle':'$h1','type':'symbol'},'type':'success'}" ∷ []
unfolding machine_on_literals
symbol_takes_a_handle = refl

-- ---- how deep a value is told

pub object_is_told_without_what_it_holds_at_depth_nought :
    after (begun
    ++ value "{'text':'o','returns':{'type':'object','value':[['a',{'type':'array','value':[{'type':'number','value':1}]}]]}}" ∷ [])
    (ask "{'id':1,'method':'script.evaluate','params':{'awaitPromise':false,'expression':'o','serializationOptions':{'maxObjectDepth':0},'target':{'context':'$c1'}}}")
    ≡ success 1 1 "{'realm':'$r1','result':{'type':'object'},'type':'success'}" ∷ []
unfolding machine_on_literals
object_is_told_without_what_it_holds_at_depth_nought = refl

pub array_in_an_object_is_cut_at_depth_one :
    after (begun
    ++ value "{'text':'o','returns':{'type':'object','value':[['a',{'type':'array','value':[{'type':'number','value':1}]}]]}}" ∷ [])
    (ask "{'id':1,'method':'script.evaluate','params':{'awaitPromise':false,'expression':'o','serializationOptions':{'maxObjectDepth':1},'target':{'context':'$c1'}}}")
    ≡ success 1 1 "{'realm':'$r1','result':{'type':'object','value':[['a',{'type':'array'}]]},'type':'success'}" ∷ []
unfolding machine_on_literals
array_in_an_object_is_cut_at_depth_one = refl

pub object_is_told_whole_at_depth_two :
    after (begun
    ++ value "{'text':'o','returns':{'type':'object','value':[['a',{'type':'array','value':[{'type':'number','value':1}]}]]}}" ∷ [])
    (ask "{'id':1,'method':'script.evaluate','params':{'awaitPromise':false,'expression':'o','serializationOptions':{'maxObjectDepth':2},'target':{'context':'$c1'}}}")
    ≡ success 1 1 "{'realm':'$r1','result':{'type':'object','value':[['a',{'type':'array','value':[{'type':'number','value':1}]}]]},'type':'success'}" ∷ []
unfolding machine_on_literals
object_is_told_whole_at_depth_two = refl

pub null_depth_leaves_a_value_whole :
    after (begun
    ++ value "{'text':'o','returns':{'type':'object','value':[['a',{'type':'array','value':[{'type':'number','value':1}]}]]}}" ∷ [])
    (ask "{'id':1,'method':'script.evaluate','params':{'awaitPromise':false,'expression':'o','serializationOptions':{'maxObjectDepth':null},'target':{'context':'$c1'}}}")
    ≡ success 1 1 "{'realm':'$r1','result':{'type':'object','value':[['a',{'type':'array','value':[{'type':'number','value':1}]}]]},'type':'success'}" ∷ []
unfolding machine_on_literals
null_depth_leaves_a_value_whole = refl

pub options_without_a_depth_leave_a_value_whole :
    after (begun
    ++ value "{'text':'o','returns':{'type':'object','value':[['a',{'type':'array','value':[{'type':'number','value':1}]}]]}}" ∷ [])
    (ask "{'id':1,'method':'script.evaluate','params':{'awaitPromise':false,'expression':'o','serializationOptions':{'x':1},'target':{'context':'$c1'}}}")
    ≡ success 1 1 "{'realm':'$r1','result':{'type':'object','value':[['a',{'type':'array','value':[{'type':'number','value':1}]}]]},'type':'success'}" ∷ []
unfolding machine_on_literals
options_without_a_depth_leave_a_value_whole = refl

pub depth_as_text_is_an_invalid_argument :
    after (begun
    ++ value "{'text':'o','returns':{'type':'object','value':[['a',{'type':'array','value':[{'type':'number','value':1}]}]]}}" ∷ [])
    (ask "{'id':1,'method':'script.evaluate','params':{'awaitPromise':false,'expression':'o','serializationOptions':{'maxObjectDepth':'1'},'target':{'context':'$c1'}}}")
    ≡ refusal 1 1 "invalid argument" ∷ []
unfolding machine_on_literals
depth_as_text_is_an_invalid_argument = refl

pub depth_below_nought_is_an_invalid_argument :
    after (begun
    ++ value "{'text':'o','returns':{'type':'object','value':[['a',{'type':'array','value':[{'type':'number','value':1}]}]]}}" ∷ [])
    (ask "{'id':1,'method':'script.evaluate','params':{'awaitPromise':false,'expression':'o','serializationOptions':{'maxObjectDepth':-1},'target':{'context':'$c1'}}}")
    ≡ refusal 1 1 "invalid argument" ∷ []
unfolding machine_on_literals
depth_below_nought_is_an_invalid_argument = refl

pub depth_with_a_fraction_is_an_invalid_argument :
    after (begun
    ++ value "{'text':'o','returns':{'type':'object','value':[['a',{'type':'array','value':[{'type':'number','value':1}]}]]}}" ∷ [])
    (ask "{'id':1,'method':'script.evaluate','params':{'awaitPromise':false,'expression':'o','serializationOptions':{'maxObjectDepth':1.5},'target':{'context':'$c1'}}}")
    ≡ refusal 1 1 "invalid argument" ∷ []
unfolding machine_on_literals
depth_with_a_fraction_is_an_invalid_argument = refl

pub null_is_no_serialization_options :
    after (begun
    ++ value "{'text':'o','returns':{'type':'object','value':[['a',{'type':'array','value':[{'type':'number','value':1}]}]]}}" ∷ [])
    (ask "{'id':1,'method':'script.evaluate','params':{'awaitPromise':false,'expression':'o','serializationOptions':null,'target':{'context':'$c1'}}}")
    ≡ refusal 1 1 "invalid argument" ∷ []
unfolding machine_on_literals
null_is_no_serialization_options = refl

pub number_is_no_serialization_options :
    after (begun ++ value "{'text':'f','argument':0}" ∷ [])
    (ask "{'id':1,'method':'script.callFunction','params':{'arguments':[{'type':'null'}],'awaitPromise':false,'functionDeclaration':'f','serializationOptions':5,'target':{'context':'$c1'}}}")
    ≡ refusal 1 1 "invalid argument" ∷ []
unfolding machine_on_literals
number_is_no_serialization_options = refl

pub key_that_is_a_value_is_cut_too :
    after (begun ++ value "{'text':'f','argument':0}" ∷ [])
    (ask "{'id':1,'method':'script.callFunction','params':{'arguments':[{'type':'map','value':[[{'type':'array','value':[]},{'type':'set','value':[{'type':'null'}]}]]}],'awaitPromise':false,'functionDeclaration':'f','serializationOptions':{'maxObjectDepth':1},'target':{'context':'$c1'}}}")
    ≡ success 1 1 "{'realm':'$r1','result':{'type':'map','value':[[{'type':'array'},{'type':'set'}]]},'type':'success'}" ∷ []
unfolding machine_on_literals
key_that_is_a_value_is_cut_too = refl

pub regexp_is_told_whole_at_depth_nought :
    after (begun ++ value "{'text':'f','argument':0}" ∷ [])
    (ask "{'id':1,'method':'script.callFunction','params':{'arguments':[{'type':'regexp','value':{'pattern':'p'}}],'awaitPromise':false,'functionDeclaration':'f','serializationOptions':{'maxObjectDepth':0},'target':{'context':'$c1'}}}")
    ≡ success 1 1 "{'realm':'$r1','result':{'type':'regexp','value':{'pattern':'p'}},'type':'success'}" ∷ []
unfolding machine_on_literals
regexp_is_told_whole_at_depth_nought = refl

pub thrown_value_is_cut_too :
    after (begun
    ++ value "{'text':'t','throws':{'type':'map','value':[['k',{'type':'set','value':[{'type':'null'}]}]]}}" ∷ [])
    (ask "{'id':1,'method':'script.evaluate','params':{'awaitPromise':false,'expression':'t','serializationOptions':{'maxObjectDepth':1},'target':{'context':'$c1'}}}")
    ≡ success 1 1 "{'exceptionDetails':{'columnNumber':0,'exception':{'type':'map','value':[['k',{'type':'set'}]]},'lineNumber':0,'stackTrace':{'callFrames':[]},'text':'thrown'},'realm':'$r1','type':'exception'}" ∷ []
unfolding machine_on_literals
thrown_value_is_cut_too = refl

pub value_that_is_cut_gets_a_handle :
    after (begun
    ++ value "{'text':'o','returns':{'type':'object','value':[['a',{'type':'array','value':[{'type':'number','value':1}]}]]}}" ∷ [])
    (ask "{'id':1,'method':'script.evaluate','params':{'awaitPromise':false,'expression':'o','resultOwnership':'root','serializationOptions':{'maxObjectDepth':0},'target':{'context':'$c1'}}}")
    ≡ success 1 1 "{'realm':'$r1','result':{'handle':'$h1','type':'object'},'type':'success'}" ∷ []
unfolding machine_on_literals
value_that_is_cut_gets_a_handle = refl

pub handle_of_a_value_that_is_cut_holds_all_of_it :
    after (begun
    ++ value "{'text':'o','returns':{'type':'object','value':[['a',{'type':'array','value':[{'type':'number','value':1}]}]]}}"
    ∷ value "{'text':'f','argument':0}"
    ∷ ask "{'id':1,'method':'script.evaluate','params':{'awaitPromise':false,'expression':'o','resultOwnership':'root','serializationOptions':{'maxObjectDepth':0},'target':{'context':'$c1'}}}" ∷ [])
    (ask "{'id':2,'method':'script.callFunction','params':{'arguments':[{'handle':'$h1'}],'awaitPromise':false,'functionDeclaration':'f','target':{'context':'$c1'}}}")
    ≡ success 1 2 "{'realm':'$r1','result':{'type':'object','value':[['a',{'type':'array','value':[{'type':'number','value':1}]}]]},'type':'success'}" ∷ []
unfolding machine_on_literals
handle_of_a_value_that_is_cut_holds_all_of_it = refl

pub value_of_a_handle_is_cut_too :
    after (begun
    ++ value "{'text':'o','returns':{'type':'object','value':[['a',{'type':'array','value':[{'type':'number','value':1}]}]]}}"
    ∷ value "{'text':'f','argument':0}"
    ∷ ask "{'id':1,'method':'script.evaluate','params':{'awaitPromise':false,'expression':'o','resultOwnership':'root','target':{'context':'$c1'}}}" ∷ [])
    (ask "{'id':2,'method':'script.callFunction','params':{'arguments':[{'type':'set','value':[{'handle':'$h1'}]}],'awaitPromise':false,'functionDeclaration':'f','serializationOptions':{'maxObjectDepth':1},'target':{'context':'$c1'}}}")
    ≡ success 1 2 "{'realm':'$r1','result':{'type':'set','value':[{'type':'object'}]},'type':'success'}" ∷ []
unfolding machine_on_literals
value_of_a_handle_is_cut_too = refl

-- ---- references

pub handle_has_its_value :
    after (begun
    ++ value "{'text':'o','returns':{'type':'object','value':[['a',{'type':'number','value':1}]]}}"
    ∷ value "{'text':'f','argument':0}"
    ∷ ask "{'id':1,'method':'script.evaluate','params':{'awaitPromise':false,'expression':'o','resultOwnership':'root','target':{'context':'$c1'}}}" ∷ [])
    (ask "{'id':2,'method':'script.callFunction','params':{'arguments':[{'handle':'$h1'}],'awaitPromise':false,'functionDeclaration':'f','target':{'context':'$c1'}}}")
    ≡ success 1 2 "{'realm':'$r1','result':{'type':'object','value':[['a',{'type':'number','value':1}]]},'type':'success'}" ∷ []
unfolding machine_on_literals
handle_has_its_value = refl

pub value_that_came_by_a_handle_gets_a_new_one :
    after (begun
    ++ value "{'text':'o','returns':{'type':'object','value':[['a',{'type':'number','value':1}]]}}"
    ∷ value "{'text':'f','argument':0}"
    ∷ ask "{'id':1,'method':'script.evaluate','params':{'awaitPromise':false,'expression':'o','resultOwnership':'root','target':{'context':'$c1'}}}" ∷ [])
    (ask "{'id':2,'method':'script.callFunction','params':{'arguments':[{'handle':'$h1'}],'awaitPromise':false,'functionDeclaration':'f','resultOwnership':'root','target':{'context':'$c1'}}}")
    ≡ success 1 2 "{'realm':'$r1','result':{'handle':'$h2','type':'object','value':[['a',{'type':'number','value':1}]]},'type':'success'}" ∷ []
unfolding machine_on_literals
value_that_came_by_a_handle_gets_a_new_one = refl

pub unknown_handle_with_further_members_is_a_reference :
    after (begun ++ value "{'text':'f','argument':0}" ∷ [])
    (ask "{'id':1,'method':'script.callFunction','params':{'arguments':[{'type':'undefined','handle':'h'}],'awaitPromise':false,'functionDeclaration':'f','target':{'context':'$c1'}}}")
    ≡ refusal 1 1 "no such handle" ∷ []
unfolding machine_on_literals
unknown_handle_with_further_members_is_a_reference = refl

pub handle_of_another_kind_does_not_fit :
    after (begun ++ value "{'text':'f','argument':0}" ∷ [])
    (ask "{'id':1,'method':'script.callFunction','params':{'arguments':[{'type':'undefined','handle':5}],'awaitPromise':false,'functionDeclaration':'f','target':{'context':'$c1'}}}")
    ≡ refusal 1 1 "invalid argument" ∷ []
unfolding machine_on_literals
handle_of_another_kind_does_not_fit = refl

pub shared_id_is_no_node :
    after (begun
    ++ value "{'text':'o','returns':{'type':'object','value':[['a',{'type':'number','value':1}]]}}"
    ∷ value "{'text':'f','argument':0}"
    ∷ ask "{'id':1,'method':'script.evaluate','params':{'awaitPromise':false,'expression':'o','resultOwnership':'root','target':{'context':'$c1'}}}" ∷ [])
    (ask "{'id':2,'method':'script.callFunction','params':{'arguments':[{'handle':'$h1','sharedId':'x'}],'awaitPromise':false,'functionDeclaration':'f','target':{'context':'$c1'}}}")
    ≡ refusal 1 2 "no such node" ∷ []
unfolding machine_on_literals
shared_id_is_no_node = refl

pub value_of_a_handle_stands_inside_a_list :
    after (begun
    ++ value "{'text':'o','returns':{'type':'object','value':[['a',{'type':'number','value':1}]]}}"
    ∷ value "{'text':'f','argument':0}"
    ∷ ask "{'id':1,'method':'script.evaluate','params':{'awaitPromise':false,'expression':'o','resultOwnership':'root','target':{'context':'$c1'}}}" ∷ [])
    (ask "{'id':2,'method':'script.callFunction','params':{'arguments':[{'type':'array','value':[{'type':'null'},{'handle':'$h1'}]}],'awaitPromise':false,'functionDeclaration':'f','target':{'context':'$c1'}}}")
    ≡ success 1 2
    "{'realm':'$r1','result':{'type':'array','value':[{'type':'null'},{'type':'object','value':[['a',{'type':'number','value':1}]]}]},'type':'success'}"
    ∷ []
unfolding machine_on_literals
value_of_a_handle_stands_inside_a_list = refl

pub value_of_a_handle_stands_as_a_key :
    after (begun
    ++ value "{'text':'o','returns':{'type':'object','value':[['a',{'type':'number','value':1}]]}}"
    ∷ value "{'text':'f','argument':0}"
    ∷ ask "{'id':1,'method':'script.evaluate','params':{'awaitPromise':false,'expression':'o','resultOwnership':'root','target':{'context':'$c1'}}}" ∷ [])
    (ask "{'id':2,'method':'script.callFunction','params':{'arguments':[{'type':'map','value':[[{'handle':'$h1'},{'type':'null'}]]}],'awaitPromise':false,'functionDeclaration':'f','target':{'context':'$c1'}}}")
    ≡ success 1 2
    "{'realm':'$r1','result':{'type':'map','value':[[{'type':'object','value':[['a',{'type':'number','value':1}]]},{'type':'null'}]]},'type':'success'}"
    ∷ []
unfolding machine_on_literals
value_of_a_handle_stands_as_a_key = refl

pub key_is_looked_at_before_its_value :
    after (begun
    ++ value "{'text':'o','returns':{'type':'object','value':[['a',{'type':'number','value':1}]]}}"
    ∷ value "{'text':'f','argument':0}"
    ∷ ask "{'id':1,'method':'script.evaluate','params':{'awaitPromise':false,'expression':'o','resultOwnership':'root','target':{'context':'$c1'}}}" ∷ [])
    (ask "{'id':2,'method':'script.callFunction','params':{'arguments':[{'type':'map','value':[[{'handle':'x'},{'sharedId':'x'}]]}],'awaitPromise':false,'functionDeclaration':'f','target':{'context':'$c1'}}}")
    ≡ refusal 1 2 "no such handle" ∷ []
unfolding machine_on_literals
key_is_looked_at_before_its_value = refl

pub values_are_looked_at_in_order :
    after (begun
    ++ value "{'text':'o','returns':{'type':'object','value':[['a',{'type':'number','value':1}]]}}"
    ∷ value "{'text':'f','argument':0}"
    ∷ ask "{'id':1,'method':'script.evaluate','params':{'awaitPromise':false,'expression':'o','resultOwnership':'root','target':{'context':'$c1'}}}" ∷ [])
    (ask "{'id':2,'method':'script.callFunction','params':{'arguments':[{'type':'set','value':[{'sharedId':'x'},{'handle':'x'}]}],'awaitPromise':false,'functionDeclaration':'f','target':{'context':'$c1'}}}")
    ≡ refusal 1 2 "no such node" ∷ []
unfolding machine_on_literals
values_are_looked_at_in_order = refl

pub other_values_keep_their_type_and_content :
    after (begun ++ value "{'text':'f','argument':0}" ∷ [])
    (ask "{'id':1,'method':'script.callFunction','params':{'arguments':[{'type':'map','value':[['k',{'type':'date','value':'d'}],[{'type':'regexp','value':{'pattern':'p','flags':'g'}},{'type':'set','value':[{'type':'number','value':'-0'}]}]]}],'awaitPromise':false,'functionDeclaration':'f','target':{'context':'$c1'}}}")
    ≡ success 1 1 "{'realm':'$r1','result':{'type':'map','value':[['k',{'type':'date','value':'d'}],[{'type':'regexp','value':{'flags':'g','pattern':'p'}},{'type':'set','value':[{'type':'number','value':'-0'}]}]]},'type':'success'}" ∷ []
unfolding machine_on_literals
other_values_keep_their_type_and_content = refl

pub this_is_resolved_last :
    after (begun
    ++ value "{'text':'o','returns':{'type':'object','value':[['a',{'type':'number','value':1}]]}}"
    ∷ value "{'text':'f','argument':0}"
    ∷ ask "{'id':1,'method':'script.evaluate','params':{'awaitPromise':false,'expression':'o','resultOwnership':'root','target':{'context':'$c1'}}}" ∷ [])
    (ask "{'id':2,'method':'script.callFunction','params':{'arguments':[{'handle':'x'}],'awaitPromise':false,'functionDeclaration':'f','target':{'context':'$c1'},'this':{'sharedId':'x'}}}")
    ≡ refusal 1 2 "no such handle" ∷ []
unfolding machine_on_literals
this_is_resolved_last = refl

pub this_is_resolved_too :
    after (begun
    ++ value "{'text':'o','returns':{'type':'object','value':[['a',{'type':'number','value':1}]]}}"
    ∷ value "{'text':'f','argument':0}"
    ∷ ask "{'id':1,'method':'script.evaluate','params':{'awaitPromise':false,'expression':'o','resultOwnership':'root','target':{'context':'$c1'}}}" ∷ [])
    (ask "{'id':2,'method':'script.callFunction','params':{'arguments':[{'handle':'$h1'}],'awaitPromise':false,'functionDeclaration':'f','target':{'context':'$c1'},'this':{'sharedId':'x'}}}")
    ≡ refusal 1 2 "no such node" ∷ []
unfolding machine_on_literals
this_is_resolved_too = refl

pub arguments_are_resolved_before_the_row_is_looked_up :
    after begun
    (ask "{'id':1,'method':'script.callFunction','params':{'arguments':[{'handle':'x'}],'awaitPromise':false,'functionDeclaration':'nothing','target':{'context':'$c1'}}}")
    ≡ refusal 1 1 "no such handle" ∷ []
unfolding machine_on_literals
arguments_are_resolved_before_the_row_is_looked_up = refl

pub target_is_checked_before_the_arguments :
    after begun
    (ask "{'id':1,'method':'script.callFunction','params':{'arguments':[{'handle':'x'}],'awaitPromise':false,'functionDeclaration':'nothing','target':{'context':'nowhere'}}}")
    ≡ refusal 1 1 "no such frame" ∷ []
unfolding machine_on_literals
target_is_checked_before_the_arguments = refl

pub handle_of_another_realm_is_unknown :
    after (begun
    ++ value "{'text':'o','returns':{'type':'object','value':[['a',{'type':'number','value':1}]]}}"
    ∷ value "{'text':'f','argument':0}"
    ∷ ask "{'id':1,'method':'script.evaluate','params':{'awaitPromise':false,'expression':'o','resultOwnership':'root','target':{'context':'$c1'}}}"
    ∷ ask "{'id':9,'method':'browsingContext.create','params':{'type':'tab'}}" ∷ [])
    (ask "{'id':2,'method':'script.callFunction','params':{'arguments':[{'handle':'$h1'}],'awaitPromise':false,'functionDeclaration':'f','target':{'context':'$c2'}}}")
    ≡ refusal 1 2 "no such handle" ∷ []
unfolding machine_on_literals
handle_of_another_realm_is_unknown = refl

pub handles_end_with_their_realm :
    after (begun
    ++ value "{'text':'o','returns':{'type':'object','value':[['a',{'type':'number','value':1}]]}}"
    ∷ value "{'text':'f','argument':0}"
    ∷ ask "{'id':1,'method':'script.evaluate','params':{'awaitPromise':false,'expression':'o','resultOwnership':'root','target':{'context':'$c1'}}}"
    ∷ ask "{'id':2,'method':'browsingContext.navigate','params':{'context':'$c1','url':'about:blank'}}" ∷ [])
    (ask "{'id':3,'method':'script.callFunction','params':{'arguments':[{'handle':'$h1'}],'awaitPromise':false,'functionDeclaration':'f','target':{'context':'$c1'}}}")
    ≡ refusal 1 3 "no such handle" ∷ []
unfolding machine_on_literals
handles_end_with_their_realm = refl

pub number_of_a_handle_is_not_used_again :
    after (begun
    ++ value "{'text':'o','returns':{'type':'object','value':[['a',{'type':'number','value':1}]]}}"
    ∷ value "{'text':'f','argument':0}"
    ∷ ask "{'id':1,'method':'script.evaluate','params':{'awaitPromise':false,'expression':'o','resultOwnership':'root','target':{'context':'$c1'}}}"
    ∷ ask "{'id':2,'method':'browsingContext.navigate','params':{'context':'$c1','url':'about:blank'}}" ∷ [])
    (ask "{'id':3,'method':'script.evaluate','params':{'awaitPromise':false,'expression':'o','resultOwnership':'root','target':{'context':'$c1'}}}")
    ≡ success 1 3 "{'realm':'$r2','result':{'handle':'$h2','type':'object','value':[['a',{'type':'number','value':1}]]},'type':'success'}" ∷ []
unfolding machine_on_literals
number_of_a_handle_is_not_used_again = refl

-- ---- disowning

pub unknown_handle_is_disowned_without_effect :
    after begun (ask "{'id':1,'method':'script.disown','params':{'handles':['$h9'],'target':{'context':'$c1'}}}")
    ≡ success 1 1 "{}" ∷ []
unfolding machine_on_literals
unknown_handle_is_disowned_without_effect = refl

pub disowned_handle_is_unknown :
    after (begun
    ++ value "{'text':'o','returns':{'type':'object','value':[['a',{'type':'number','value':1}]]}}"
    ∷ value "{'text':'f','argument':0}"
    ∷ ask "{'id':1,'method':'script.evaluate','params':{'awaitPromise':false,'expression':'o','resultOwnership':'root','target':{'context':'$c1'}}}"
    ∷ ask "{'id':2,'method':'script.disown','params':{'handles':['$h1'],'target':{'context':'$c1'}}}" ∷ [])
    (ask "{'id':3,'method':'script.callFunction','params':{'arguments':[{'handle':'$h1'}],'awaitPromise':false,'functionDeclaration':'f','target':{'context':'$c1'}}}")
    ≡ refusal 1 3 "no such handle" ∷ []
unfolding machine_on_literals
disowned_handle_is_unknown = refl

pub handle_is_disowned_in_its_own_realm_alone :
    after (begun
    ++ value "{'text':'o','returns':{'type':'object','value':[['a',{'type':'number','value':1}]]}}"
    ∷ value "{'text':'f','argument':0}"
    ∷ ask "{'id':1,'method':'script.evaluate','params':{'awaitPromise':false,'expression':'o','resultOwnership':'root','target':{'context':'$c1'}}}"
    ∷ ask "{'id':9,'method':'browsingContext.create','params':{'type':'tab'}}"
    ∷ ask "{'id':2,'method':'script.disown','params':{'handles':['$h1'],'target':{'context':'$c2'}}}" ∷ [])
    (ask "{'id':3,'method':'script.callFunction','params':{'arguments':[{'handle':'$h1'}],'awaitPromise':false,'functionDeclaration':'f','target':{'context':'$c1'}}}")
    ≡ success 1 3 "{'realm':'$r1','result':{'type':'object','value':[['a',{'type':'number','value':1}]]},'type':'success'}" ∷ []
unfolding machine_on_literals
handle_is_disowned_in_its_own_realm_alone = refl

pub no_handle_may_be_disowned :
    after (begun
    ++ value "{'text':'o','returns':{'type':'object','value':[['a',{'type':'number','value':1}]]}}"
    ∷ value "{'text':'f','argument':0}"
    ∷ ask "{'id':1,'method':'script.evaluate','params':{'awaitPromise':false,'expression':'o','resultOwnership':'root','target':{'context':'$c1'}}}"
    ∷ ask "{'id':2,'method':'script.disown','params':{'handles':[],'target':{'context':'$c1'}}}" ∷ [])
    (ask "{'id':3,'method':'script.callFunction','params':{'arguments':[{'handle':'$h1'}],'awaitPromise':false,'functionDeclaration':'f','target':{'context':'$c1'}}}")
    ≡ success 1 3 "{'realm':'$r1','result':{'type':'object','value':[['a',{'type':'number','value':1}]]},'type':'success'}" ∷ []
unfolding machine_on_literals
no_handle_may_be_disowned = refl

pub target_of_disown_is_checked :
    after begun (ask "{'id':1,'method':'script.disown','params':{'handles':['$h1'],'target':{'context':'nowhere'}}}")
    ≡ refusal 1 1 "no such frame" ∷ []
unfolding machine_on_literals
target_of_disown_is_checked = refl

pub sandbox_of_disown_is_not_supported :
    after begun (ask "{'id':1,'method':'script.disown','params':{'handles':['$h1'],'target':{'context':'$c1','sandbox':'x'}}}")
    ≡ refusal 1 1 "unsupported operation" ∷ []
unfolding machine_on_literals
sandbox_of_disown_is_not_supported = refl

-- ---- limits of an argument

-- so many arrays round a value
abbrev pub arrays : ℕ → List ℕ → List ℕ
arrays zero inner = inner
arrays (suc n) inner = said "{'type':'array','value':[" ++ arrays n inner ++ said "]}"

-- handle 1 holds 29 arrays within each other, of 58 levels
abbrev pub deep : List Step
deep =
    begun ++ Page (TableRow (said "{'text':'o','returns':" ++ arrays 28 (said "{'type':'array','value':[]}") ++ said "}"))
    ∷ value "{'text':'f','argument':0}"
    ∷ ask "{'id':1,'method':'script.evaluate','params':{'awaitPromise':false,'expression':'o','resultOwnership':'root','target':{'context':'$c1'}}}" ∷ []

-- a call with these arguments
abbrev pub call_with : String → List ℕ → Step
call_with declaration arguments =
    Text 1 (said "{'id':2,'method':'script.callFunction','params':{'arguments':["
    ++ arguments ++ said "],'awaitPromise':false,'functionDeclaration':'" ++ codes declaration ++ said "','target':{'context':'$c1'}}}")

pub sixty_levels_are_taken :
    after (deep) (call_with "f" (arrays 1 (said "{'handle':'$h1'}")))
    ≡ sent.Text 1 (said "{'id':2,'result':{'realm':'$r1','result':"
    ++ arrays 29 (said "{'type':'array','value':[]}") ++ said ",'type':'success'},'type':'success'}") ∷ []
unfolding machine_on_literals
sixty_levels_are_taken = refl

pub more_levels_are_too_many :
    after (deep) (call_with "f" (arrays 2 (said "{'handle':'$h1'}")))
    ≡ refusal 1 2 "unknown error" ∷ []
unfolding machine_on_literals
more_levels_are_too_many = refl

pub limits_of_an_argument_are_asked_before_the_next :
    after (deep) (call_with "f" (arrays 2 (said "{'handle':'$h1'}") ++ said ",{'handle':'x'}"))
    ≡ refusal 1 2 "unknown error" ∷ []
unfolding machine_on_literals
limits_of_an_argument_are_asked_before_the_next = refl

pub arguments_are_resolved_in_order :
    after (deep) (call_with "f" (said "{'handle':'x'}," ++ arrays 2 (said "{'handle':'$h1'}")))
    ≡ refusal 1 2 "no such handle" ∷ []
unfolding machine_on_literals
arguments_are_resolved_in_order = refl

pub walk_ends_before_the_limits_are_asked :
    after (deep) (call_with "f" (said "{'type':'array','value':[" ++ arrays 2 (said "{'handle':'$h1'}") ++ said ",{'handle':'x'}]}"))
    ≡ refusal 1 2 "no such handle" ∷ []
unfolding machine_on_literals
walk_ends_before_the_limits_are_asked = refl

pub limits_are_asked_before_the_row :
    after (deep) (call_with "nothing" (arrays 2 (said "{'handle':'$h1'}")))
    ≡ refusal 1 2 "unknown error" ∷ []
unfolding machine_on_literals
limits_are_asked_before_the_row = refl

-- ---- realms

pub other_types_have_no_realm :
    after begun (ask "{'id':1,'method':'script.getRealms','params':{'type':'worker'}}")
    ≡ success 1 1 "{'realms':[]}" ∷ []
unfolding machine_on_literals
other_types_have_no_realm = refl

pub context_is_looked_at_before_the_type :
    after begun (ask "{'id':1,'method':'script.getRealms','params':{'context':'nowhere','type':'worker'}}")
    ≡ refusal 1 1 "no such frame" ∷ []
unfolding machine_on_literals
context_is_looked_at_before_the_type = refl

pub other_types_have_no_realm_in_a_context :
    after begun (ask "{'id':1,'method':'script.getRealms','params':{'context':'$c1','type':'worker'}}")
    ≡ success 1 1 "{'realms':[]}" ∷ []
unfolding machine_on_literals
other_types_have_no_realm_in_a_context = refl

pub realms_are_told_in_tree_order :
    after (begun
    ++ ask "{'id':9,'method':'browsingContext.create','params':{'type':'tab'}}"
    ∷ frame "$c1" "http://a.test" ∷ [])
    (ask "{'id':1,'method':'script.getRealms','params':{'type':'window'}}")
    ≡ success 1 1 "{'realms':[{'context':'$c1','origin':'null','realm':'$r1','type':'window'},{'context':'$c3','origin':'http://a.test','realm':'$r3','type':'window'},{'context':'$c2','origin':'null','realm':'$r2','type':'window'}]}" ∷ []
unfolding machine_on_literals
realms_are_told_in_tree_order = refl

pub context_has_its_own_realm_alone :
    after (begun ++ frame "$c1" "about:blank" ∷ []) (ask "{'id':1,'method':'script.getRealms','params':{'context':'$c1'}}")
    ≡ success 1 1 "{'realms':[{'context':'$c1','origin':'null','realm':'$r1','type':'window'}]}" ∷ []
unfolding machine_on_literals
context_has_its_own_realm_alone = refl

pub frame_has_its_own_realm :
    after (begun ++ frame "$c1" "about:blank" ∷ []) (ask "{'id':1,'method':'script.getRealms','params':{'context':'$c2'}}")
    ≡ success 1 1 "{'realms':[{'context':'$c2','origin':'null','realm':'$r2','type':'window'}]}" ∷ []
unfolding machine_on_literals
frame_has_its_own_realm = refl

pub origin_of_a_blob_is_null :
    after (begun
    ++ ask "{'id':1,'method':'browsingContext.navigate','params':{'context':'$c1','url':'blob:http://a.test/1'}}" ∷ [])
    (ask "{'id':2,'method':'script.getRealms','params':{}}")
    ≡ success 1 2 "{'realms':[{'context':'$c1','origin':'null','realm':'$r2','type':'window'}]}" ∷ []
unfolding machine_on_literals
origin_of_a_blob_is_null = refl
