-- Worked examples of judging, connections and sessions.
use Rattle.std.specs.Prelude.{◌≡◌, ℕ, List, [], ◌∷◌, ◌++◌, map, codes, refl}
use Rattle.bidi_contexts.specs.Contexts.{up_to}
use Rattle.bidi_remote.specs.Machine.Sent.{answers}
use Rattle.bidi_handles.proofs.Spelling.{said}
use Rattle.bidi_sessions.specs.Step.{Step, Open, Drop, Text, NotText}
use Rattle.bidi_remote.specs.Machine.Sent as sent
use Rattle.machine_facts.proofs.Rows.{after, ask, ask_on, begun, machine_on_literals, new_session, open_session, refusal, success}

-- ---- judging

pub fresh_end_is_ready :
    after (open_session ∷ []) (ask "{'id':1,'method':'session.status','params':{}}")
    ≡ sent.Text 1 (said "{'id':1,'result':{'message':'ready','ready':true},'type':'success'}") ∷ []
unfolding machine_on_literals
fresh_end_is_ready = refl

pub text_that_is_not_json_is_refused_with_no_id :
    after (open_session ∷ []) (ask "{'id':1")
    ≡ sent.Text 1 (said "{'error':'invalid argument','id':null,'message':'invalid argument','type':'error'}") ∷ []
unfolding machine_on_literals
text_that_is_not_json_is_refused_with_no_id = refl

pub message_that_is_no_text_is_refused_like_one_that_is_not_json :
    after (open_session ∷ []) (NotText 1)
    ≡ sent.Text 1 (said "{'error':'invalid argument','id':null,'message':'invalid argument','type':'error'}") ∷ []
unfolding machine_on_literals
message_that_is_no_text_is_refused_like_one_that_is_not_json = refl

pub unknown_method_is_refused_with_its_id :
    after (open_session ∷ []) (ask "{'id':9007199254740991,'method':'session.fly','params':{}}")
    ≡ refusal 1 9007199254740991 "unknown command" ∷ []
unfolding machine_on_literals
unknown_method_is_refused_with_its_id = refl

pub id_past_js_uint_is_not_echoed :
    after (open_session ∷ []) (ask "{'id':9007199254740992,'method':'session.status','params':{}}")
    ≡ sent.Text 1 (said "{'error':'invalid argument','id':null,'message':'invalid argument','type':'error'}") ∷ []
unfolding machine_on_literals
id_past_js_uint_is_not_echoed = refl

pub fraction_fits_no_command :
    after (open_session ∷ []) (ask "{'id':5,'method':'session.status','params':{'x':1.5}}")
    ≡ refusal 1 5 "invalid argument" ∷ []
unfolding machine_on_literals
fraction_fits_no_command = refl

pub command_needs_a_session :
    after (open_session ∷ []) (ask "{'id':6,'method':'browsingContext.getTree','params':{}}")
    ≡ sent.Text 1 (said "{'error':'invalid session id','id':6,'message':'invalid session id','type':'error'}") ∷ []
unfolding machine_on_literals
command_needs_a_session = refl

-- ---- connections

pub empty_play_sends_nothing : answers [] ≡ []
unfolding machine_on_literals
empty_play_sends_nothing = refl

pub text_of_a_connection_that_is_not_open_is_lost :
    after ([]) (Text 9 (said "{}"))
    ≡ sent.Lost 9 ∷ []
unfolding machine_on_literals
text_of_a_connection_that_is_not_open_is_lost = refl

pub message_that_is_no_text_is_lost_too :
    after ([]) (NotText 9)
    ≡ sent.Lost 9 ∷ []
unfolding machine_on_literals
message_that_is_no_text_is_lost_too = refl

pub drop_of_a_connection_that_is_not_open_is_lost :
    after ([]) (Drop 9)
    ≡ sent.Lost 9 ∷ []
unfolding machine_on_literals
drop_of_a_connection_that_is_not_open_is_lost = refl

pub drop_of_an_open_connection_sends_nothing :
    after (open_session ∷ []) (Drop 1)
    ≡ []
unfolding machine_on_literals
drop_of_an_open_connection_sends_nothing = refl

pub session_resource_opens :
    after ([]) (open_session)
    ≡ sent.Opened 1 ∷ []
unfolding machine_on_literals
session_resource_opens = refl

pub unknown_resource_is_denied :
    after ([]) (Open 1 (codes "/x"))
    ≡ sent.Denied 1 ∷ []
unfolding machine_on_literals
unknown_resource_is_denied = refl

pub resource_of_a_session_that_is_not_active_is_denied :
    after ([]) (Open 1 (said "/session/$s1"))
    ≡ sent.Denied 1 ∷ []
unfolding machine_on_literals
resource_of_a_session_that_is_not_active_is_denied = refl

pub resource_of_an_active_session_opens :
    after begun (Open 2 (said "/session/$s1"))
    ≡ sent.Opened 2 ∷ []
unfolding machine_on_literals
resource_of_an_active_session_opens = refl

pub slash_behind_a_session_is_denied :
    after begun (Open 2 (said "/session/$s1/"))
    ≡ sent.Denied 2 ∷ []
unfolding machine_on_literals
slash_behind_a_session_is_denied = refl

pub open_number_is_denied :
    after begun (Open 1 (said "/session/$s1"))
    ≡ sent.Denied 1 ∷ []
unfolding machine_on_literals
open_number_is_denied = refl

pub denied_open_leaves_the_connection_as_it_was :
    after (begun ++ open_session ∷ []) (ask "{'id':1,'method':'browsingContext.activate','params':{'context':'$c1'}}")
    ≡ success 1 1 "{}" ∷ []
unfolding machine_on_literals
denied_open_leaves_the_connection_as_it_was = refl

pub sixty_fifth_connection_is_denied :
    after (map (λ n. Open n (codes "/session")) (up_to 64)) (Open 65 (codes "/session"))
    ≡ sent.Denied 65 ∷ []
unfolding machine_on_literals
sixty_fifth_connection_is_denied = refl

pub dropped_connection_makes_room :
    after (map (λ n. Open n (codes "/session")) (up_to 64) ++ Drop 7 ∷ []) (Open 65 (codes "/session"))
    ≡ sent.Opened 65 ∷ []
unfolding machine_on_literals
dropped_connection_makes_room = refl

pub dropped_number_may_be_opened_again :
    after (begun ++ Drop 1 ∷ []) (Open 1 (codes "/session"))
    ≡ sent.Opened 1 ∷ []
unfolding machine_on_literals
dropped_number_may_be_opened_again = refl

pub new_opening_has_no_session :
    after (begun ++ Drop 1 ∷ open_session ∷ []) (ask "{'id':1,'method':'session.end','params':{}}")
    ≡ refusal 1 1 "invalid session id" ∷ []
unfolding machine_on_literals
new_opening_has_no_session = refl

-- ---- new sessions

pub new_session_has_the_capabilities_of_the_browser :
    after (open_session ∷ []) (new_session)
    ≡ sent.Text 1 (said "{'id':0,'result':{'capabilities':{'acceptInsecureCerts':false,'browserName':'memory-browser','browserVersion':'1.0','platformName':'none','setWindowRect':false,'userAgent':'memory-browser/1.0'},'sessionId':'00000000-0001-8000-8000-000000000001'},'type':'success'}") ∷ []
unfolding machine_on_literals
new_session_has_the_capabilities_of_the_browser = refl

pub connection_has_one_session :
    after begun (ask "{'id':1,'method':'session.new','params':{'capabilities':{}}}")
    ≡ sent.Text 1 (said "{'error':'session not created','id':1,'message':'session not created','type':'error'}") ∷ []
unfolding machine_on_literals
connection_has_one_session = refl

pub second_session_is_refused_before_its_capabilities :
    after begun (ask "{'id':1,'method':'session.new','params':{'capabilities':{'firstMatch':[]}}}")
    ≡ refusal 1 1 "session not created" ∷ []
unfolding machine_on_literals
second_session_is_refused_before_its_capabilities = refl

-- what the first session is told
abbrev pub first_session_made : sent.Sent
first_session_made =
    success 1 0
    "{'capabilities':{'acceptInsecureCerts':false,'browserName':'memory-browser','browserVersion':'1.0','platformName':'none','setWindowRect':false,'userAgent':'memory-browser/1.0'},'sessionId':'$s1'}"

pub entry_after_one_that_does_not_match_matches :
    after (open_session ∷ [])
    (ask "{'id':0,'method':'session.new','params':{'capabilities':{'alwaysMatch':{'browserName':'memory-browser'},'firstMatch':[{'platformName':'x'},{'v:y':1}]}}}")
    ≡ first_session_made ∷ []
unfolding machine_on_literals
entry_after_one_that_does_not_match_matches = refl

pub empty_first_match_is_ill_formed :
    after (open_session ∷ []) (ask "{'id':0,'method':'session.new','params':{'capabilities':{'firstMatch':[]}}}")
    ≡ refusal 1 0 "invalid argument" ∷ []
unfolding machine_on_literals
empty_first_match_is_ill_formed = refl

pub left_out_capability_is_ill_formed :
    after (open_session ∷ []) (ask "{'id':0,'method':'session.new','params':{'capabilities':{'alwaysMatch':{'setWindowRect':false}}}}")
    ≡ refusal 1 0 "invalid argument" ∷ []
unfolding machine_on_literals
left_out_capability_is_ill_formed = refl

pub name_in_both_is_ill_formed :
    after (open_session ∷ [])
    (ask "{'id':0,'method':'session.new','params':{'capabilities':{'alwaysMatch':{'browserName':'a'},'firstMatch':[{'browserName':'a'}]}}}")
    ≡ refusal 1 0 "invalid argument" ∷ []
unfolding machine_on_literals
name_in_both_is_ill_formed = refl

pub entry_after_one_that_does_not_match_is_checked :
    after (open_session ∷ []) (ask "{'id':0,'method':'session.new','params':{'capabilities':{'firstMatch':[{'browserName':'other'},{'foo':1}]}}}")
    ≡ refusal 1 0 "invalid argument" ∷ []
unfolding machine_on_literals
entry_after_one_that_does_not_match_is_checked = refl

pub entry_after_one_that_matches_is_checked :
    after (open_session ∷ []) (ask "{'id':0,'method':'session.new','params':{'capabilities':{'firstMatch':[{},{'foo':1}]}}}")
    ≡ refusal 1 0 "invalid argument" ∷ []
unfolding machine_on_literals
entry_after_one_that_matches_is_checked = refl

pub no_entry_matches :
    after (open_session ∷ []) (ask "{'id':0,'method':'session.new','params':{'capabilities':{'firstMatch':[{'browserName':'other'}]}}}")
    ≡ refusal 1 0 "session not created" ∷ []
unfolding machine_on_literals
no_entry_matches = refl

pub what_matches_always_has_to_match :
    after (open_session ∷ []) (ask "{'id':0,'method':'session.new','params':{'capabilities':{'alwaysMatch':{'acceptInsecureCerts':true}}}}")
    ≡ refusal 1 0 "session not created" ∷ []
unfolding machine_on_literals
what_matches_always_has_to_match = refl

pub each_capability_may_be_met :
    after (open_session ∷ [])
    (ask "{'id':0,'method':'session.new','params':{'capabilities':{'alwaysMatch':{'acceptInsecureCerts':false,'browserVersion':'1.0','platformName':'none'}}}}")
    ≡ first_session_made ∷ []
unfolding machine_on_literals
each_capability_may_be_met = refl

pub name_with_a_colon_is_left_out :
    after (open_session ∷ []) (ask "{'id':0,'method':'session.new','params':{'capabilities':{'alwaysMatch':{'v:y':1},'firstMatch':[{'v:y':2}]}}}")
    ≡ first_session_made ∷ []
unfolding machine_on_literals
name_with_a_colon_is_left_out = refl

pub empty_name_has_no_colon :
    after (open_session ∷ []) (ask "{'id':0,'method':'session.new','params':{'capabilities':{'alwaysMatch':{'':1}}}}")
    ≡ refusal 1 0 "invalid argument" ∷ []
unfolding machine_on_literals
empty_name_has_no_colon = refl

pub left_out_name_beside_the_entries_is_an_extension :
    after (open_session ∷ []) (ask "{'id':0,'method':'session.new','params':{'capabilities':{'proxy':{}}}}")
    ≡ first_session_made ∷ []
unfolding machine_on_literals
left_out_name_beside_the_entries_is_an_extension = refl

-- ---- how many sessions

-- so many connections, each with a session
abbrev pub with_sessions : ℕ → List Step
with_sessions n =
    map (λ c. Open c (codes "/session")) (up_to n)
    ++ map (λ c. Text c (said "{'id':0,'method':'session.new','params':{'capabilities':{}}}")) (up_to n)

pub ninth_session_is_not_created :
    after (with_sessions 8 ++ Open 9 (codes "/session") ∷ []) (ask_on 9 "{'id':1,'method':'session.new','params':{'capabilities':{}}}")
    ≡ refusal 9 1 "session not created" ∷ []
unfolding machine_on_literals
ninth_session_is_not_created = refl

pub eight_sessions_are_all :
    after (with_sessions 8) (ask "{'id':1,'method':'session.status','params':{}}")
    ≡ success 1 1 "{'message':'full','ready':false}" ∷ []
unfolding machine_on_literals
eight_sessions_are_all = refl

pub ill_formed_capabilities_come_before_the_number_of_sessions :
    after (with_sessions 8 ++ Open 9 (codes "/session") ∷ []) (ask_on 9 "{'id':1,'method':'session.new','params':{'capabilities':{'firstMatch':[]}}}")
    ≡ refusal 9 1 "invalid argument" ∷ []
unfolding machine_on_literals
ill_formed_capabilities_come_before_the_number_of_sessions = refl

pub number_of_a_session_is_not_used_again :
    after (with_sessions 8 ++ ask "{'id':1,'method':'session.end','params':{}}" ∷ Open 9 (codes "/session") ∷ [])
    (ask_on 9 "{'id':0,'method':'session.new','params':{'capabilities':{}}}")
    ≡ success 9 0 "{'capabilities':{'acceptInsecureCerts':false,'browserName':'memory-browser','browserVersion':'1.0','platformName':'none','setWindowRect':false,'userAgent':'memory-browser/1.0'},'sessionId':'$s9'}" ∷ []
unfolding machine_on_literals
number_of_a_session_is_not_used_again = refl

-- ---- the end of a session

pub end_closes_the_connections_in_order_of_opening :
    after (begun ++ Open 2 (said "/session/$s1") ∷ []) (ask_on 2 "{'id':1,'method':'session.end','params':{}}")
    ≡ success 2 1 "{}"
    ∷ sent.Close 1
    ∷ sent.Close 2 ∷ []
unfolding machine_on_literals
end_closes_the_connections_in_order_of_opening = refl

pub closed_connection_is_lost :
    after (begun
    ++ Open 2 (said "/session/$s1")
    ∷ ask_on 2 "{'id':1,'method':'session.end','params':{}}" ∷ [])
    (ask "{}")
    ≡ sent.Lost 1 ∷ []
unfolding machine_on_literals
closed_connection_is_lost = refl

pub reopened_connection_goes_to_the_end :
    after (begun ++ Open 2 (said "/session/$s1") ∷ Drop 1 ∷ Open 1 (said "/session/$s1") ∷ []) (ask_on 2 "{'id':1,'method':'session.end','params':{}}")
    ≡ success 2 1 "{}"
    ∷ sent.Close 2
    ∷ sent.Close 1 ∷ []
unfolding machine_on_literals
reopened_connection_goes_to_the_end = refl

pub ended_session_is_no_resource :
    after (begun ++ ask "{'id':1,'method':'session.end','params':{}}" ∷ []) (Open 2 (said "/session/$s1"))
    ≡ sent.Denied 2 ∷ []
unfolding machine_on_literals
ended_session_is_no_resource = refl

pub session_outlives_its_connections :
    after (begun ++ Drop 1 ∷ []) (Open 2 (said "/session/$s1"))
    ≡ sent.Opened 2 ∷ []
unfolding machine_on_literals
session_outlives_its_connections = refl
