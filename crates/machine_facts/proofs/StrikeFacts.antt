-- What a session sees, and a play without what other sessions only asked.
use Rattle.std.specs.Prelude.{◌≡◌, ℕ, List, [], ◌∷◌, ◌++◌, map, codes, refl}
use Rattle.bidi_reduce.specs.Kept.{strike_steps, strike}
use Rattle.bidi_reduce.specs.Seen.{sees}
use Rattle.bidi_remote.specs.Machine.Sent.{Sent}
use Rattle.machine_facts.proofs.Hearing.{heard}
use Rattle.bidi_handles.proofs.Spelling.{said}
use Rattle.bidi_sessions.specs.Step.{Step, Open, NotText}
use Rattle.bidi_remote.specs.Machine.Sent as sent
use Rattle.machine_facts.proofs.Rows.{ask, ask_on, begun, machine_on_literals, open_session, success}

-- two sessions: what the second asks for itself, what is refused, and a connection without a session
abbrev pub two_sessions : List Step
two_sessions =
    open_session ∷ ask "{'id':1,'method':'session.new','params':{'capabilities':{}}}"
    ∷ Open 2 (codes "/session") ∷ ask_on 2 "{'id':1,'method':'session.new','params':{'capabilities':{}}}"
    ∷ ask_on 2 "{'id':2,'method':'session.subscribe','params':{'events':['log']}}"
    ∷ ask_on 2 "{'id':3,'method':'browsingContext.create','params':{'type':'tab'}}"
    ∷ ask_on 2 "{"
    ∷ ask_on 2 "{'id':4,'method':'browsingContext.close','params':{'context':'x'}}"
    ∷ Open 3 (codes "/session") ∷ ask_on 3 "{" ∷ []

-- what is kept of steps for a session
abbrev pub kept : List Step → ℕ → List Step
kept steps s = strike_steps steps (map heard steps) s

-- the same without the subscription and the refused texts of the second session
abbrev pub first_session_alone : List Step
first_session_alone =
    open_session ∷ ask "{'id':1,'method':'session.new','params':{'capabilities':{}}}"
    ∷ Open 2 (codes "/session") ∷ ask_on 2 "{'id':1,'method':'session.new','params':{'capabilities':{}}}"
    ∷ ask_on 2 "{'id':3,'method':'browsingContext.create','params':{'type':'tab'}}"
    ∷ Open 3 (codes "/session") ∷ ask_on 3 "{" ∷ []

pub what_another_session_only_asked_is_struck : kept two_sessions 1 ≡ first_session_alone
unfolding machine_on_literals
what_another_session_only_asked_is_struck = refl

pub for_a_session_that_is_not_there_it_is_the_same : kept two_sessions 7 ≡ first_session_alone
unfolding machine_on_literals
for_a_session_that_is_not_there_it_is_the_same = refl

pub what_a_session_asked_itself_is_kept : kept two_sessions 2 ≡ two_sessions
unfolding machine_on_literals
what_a_session_asked_itself_is_kept = refl

pub message_that_is_no_text_is_kept : kept (begun ++ NotText 1 ∷ []) 2 ≡ begun ++ NotText 1 ∷ []
unfolding machine_on_literals
message_that_is_no_text_is_kept = refl

pub quiet_command_is_struck : kept (begun ++ ask "{'id':1,'method':'session.status','params':{}}"
    ∷ ask "{'id':2,'method':'browsingContext.getTree','params':{}}" ∷ ask "{'id':3,'method':'script.getRealms','params':{}}"
    ∷ ask "{'id':4,'method':'browsingContext.activate','params':{'context':'$c1'}}" ∷ []) 2 ≡ begun
unfolding machine_on_literals
quiet_command_is_struck = refl

pub command_that_others_see_is_kept : kept (begun ++ ask "{'id':1,'method':'browsingContext.navigate','params':{'context':'$c1','url':'http://a.test'}}" ∷ []) 2
    ≡ begun ++ ask "{'id':1,'method':'browsingContext.navigate','params':{'context':'$c1','url':'http://a.test'}}" ∷ []
unfolding machine_on_literals
command_that_others_see_is_kept = refl

-- also the list of them, which changes nothing
pub commands_for_user_contexts_are_kept : kept (begun ++ ask "{'id':1,'method':'browser.createUserContext','params':{}}"
    ∷ ask "{'id':2,'method':'browser.getUserContexts','params':{}}" ∷ ask "{'id':3,'method':'browser.removeUserContext','params':{'userContext':'$k1'}}" ∷ []) 2
    ≡ begun ++ ask "{'id':1,'method':'browser.createUserContext','params':{}}"
    ∷ ask "{'id':2,'method':'browser.getUserContexts','params':{}}" ∷ ask "{'id':3,'method':'browser.removeUserContext','params':{'userContext':'$k1'}}" ∷ []
unfolding machine_on_literals
commands_for_user_contexts_are_kept = refl

pub refused_removal_of_a_user_context_is_struck :
    kept (begun ++ ask "{'id':1,'method':'browser.removeUserContext','params':{'userContext':'default'}}" ∷ []) 2 ≡ begun
unfolding machine_on_literals
refused_removal_of_a_user_context_is_struck = refl

pub first_session_sees_its_own_connection : sees (map heard two_sessions) 1 ≡ success 1 1
    "{'capabilities':{'acceptInsecureCerts':false,'browserName':'memory-browser','browserVersion':'1.0','platformName':'none','setWindowRect':false,'userAgent':'memory-browser/1.0'},'sessionId':'$s1'}" ∷ []
unfolding machine_on_literals
first_session_sees_its_own_connection = refl

pub first_session_sees_the_same_of_what_is_kept : sees (strike (map heard two_sessions) 1) 1 ≡ sees (map heard two_sessions) 1
unfolding machine_on_literals
first_session_sees_the_same_of_what_is_kept = refl

pub session_sees_itself_end : sees (map heard (begun ++ Open 2 (said "/session/$s1") ∷ ask_on 2 "{'id':5,'method':'session.end','params':{}}" ∷ [])) 1
    ≡ success 1 0 "{'capabilities':{'acceptInsecureCerts':false,'browserName':'memory-browser','browserVersion':'1.0','platformName':'none','setWindowRect':false,'userAgent':'memory-browser/1.0'},'sessionId':'$s1'}"
    ∷ sent.Opened 2 ∷ success 2 5 "{}" ∷ sent.Close 1 ∷ sent.Close 2 ∷ []
unfolding machine_on_literals
session_sees_itself_end = refl
