-- Worked examples of user contexts.
use Rattle.std.specs.Prelude.{◌≡◌, [], ◌∷◌, ◌++◌, refl}
use Rattle.bidi_scripts.specs.declared.log_entry.Level.TheVariants.{Info}
use Rattle.machine_facts.proofs.Rows.{after, ask, begun, event, frame, log, machine_on_literals, open_session, refusal, success}

-- ---- which there are

pub user_context_is_made :
    after begun (ask "{'id':1,'method':'browser.createUserContext','params':{}}")
    ≡ success 1 1 "{'userContext':'$k1'}" ∷ []
unfolding machine_on_literals
user_context_is_made = refl

pub default_is_listed_first :
    after (begun
    ++ ask "{'id':1,'method':'browser.createUserContext','params':{}}"
    ∷ ask "{'id':2,'method':'browser.createUserContext','params':{}}" ∷ [])
    (ask "{'id':3,'method':'browser.getUserContexts','params':{}}")
    ≡ success 1 3 "{'userContexts':[{'userContext':'default'},{'userContext':'$k1'},{'userContext':'$k2'}]}" ∷ []
unfolding machine_on_literals
default_is_listed_first = refl

pub default_is_there_from_the_start :
    after begun (ask "{'id':1,'method':'browser.getUserContexts','params':{}}")
    ≡ success 1 1 "{'userContexts':[{'userContext':'default'}]}" ∷ []
unfolding machine_on_literals
default_is_there_from_the_start = refl

pub default_is_not_removed :
    after begun (ask "{'id':1,'method':'browser.removeUserContext','params':{'userContext':'default'}}")
    ≡ refusal 1 1 "invalid argument" ∷ []
unfolding machine_on_literals
default_is_not_removed = refl

pub user_context_is_removed :
    after (begun ++ ask "{'id':1,'method':'browser.createUserContext','params':{}}" ∷ [])
    (ask "{'id':2,'method':'browser.removeUserContext','params':{'userContext':'$k1'}}")
    ≡ success 1 2 "{}" ∷ []
unfolding machine_on_literals
user_context_is_removed = refl

pub removed_user_context_is_unknown :
    after (begun
    ++ ask "{'id':1,'method':'browser.createUserContext','params':{}}"
    ∷ ask "{'id':2,'method':'browser.removeUserContext','params':{'userContext':'$k1'}}" ∷ [])
    (ask "{'id':3,'method':'browser.removeUserContext','params':{'userContext':'$k1'}}")
    ≡ refusal 1 3 "no such user context" ∷ []
unfolding machine_on_literals
removed_user_context_is_unknown = refl

pub unknown_user_context_is_not_removed :
    after (begun ++ ask "{'id':1,'method':'browser.createUserContext','params':{}}" ∷ [])
    (ask "{'id':2,'method':'browser.removeUserContext','params':{'userContext':'$k2'}}")
    ≡ refusal 1 2 "no such user context" ∷ []
unfolding machine_on_literals
unknown_user_context_is_not_removed = refl

pub number_of_a_removed_user_context_is_not_given_again :
    after (begun
    ++ ask "{'id':1,'method':'browser.createUserContext','params':{}}"
    ∷ ask "{'id':2,'method':'browser.removeUserContext','params':{'userContext':'$k1'}}" ∷ [])
    (ask "{'id':3,'method':'browser.createUserContext','params':{}}")
    ≡ success 1 3 "{'userContext':'$k2'}" ∷ []
unfolding machine_on_literals
number_of_a_removed_user_context_is_not_given_again = refl

pub those_that_stay_are_listed_by_creation :
    after (begun
    ++ ask "{'id':1,'method':'browser.createUserContext','params':{}}"
    ∷ ask "{'id':2,'method':'browser.createUserContext','params':{}}"
    ∷ ask "{'id':3,'method':'browser.removeUserContext','params':{'userContext':'$k1'}}"
    ∷ ask "{'id':4,'method':'browser.createUserContext','params':{}}" ∷ [])
    (ask "{'id':5,'method':'browser.getUserContexts','params':{}}")
    ≡ success 1 5 "{'userContexts':[{'userContext':'default'},{'userContext':'$k2'},{'userContext':'$k3'}]}" ∷ []
unfolding machine_on_literals
those_that_stay_are_listed_by_creation = refl

pub connection_without_a_session_makes_none :
    after (open_session ∷ []) (ask "{'id':1,'method':'browser.createUserContext','params':{}}")
    ≡ refusal 1 1 "invalid session id" ∷ []
unfolding machine_on_literals
connection_without_a_session_makes_none = refl

-- ---- what stands in them

pub tab_of_a_removed_user_context_is_not_made :
    after (begun
    ++ ask "{'id':1,'method':'browser.createUserContext','params':{}}"
    ∷ ask "{'id':2,'method':'browser.removeUserContext','params':{'userContext':'$k1'}}" ∷ [])
    (ask "{'id':3,'method':'browsingContext.create','params':{'type':'tab','userContext':'$k1'}}")
    ≡ refusal 1 3 "no such user context" ∷ []
unfolding machine_on_literals
tab_of_a_removed_user_context_is_not_made = refl

pub frame_is_in_the_user_context_of_its_parent :
    after (begun
    ++ ask "{'id':1,'method':'browser.createUserContext','params':{}}"
    ∷ ask "{'id':2,'method':'browsingContext.create','params':{'type':'tab','userContext':'$k1'}}"
    ∷ frame "$c2" "about:blank" ∷ [])
    (ask "{'id':3,'method':'browsingContext.getTree','params':{'root':'$c3'}}")
    ≡ success 1 3 "{'contexts':[{'children':[],'clientWindow':'$w1','context':'$c3','originalOpener':null,'parent':'$c2','url':'about:blank','userContext':'$k1'}]}" ∷ []
unfolding machine_on_literals
frame_is_in_the_user_context_of_its_parent = refl

pub tab_takes_the_window_of_the_oldest_context_of_any_user_context :
    after (begun
    ++ ask "{'id':1,'method':'browser.createUserContext','params':{}}"
    ∷ ask "{'id':2,'method':'browsingContext.create','params':{'type':'tab','userContext':'$k1'}}" ∷ [])
    (ask "{'id':3,'method':'browsingContext.getTree','params':{'root':'$c2'}}")
    ≡ success 1 3 "{'contexts':[{'children':[],'clientWindow':'$w1','context':'$c2','originalOpener':null,'parent':null,'url':'about:blank','userContext':'$k1'}]}" ∷ []
unfolding machine_on_literals
tab_takes_the_window_of_the_oldest_context_of_any_user_context = refl

pub what_stands_in_a_removed_user_context_is_unknown :
    after (begun
    ++ ask "{'id':1,'method':'browser.createUserContext','params':{}}"
    ∷ ask "{'id':2,'method':'browsingContext.create','params':{'type':'tab','userContext':'$k1'}}"
    ∷ frame "$c2" "about:blank"
    ∷ ask "{'id':3,'method':'browser.removeUserContext','params':{'userContext':'$k1'}}" ∷ [])
    (ask "{'id':4,'method':'browsingContext.getTree','params':{'root':'$c3'}}")
    ≡ refusal 1 4 "no such frame" ∷ []
unfolding machine_on_literals
what_stands_in_a_removed_user_context_is_unknown = refl

-- as the close of each does
pub removal_tells_of_each_context_by_creation :
    after (begun
    ++ ask "{'id':1,'method':'browser.createUserContext','params':{}}"
    ∷ ask "{'id':2,'method':'browsingContext.create','params':{'type':'tab','userContext':'$k1'}}"
    ∷ ask "{'id':3,'method':'browsingContext.create','params':{'type':'tab','userContext':'$k1'}}"
    ∷ frame "$c2" "about:blank"
    ∷ ask "{'id':4,'method':'session.subscribe','params':{'events':['browsingContext.contextDestroyed','script.realmDestroyed']}}" ∷ [])
    (ask "{'id':5,'method':'browser.removeUserContext','params':{'userContext':'$k1'}}")
    ≡ event 1 "script.realmDestroyed" "{'realm':'$r2'}"
    ∷ event 1 "script.realmDestroyed" "{'realm':'$r4'}"
    ∷ event 1 "browsingContext.contextDestroyed"
    "{'children':[{'children':[],'clientWindow':'$w1','context':'$c4','originalOpener':null,'url':'about:blank','userContext':'$k1'}],'clientWindow':'$w1','context':'$c2','originalOpener':null,'parent':null,'url':'about:blank','userContext':'$k1'}"
    ∷ event 1 "script.realmDestroyed" "{'realm':'$r3'}"
    ∷ event 1 "browsingContext.contextDestroyed"
    "{'children':[],'clientWindow':'$w1','context':'$c3','originalOpener':null,'parent':null,'url':'about:blank','userContext':'$k1'}"
    ∷ success 1 5 "{}" ∷ []
unfolding machine_on_literals
removal_tells_of_each_context_by_creation = refl

-- ---- subscriptions for them

pub nothing_stands_in_a_new_user_context :
    after (begun ++ ask "{'id':1,'method':'browser.createUserContext','params':{}}" ∷ [])
    (ask "{'id':2,'method':'session.subscribe','params':{'events':['browsingContext.contextCreated'],'userContexts':['$k1']}}")
    ≡ success 1 2 "{'subscription':'$u1'}" ∷ []
unfolding machine_on_literals
nothing_stands_in_a_new_user_context = refl

pub context_that_is_made_in_another_is_not_told :
    after (begun
    ++ ask "{'id':1,'method':'browser.createUserContext','params':{}}"
    ∷ ask "{'id':2,'method':'session.subscribe','params':{'events':['browsingContext.contextCreated'],'userContexts':['$k1']}}" ∷ [])
    (ask "{'id':3,'method':'browsingContext.create','params':{'type':'tab'}}")
    ≡ success 1 3 "{'context':'$c2'}" ∷ []
unfolding machine_on_literals
context_that_is_made_in_another_is_not_told = refl

pub context_that_is_made_in_it_later_is_told :
    after (begun
    ++ ask "{'id':1,'method':'browser.createUserContext','params':{}}"
    ∷ ask "{'id':2,'method':'session.subscribe','params':{'events':['browsingContext.contextCreated'],'userContexts':['$k1']}}"
    ∷ ask "{'id':3,'method':'browsingContext.create','params':{'type':'tab'}}" ∷ [])
    (ask "{'id':4,'method':'browsingContext.create','params':{'type':'tab','userContext':'$k1'}}")
    ≡ event 1 "browsingContext.contextCreated"
    "{'children':null,'clientWindow':'$w1','context':'$c3','originalOpener':null,'parent':null,'url':'about:blank','userContext':'$k1'}"
    ∷ success 1 4 "{'context':'$c3'}" ∷ []
unfolding machine_on_literals
context_that_is_made_in_it_later_is_told = refl

pub frame_that_is_made_in_it_later_is_told :
    after (begun
    ++ ask "{'id':1,'method':'browser.createUserContext','params':{}}"
    ∷ ask "{'id':2,'method':'session.subscribe','params':{'events':['browsingContext.contextCreated'],'userContexts':['$k1']}}"
    ∷ ask "{'id':3,'method':'browsingContext.create','params':{'type':'tab','userContext':'$k1'}}" ∷ [])
    (frame "$c2" "about:blank")
    ≡ event 1 "browsingContext.contextCreated"
    "{'children':null,'clientWindow':'$w1','context':'$c3','originalOpener':null,'parent':'$c2','url':'about:blank','userContext':'$k1'}" ∷ []
unfolding machine_on_literals
frame_that_is_made_in_it_later_is_told = refl

pub other_contexts_are_left_by_a_removal :
    after (begun
    ++ ask "{'id':1,'method':'browser.createUserContext','params':{}}"
    ∷ ask "{'id':2,'method':'session.subscribe','params':{'events':['browsingContext.contextCreated'],'userContexts':['$k1']}}"
    ∷ ask "{'id':3,'method':'browsingContext.create','params':{'type':'tab'}}"
    ∷ ask "{'id':4,'method':'browsingContext.create','params':{'type':'tab','userContext':'$k1'}}"
    ∷ ask "{'id':5,'method':'browser.removeUserContext','params':{'userContext':'$k1'}}" ∷ [])
    (ask "{'id':6,'method':'browsingContext.getTree','params':{}}")
    ≡ success 1 6 "{'contexts':[{'children':[],'clientWindow':'$w1','context':'$c1','originalOpener':null,'parent':null,'url':'about:blank','userContext':'default'},{'children':[],'clientWindow':'$w1','context':'$c2','originalOpener':null,'parent':null,'url':'about:blank','userContext':'default'}]}" ∷ []
unfolding machine_on_literals
other_contexts_are_left_by_a_removal = refl

pub what_stands_in_it_alone_is_announced :
    after (begun
    ++ ask "{'id':1,'method':'browser.createUserContext','params':{}}"
    ∷ ask "{'id':2,'method':'browsingContext.create','params':{'type':'tab','userContext':'$k1'}}"
    ∷ ask "{'id':3,'method':'browsingContext.create','params':{'type':'tab'}}" ∷ [])
    (ask "{'id':4,'method':'session.subscribe','params':{'events':['script','browsingContext'],'userContexts':['$k1']}}")
    ≡ event 1 "browsingContext.contextCreated"
    "{'children':null,'clientWindow':'$w1','context':'$c2','originalOpener':null,'parent':null,'url':'about:blank','userContext':'$k1'}"
    ∷ event 1 "script.realmCreated" "{'context':'$c2','origin':'null','realm':'$r2','type':'window'}"
    ∷ success 1 4 "{'subscription':'$u1'}" ∷ []
unfolding machine_on_literals
what_stands_in_it_alone_is_announced = refl

pub default_covers_a_tab_that_is_made_later :
    after (begun ++ ask "{'id':1,'method':'session.subscribe','params':{'events':['browsingContext.contextCreated'],'userContexts':['default']}}" ∷ [])
    (ask "{'id':2,'method':'browsingContext.create','params':{'type':'tab'}}")
    ≡ event 1 "browsingContext.contextCreated"
    "{'children':null,'clientWindow':'$w1','context':'$c2','originalOpener':null,'parent':null,'url':'about:blank','userContext':'default'}"
    ∷ success 1 2 "{'context':'$c2'}" ∷ []
unfolding machine_on_literals
default_covers_a_tab_that_is_made_later = refl

pub default_does_not_cover_the_others :
    after (begun
    ++ ask "{'id':1,'method':'browser.createUserContext','params':{}}"
    ∷ ask "{'id':2,'method':'session.subscribe','params':{'events':['browsingContext.contextCreated'],'userContexts':['default']}}" ∷ [])
    (ask "{'id':3,'method':'browsingContext.create','params':{'type':'tab','userContext':'$k1'}}")
    ≡ success 1 3 "{'context':'$c2'}" ∷ []
unfolding machine_on_literals
default_does_not_cover_the_others = refl

pub subscription_for_user_contexts_is_not_global :
    after (begun ++ ask "{'id':1,'method':'session.subscribe','params':{'events':['log'],'userContexts':['default']}}" ∷ [])
    (ask "{'id':2,'method':'session.unsubscribe','params':{'events':['log']}}")
    ≡ refusal 1 2 "invalid argument" ∷ []
unfolding machine_on_literals
subscription_for_user_contexts_is_not_global = refl

pub unsubscribing_by_events_leaves_it :
    after (begun
    ++ ask "{'id':1,'method':'session.subscribe','params':{'events':['log'],'userContexts':['default']}}"
    ∷ ask "{'id':2,'method':'session.subscribe','params':{'events':['log']}}"
    ∷ ask "{'id':3,'method':'session.unsubscribe','params':{'events':['log']}}" ∷ [])
    (log "$c1" Info "hi")
    ≡ event 1 "log.entryAdded"
    "{'args':[{'type':'string','value':'hi'}],'level':'info','method':'info','source':{'context':'$c1','realm':'$r1'},'text':'hi','timestamp':0,'type':'console'}" ∷ []
unfolding machine_on_literals
unsubscribing_by_events_leaves_it = refl

pub entry_in_it_comes_once_however_many_subscriptions_hold :
    after (begun
    ++ ask "{'id':1,'method':'browser.createUserContext','params':{}}"
    ∷ ask "{'id':2,'method':'browsingContext.create','params':{'type':'tab','userContext':'$k1'}}"
    ∷ ask "{'id':3,'method':'session.subscribe','params':{'events':['log'],'userContexts':['$k1','default']}}"
    ∷ ask "{'id':4,'method':'session.subscribe','params':{'events':['log'],'userContexts':['$k1']}}"
    ∷ ask "{'id':5,'method':'session.subscribe','params':{'contexts':['$c2'],'events':['log']}}" ∷ [])
    (log "$c2" Info "hi")
    ≡ event 1 "log.entryAdded"
    "{'args':[{'type':'string','value':'hi'}],'level':'info','method':'info','source':{'context':'$c2','realm':'$r2'},'text':'hi','timestamp':0,'type':'console'}" ∷ []
unfolding machine_on_literals
entry_in_it_comes_once_however_many_subscriptions_hold = refl

pub entries_in_it_wait_for_it :
    after (begun
    ++ ask "{'id':1,'method':'browser.createUserContext','params':{}}"
    ∷ ask "{'id':2,'method':'browsingContext.create','params':{'type':'tab','userContext':'$k1'}}"
    ∷ log "$c1" Info "ho"
    ∷ log "$c2" Info "hi" ∷ [])
    (ask "{'id':3,'method':'session.subscribe','params':{'events':['log'],'userContexts':['$k1']}}")
    ≡ event 1 "log.entryAdded"
    "{'args':[{'type':'string','value':'hi'}],'level':'info','method':'info','source':{'context':'$c2','realm':'$r2'},'text':'hi','timestamp':0,'type':'console'}"
    ∷ success 1 3 "{'subscription':'$u1'}" ∷ []
unfolding machine_on_literals
entries_in_it_wait_for_it = refl

pub removal_is_told_to_a_subscription_for_it :
    after (begun
    ++ ask "{'id':1,'method':'browser.createUserContext','params':{}}"
    ∷ ask "{'id':2,'method':'browsingContext.create','params':{'type':'tab','userContext':'$k1'}}"
    ∷ ask "{'id':3,'method':'session.subscribe','params':{'events':['script.realmDestroyed'],'userContexts':['$k1']}}" ∷ [])
    (ask "{'id':4,'method':'browser.removeUserContext','params':{'userContext':'$k1'}}")
    ≡ event 1 "script.realmDestroyed" "{'realm':'$r2'}"
    ∷ success 1 4 "{}" ∷ []
unfolding machine_on_literals
removal_is_told_to_a_subscription_for_it = refl

pub subscription_lives_on_without_its_user_context :
    after (begun
    ++ ask "{'id':1,'method':'browser.createUserContext','params':{}}"
    ∷ ask "{'id':2,'method':'session.subscribe','params':{'events':['log'],'userContexts':['$k1']}}"
    ∷ ask "{'id':3,'method':'browser.removeUserContext','params':{'userContext':'$k1'}}" ∷ [])
    (ask "{'id':4,'method':'session.unsubscribe','params':{'subscriptions':['$u1']}}")
    ≡ success 1 4 "{}" ∷ []
unfolding machine_on_literals
subscription_lives_on_without_its_user_context = refl

pub module_browser_has_no_events :
    after begun (ask "{'id':1,'method':'session.subscribe','params':{'events':['browser']}}")
    ≡ success 1 1 "{'subscription':'$u1'}" ∷ []
unfolding machine_on_literals
module_browser_has_no_events = refl
