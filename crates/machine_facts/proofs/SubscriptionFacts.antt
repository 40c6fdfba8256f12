-- Worked examples of subscribing and unsubscribing.
use Rattle.std.specs.Prelude.{◌≡◌, [], ◌∷◌, ◌++◌, codes, refl}
use Rattle.bidi_handles.proofs.Spelling.{said}
use Rattle.bidi_scripts.specs.declared.log_entry.Level.TheVariants.{Info, Warn}
use Rattle.bidi_sessions.specs.Step.{Open, Drop}
use Rattle.bidi_remote.specs.Machine.Sent as sent
use Rattle.machine_facts.proofs.Rows.{after, ask, ask_on, begun, event, frame, log, machine_on_literals, new_session, open_session, refusal, success}

-- ---- what a subscription is told at once

pub subscription_announces_the_contexts :
    after begun (ask "{'id':1,'method':'session.subscribe','params':{'events':['browsingContext']}}")
    ≡ sent.Text 1 (said "{'method':'browsingContext.contextCreated','params':{'children':null,'clientWindow':'$w1','context':'$c1','originalOpener':null,'parent':null,'url':'about:blank','userContext':'default'},'type':'event'}")
    ∷ sent.Text 1 (said "{'id':1,'result':{'subscription':'$u1'},'type':'success'}") ∷ []
unfolding machine_on_literals
subscription_announces_the_contexts = refl

pub second_subscription_announces_nothing :
    after (begun
    ++ ask "{'id':1,'method':'session.subscribe','params':{'events':['browsingContext']}}" ∷ [])
    (ask "{'id':2,'method':'session.subscribe','params':{'events':['browsingContext']}}")
    ≡ success 1 2 "{'subscription':'$u2'}" ∷ []
unfolding machine_on_literals
second_subscription_announces_nothing = refl

pub event_comes_once_however_many_subscriptions_hold :
    after (begun
    ++ ask "{'id':1,'method':'session.subscribe','params':{'events':['browsingContext']}}"
    ∷ ask "{'id':2,'method':'session.subscribe','params':{'events':['browsingContext']}}" ∷ [])
    (ask "{'id':3,'method':'browsingContext.create','params':{'type':'tab'}}")
    ≡ event 1 "browsingContext.contextCreated"
    "{'children':null,'clientWindow':'$w1','context':'$c2','originalOpener':null,'parent':null,'url':'about:blank','userContext':'default'}"
    ∷ success 1 3 "{'context':'$c2'}" ∷ []
unfolding machine_on_literals
event_comes_once_however_many_subscriptions_hold = refl

pub only_the_newly_enabled_event_is_announced :
    after (begun
    ++ ask "{'id':1,'method':'session.subscribe','params':{'events':['browsingContext.contextCreated']}}" ∷ [])
    (ask "{'id':2,'method':'session.subscribe','params':{'events':['browsingContext','script']}}")
    ≡ event 1 "script.realmCreated" "{'context':'$c1','origin':'null','realm':'$r1','type':'window'}" ∷ success 1 2 "{'subscription':'$u2'}" ∷ []
unfolding machine_on_literals
only_the_newly_enabled_event_is_announced = refl

pub contexts_come_before_realms_in_tree_order :
    after (begun
    ++ ask "{'id':9,'method':'browsingContext.create','params':{'type':'tab'}}"
    ∷ frame "$c1" "about:blank" ∷ [])
    (ask "{'id':1,'method':'session.subscribe','params':{'events':['script.realmCreated','browsingContext.contextCreated']}}")
    ≡ event 1 "browsingContext.contextCreated"
    "{'children':null,'clientWindow':'$w1','context':'$c1','originalOpener':null,'parent':null,'url':'about:blank','userContext':'default'}"
    ∷ event 1 "browsingContext.contextCreated"
    "{'children':null,'clientWindow':'$w1','context':'$c3','originalOpener':null,'parent':'$c1','url':'about:blank','userContext':'default'}"
    ∷ event 1 "browsingContext.contextCreated"
    "{'children':null,'clientWindow':'$w1','context':'$c2','originalOpener':null,'parent':null,'url':'about:blank','userContext':'default'}"
    ∷ event 1 "script.realmCreated" "{'context':'$c1','origin':'null','realm':'$r1','type':'window'}"
    ∷ event 1 "script.realmCreated" "{'context':'$c3','origin':'null','realm':'$r3','type':'window'}"
    ∷ event 1 "script.realmCreated" "{'context':'$c2','origin':'null','realm':'$r2','type':'window'}"
    ∷ success 1 1 "{'subscription':'$u1'}" ∷ []
unfolding machine_on_literals
contexts_come_before_realms_in_tree_order = refl

-- whatever their order in the command
pub top_level_contexts_are_announced_by_creation :
    after (begun ++ ask "{'id':9,'method':'browsingContext.create','params':{'type':'tab'}}" ∷ [])
    (ask "{'id':1,'method':'session.subscribe','params':{'events':['browsingContext.contextCreated'],'contexts':['$c2','$c1']}}")
    ≡ event 1 "browsingContext.contextCreated"
    "{'children':null,'clientWindow':'$w1','context':'$c1','originalOpener':null,'parent':null,'url':'about:blank','userContext':'default'}"
    ∷ event 1 "browsingContext.contextCreated"
    "{'children':null,'clientWindow':'$w1','context':'$c2','originalOpener':null,'parent':null,'url':'about:blank','userContext':'default'}"
    ∷ success 1 1 "{'subscription':'$u1'}" ∷ []
unfolding machine_on_literals
top_level_contexts_are_announced_by_creation = refl

pub scoped_subscription_announces_its_contexts_alone :
    after (begun ++ ask "{'id':9,'method':'browsingContext.create','params':{'type':'tab'}}" ∷ [])
    (ask "{'id':1,'method':'session.subscribe','params':{'events':['browsingContext.contextCreated'],'contexts':['$c2']}}")
    ≡ event 1 "browsingContext.contextCreated"
    "{'children':null,'clientWindow':'$w1','context':'$c2','originalOpener':null,'parent':null,'url':'about:blank','userContext':'default'}"
    ∷ success 1 1 "{'subscription':'$u1'}" ∷ []
unfolding machine_on_literals
scoped_subscription_announces_its_contexts_alone = refl

pub announcement_goes_to_the_connections_of_the_session :
    after (begun ++ Open 2 (said "/session/$s1") ∷ [])
    (ask_on 2 "{'id':1,'method':'session.subscribe','params':{'events':['browsingContext.contextCreated']}}")
    ≡ event 1 "browsingContext.contextCreated"
    "{'children':null,'clientWindow':'$w1','context':'$c1','originalOpener':null,'parent':null,'url':'about:blank','userContext':'default'}"
    ∷ event 2 "browsingContext.contextCreated"
    "{'children':null,'clientWindow':'$w1','context':'$c1','originalOpener':null,'parent':null,'url':'about:blank','userContext':'default'}"
    ∷ success 2 1 "{'subscription':'$u1'}" ∷ []
unfolding machine_on_literals
announcement_goes_to_the_connections_of_the_session = refl

-- and subscriptions are counted session by session
pub announcement_goes_to_no_other_session :
    after (begun
    ++ Open 2 (codes "/session")
    ∷ ask_on 2 "{'id':0,'method':'session.new','params':{'capabilities':{}}}"
    ∷ ask "{'id':1,'method':'session.subscribe','params':{'events':['browsingContext.contextCreated']}}" ∷ [])
    (ask_on 2 "{'id':1,'method':'session.subscribe','params':{'events':['browsingContext.contextCreated']}}")
    ≡ event 2 "browsingContext.contextCreated"
    "{'children':null,'clientWindow':'$w1','context':'$c1','originalOpener':null,'parent':null,'url':'about:blank','userContext':'default'}"
    ∷ success 2 1 "{'subscription':'$v1'}" ∷ []
unfolding machine_on_literals
announcement_goes_to_no_other_session = refl

-- ---- checks of a subscription, in order

pub unknown_context_is_no_frame :
    after begun (ask "{'id':1,'method':'session.subscribe','params':{'events':['log.entryAdded'],'contexts':['nowhere']}}")
    ≡ refusal 1 1 "no such frame" ∷ []
unfolding machine_on_literals
unknown_context_is_no_frame = refl

pub unknown_event_is_refused :
    after begun (ask "{'id':1,'method':'session.subscribe','params':{'events':['log.nothing']}}")
    ≡ refusal 1 1 "invalid argument" ∷ []
unfolding machine_on_literals
unknown_event_is_refused = refl

pub unknown_module_is_refused :
    after begun (ask "{'id':1,'method':'session.subscribe','params':{'events':['network']}}")
    ≡ refusal 1 1 "invalid argument" ∷ []
unfolding machine_on_literals
unknown_module_is_refused = refl

pub contexts_and_user_contexts_exclude_each_other :
    after begun (ask "{'id':1,'method':'session.subscribe','params':{'events':['log.entryAdded'],'contexts':['$c1'],'userContexts':['default']}}")
    ≡ refusal 1 1 "invalid argument" ∷ []
unfolding machine_on_literals
contexts_and_user_contexts_exclude_each_other = refl

pub user_context_is_taken :
    after begun (ask "{'id':1,'method':'session.subscribe','params':{'events':['log.entryAdded'],'userContexts':['default']}}")
    ≡ success 1 1 "{'subscription':'$u1'}" ∷ []
unfolding machine_on_literals
user_context_is_taken = refl

pub each_user_context_has_to_be_live :
    after begun (ask "{'id':1,'method':'session.subscribe','params':{'events':['log.entryAdded'],'userContexts':['default','$k1']}}")
    ≡ refusal 1 1 "no such user context" ∷ []
unfolding machine_on_literals
each_user_context_has_to_be_live = refl

pub no_event_does_not_fit :
    after begun (ask "{'id':1,'method':'session.subscribe','params':{'events':[]}}")
    ≡ refusal 1 1 "invalid argument" ∷ []
unfolding machine_on_literals
no_event_does_not_fit = refl

pub event_names_are_checked_before_user_contexts :
    after begun (ask "{'id':1,'method':'session.subscribe','params':{'events':['log.nothing'],'userContexts':['$k1']}}")
    ≡ refusal 1 1 "invalid argument" ∷ []
unfolding machine_on_literals
event_names_are_checked_before_user_contexts = refl

pub event_names_are_checked_before_contexts :
    after begun (ask "{'id':1,'method':'session.subscribe','params':{'events':['log.nothing'],'contexts':['nowhere']}}")
    ≡ refusal 1 1 "invalid argument" ∷ []
unfolding machine_on_literals
event_names_are_checked_before_contexts = refl

pub both_members_are_checked_before_contexts :
    after begun (ask "{'id':1,'method':'session.subscribe','params':{'events':['log.entryAdded'],'contexts':['nowhere'],'userContexts':['default']}}")
    ≡ refusal 1 1 "invalid argument" ∷ []
unfolding machine_on_literals
both_members_are_checked_before_contexts = refl

pub both_members_are_checked_before_user_contexts :
    after begun (ask "{'id':1,'method':'session.subscribe','params':{'events':['log.entryAdded'],'contexts':['$c1'],'userContexts':['$k1']}}")
    ≡ refusal 1 1 "invalid argument" ∷ []
unfolding machine_on_literals
both_members_are_checked_before_user_contexts = refl

pub refused_subscription_uses_no_number :
    after (begun
    ++ ask "{'id':1,'method':'session.subscribe','params':{'events':['log.nothing']}}" ∷ [])
    (ask "{'id':2,'method':'session.subscribe','params':{'events':['session']}}")
    ≡ success 1 2 "{'subscription':'$u1'}" ∷ []
unfolding machine_on_literals
refused_subscription_uses_no_number = refl

-- ---- scopes

pub scope_is_the_top_level_context :
    after (begun
    ++ frame "$c1" "about:blank"
    ∷ ask "{'id':1,'method':'session.subscribe','params':{'events':['log.entryAdded'],'contexts':['$c2']}}" ∷ [])
    (log "$c1" Warn "x")
    ≡ event 1 "log.entryAdded" "{'args':[{'type':'string','value':'x'}],'level':'warn','method':'warn','source':{'context':'$c1','realm':'$r1'},'text':'x','timestamp':0,'type':'console'}" ∷ []
unfolding machine_on_literals
scope_is_the_top_level_context = refl

pub scope_does_not_cover_other_contexts :
    after (begun
    ++ ask "{'id':9,'method':'browsingContext.create','params':{'type':'tab'}}"
    ∷ ask "{'id':1,'method':'session.subscribe','params':{'events':['log.entryAdded'],'contexts':['$c2']}}" ∷ [])
    (log "$c1" Info "x")
    ≡ []
unfolding machine_on_literals
scope_does_not_cover_other_contexts = refl

pub scope_does_not_cover_a_new_top_level_context :
    after (begun
    ++ ask "{'id':1,'method':'session.subscribe','params':{'events':['browsingContext.contextCreated'],'contexts':['$c1']}}" ∷ [])
    (ask "{'id':2,'method':'browsingContext.create','params':{'type':'tab'}}")
    ≡ success 1 2 "{'context':'$c2'}" ∷ []
unfolding machine_on_literals
scope_does_not_cover_a_new_top_level_context = refl

pub scope_covers_a_new_frame :
    after (begun
    ++ ask "{'id':1,'method':'session.subscribe','params':{'events':['browsingContext.contextCreated'],'contexts':['$c1']}}" ∷ [])
    (frame "$c1" "about:blank")
    ≡ event 1 "browsingContext.contextCreated"
    "{'children':null,'clientWindow':'$w1','context':'$c2','originalOpener':null,'parent':'$c1','url':'about:blank','userContext':'default'}" ∷ []
unfolding machine_on_literals
scope_covers_a_new_frame = refl

pub subscription_whose_contexts_are_gone_is_live :
    after (begun
    ++ ask "{'id':1,'method':'session.subscribe','params':{'events':['log.entryAdded'],'contexts':['$c1']}}"
    ∷ ask "{'id':2,'method':'browsingContext.close','params':{'context':'$c1'}}" ∷ [])
    (ask "{'id':3,'method':'session.unsubscribe','params':{'subscriptions':['$u1']}}")
    ≡ success 1 3 "{}" ∷ []
unfolding machine_on_literals
subscription_whose_contexts_are_gone_is_live = refl

-- ---- unsubscribing by ids

pub repeated_id_counts_once :
    after (begun ++ ask "{'id':1,'method':'session.subscribe','params':{'events':['log']}}" ∷ [])
    (ask "{'id':2,'method':'session.unsubscribe','params':{'subscriptions':['$u1','$u1']}}")
    ≡ success 1 2 "{}" ∷ []
unfolding machine_on_literals
repeated_id_counts_once = refl

pub id_is_not_live_after_it_was_unsubscribed :
    after (begun
    ++ ask "{'id':1,'method':'session.subscribe','params':{'events':['log']}}"
    ∷ ask "{'id':2,'method':'session.unsubscribe','params':{'subscriptions':['$u1','$u1']}}" ∷ [])
    (ask "{'id':3,'method':'session.unsubscribe','params':{'subscriptions':['$u1','$u1']}}")
    ≡ refusal 1 3 "invalid argument" ∷ []
unfolding machine_on_literals
id_is_not_live_after_it_was_unsubscribed = refl

pub one_id_that_is_not_live_refuses_all :
    after (begun ++ ask "{'id':1,'method':'session.subscribe','params':{'events':['log']}}" ∷ [])
    (ask "{'id':2,'method':'session.unsubscribe','params':{'subscriptions':['$u1','$u2']}}")
    ≡ refusal 1 2 "invalid argument" ∷ []
unfolding machine_on_literals
one_id_that_is_not_live_refuses_all = refl

pub refused_unsubscribe_changes_nothing :
    after (begun
    ++ ask "{'id':1,'method':'session.subscribe','params':{'events':['log']}}"
    ∷ ask "{'id':2,'method':'session.unsubscribe','params':{'subscriptions':['$u1','$u2']}}" ∷ [])
    (log "$c1" Info "x")
    ≡ event 1 "log.entryAdded" "{'args':[{'type':'string','value':'x'}],'level':'info','method':'info','source':{'context':'$c1','realm':'$r1'},'text':'x','timestamp':0,'type':'console'}" ∷ []
unfolding machine_on_literals
refused_unsubscribe_changes_nothing = refl

pub subscription_of_another_session_is_not_live_here :
    after (begun
    ++ Open 2 (codes "/session")
    ∷ ask_on 2 "{'id':0,'method':'session.new','params':{'capabilities':{}}}"
    ∷ ask "{'id':1,'method':'session.subscribe','params':{'events':['log']}}" ∷ [])
    (ask_on 2 "{'id':1,'method':'session.unsubscribe','params':{'subscriptions':['$u1']}}")
    ≡ refusal 2 1 "invalid argument" ∷ []
unfolding machine_on_literals
subscription_of_another_session_is_not_live_here = refl

pub unsubscribed_event_does_not_come :
    after (begun
    ++ ask "{'id':1,'method':'session.subscribe','params':{'events':['log']}}"
    ∷ ask "{'id':2,'method':'session.unsubscribe','params':{'subscriptions':['$u1']}}" ∷ [])
    (log "$c1" Info "x")
    ≡ []
unfolding machine_on_literals
unsubscribed_event_does_not_come = refl

pub ids_come_before_events_where_both_are_there :
    after (begun ++ ask "{'id':1,'method':'session.subscribe','params':{'events':['log']}}" ∷ [])
    (ask "{'id':2,'method':'session.unsubscribe','params':{'subscriptions':['$u1'],'events':['log.nothing']}}")
    ≡ success 1 2 "{}" ∷ []
unfolding machine_on_literals
ids_come_before_events_where_both_are_there = refl

pub events_are_read_where_no_id_is_there :
    after (begun ++ ask "{'id':1,'method':'session.subscribe','params':{'events':['log']}}" ∷ [])
    (ask "{'id':2,'method':'session.unsubscribe','params':{'subscriptions':[],'events':['log']}}")
    ≡ success 1 2 "{}" ∷ []
unfolding machine_on_literals
events_are_read_where_no_id_is_there = refl

pub events_are_read_where_the_ids_are_no_texts :
    after (begun ++ ask "{'id':1,'method':'session.subscribe','params':{'events':['log']}}" ∷ [])
    (ask "{'id':2,'method':'session.unsubscribe','params':{'subscriptions':[5],'events':['log']}}")
    ≡ success 1 2 "{}" ∷ []
unfolding machine_on_literals
events_are_read_where_the_ids_are_no_texts = refl

-- ---- unsubscribing by events

pub event_that_no_subscription_names_is_refused :
    after (begun
    ++ ask "{'id':1,'method':'session.subscribe','params':{'events':['log.entryAdded']}}" ∷ [])
    (ask "{'id':2,'method':'session.unsubscribe','params':{'events':['log.entryAdded','browsingContext.load']}}")
    ≡ refusal 1 2 "invalid argument" ∷ []
unfolding machine_on_literals
event_that_no_subscription_names_is_refused = refl

pub unmatched_event_leaves_the_others :
    after (begun
    ++ ask "{'id':1,'method':'session.subscribe','params':{'events':['log.entryAdded']}}"
    ∷ ask "{'id':2,'method':'session.unsubscribe','params':{'events':['log.entryAdded','browsingContext.load']}}" ∷ [])
    (log "$c1" Info "x")
    ≡ event 1 "log.entryAdded" "{'args':[{'type':'string','value':'x'}],'level':'info','method':'info','source':{'context':'$c1','realm':'$r1'},'text':'x','timestamp':0,'type':'console'}" ∷ []
unfolding machine_on_literals
unmatched_event_leaves_the_others = refl

pub event_has_to_be_held_still :
    after (begun
    ++ ask "{'id':1,'method':'session.subscribe','params':{'events':['log']}}"
    ∷ ask "{'id':2,'method':'session.unsubscribe','params':{'events':['log']}}" ∷ [])
    (ask "{'id':3,'method':'session.unsubscribe','params':{'events':['log']}}")
    ≡ refusal 1 3 "invalid argument" ∷ []
unfolding machine_on_literals
event_has_to_be_held_still = refl

pub subscription_that_lost_its_last_event_is_gone :
    after (begun
    ++ ask "{'id':1,'method':'session.subscribe','params':{'events':['log']}}"
    ∷ ask "{'id':2,'method':'session.unsubscribe','params':{'events':['log']}}" ∷ [])
    (ask "{'id':3,'method':'session.unsubscribe','params':{'subscriptions':['$u1']}}")
    ≡ refusal 1 3 "invalid argument" ∷ []
unfolding machine_on_literals
subscription_that_lost_its_last_event_is_gone = refl

pub subscription_that_has_another_event_is_live :
    after (begun
    ++ ask "{'id':1,'method':'session.subscribe','params':{'events':['log','browsingContext.load']}}"
    ∷ ask "{'id':2,'method':'session.unsubscribe','params':{'events':['log']}}" ∷ [])
    (ask "{'id':3,'method':'session.unsubscribe','params':{'subscriptions':['$u1']}}")
    ≡ success 1 3 "{}" ∷ []
unfolding machine_on_literals
subscription_that_has_another_event_is_live = refl

pub every_global_subscription_loses_the_event :
    after (begun
    ++ ask "{'id':1,'method':'session.subscribe','params':{'events':['log']}}"
    ∷ ask "{'id':2,'method':'session.subscribe','params':{'events':['log']}}"
    ∷ ask "{'id':3,'method':'session.unsubscribe','params':{'events':['log']}}" ∷ [])
    (log "$c1" Info "x")
    ≡ []
unfolding machine_on_literals
every_global_subscription_loses_the_event = refl

pub scoped_subscription_is_not_matched_by_events :
    after (begun
    ++ ask "{'id':1,'method':'session.subscribe','params':{'events':['log'],'contexts':['$c1']}}" ∷ [])
    (ask "{'id':2,'method':'session.unsubscribe','params':{'events':['log']}}")
    ≡ refusal 1 2 "invalid argument" ∷ []
unfolding machine_on_literals
scoped_subscription_is_not_matched_by_events = refl

pub scoped_subscription_is_untouched_by_events :
    after (begun
    ++ ask "{'id':1,'method':'session.subscribe','params':{'events':['log'],'contexts':['$c1']}}"
    ∷ ask "{'id':2,'method':'session.subscribe','params':{'events':['log']}}"
    ∷ ask "{'id':3,'method':'session.unsubscribe','params':{'events':['log']}}" ∷ [])
    (log "$c1" Info "x")
    ≡ event 1 "log.entryAdded" "{'args':[{'type':'string','value':'x'}],'level':'info','method':'info','source':{'context':'$c1','realm':'$r1'},'text':'x','timestamp':0,'type':'console'}" ∷ []
unfolding machine_on_literals
scoped_subscription_is_untouched_by_events = refl

pub module_without_events_announces_nothing :
    after begun (ask "{'id':1,'method':'session.subscribe','params':{'events':['session']}}")
    ≡ success 1 1 "{'subscription':'$u1'}" ∷ []
unfolding machine_on_literals
module_without_events_announces_nothing = refl

pub empty_set_of_events_may_be_unsubscribed :
    after (begun ++ ask "{'id':1,'method':'session.subscribe','params':{'events':['session']}}" ∷ [])
    (ask "{'id':2,'method':'session.unsubscribe','params':{'events':['session']}}")
    ≡ success 1 2 "{}" ∷ []
unfolding machine_on_literals
empty_set_of_events_may_be_unsubscribed = refl

pub subscription_without_events_lives_until_its_id_is_named :
    after (begun
    ++ ask "{'id':1,'method':'session.subscribe','params':{'events':['session']}}"
    ∷ ask "{'id':2,'method':'session.unsubscribe','params':{'events':['session']}}" ∷ [])
    (ask "{'id':3,'method':'session.unsubscribe','params':{'subscriptions':['$u1']}}")
    ≡ success 1 3 "{}" ∷ []
unfolding machine_on_literals
subscription_without_events_lives_until_its_id_is_named = refl

pub unknown_name_is_refused_when_unsubscribing :
    after begun (ask "{'id':1,'method':'session.unsubscribe','params':{'events':['log.nothing']}}")
    ≡ refusal 1 1 "invalid argument" ∷ []
unfolding machine_on_literals
unknown_name_is_refused_when_unsubscribing = refl

-- ---- who hears an event

pub each_connection_of_the_session_hears_it :
    after (begun
    ++ Open 2 (said "/session/$s1")
    ∷ ask "{'id':1,'method':'session.subscribe','params':{'events':['log.entryAdded']}}" ∷ [])
    (log "$c1" Info "x")
    ≡ event 1 "log.entryAdded"
    "{'args':[{'type':'string','value':'x'}],'level':'info','method':'info','source':{'context':'$c1','realm':'$r1'},'text':'x','timestamp':0,'type':'console'}"
    ∷ event 2 "log.entryAdded"
    "{'args':[{'type':'string','value':'x'}],'level':'info','method':'info','source':{'context':'$c1','realm':'$r1'},'text':'x','timestamp':0,'type':'console'}"
    ∷ []
unfolding machine_on_literals
each_connection_of_the_session_hears_it = refl

pub reopened_connection_hears_it_last :
    after (begun
    ++ Open 2 (said "/session/$s1")
    ∷ ask "{'id':1,'method':'session.subscribe','params':{'events':['log.entryAdded']}}"
    ∷ Drop 1
    ∷ Open 1 (said "/session/$s1") ∷ [])
    (log "$c1" Info "x")
    ≡ event 2 "log.entryAdded"
    "{'args':[{'type':'string','value':'x'}],'level':'info','method':'info','source':{'context':'$c1','realm':'$r1'},'text':'x','timestamp':0,'type':'console'}"
    ∷ event 1 "log.entryAdded"
    "{'args':[{'type':'string','value':'x'}],'level':'info','method':'info','source':{'context':'$c1','realm':'$r1'},'text':'x','timestamp':0,'type':'console'}"
    ∷ []
unfolding machine_on_literals
reopened_connection_hears_it_last = refl

-- the first session was made on connection 2
pub sessions_hear_it_in_order_of_making :
    after (open_session
    ∷ Open 2 (codes "/session")
    ∷ ask_on 2 "{'id':0,'method':'session.new','params':{'capabilities':{}}}"
    ∷ new_session
    ∷ ask "{'id':1,'method':'session.subscribe','params':{'events':['log.entryAdded']}}"
    ∷ ask_on 2 "{'id':1,'method':'session.subscribe','params':{'events':['log.entryAdded']}}" ∷ [])
    (log "$c1" Info "x")
    ≡ event 2 "log.entryAdded"
    "{'args':[{'type':'string','value':'x'}],'level':'info','method':'info','source':{'context':'$c1','realm':'$r1'},'text':'x','timestamp':0,'type':'console'}"
    ∷ event 1 "log.entryAdded"
    "{'args':[{'type':'string','value':'x'}],'level':'info','method':'info','source':{'context':'$c1','realm':'$r1'},'text':'x','timestamp':0,'type':'console'}"
    ∷ []
unfolding machine_on_literals
sessions_hear_it_in_order_of_making = refl

pub session_that_is_not_subscribed_hears_nothing :
    after (begun
    ++ Open 2 (codes "/session")
    ∷ ask_on 2 "{'id':0,'method':'session.new','params':{'capabilities':{}}}"
    ∷ ask "{'id':1,'method':'session.subscribe','params':{'events':['log.entryAdded']}}" ∷ [])
    (log "$c1" Info "x")
    ≡ event 1 "log.entryAdded" "{'args':[{'type':'string','value':'x'}],'level':'info','method':'info','source':{'context':'$c1','realm':'$r1'},'text':'x','timestamp':0,'type':'console'}" ∷ []
unfolding machine_on_literals
session_that_is_not_subscribed_hears_nothing = refl

pub event_precedes_the_reply_on_all_connections :
    after (begun
    ++ Open 2 (codes "/session")
    ∷ ask_on 2 "{'id':0,'method':'session.new','params':{'capabilities':{}}}"
    ∷ ask_on 2 "{'id':1,'method':'session.subscribe','params':{'events':['browsingContext.contextCreated']}}" ∷ [])
    (ask "{'id':1,'method':'browsingContext.create','params':{'type':'tab'}}")
    ≡ event 2 "browsingContext.contextCreated"
    "{'children':null,'clientWindow':'$w1','context':'$c2','originalOpener':null,'parent':null,'url':'about:blank','userContext':'default'}"
    ∷ success 1 1 "{'context':'$c2'}" ∷ []
unfolding machine_on_literals
event_precedes_the_reply_on_all_connections = refl
