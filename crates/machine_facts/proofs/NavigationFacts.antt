-- Worked examples of navigation and session history.
use Rattle.std.specs.Prelude.{◌≡◌, ℕ, List, [], ◌∷◌, ◌++◌, map, decimal, refl}
use Rattle.bidi_contexts.specs.Contexts.{up_to}
use Rattle.bidi_handles.proofs.Spelling.{said}
use Rattle.bidi_sessions.specs.Step.{Step, At, Text}
use Rattle.bidi_remote.specs.Machine.Sent as sent
use Rattle.machine_facts.proofs.Rows.{after, ask, begun, event, frame, machine_on_literals, refusal, success}

-- ---- the events of a navigation

pub navigation_tells_its_start_the_removals_the_new_realm_and_its_end :
    after (begun
    ++ ask "{'id':1,'method':'session.subscribe','params':{'events':['browsingContext','script']}}"
    ∷ frame "$c1" "about:blank"
    ∷ At 5 ∷ [])
    (ask "{'id':2,'method':'browsingContext.navigate','params':{'context':'$c1','url':'http://a.test','wait':'complete'}}")
    ≡ sent.Text 1 (said
    "{'method':'browsingContext.navigationStarted','params':{'context':'$c1','navigation':'$n1','timestamp':5,'url':'http://a.test/'},'type':'event'}")
    ∷ sent.Text 1 (said "{'method':'script.realmDestroyed','params':{'realm':'$r2'},'type':'event'}")
    ∷ sent.Text 1 (said "{'method':'browsingContext.contextDestroyed','params':{'children':[],'clientWindow':'$w1','context':'$c2','originalOpener':null,'parent':'$c1','url':'about:blank','userContext':'default'},'type':'event'}")
    ∷ sent.Text 1 (said "{'method':'script.realmDestroyed','params':{'realm':'$r1'},'type':'event'}")
    ∷ sent.Text 1 (said "{'method':'script.realmCreated','params':{'context':'$c1','origin':'http://a.test','realm':'$r3','type':'window'},'type':'event'}")
    ∷ sent.Text 1
    (said "{'method':'browsingContext.domContentLoaded','params':{'context':'$c1','navigation':'$n1','timestamp':5,'url':'http://a.test/'},'type':'event'}")
    ∷ sent.Text 1 (said "{'method':'browsingContext.load','params':{'context':'$c1','navigation':'$n1','timestamp':5,'url':'http://a.test/'},'type':'event'}")
    ∷ sent.Text 1 (said "{'id':2,'result':{'navigation':'$n1','url':'http://a.test/'},'type':'success'}") ∷ []
unfolding machine_on_literals
navigation_tells_its_start_the_removals_the_new_realm_and_its_end = refl

pub place_before_the_first_entry_is_none :
    after (begun
    ++ ask "{'id':1,'method':'session.subscribe','params':{'events':['browsingContext','script']}}"
    ∷ frame "$c1" "about:blank"
    ∷ At 5
    ∷ ask "{'id':2,'method':'browsingContext.navigate','params':{'context':'$c1','url':'http://a.test','wait':'complete'}}" ∷ [])
    (ask "{'id':3,'method':'browsingContext.traverseHistory','params':{'context':'$c1','delta':-2}}")
    ≡ refusal 1 3 "no such history entry" ∷ []
unfolding machine_on_literals
place_before_the_first_entry_is_none = refl

pub reply_that_waits_for_nothing_follows_the_start :
    after (begun
    ++ ask "{'id':1,'method':'session.subscribe','params':{'events':['browsingContext']}}" ∷ [])
    (ask "{'id':2,'method':'browsingContext.reload','params':{'context':'$c1'}}")
    ≡ event 1 "browsingContext.navigationStarted" "{'context':'$c1','navigation':'$n1','timestamp':0,'url':'about:blank'}"
    ∷ success 1 2 "{'navigation':'$n1','url':'about:blank'}"
    ∷ event 1 "browsingContext.domContentLoaded" "{'context':'$c1','navigation':'$n1','timestamp':0,'url':'about:blank'}"
    ∷ event 1 "browsingContext.load" "{'context':'$c1','navigation':'$n1','timestamp':0,'url':'about:blank'}" ∷ []
unfolding machine_on_literals
reply_that_waits_for_nothing_follows_the_start = refl

pub it_stands_before_the_removal_of_children :
    after (begun
    ++ ask "{'id':1,'method':'session.subscribe','params':{'events':['browsingContext']}}"
    ∷ frame "$c1" "http://a.test" ∷ [])
    (ask "{'id':2,'method':'browsingContext.navigate','params':{'context':'$c1','url':'about:blank','wait':'none'}}")
    ≡ event 1 "browsingContext.navigationStarted" "{'context':'$c1','navigation':'$n1','timestamp':0,'url':'about:blank'}"
    ∷ success 1 2 "{'navigation':'$n1','url':'about:blank'}"
    ∷ event 1 "browsingContext.contextDestroyed"
    "{'children':[],'clientWindow':'$w1','context':'$c2','originalOpener':null,'parent':'$c1','url':'http://a.test/','userContext':'default'}"
    ∷ event 1 "browsingContext.domContentLoaded" "{'context':'$c1','navigation':'$n1','timestamp':0,'url':'about:blank'}"
    ∷ event 1 "browsingContext.load" "{'context':'$c1','navigation':'$n1','timestamp':0,'url':'about:blank'}" ∷ []
unfolding machine_on_literals
it_stands_before_the_removal_of_children = refl

pub interactive_reply_follows_dom_content_loaded :
    after (begun
    ++ ask "{'id':1,'method':'session.subscribe','params':{'events':['browsingContext']}}"
    ∷ frame "$c1" "http://a.test" ∷ [])
    (ask "{'id':2,'method':'browsingContext.navigate','params':{'context':'$c1','url':'about:blank','wait':'interactive'}}")
    ≡ event 1 "browsingContext.navigationStarted" "{'context':'$c1','navigation':'$n1','timestamp':0,'url':'about:blank'}"
    ∷ event 1 "browsingContext.contextDestroyed"
    "{'children':[],'clientWindow':'$w1','context':'$c2','originalOpener':null,'parent':'$c1','url':'http://a.test/','userContext':'default'}"
    ∷ event 1 "browsingContext.domContentLoaded" "{'context':'$c1','navigation':'$n1','timestamp':0,'url':'about:blank'}"
    ∷ success 1 2 "{'navigation':'$n1','url':'about:blank'}"
    ∷ event 1 "browsingContext.load" "{'context':'$c1','navigation':'$n1','timestamp':0,'url':'about:blank'}" ∷ []
unfolding machine_on_literals
interactive_reply_follows_dom_content_loaded = refl

pub children_are_removed_one_by_one :
    after (begun
    ++ frame "$c1" "about:blank"
    ∷ frame "$c1" "about:blank"
    ∷ frame "$c2" "about:blank"
    ∷ ask "{'id':1,'method':'session.subscribe','params':{'events':['browsingContext.contextDestroyed','script']}}" ∷ [])
    (ask "{'id':2,'method':'browsingContext.reload','params':{'context':'$c1','wait':'complete'}}")
    ≡ event 1 "script.realmDestroyed" "{'realm':'$r2'}"
    ∷ event 1 "script.realmDestroyed" "{'realm':'$r4'}"
    ∷ event 1 "browsingContext.contextDestroyed"
    "{'children':[{'children':[],'clientWindow':'$w1','context':'$c4','originalOpener':null,'url':'about:blank','userContext':'default'}],'clientWindow':'$w1','context':'$c2','originalOpener':null,'parent':'$c1','url':'about:blank','userContext':'default'}"
    ∷ event 1 "script.realmDestroyed" "{'realm':'$r3'}"
    ∷ event 1 "browsingContext.contextDestroyed"
    "{'children':[],'clientWindow':'$w1','context':'$c3','originalOpener':null,'parent':'$c1','url':'about:blank','userContext':'default'}"
    ∷ event 1 "script.realmDestroyed" "{'realm':'$r1'}"
    ∷ event 1 "script.realmCreated" "{'context':'$c1','origin':'null','realm':'$r5','type':'window'}"
    ∷ success 1 2 "{'navigation':'$n1','url':'about:blank'}" ∷ []
unfolding machine_on_literals
children_are_removed_one_by_one = refl

pub children_are_gone_after_a_navigation :
    after (begun
    ++ ask "{'id':1,'method':'session.subscribe','params':{'events':['browsingContext']}}"
    ∷ frame "$c1" "http://a.test"
    ∷ ask "{'id':2,'method':'browsingContext.reload','params':{'context':'$c1'}}" ∷ [])
    (ask "{'id':3,'method':'browsingContext.getTree','params':{}}")
    ≡ success 1 3
    "{'contexts':[{'children':[],'clientWindow':'$w1','context':'$c1','originalOpener':null,'parent':null,'url':'about:blank','userContext':'default'}]}"
    ∷ []
unfolding machine_on_literals
children_are_gone_after_a_navigation = refl

pub navigation_of_a_child_leaves_its_parent :
    after (begun
    ++ frame "$c1" "about:blank"
    ∷ ask "{'id':1,'method':'browsingContext.navigate','params':{'context':'$c2','url':'http://a.test'}}" ∷ [])
    (ask "{'id':2,'method':'browsingContext.getTree','params':{}}")
    ≡ success 1 2 "{'contexts':[{'children':[{'children':[],'clientWindow':'$w1','context':'$c2','originalOpener':null,'url':'http://a.test/','userContext':'default'}],'clientWindow':'$w1','context':'$c1','originalOpener':null,'parent':null,'url':'about:blank','userContext':'default'}]}" ∷ []
unfolding machine_on_literals
navigation_of_a_child_leaves_its_parent = refl

pub navigation_of_a_child_is_told_for_its_top_level_context :
    after (begun
    ++ frame "$c1" "about:blank"
    ∷ ask "{'id':1,'method':'session.subscribe','params':{'events':['browsingContext.load'],'contexts':['$c1']}}" ∷ [])
    (ask "{'id':2,'method':'browsingContext.reload','params':{'context':'$c2'}}")
    ≡ success 1 2 "{'navigation':'$n1','url':'about:blank'}"
    ∷ event 1 "browsingContext.load" "{'context':'$c2','navigation':'$n1','timestamp':0,'url':'about:blank'}" ∷ []
unfolding machine_on_literals
navigation_of_a_child_is_told_for_its_top_level_context = refl

pub ws_url_has_no_origin :
    after (begun
    ++ ask "{'id':1,'method':'session.subscribe','params':{'events':['script.realmCreated']}}" ∷ [])
    (ask "{'id':2,'method':'browsingContext.navigate','params':{'context':'$c1','url':'ws://a.test'}}")
    ≡ success 1 2 "{'navigation':'$n1','url':'ws://a.test/'}"
    ∷ event 1 "script.realmCreated" "{'context':'$c1','origin':'null','realm':'$r2','type':'window'}" ∷ []
unfolding machine_on_literals
ws_url_has_no_origin = refl

-- ---- checks

pub url_has_to_be_absolute :
    after begun (ask "{'id':1,'method':'browsingContext.navigate','params':{'context':'$c1','url':'/x'}}")
    ≡ refusal 1 1 "invalid argument" ∷ []
unfolding machine_on_literals
url_has_to_be_absolute = refl

pub context_is_checked_before_the_url :
    after begun (ask "{'id':1,'method':'browsingContext.navigate','params':{'context':'nowhere','url':'/x'}}")
    ≡ refusal 1 1 "no such frame" ∷ []
unfolding machine_on_literals
context_is_checked_before_the_url = refl

pub unknown_context_is_not_reloaded :
    after begun (ask "{'id':1,'method':'browsingContext.reload','params':{'context':'nowhere'}}")
    ≡ refusal 1 1 "no such frame" ∷ []
unfolding machine_on_literals
unknown_context_is_not_reloaded = refl

pub refused_navigation_uses_no_number :
    after (begun
    ++ ask "{'id':1,'method':'browsingContext.navigate','params':{'context':'$c1','url':'/x'}}"
    ∷ ask "{'id':2,'method':'browsingContext.traverseHistory','params':{'context':'$c1','delta':-1}}"
    ∷ ask "{'id':3,'method':'session.subscribe','params':{'events':['script.realmCreated','browsingContext.load']}}" ∷ [])
    (ask "{'id':4,'method':'browsingContext.reload','params':{'context':'$c1','wait':'complete'}}")
    ≡ event 1 "script.realmCreated" "{'context':'$c1','origin':'null','realm':'$r2','type':'window'}"
    ∷ event 1 "browsingContext.load" "{'context':'$c1','navigation':'$n1','timestamp':0,'url':'about:blank'}"
    ∷ success 1 4 "{'navigation':'$n1','url':'about:blank'}" ∷ []
unfolding machine_on_literals
refused_navigation_uses_no_number = refl

-- ---- session history

pub traversal_is_a_navigation_whose_reply_is_last :
    after (begun
    ++ ask "{'id':1,'method':'browsingContext.navigate','params':{'context':'$c1','url':'http://a.test'}}"
    ∷ ask "{'id':2,'method':'browsingContext.navigate','params':{'context':'$c1','url':'http://b.test'}}"
    ∷ ask "{'id':3,'method':'session.subscribe','params':{'events':['browsingContext.navigationStarted','browsingContext.load']}}" ∷ [])
    (ask "{'id':4,'method':'browsingContext.traverseHistory','params':{'context':'$c1','delta':-1}}")
    ≡ event 1 "browsingContext.navigationStarted" "{'context':'$c1','navigation':'$n3','timestamp':0,'url':'http://a.test/'}"
    ∷ event 1 "browsingContext.load" "{'context':'$c1','navigation':'$n3','timestamp':0,'url':'http://a.test/'}"
    ∷ success 1 4 "{}" ∷ []
unfolding machine_on_literals
traversal_is_a_navigation_whose_reply_is_last = refl

pub traversal_of_nothing_repeats_the_entry :
    after (begun
    ++ ask "{'id':1,'method':'browsingContext.navigate','params':{'context':'$c1','url':'http://a.test'}}"
    ∷ ask "{'id':2,'method':'browsingContext.navigate','params':{'context':'$c1','url':'http://b.test'}}"
    ∷ ask "{'id':3,'method':'session.subscribe','params':{'events':['browsingContext.load']}}" ∷ [])
    (ask "{'id':4,'method':'browsingContext.traverseHistory','params':{'context':'$c1','delta':0}}")
    ≡ event 1 "browsingContext.load" "{'context':'$c1','navigation':'$n3','timestamp':0,'url':'http://b.test/'}" ∷ success 1 4 "{}" ∷ []
unfolding machine_on_literals
traversal_of_nothing_repeats_the_entry = refl

pub traversal_makes_a_realm :
    after (begun
    ++ ask "{'id':1,'method':'browsingContext.navigate','params':{'context':'$c1','url':'http://a.test'}}"
    ∷ ask "{'id':2,'method':'browsingContext.navigate','params':{'context':'$c1','url':'http://b.test'}}"
    ∷ ask "{'id':3,'method':'session.subscribe','params':{'events':['script.realmCreated']}}" ∷ [])
    (ask "{'id':4,'method':'browsingContext.traverseHistory','params':{'context':'$c1','delta':-2}}")
    ≡ event 1 "script.realmCreated" "{'context':'$c1','origin':'null','realm':'$r4','type':'window'}" ∷ success 1 4 "{}" ∷ []
unfolding machine_on_literals
traversal_makes_a_realm = refl

pub traversal_leads_back_and_forth :
    after (begun
    ++ ask "{'id':1,'method':'browsingContext.navigate','params':{'context':'$c1','url':'http://a.test'}}"
    ∷ ask "{'id':2,'method':'browsingContext.navigate','params':{'context':'$c1','url':'http://b.test'}}"
    ∷ ask "{'id':3,'method':'browsingContext.traverseHistory','params':{'context':'$c1','delta':-2}}"
    ∷ ask "{'id':4,'method':'session.subscribe','params':{'events':['browsingContext.load']}}" ∷ [])
    (ask "{'id':5,'method':'browsingContext.traverseHistory','params':{'context':'$c1','delta':2}}")
    ≡ event 1 "browsingContext.load" "{'context':'$c1','navigation':'$n4','timestamp':0,'url':'http://b.test/'}" ∷ success 1 5 "{}" ∷ []
unfolding machine_on_literals
traversal_leads_back_and_forth = refl

pub place_after_the_last_entry_is_none :
    after (begun
    ++ ask "{'id':1,'method':'browsingContext.navigate','params':{'context':'$c1','url':'http://a.test'}}"
    ∷ ask "{'id':2,'method':'browsingContext.navigate','params':{'context':'$c1','url':'http://b.test'}}" ∷ [])
    (ask "{'id':3,'method':'browsingContext.traverseHistory','params':{'context':'$c1','delta':1}}")
    ≡ refusal 1 3 "no such history entry" ∷ []
unfolding machine_on_literals
place_after_the_last_entry_is_none = refl

pub entries_after_the_present_one_drop :
    after (begun
    ++ ask "{'id':1,'method':'browsingContext.navigate','params':{'context':'$c1','url':'http://a.test'}}"
    ∷ ask "{'id':2,'method':'browsingContext.navigate','params':{'context':'$c1','url':'http://b.test'}}"
    ∷ ask "{'id':3,'method':'browsingContext.traverseHistory','params':{'context':'$c1','delta':-1}}"
    ∷ ask "{'id':4,'method':'browsingContext.navigate','params':{'context':'$c1','url':'http://c.test'}}" ∷ [])
    (ask "{'id':5,'method':'browsingContext.traverseHistory','params':{'context':'$c1','delta':1}}")
    ≡ refusal 1 5 "no such history entry" ∷ []
unfolding machine_on_literals
entries_after_the_present_one_drop = refl

pub entries_before_the_present_one_stay :
    after (begun
    ++ ask "{'id':1,'method':'browsingContext.navigate','params':{'context':'$c1','url':'http://a.test'}}"
    ∷ ask "{'id':2,'method':'browsingContext.navigate','params':{'context':'$c1','url':'http://b.test'}}"
    ∷ ask "{'id':3,'method':'browsingContext.traverseHistory','params':{'context':'$c1','delta':-1}}"
    ∷ ask "{'id':4,'method':'browsingContext.navigate','params':{'context':'$c1','url':'http://c.test'}}"
    ∷ ask "{'id':5,'method':'session.subscribe','params':{'events':['browsingContext.load']}}" ∷ [])
    (ask "{'id':6,'method':'browsingContext.traverseHistory','params':{'context':'$c1','delta':-1}}")
    ≡ event 1 "browsingContext.load" "{'context':'$c1','navigation':'$n5','timestamp':0,'url':'http://a.test/'}" ∷ success 1 6 "{}" ∷ []
unfolding machine_on_literals
entries_before_the_present_one_stay = refl

pub reload_keeps_the_entries :
    after (begun
    ++ ask "{'id':1,'method':'browsingContext.navigate','params':{'context':'$c1','url':'http://a.test'}}"
    ∷ ask "{'id':2,'method':'browsingContext.navigate','params':{'context':'$c1','url':'http://b.test'}}"
    ∷ ask "{'id':3,'method':'browsingContext.traverseHistory','params':{'context':'$c1','delta':-1}}"
    ∷ ask "{'id':4,'method':'browsingContext.reload','params':{'context':'$c1'}}"
    ∷ ask "{'id':5,'method':'session.subscribe','params':{'events':['browsingContext.load']}}" ∷ [])
    (ask "{'id':6,'method':'browsingContext.traverseHistory','params':{'context':'$c1','delta':1}}")
    ≡ event 1 "browsingContext.load" "{'context':'$c1','navigation':'$n5','timestamp':0,'url':'http://b.test/'}" ∷ success 1 6 "{}" ∷ []
unfolding machine_on_literals
reload_keeps_the_entries = refl

pub child_is_not_traversed :
    after (begun ++ frame "$c1" "about:blank" ∷ []) (ask "{'id':1,'method':'browsingContext.traverseHistory','params':{'context':'$c2','delta':0}}")
    ≡ refusal 1 1 "invalid argument" ∷ []
unfolding machine_on_literals
child_is_not_traversed = refl

pub unknown_context_is_not_traversed :
    after begun (ask "{'id':1,'method':'browsingContext.traverseHistory','params':{'context':'nowhere','delta':5}}")
    ≡ refusal 1 1 "no such frame" ∷ []
unfolding machine_on_literals
unknown_context_is_not_traversed = refl

-- so many navigations of the first context, each to a URL with its number
abbrev pub navigations : ℕ → List Step
navigations n =
    map (λ k. Text 1 (said "{'id':1,'method':'browsingContext.navigate','params':{'context':'$c1','url':'http://a.test/" ++ decimal k ++ said "'}}")) (up_to n)

pub fifty_navigations_leave_the_first_as_the_oldest :
    after (begun ++ navigations 50 ++ ask "{'id':2,'method':'session.subscribe','params':{'events':['browsingContext.load']}}" ∷ [])
    (ask "{'id':3,'method':'browsingContext.traverseHistory','params':{'context':'$c1','delta':-49}}")
    ≡ event 1 "browsingContext.load" "{'context':'$c1','navigation':'00000000-0004-8000-8000-000000000033','timestamp':0,'url':'http://a.test/1'}"
    ∷ success 1 3 "{}" ∷ []
unfolding machine_on_literals
fifty_navigations_leave_the_first_as_the_oldest = refl

pub where_the_first_context_was_born_has_dropped :
    after (begun ++ navigations 50) (ask "{'id':3,'method':'browsingContext.traverseHistory','params':{'context':'$c1','delta':-50}}")
    ≡ refusal 1 3 "no such history entry" ∷ []
unfolding machine_on_literals
where_the_first_context_was_born_has_dropped = refl

pub forty_nine_navigations_leave_it :
    after (begun ++ navigations 49 ++ ask "{'id':2,'method':'session.subscribe','params':{'events':['browsingContext.load']}}" ∷ [])
    (ask "{'id':3,'method':'browsingContext.traverseHistory','params':{'context':'$c1','delta':-49}}")
    ≡ event 1 "browsingContext.load" "{'context':'$c1','navigation':'00000000-0004-8000-8000-000000000032','timestamp':0,'url':'about:blank'}"
    ∷ success 1 3 "{}" ∷ []
unfolding machine_on_literals
forty_nine_navigations_leave_it = refl
