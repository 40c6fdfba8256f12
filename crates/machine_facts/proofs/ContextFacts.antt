-- Worked examples of contexts.
use Rattle.std.specs.Prelude.{◌≡◌, ℕ, List, [], ◌∷◌, ◌++◌, map, codes, refl}
use Rattle.bidi_contexts.specs.Contexts.{up_to}
use Rattle.bidi_handles.specs.declared.id.IdKind.TheVariants.{Context}
use Rattle.bidi_handles.specs.Ids.{id_of}
use Rattle.bidi_sessions.specs.Step.{Step, Page, Frame}
use Rattle.bidi_remote.specs.Machine.Sent as sent
use Rattle.machine_facts.proofs.Rows.{after, ask, begun, event, frame, machine_on_literals, refusal, success, unframe}

-- ---- the tree

pub depth_0_shows_no_children :
    after (begun ++ frame "$c1" "about:blank" ∷ frame "$c2" "about:blank" ∷ [])
    (ask "{'id':1,'method':'browsingContext.getTree','params':{'maxDepth':0}}")
    ≡ success 1 1
    "{'contexts':[{'children':null,'clientWindow':'$w1','context':'$c1','originalOpener':null,'parent':null,'url':'about:blank','userContext':'default'}]}"
    ∷ []
unfolding machine_on_literals
depth_0_shows_no_children = refl

-- only the root has its parent
pub depth_1_shows_the_children :
    after (begun ++ frame "$c1" "about:blank" ∷ frame "$c2" "about:blank" ∷ [])
    (ask "{'id':1,'method':'browsingContext.getTree','params':{'maxDepth':1}}")
    ≡ success 1 1 "{'contexts':[{'children':[{'children':null,'clientWindow':'$w1','context':'$c2','originalOpener':null,'url':'about:blank','userContext':'default'}],'clientWindow':'$w1','context':'$c1','originalOpener':null,'parent':null,'url':'about:blank','userContext':'default'}]}" ∷ []
unfolding machine_on_literals
depth_1_shows_the_children = refl

pub without_depth_the_whole_tree_is_shown :
    after (begun ++ frame "$c1" "about:blank" ∷ frame "$c2" "about:blank" ∷ []) (ask "{'id':1,'method':'browsingContext.getTree','params':{}}")
    ≡ success 1 1 "{'contexts':[{'children':[{'children':[{'children':[],'clientWindow':'$w1','context':'$c3','originalOpener':null,'url':'about:blank','userContext':'default'}],'clientWindow':'$w1','context':'$c2','originalOpener':null,'url':'about:blank','userContext':'default'}],'clientWindow':'$w1','context':'$c1','originalOpener':null,'parent':null,'url':'about:blank','userContext':'default'}]}" ∷ []
unfolding machine_on_literals
without_depth_the_whole_tree_is_shown = refl

pub root_has_its_parent :
    after (begun ++ frame "$c1" "about:blank" ∷ frame "$c2" "about:blank" ∷ [])
    (ask "{'id':1,'method':'browsingContext.getTree','params':{'root':'$c2'}}")
    ≡ success 1 1 "{'contexts':[{'children':[{'children':[],'clientWindow':'$w1','context':'$c3','originalOpener':null,'url':'about:blank','userContext':'default'}],'clientWindow':'$w1','context':'$c2','originalOpener':null,'parent':'$c1','url':'about:blank','userContext':'default'}]}" ∷ []
unfolding machine_on_literals
root_has_its_parent = refl

pub unknown_root_is_no_frame :
    after (begun ++ frame "$c1" "about:blank" ∷ frame "$c2" "about:blank" ∷ [])
    (ask "{'id':1,'method':'browsingContext.getTree','params':{'root':'nowhere'}}")
    ≡ refusal 1 1 "no such frame" ∷ []
unfolding machine_on_literals
unknown_root_is_no_frame = refl

pub all_top_level_contexts_are_shown_by_creation :
    after (begun
    ++ ask "{'id':9,'method':'browsingContext.create','params':{'type':'tab'}}"
    ∷ frame "$c1" "about:blank" ∷ [])
    (ask "{'id':1,'method':'browsingContext.getTree','params':{'maxDepth':0}}")
    ≡ success 1 1 "{'contexts':[{'children':null,'clientWindow':'$w1','context':'$c1','originalOpener':null,'parent':null,'url':'about:blank','userContext':'default'},{'children':null,'clientWindow':'$w1','context':'$c2','originalOpener':null,'parent':null,'url':'about:blank','userContext':'default'}]}" ∷ []
unfolding machine_on_literals
all_top_level_contexts_are_shown_by_creation = refl

pub frame_is_at_its_serialised_url :
    after (begun ++ frame "$c1" "http://a.test" ∷ []) (ask "{'id':1,'method':'browsingContext.getTree','params':{'root':'$c2'}}")
    ≡ success 1 1 "{'contexts':[{'children':[],'clientWindow':'$w1','context':'$c2','originalOpener':null,'parent':'$c1','url':'http://a.test/','userContext':'default'}]}" ∷ []
unfolding machine_on_literals
frame_is_at_its_serialised_url = refl

-- ---- creating

pub reference_has_to_be_top_level :
    after (begun ++ frame "$c1" "http://a.test" ∷ []) (ask "{'id':1,'method':'browsingContext.create','params':{'type':'tab','referenceContext':'$c2'}}")
    ≡ refusal 1 1 "invalid argument" ∷ []
unfolding machine_on_literals
reference_has_to_be_top_level = refl

pub reference_has_to_be_there :
    after (begun ++ frame "$c1" "http://a.test" ∷ [])
    (ask "{'id':1,'method':'browsingContext.create','params':{'type':'tab','referenceContext':'nowhere'}}")
    ≡ refusal 1 1 "no such frame" ∷ []
unfolding machine_on_literals
reference_has_to_be_there = refl

pub reference_of_a_window_is_checked_too :
    after (begun ++ frame "$c1" "http://a.test" ∷ [])
    (ask "{'id':1,'method':'browsingContext.create','params':{'type':'window','referenceContext':'nowhere'}}")
    ≡ refusal 1 1 "no such frame" ∷ []
unfolding machine_on_literals
reference_of_a_window_is_checked_too = refl

pub user_context_has_to_be_live :
    after (begun ++ frame "$c1" "http://a.test" ∷ []) (ask "{'id':1,'method':'browsingContext.create','params':{'type':'tab','userContext':'x'}}")
    ≡ refusal 1 1 "no such user context" ∷ []
unfolding machine_on_literals
user_context_has_to_be_live = refl

pub reference_is_checked_before_the_user_context :
    after (begun ++ frame "$c1" "http://a.test" ∷ [])
    (ask "{'id':1,'method':'browsingContext.create','params':{'type':'tab','referenceContext':'nowhere','userContext':'x'}}")
    ≡ refusal 1 1 "no such frame" ∷ []
unfolding machine_on_literals
reference_is_checked_before_the_user_context = refl

pub default_user_context_is_taken :
    after begun (ask "{'id':1,'method':'browsingContext.create','params':{'type':'tab','userContext':'default'}}")
    ≡ success 1 1 "{'context':'$c2'}" ∷ []
unfolding machine_on_literals
default_user_context_is_taken = refl

pub refused_create_uses_no_number :
    after (begun
    ++ ask "{'id':1,'method':'browsingContext.create','params':{'type':'tab','userContext':'x'}}" ∷ [])
    (ask "{'id':2,'method':'browsingContext.create','params':{'type':'tab'}}")
    ≡ success 1 2 "{'context':'$c2'}" ∷ []
unfolding machine_on_literals
refused_create_uses_no_number = refl

-- and with no event of a navigation
pub creation_is_told_with_its_realm :
    after (begun
    ++ ask "{'id':1,'method':'session.subscribe','params':{'events':['browsingContext','script']}}" ∷ [])
    (ask "{'id':2,'method':'browsingContext.create','params':{'type':'window'}}")
    ≡ event 1 "browsingContext.contextCreated"
    "{'children':null,'clientWindow':'$w2','context':'$c2','originalOpener':null,'parent':null,'url':'about:blank','userContext':'default'}"
    ∷ event 1 "script.realmCreated" "{'context':'$c2','origin':'null','realm':'$r2','type':'window'}"
    ∷ success 1 2 "{'context':'$c2'}" ∷ []
unfolding machine_on_literals
creation_is_told_with_its_realm = refl

pub tab_takes_the_window_of_its_reference :
    after (begun
    ++ ask "{'id':1,'method':'session.subscribe','params':{'events':['browsingContext.contextCreated']}}"
    ∷ ask "{'id':2,'method':'browsingContext.create','params':{'type':'window'}}" ∷ [])
    (ask "{'id':3,'method':'browsingContext.create','params':{'type':'tab','referenceContext':'$c2'}}")
    ≡ event 1 "browsingContext.contextCreated"
    "{'children':null,'clientWindow':'$w2','context':'$c3','originalOpener':null,'parent':null,'url':'about:blank','userContext':'default'}"
    ∷ success 1 3 "{'context':'$c3'}" ∷ []
unfolding machine_on_literals
tab_takes_the_window_of_its_reference = refl

pub tab_takes_the_window_of_the_oldest_context :
    after (begun
    ++ ask "{'id':1,'method':'session.subscribe','params':{'events':['browsingContext.contextCreated']}}"
    ∷ ask "{'id':2,'method':'browsingContext.create','params':{'type':'window'}}" ∷ [])
    (ask "{'id':3,'method':'browsingContext.create','params':{'type':'tab'}}")
    ≡ event 1 "browsingContext.contextCreated"
    "{'children':null,'clientWindow':'$w1','context':'$c3','originalOpener':null,'parent':null,'url':'about:blank','userContext':'default'}"
    ∷ success 1 3 "{'context':'$c3'}" ∷ []
unfolding machine_on_literals
tab_takes_the_window_of_the_oldest_context = refl

pub oldest_context_is_one_that_is_alive :
    after (begun
    ++ ask "{'id':1,'method':'session.subscribe','params':{'events':['browsingContext.contextCreated']}}"
    ∷ ask "{'id':2,'method':'browsingContext.create','params':{'type':'window'}}"
    ∷ ask "{'id':3,'method':'browsingContext.close','params':{'context':'$c1'}}" ∷ [])
    (ask "{'id':4,'method':'browsingContext.create','params':{'type':'tab'}}")
    ≡ event 1 "browsingContext.contextCreated"
    "{'children':null,'clientWindow':'$w2','context':'$c3','originalOpener':null,'parent':null,'url':'about:blank','userContext':'default'}"
    ∷ success 1 4 "{'context':'$c3'}" ∷ []
unfolding machine_on_literals
oldest_context_is_one_that_is_alive = refl

pub window_is_new_even_with_a_reference :
    after (begun
    ++ ask "{'id':1,'method':'session.subscribe','params':{'events':['browsingContext.contextCreated']}}" ∷ [])
    (ask "{'id':2,'method':'browsingContext.create','params':{'type':'window','referenceContext':'$c1'}}")
    ≡ event 1 "browsingContext.contextCreated"
    "{'children':null,'clientWindow':'$w2','context':'$c2','originalOpener':null,'parent':null,'url':'about:blank','userContext':'default'}"
    ∷ success 1 2 "{'context':'$c2'}" ∷ []
unfolding machine_on_literals
window_is_new_even_with_a_reference = refl

pub number_of_a_window_is_used_only_for_a_new_one :
    after (begun
    ++ ask "{'id':1,'method':'session.subscribe','params':{'events':['browsingContext.contextCreated']}}"
    ∷ ask "{'id':2,'method':'browsingContext.create','params':{'type':'tab'}}" ∷ [])
    (ask "{'id':3,'method':'browsingContext.create','params':{'type':'window'}}")
    ≡ event 1 "browsingContext.contextCreated"
    "{'children':null,'clientWindow':'$w2','context':'$c3','originalOpener':null,'parent':null,'url':'about:blank','userContext':'default'}"
    ∷ success 1 3 "{'context':'$c3'}" ∷ []
unfolding machine_on_literals
number_of_a_window_is_used_only_for_a_new_one = refl

-- ---- frames

pub url_that_is_not_absolute_has_no_effect :
    after (begun ++ frame "$c1" "http://a.test" ∷ []) (frame "$c1" "/x")
    ≡ sent.NoEffect ∷ []
unfolding machine_on_literals
url_that_is_not_absolute_has_no_effect = refl

pub unknown_parent_has_no_effect :
    after (begun ++ frame "$c1" "http://a.test" ∷ []) (frame "$nowhere" "about:blank")
    ≡ sent.NoEffect ∷ []
unfolding machine_on_literals
unknown_parent_has_no_effect = refl

pub frame_is_told_with_its_realm :
    after (begun
    ++ ask "{'id':1,'method':'session.subscribe','params':{'events':['browsingContext','script']}}" ∷ [])
    (frame "$c1" "http://a.test")
    ≡ event 1 "browsingContext.contextCreated"
    "{'children':null,'clientWindow':'$w1','context':'$c2','originalOpener':null,'parent':'$c1','url':'http://a.test/','userContext':'default'}"
    ∷ event 1 "script.realmCreated" "{'context':'$c2','origin':'http://a.test','realm':'$r2','type':'window'}" ∷ []
unfolding machine_on_literals
frame_is_told_with_its_realm = refl

pub frame_is_in_the_window_of_its_parent :
    after (begun
    ++ ask "{'id':1,'method':'browsingContext.create','params':{'type':'window'}}"
    ∷ ask "{'id':2,'method':'session.subscribe','params':{'events':['browsingContext.contextCreated'],'contexts':['$c2']}}" ∷ [])
    (frame "$c2" "about:blank")
    ≡ event 1 "browsingContext.contextCreated"
    "{'children':null,'clientWindow':'$w2','context':'$c3','originalOpener':null,'parent':'$c2','url':'about:blank','userContext':'default'}" ∷ []
unfolding machine_on_literals
frame_is_in_the_window_of_its_parent = refl

-- so many frames within each other, below the first context
abbrev pub chain : ℕ → List Step
chain n = map (λ c. Page (Frame (id_of Context c) (codes "about:blank"))) (up_to n)

pub sixteen_levels_are_all :
    after (begun ++ chain 15) (Page (Frame (id_of Context 16) (codes "about:blank")))
    ≡ sent.NoEffect ∷ []
unfolding machine_on_literals
sixteen_levels_are_all = refl

pub fifteenth_level_has_room_below :
    after (begun ++ chain 15) (Page (Frame (id_of Context 15) (codes "about:blank")))
    ≡ []
unfolding machine_on_literals
fifteenth_level_has_room_below = refl

pub unframe_of_a_top_level_context_has_no_effect :
    after begun (unframe "$c1")
    ≡ sent.NoEffect ∷ []
unfolding machine_on_literals
unframe_of_a_top_level_context_has_no_effect = refl

pub unframe_of_an_unknown_context_has_no_effect :
    after begun (unframe "nowhere")
    ≡ sent.NoEffect ∷ []
unfolding machine_on_literals
unframe_of_an_unknown_context_has_no_effect = refl

-- ---- removal

-- with the whole Info of the context before it was closed
pub realms_end_in_tree_order_before_the_context :
    after (begun
    ++ frame "$c1" "about:blank"
    ∷ frame "$c1" "about:blank"
    ∷ frame "$c2" "http://a.test"
    ∷ ask "{'id':1,'method':'session.subscribe','params':{'events':['browsingContext.contextDestroyed','script.realmDestroyed']}}" ∷ [])
    (ask "{'id':2,'method':'browsingContext.close','params':{'context':'$c1'}}")
    ≡ event 1 "script.realmDestroyed" "{'realm':'$r1'}"
    ∷ event 1 "script.realmDestroyed" "{'realm':'$r2'}"
    ∷ event 1 "script.realmDestroyed" "{'realm':'$r4'}"
    ∷ event 1 "script.realmDestroyed" "{'realm':'$r3'}"
    ∷ event 1 "browsingContext.contextDestroyed"
    "{'children':[{'children':[{'children':[],'clientWindow':'$w1','context':'$c4','originalOpener':null,'url':'http://a.test/','userContext':'default'}],'clientWindow':'$w1','context':'$c2','originalOpener':null,'url':'about:blank','userContext':'default'},{'children':[],'clientWindow':'$w1','context':'$c3','originalOpener':null,'url':'about:blank','userContext':'default'}],'clientWindow':'$w1','context':'$c1','originalOpener':null,'parent':null,'url':'about:blank','userContext':'default'}"
    ∷ success 1 2 "{}" ∷ []
unfolding machine_on_literals
realms_end_in_tree_order_before_the_context = refl

pub unframe_is_a_removal :
    after (begun
    ++ frame "$c1" "about:blank"
    ∷ frame "$c1" "about:blank"
    ∷ frame "$c2" "http://a.test"
    ∷ ask "{'id':1,'method':'session.subscribe','params':{'events':['browsingContext.contextDestroyed','script.realmDestroyed']}}" ∷ [])
    (unframe "$c2")
    ≡ event 1 "script.realmDestroyed" "{'realm':'$r2'}"
    ∷ event 1 "script.realmDestroyed" "{'realm':'$r4'}"
    ∷ event 1 "browsingContext.contextDestroyed"
    "{'children':[{'children':[],'clientWindow':'$w1','context':'$c4','originalOpener':null,'url':'http://a.test/','userContext':'default'}],'clientWindow':'$w1','context':'$c2','originalOpener':null,'parent':'$c1','url':'about:blank','userContext':'default'}" ∷ []
unfolding machine_on_literals
unframe_is_a_removal = refl

pub nothing_outlives_a_close :
    after (begun
    ++ frame "$c1" "about:blank"
    ∷ frame "$c1" "about:blank"
    ∷ frame "$c2" "http://a.test"
    ∷ ask "{'id':1,'method':'session.subscribe','params':{'events':['browsingContext.contextDestroyed','script.realmDestroyed']}}"
    ∷ ask "{'id':2,'method':'browsingContext.close','params':{'context':'$c1'}}" ∷ [])
    (ask "{'id':3,'method':'browsingContext.getTree','params':{'root':'$c4'}}")
    ≡ refusal 1 3 "no such frame" ∷ []
unfolding machine_on_literals
nothing_outlives_a_close = refl

pub tree_is_empty_after_the_last_close :
    after (begun
    ++ frame "$c1" "http://a.test"
    ∷ ask "{'id':1,'method':'browsingContext.close','params':{'context':'$c1'}}" ∷ [])
    (ask "{'id':2,'method':'browsingContext.getTree','params':{}}")
    ≡ success 1 2 "{'contexts':[]}" ∷ []
unfolding machine_on_literals
tree_is_empty_after_the_last_close = refl

pub tab_after_the_last_close_has_a_new_window :
    after (begun
    ++ frame "$c1" "http://a.test"
    ∷ ask "{'id':1,'method':'browsingContext.close','params':{'context':'$c1'}}"
    ∷ ask "{'id':2,'method':'browsingContext.create','params':{'type':'tab'}}" ∷ [])
    (ask "{'id':3,'method':'browsingContext.getTree','params':{}}")
    ≡ success 1 3
    "{'contexts':[{'children':[],'clientWindow':'$w2','context':'$c3','originalOpener':null,'parent':null,'url':'about:blank','userContext':'default'}]}"
    ∷ []
unfolding machine_on_literals
tab_after_the_last_close_has_a_new_window = refl

pub child_is_not_closed :
    after (begun ++ frame "$c1" "http://a.test" ∷ []) (ask "{'id':1,'method':'browsingContext.close','params':{'context':'$c2'}}")
    ≡ refusal 1 1 "invalid argument" ∷ []
unfolding machine_on_literals
child_is_not_closed = refl

pub unknown_context_is_not_closed :
    after (begun ++ frame "$c1" "http://a.test" ∷ []) (ask "{'id':1,'method':'browsingContext.close','params':{'context':'nowhere'}}")
    ≡ refusal 1 1 "no such frame" ∷ []
unfolding machine_on_literals
unknown_context_is_not_closed = refl

pub closed_context_is_unknown :
    after (begun
    ++ frame "$c1" "http://a.test"
    ∷ ask "{'id':1,'method':'browsingContext.close','params':{'context':'$c1'}}" ∷ [])
    (ask "{'id':2,'method':'browsingContext.close','params':{'context':'$c1'}}")
    ≡ refusal 1 2 "no such frame" ∷ []
unfolding machine_on_literals
closed_context_is_unknown = refl

-- ---- activating

pub activate_answers_nothing :
    after (begun ++ frame "$c1" "http://a.test" ∷ []) (ask "{'id':1,'method':'browsingContext.activate','params':{'context':'$c1'}}")
    ≡ success 1 1 "{}" ∷ []
unfolding machine_on_literals
activate_answers_nothing = refl

pub child_is_not_activated :
    after (begun ++ frame "$c1" "http://a.test" ∷ []) (ask "{'id':1,'method':'browsingContext.activate','params':{'context':'$c2'}}")
    ≡ refusal 1 1 "invalid argument" ∷ []
unfolding machine_on_literals
child_is_not_activated = refl

pub unknown_context_is_not_activated :
    after (begun ++ frame "$c1" "http://a.test" ∷ []) (ask "{'id':1,'method':'browsingContext.activate','params':{'context':'nowhere'}}")
    ≡ refusal 1 1 "no such frame" ∷ []
unfolding machine_on_literals
unknown_context_is_not_activated = refl
