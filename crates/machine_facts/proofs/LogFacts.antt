-- Worked examples of log entries and of those that wait.
use Rattle.std.specs.Prelude.{◌≡◌, ℕ, List, [], ◌∷◌, ◌++◌, map, drop, codes, decimal, refl}
use Rattle.bidi_contexts.specs.Contexts.{up_to}
use Rattle.bidi_handles.specs.declared.id.IdKind.TheVariants.{Context}
use Rattle.bidi_handles.specs.Ids.{id_of}
use Rattle.bidi_scripts.specs.declared.log_entry.Level.TheVariants.{Error, Info}
use Rattle.bidi_remote.specs.Machine.Sent.{Sent}
use Rattle.bidi_handles.proofs.Spelling.{said}
use Rattle.bidi_sessions.specs.Step.{Step, At, Open, Drop, Page, Log}
use Rattle.bidi_remote.specs.Machine.Sent as sent
use Rattle.machine_facts.proofs.Rows.{after, ask, ask_on, begun, event, frame, log, machine_on_literals, success, unframe}

-- ---- one entry

pub waiting_entry_is_announced :
    after (begun ++ At 7 ∷ log "$c1" Info "hi" ∷ []) (ask "{'id':1,'method':'session.subscribe','params':{'events':['log.entryAdded']}}")
    ≡ sent.Text 1 (said "{'method':'log.entryAdded','params':{'args':[{'type':'string','value':'hi'}],'level':'info','method':'info','source':{'context':'$c1','realm':'$r1'},'text':'hi','timestamp':7,'type':'console'},'type':'event'}")
    ∷ success 1 1 "{'subscription':'$u1'}" ∷ []
unfolding machine_on_literals
waiting_entry_is_announced = refl

pub announced_entry_waits_no_longer :
    after (begun
    ++ At 7
    ∷ log "$c1" Info "hi"
    ∷ ask "{'id':1,'method':'session.subscribe','params':{'events':['log.entryAdded']}}" ∷ [])
    (ask "{'id':2,'method':'session.subscribe','params':{'events':['log.entryAdded']}}")
    ≡ success 1 2 "{'subscription':'$u2'}" ∷ []
unfolding machine_on_literals
announced_entry_waits_no_longer = refl

-- also where the event was not enabled in between
pub announced_entry_is_not_announced_again :
    after (begun
    ++ log "$c1" Info "hi"
    ∷ ask "{'id':1,'method':'session.subscribe','params':{'events':['log.entryAdded']}}"
    ∷ ask "{'id':2,'method':'session.unsubscribe','params':{'subscriptions':['$u1']}}" ∷ [])
    (ask "{'id':3,'method':'session.subscribe','params':{'events':['log.entryAdded']}}")
    ≡ success 1 3 "{'subscription':'$u2'}" ∷ []
unfolding machine_on_literals
announced_entry_is_not_announced_again = refl

pub entry_in_an_unknown_context_has_no_effect :
    after begun (log "nowhere" Info "hi")
    ≡ sent.NoEffect ∷ []
unfolding machine_on_literals
entry_in_an_unknown_context_has_no_effect = refl

pub entry_has_the_moment_of_its_step :
    after (begun
    ++ ask "{'id':1,'method':'session.subscribe','params':{'events':['log']}}"
    ∷ At 7
    ∷ At 5 ∷ [])
    (log "$c1" Error "hi")
    ≡ event 1 "log.entryAdded" "{'args':[{'type':'string','value':'hi'}],'level':'error','method':'error','source':{'context':'$c1','realm':'$r1'},'text':'hi','timestamp':5,'type':'console'}" ∷ []
unfolding machine_on_literals
entry_has_the_moment_of_its_step = refl

-- even where no connection was open
pub enabled_entry_does_not_wait :
    after (begun
    ++ ask "{'id':1,'method':'session.subscribe','params':{'events':['log']}}"
    ∷ Drop 1
    ∷ log "$c1" Info "hi"
    ∷ Open 1 (said "/session/$s1")
    ∷ ask "{'id':2,'method':'session.unsubscribe','params':{'subscriptions':['$u1']}}" ∷ [])
    (ask "{'id':3,'method':'session.subscribe','params':{'events':['log']}}")
    ≡ success 1 3 "{'subscription':'$u2'}" ∷ []
unfolding machine_on_literals
enabled_entry_does_not_wait = refl

pub entry_from_before_the_session_does_not_wait :
    after (begun
    ++ Open 2 (codes "/session")
    ∷ log "$c1" Info "hi"
    ∷ ask_on 2 "{'id':0,'method':'session.new','params':{'capabilities':{}}}" ∷ [])
    (ask_on 2 "{'id':1,'method':'session.subscribe','params':{'events':['log']}}")
    ≡ success 2 1 "{'subscription':'$v1'}" ∷ []
unfolding machine_on_literals
entry_from_before_the_session_does_not_wait = refl

pub entry_waits_for_each_session :
    after (begun
    ++ Open 2 (codes "/session")
    ∷ ask_on 2 "{'id':0,'method':'session.new','params':{'capabilities':{}}}"
    ∷ log "$c1" Info "hi"
    ∷ ask "{'id':1,'method':'session.subscribe','params':{'events':['log']}}" ∷ [])
    (ask_on 2 "{'id':1,'method':'session.subscribe','params':{'events':['log']}}")
    ≡ event 2 "log.entryAdded"
    "{'args':[{'type':'string','value':'hi'}],'level':'info','method':'info','source':{'context':'$c1','realm':'$r1'},'text':'hi','timestamp':0,'type':'console'}"
    ∷ success 2 1 "{'subscription':'$v1'}" ∷ []
unfolding machine_on_literals
entry_waits_for_each_session = refl

-- ---- contexts of entries

pub entry_of_a_removed_frame_belongs_to_its_top_level_context :
    after (begun ++ frame "$c1" "about:blank" ∷ log "$c2" Info "hi" ∷ unframe "$c2" ∷ [])
    (ask "{'id':1,'method':'session.subscribe','params':{'events':['log']}}")
    ≡ event 1 "log.entryAdded"
    "{'args':[{'type':'string','value':'hi'}],'level':'info','method':'info','source':{'context':'$c2','realm':'$r2'},'text':'hi','timestamp':0,'type':'console'}"
    ∷ success 1 1 "{'subscription':'$u1'}" ∷ []
unfolding machine_on_literals
entry_of_a_removed_frame_belongs_to_its_top_level_context = refl

pub entry_of_a_closed_context_is_not_announced :
    after (begun
    ++ ask "{'id':9,'method':'browsingContext.create','params':{'type':'tab'}}"
    ∷ log "$c2" Info "hi"
    ∷ ask "{'id':8,'method':'browsingContext.close','params':{'context':'$c2'}}" ∷ [])
    (ask "{'id':1,'method':'session.subscribe','params':{'events':['log']}}")
    ≡ success 1 1 "{'subscription':'$u1'}" ∷ []
unfolding machine_on_literals
entry_of_a_closed_context_is_not_announced = refl

pub entries_of_other_contexts_wait_on :
    after (begun
    ++ ask "{'id':9,'method':'browsingContext.create','params':{'type':'tab'}}"
    ∷ log "$c1" Info "a"
    ∷ log "$c2" Info "b"
    ∷ ask "{'id':1,'method':'session.subscribe','params':{'events':['log'],'contexts':['$c2']}}" ∷ [])
    (ask "{'id':2,'method':'session.subscribe','params':{'events':['log']}}")
    ≡ event 1 "log.entryAdded"
    "{'args':[{'type':'string','value':'a'}],'level':'info','method':'info','source':{'context':'$c1','realm':'$r1'},'text':'a','timestamp':0,'type':'console'}"
    ∷ success 1 2 "{'subscription':'$u2'}" ∷ []
unfolding machine_on_literals
entries_of_other_contexts_wait_on = refl

pub entries_are_announced_oldest_first_over_all_contexts :
    after (begun
    ++ ask "{'id':9,'method':'browsingContext.create','params':{'type':'tab'}}"
    ∷ log "$c2" Info "a"
    ∷ log "$c1" Info "b"
    ∷ log "$c2" Info "c" ∷ [])
    (ask "{'id':1,'method':'session.subscribe','params':{'events':['log'],'contexts':['$c1','$c2']}}")
    ≡ event 1 "log.entryAdded"
    "{'args':[{'type':'string','value':'a'}],'level':'info','method':'info','source':{'context':'$c2','realm':'$r2'},'text':'a','timestamp':0,'type':'console'}"
    ∷ event 1 "log.entryAdded"
    "{'args':[{'type':'string','value':'b'}],'level':'info','method':'info','source':{'context':'$c1','realm':'$r1'},'text':'b','timestamp':0,'type':'console'}"
    ∷ event 1 "log.entryAdded"
    "{'args':[{'type':'string','value':'c'}],'level':'info','method':'info','source':{'context':'$c2','realm':'$r2'},'text':'c','timestamp':0,'type':'console'}"
    ∷ success 1 1 "{'subscription':'$u1'}" ∷ []
unfolding machine_on_literals
entries_are_announced_oldest_first_over_all_contexts = refl

-- ---- the last hundred

-- so many entries of a context, each with its number for a text
abbrev pub entries : ℕ → ℕ → List Step
entries c n = map (λ k. Page (Log (id_of Context c) Info (decimal k))) (up_to n)

-- an entry of the first context, as it is announced
abbrev pub announced : ℕ → Sent
announced k =
    sent.Text 1 (said "{'method':'log.entryAdded','params':{'args':[{'type':'string','value':'"
    ++ decimal k ++ said "'}],'level':'info','method':'info','source':{'context':'$c1','realm':'$r1'},'text':'"
    ++ decimal k ++ said "','timestamp':0,'type':'console'},'type':'event'}")

pub first_of_a_hundred_and_one_entries_does_not_come :
    after (begun ++ entries 1 101) (ask "{'id':1,'method':'session.subscribe','params':{'events':['log']}}")
    ≡ map announced (drop 1 (up_to 101)) ++ success 1 1 "{'subscription':'$u1'}" ∷ []
unfolding machine_on_literals
first_of_a_hundred_and_one_entries_does_not_come = refl

-- the old entry is the hundred and first, though sixty after it were announced
pub announced_entries_count_among_the_hundred :
    after (begun ++ ask "{'id':9,'method':'browsingContext.create','params':{'type':'tab'}}"
    ∷ log "$c1" Info "old" ∷ entries 2 60 ++ ask "{'id':1,'method':'session.subscribe','params':{'events':['log'],'contexts':['$c2']}}"
    ∷ ask "{'id':2,'method':'session.unsubscribe','params':{'subscriptions':['$u1']}}" ∷ entries 2 40)
    (ask "{'id':3,'method':'session.subscribe','params':{'events':['log'],'contexts':['$c1']}}")
    ≡ success 1 3 "{'subscription':'$u2'}" ∷ []
unfolding machine_on_literals
announced_entries_count_among_the_hundred = refl

pub entry_of_a_closed_context_keeps_its_place :
    after (begun ++ ask "{'id':9,'method':'browsingContext.create','params':{'type':'tab'}}"
    ∷ log "$c1" Info "old" ∷ entries 2 100 ++ ask "{'id':8,'method':'browsingContext.close','params':{'context':'$c2'}}" ∷ [])
    (ask "{'id':3,'method':'session.subscribe','params':{'events':['log']}}")
    ≡ success 1 3 "{'subscription':'$u1'}" ∷ []
unfolding machine_on_literals
entry_of_a_closed_context_keeps_its_place = refl
