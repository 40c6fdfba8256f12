-- Limits, met and passed.
use Rattle.std.specs.Prelude.{◌≡◌, ℕ, List, [], ◌∷◌, ◌++◌, map, codes, None, true, Some, None, replicate, refl}
use Rattle.bidi_tree.specs.Node.{Node, no_members}
use Rattle.bidi_handles.specs.declared.id.IdKind.TheVariants.{Handle}
use Rattle.bidi_handles.specs.Ids.{id_of}
use Rattle.bidi_contexts.specs.Acts.{Made, Removed, Tabled, Ran, Disowned, UserMade, UserRemoved, Returned, EndsIn, GivesBack}
use Rattle.bidi_contexts.specs.Contexts.{up_to}
use Rattle.bidi_handles.specs.Maps.{◌being◌and◌, mapped, word}
use Rattle.bidi_contexts.specs.Outcome.{undefined}
use Rattle.bidi_methods.specs.declared.event_data.EventName.TheVariants.{EntryAdded}
use Rattle.bidi_remote.specs.Machine.History.{Deed, Began, Opened, Subscribed, Cancelled, Did, All}
use Rattle.bidi_remote.specs.Machine.Outcome.{turn}
use Rattle.bidi_remote.specs.Machine.Sent.{Sent, told}
use Rattle.machine_facts.proofs.Hearing.{heard}
use Rattle.bidi_sessions.specs.Step.{Step}
use Rattle.bidi_remote.specs.Machine.Sent as sent
use Rattle.machine_facts.proofs.Rows.{ask, ask_on, frame, machine_on_literals, refusal, success, value}

-- what is sent at a step after these deeds of session 1, the newest first
abbrev pub after_deeds : List Deed → Step → List Sent
after_deeds deeds step =
    let past = deeds ++ Began 1 ∷ Opened 1 None ∷ [] in
    told past (heard step) (turn past (heard step))

-- so many tabs were made
abbrev pub tabs : ℕ → List Deed
tabs n = replicate n (Did (Made (Some 1) 0))

-- `{"type":"object"}`
abbrev pub empty : Node
empty = mapped ("type" being word "object" and no_members)

-- so many handles were given, for the object of a row
abbrev pub handles : ℕ → List Deed
handles n =
    replicate n (Did (Ran 1 (Returned empty) true))
    ++ Did (Tabled (codes "o") (EndsIn (Returned empty))) ∷ Did (Tabled (codes "p") (EndsIn (Returned undefined))) ∷ []

-- so many global subscriptions to log entries
abbrev pub subscribed : ℕ → List Deed
subscribed n = replicate n (Subscribed 1 (EntryAdded ∷ []) All)

-- so many user contexts were made
abbrev pub users : ℕ → List Deed
users n = replicate n (Did UserMade)

-- so many rows, each with its number alone for a text
abbrev pub rows : ℕ → List Deed
rows n = map (λ k. Did (Tabled (k ∷ []) (GivesBack 0))) (up_to n)

-- ---- contexts

pub thousand_and_twenty_fifth_context_is_not :
    after_deeds (tabs 1023) (ask "{'id':1,'method':'browsingContext.create','params':{'type':'tab'}}")
    ≡ refusal 1 1 "unknown error" ∷ []
unfolding machine_on_literals
thousand_and_twenty_fifth_context_is_not = refl

pub frame_beside_a_thousand_and_twenty_four_contexts_has_no_effect :
    after_deeds (tabs 1023) (frame "$c1" "about:blank")
    ≡ sent.NoEffect ∷ []
unfolding machine_on_literals
frame_beside_a_thousand_and_twenty_four_contexts_has_no_effect = refl

pub closed_context_makes_room :
    after_deeds (Did (Removed 7) ∷ tabs 1023) (ask "{'id':1,'method':'browsingContext.create','params':{'type':'tab'}}")
    ≡ success 1 1 "{'context':'00000000-0002-8000-8000-000000000401'}" ∷ []
unfolding machine_on_literals
closed_context_makes_room = refl

-- ---- user contexts

pub sixty_fourth_user_context_is_made :
    after_deeds (users 63) (ask "{'id':1,'method':'browser.createUserContext','params':{}}")
    ≡ success 1 1 "{'userContext':'00000000-0008-8000-8000-000000000040'}" ∷ []
unfolding machine_on_literals
sixty_fourth_user_context_is_made = refl

pub sixty_fifth_user_context_is_not :
    after_deeds (users 64) (ask "{'id':1,'method':'browser.createUserContext','params':{}}")
    ≡ refusal 1 1 "unknown error" ∷ []
unfolding machine_on_literals
sixty_fifth_user_context_is_not = refl

-- and its number is not given again
pub removed_user_context_makes_room :
    after_deeds (Did (UserRemoved 7) ∷ users 64) (ask "{'id':1,'method':'browser.createUserContext','params':{}}")
    ≡ success 1 1 "{'userContext':'00000000-0008-8000-8000-000000000041'}" ∷ []
unfolding machine_on_literals
removed_user_context_makes_room = refl

-- ---- subscriptions

pub two_hundred_and_fifty_seventh_is_not :
    after_deeds (subscribed 256) (ask "{'id':1,'method':'session.subscribe','params':{'events':['log']}}")
    ≡ refusal 1 1 "unknown error" ∷ []
unfolding machine_on_literals
two_hundred_and_fifty_seventh_is_not = refl

pub subscription_that_is_gone_makes_room :
    after_deeds (Cancelled 1 (7 ∷ []) ∷ subscribed 256) (ask "{'id':1,'method':'session.subscribe','params':{'events':['log']}}")
    ≡ success 1 1 "{'subscription':'00000001-0005-8000-8000-000000000101'}" ∷ []
unfolding machine_on_literals
subscription_that_is_gone_makes_room = refl

pub subscriptions_are_limited_session_by_session :
    after_deeds (Began 2 ∷ Opened 2 None ∷ subscribed 256) (ask_on 2 "{'id':1,'method':'session.subscribe','params':{'events':['log']}}")
    ≡ success 2 1 "{'subscription':'$v1'}" ∷ []
unfolding machine_on_literals
subscriptions_are_limited_session_by_session = refl

pub subscriptions_without_events_count_too :
    after_deeds (replicate 256 (Subscribed 1 [] All)) (ask "{'id':1,'method':'session.subscribe','params':{'events':['log']}}")
    ≡ refusal 1 1 "unknown error" ∷ []
unfolding machine_on_literals
subscriptions_without_events_count_too = refl

pub unknown_context_is_refused_before_the_number :
    after_deeds (subscribed 256) (ask "{'id':1,'method':'session.subscribe','params':{'events':['log'],'contexts':['nowhere']}}")
    ≡ refusal 1 1 "no such frame" ∷ []
unfolding machine_on_literals
unknown_context_is_refused_before_the_number = refl

pub unknown_user_context_is_refused_before_the_number :
    after_deeds (subscribed 256) (ask "{'id':1,'method':'session.subscribe','params':{'events':['log'],'userContexts':['$k1']}}")
    ≡ refusal 1 1 "no such user context" ∷ []
unfolding machine_on_literals
unknown_user_context_is_refused_before_the_number = refl

-- ---- handles

pub thousand_and_first_handle_is_not_given :
    after_deeds (handles 1000)
    (ask "{'id':1,'method':'script.evaluate','params':{'awaitPromise':false,'expression':'o','resultOwnership':'root','target':{'context':'$c1'}}}")
    ≡ refusal 1 1 "unknown error" ∷ []
unfolding machine_on_literals
thousand_and_first_handle_is_not_given = refl

pub thousandth_handle_is_given :
    after_deeds (handles 999)
    (ask "{'id':1,'method':'script.evaluate','params':{'awaitPromise':false,'expression':'o','resultOwnership':'root','target':{'context':'$c1'}}}")
    ≡ success 1 1 "{'realm':'$r1','result':{'handle':'00000000-0006-8000-8000-0000000003e8','type':'object'},'type':'success'}" ∷ []
unfolding machine_on_literals
thousandth_handle_is_given = refl

pub disowned_handle_makes_room :
    after_deeds (Did (Disowned 1 (id_of Handle 7 ∷ [])) ∷ handles 1000)
    (ask "{'id':1,'method':'script.evaluate','params':{'awaitPromise':false,'expression':'o','resultOwnership':'root','target':{'context':'$c1'}}}")
    ≡ success 1 1 "{'realm':'$r1','result':{'handle':'00000000-0006-8000-8000-0000000003e9','type':'object'},'type':'success'}" ∷ []
unfolding machine_on_literals
disowned_handle_makes_room = refl

pub value_that_takes_no_handle_is_told_beside_a_thousand :
    after_deeds (handles 1000)
    (ask "{'id':1,'method':'script.evaluate','params':{'awaitPromise':false,'expression':'p','resultOwnership':'root','target':{'context':'$c1'}}}")
    ≡ success 1 1 "{'realm':'$r1','result':{'type':'undefined'},'type':'success'}" ∷ []
unfolding machine_on_literals
value_that_takes_no_handle_is_told_beside_a_thousand = refl

pub handles_are_limited_realm_by_realm :
    after_deeds (Did (Made (Some 1) 0) ∷ handles 1000)
    (ask "{'id':1,'method':'script.evaluate','params':{'awaitPromise':false,'expression':'o','resultOwnership':'root','target':{'context':'$c2'}}}")
    ≡ success 1 1 "{'realm':'$r2','result':{'handle':'00000000-0006-8000-8000-0000000003e9','type':'object'},'type':'success'}" ∷ []
unfolding machine_on_literals
handles_are_limited_realm_by_realm = refl

-- ---- rows of the table

pub thousand_and_twenty_fourth_row_is_taken :
    after_deeds (rows 1023) (value "{'text':'new','argument':0}")
    ≡ []
unfolding machine_on_literals
thousand_and_twenty_fourth_row_is_taken = refl

pub thousand_and_twenty_fifth_row_has_no_effect :
    after_deeds (rows 1024) (value "{'text':'new','argument':0}")
    ≡ sent.NoEffect ∷ []
unfolding machine_on_literals
thousand_and_twenty_fifth_row_has_no_effect = refl

pub row_of_a_text_that_has_one_is_taken :
    after_deeds (rows 1024) (value "{'text':'7','argument':1}")
    ≡ []
unfolding machine_on_literals
row_of_a_text_that_has_one_is_taken = refl
