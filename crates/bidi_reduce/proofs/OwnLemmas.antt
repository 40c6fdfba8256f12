-- The past without what others' subscriptions did and what only looked: each question that shows for a session is answered alike.
use Rattle.std.proofs.Common.{◌≡◌, ◌∙◌, ℕ, suc, Bool, true, false, not, ◌&&◌, ◌||◌, List, [], ◌∷◌, ◌++◌, map, length}
use Rattle.std.proofs.Common.{Some, None, option_map, refl, ap, nat_lt}
use Rattle.std.specs.Prelude.{◌==◌, if◌then◌else◌, filter, find, bytes_eq, codes}
use Rattle.std.specs.List.{list_any}
use Rattle.bidi_scripts.specs.declared.log_entry.Level.{Level}
use Rattle.bidi_methods.specs.declared.event_data.EventName.{EventName}
use Rattle.bidi_methods.specs.declared.event_data.EventName.TheVariants.{EntryAdded}
use Rattle.bidi_methods.specs.EventName.{events as all_events}
use Rattle.bidi_handles.specs.declared.id.IdKind.TheVariants.{Session}
use Rattle.bidi_handles.specs.Ids.{id_of}
use Rattle.bidi_contexts.specs.Acts.{Act, Logged, Looked}
use Rattle.bidi_contexts.specs.Actions.{Action}
use Rattle.bidi_contexts.specs.Contexts.{up_to, top_of, is_alive}
use Rattle.bidi_contexts.specs.Occurrences.{is_among}
use Rattle.bidi_contexts.specs.Occurrences.{top_at, entry_added, tree_events}
use Rattle.bidi_contexts.specs.declared.occurrence.Top.{Top}
use Rattle.bidi_browser.specs.Occurs.{occurs}
use Rattle.bidi_contexts.specs.Outcome as browser
use Rattle.bidi_remote.specs.Machine.History.{Deed, Time, Opened, Dropped, Began, Ended, Subscribed, Cancelled, Dismissed, Did}
use Rattle.bidi_remote.specs.Machine.History.{Scope, acts, moment}
use Rattle.bidi_remote.specs.Machine.Sessions.{sessions_made, is_active, sessions}
use Rattle.bidi_remote.specs.Machine.Connections.{Shut, SpeaksFor, is_shut, is_for, opened_for, attachment_of, is_open}
use Rattle.bidi_remote.specs.Machine.Connections.{openings, open_connections, connections_of}
use Rattle.bidi_remote.specs.Machine.Subscriptions.{subscriptions_made, events_of, scope_of, is_global, is_listed, is_kept}
use Rattle.bidi_remote.specs.Machine.Subscriptions.{holds, is_live, subscriptions, holds_globally, covers, is_enabled, is_newly_enabled}
use Rattle.bidi_remote.specs.Machine.LogBuffer.{just_missed, announced_at, missed, last_hundred, waiting_for}
use Rattle.bidi_remote.specs.Machine.Outcome.{session_of_resource, may_open, is_ready}
use Rattle.bidi_remote.specs.Machine.Sent.{announcements}
use Rattle.bidi_reduce.specs.Own.{own}
use Rattle.bidi_reduce.proofs.LookLemmas.{unlooked, top_of-unlooked, top_at-unlooked, user_checked-unlooked, is_alive-unlooked, tree_events-unlooked, entry_added-unlooked}
use Rattle.bidi_reduce.proofs.LookLemmas.{occurs-unlooked, outcome-unlooked, context_named-unlooked}

-- what a question comes to, whether the deed stands in the past or not
pub either-way : {X : Type 0} (question : List Deed → X) (b : Bool) (d : Deed) (past : List Deed) (answer : X)
    → question (d ∷ past) ≡ answer → (b ≡ false → question past ≡ answer) → question (if b then d ∷ past else past) ≡ answer
either-way question true d past answer kept left = kept
either-way question false d past answer kept left = left refl

-- ---- what all sessions share

pub acts-own : (s : ℕ) (past : List Deed) → acts (own s past) ≡ unlooked (acts past)
acts-own s [] = refl
acts-own s (Subscribed t es scope ∷ past) =
    either-way acts (s == t) (Subscribed t es scope) (own s past) (unlooked (acts past)) (acts-own s past) (λ e. acts-own s past)
acts-own s (Cancelled t ns ∷ past) =
    either-way acts (s == t) (Cancelled t ns) (own s past) (unlooked (acts past)) (acts-own s past) (λ e. acts-own s past)
acts-own s (Dismissed t es ∷ past) =
    either-way acts (s == t) (Dismissed t es) (own s past) (unlooked (acts past)) (acts-own s past) (λ e. acts-own s past)
acts-own s (Did Looked ∷ past) = acts-own s past
acts-own s (Did act ∷ past) = λ i. act ∷ acts-own s past i
acts-own s (d ∷ past) = acts-own s past

pub moment-own : (s : ℕ) (past : List Deed) → moment (own s past) ≡ moment past
moment-own s [] = refl
moment-own s (Time n ∷ past) = refl
moment-own s (Subscribed t es scope ∷ past) =
    either-way moment (s == t) (Subscribed t es scope) (own s past) (moment past) (moment-own s past) (λ e. moment-own s past)
moment-own s (Cancelled t ns ∷ past) =
    either-way moment (s == t) (Cancelled t ns) (own s past) (moment past) (moment-own s past) (λ e. moment-own s past)
moment-own s (Dismissed t es ∷ past) =
    either-way moment (s == t) (Dismissed t es) (own s past) (moment past) (moment-own s past) (λ e. moment-own s past)
moment-own s (Did Looked ∷ past) = moment-own s past
moment-own s (d ∷ past) = moment-own s past

pub sessions_made-own : (s : ℕ) (past : List Deed) → sessions_made (own s past) ≡ sessions_made past
sessions_made-own s [] = refl
sessions_made-own s (Began c ∷ past) = λ i. suc (sessions_made-own s past i)
sessions_made-own s (Subscribed t es scope ∷ past) =
    either-way sessions_made (s == t) (Subscribed t es scope) (own s past) (sessions_made past) (sessions_made-own s past) (λ e. sessions_made-own s past)
sessions_made-own s (Cancelled t ns ∷ past) =
    either-way sessions_made (s == t) (Cancelled t ns) (own s past) (sessions_made past) (sessions_made-own s past) (λ e. sessions_made-own s past)
sessions_made-own s (Dismissed t es ∷ past) =
    either-way sessions_made (s == t) (Dismissed t es) (own s past) (sessions_made past) (sessions_made-own s past) (λ e. sessions_made-own s past)
sessions_made-own s (Did Looked ∷ past) = sessions_made-own s past
sessions_made-own s (d ∷ past) = sessions_made-own s past

pub is_active-own : (s : ℕ) (past : List Deed) (t : ℕ) → is_active (own s past) t ≡ is_active past t
is_active-own s [] t = refl
is_active-own s (Began c ∷ past) t = λ i. t == suc (sessions_made-own s past i) || is_active-own s past t i
is_active-own s (Ended u ∷ past) t = λ i. not (t == u) && is_active-own s past t i
is_active-own s (Subscribed u es scope ∷ past) t =
    either-way (λ p. is_active p t) (s == u) (Subscribed u es scope) (own s past) (is_active past t) (is_active-own s past t) (λ e. is_active-own s past t)
is_active-own s (Cancelled u ns ∷ past) t =
    either-way (λ p. is_active p t) (s == u) (Cancelled u ns) (own s past) (is_active past t) (is_active-own s past t) (λ e. is_active-own s past t)
is_active-own s (Dismissed u es ∷ past) t =
    either-way (λ p. is_active p t) (s == u) (Dismissed u es) (own s past) (is_active past t) (is_active-own s past t) (λ e. is_active-own s past t)
is_active-own s (Did Looked ∷ past) t = is_active-own s past t
is_active-own s (d ∷ past) t = is_active-own s past t

pub sessions-own : (s : ℕ) (past : List Deed) → sessions (own s past) ≡ sessions past
sessions-own s past = λ i. filter (λ t. is_active-own s past t i) (up_to (sessions_made-own s past i))

pub attachment_of-own : (s : ℕ) (past : List Deed) (c : ℕ) → attachment_of (own s past) c ≡ attachment_of past c
attachment_of-own s [] c = refl
attachment_of-own s (Opened d t ∷ past) c = λ i. if c == d then opened_for t else attachment_of-own s past c i
attachment_of-own s (Dropped d ∷ past) c = λ i. if c == d then Shut else attachment_of-own s past c i
attachment_of-own s (Began d ∷ past) c = λ i. if c == d then SpeaksFor (suc (sessions_made-own s past i)) else attachment_of-own s past c i
attachment_of-own s (Ended t ∷ past) c = λ i. if is_for t (attachment_of-own s past c i) then Shut else attachment_of-own s past c i
attachment_of-own s (Subscribed u es scope ∷ past) c =
    either-way (λ p. attachment_of p c) (s == u) (Subscribed u es scope) (own s past) (attachment_of past c)
    (attachment_of-own s past c) (λ e. attachment_of-own s past c)
attachment_of-own s (Cancelled u ns ∷ past) c =
    either-way (λ p. attachment_of p c) (s == u) (Cancelled u ns) (own s past) (attachment_of past c) (attachment_of-own s past c) (λ e. attachment_of-own s past c)
attachment_of-own s (Dismissed u es ∷ past) c =
    either-way (λ p. attachment_of p c) (s == u) (Dismissed u es) (own s past) (attachment_of past c) (attachment_of-own s past c) (λ e. attachment_of-own s past c)
attachment_of-own s (Did Looked ∷ past) c = attachment_of-own s past c
attachment_of-own s (d ∷ past) c = attachment_of-own s past c

pub is_open-own : (s : ℕ) (past : List Deed) (c : ℕ) → is_open (own s past) c ≡ is_open past c
is_open-own s past c = λ i. not (is_shut (attachment_of-own s past c i))

pub openings-own : (s : ℕ) (past : List Deed) → openings (own s past) ≡ openings past
openings-own s [] = refl
openings-own s (Opened d t ∷ past) = λ i. filter (λ c. not (d == c)) (openings-own s past i) ++ d ∷ []
openings-own s (Subscribed t es scope ∷ past) =
    either-way openings (s == t) (Subscribed t es scope) (own s past) (openings past) (openings-own s past) (λ e. openings-own s past)
openings-own s (Cancelled t ns ∷ past) =
    either-way openings (s == t) (Cancelled t ns) (own s past) (openings past) (openings-own s past) (λ e. openings-own s past)
openings-own s (Dismissed t es ∷ past) =
    either-way openings (s == t) (Dismissed t es) (own s past) (openings past) (openings-own s past) (λ e. openings-own s past)
openings-own s (Did Looked ∷ past) = openings-own s past
openings-own s (d ∷ past) = openings-own s past

open_connections-own : (s : ℕ) (past : List Deed) → open_connections (own s past) ≡ open_connections past
open_connections-own s past = λ i. filter (λ c. is_open-own s past c i) (openings-own s past i)

pub connections_of-own : (s : ℕ) (past : List Deed) (t : ℕ) → connections_of (own s past) t ≡ connections_of past t
connections_of-own s past t = λ i. filter (λ c. is_for t (attachment_of-own s past c i)) (openings-own s past i)

pub session_of_resource-own : (s : ℕ) (past : List Deed) (resource : List ℕ) → session_of_resource (own s past) resource ≡ session_of_resource past resource
session_of_resource-own s past resource =
    λ i. if bytes_eq resource (codes "/session") then Some None
    else option_map Some (find (λ t. bytes_eq resource (codes "/session/" ++ id_of Session t)) (sessions-own s past i))

pub may_open-own : (s : ℕ) (past : List Deed) (c : ℕ) → may_open (own s past) c ≡ may_open past c
may_open-own s past c = λ i. not (is_open-own s past c i) && nat_lt (length (open_connections-own s past i)) 64

pub is_ready-own : (s : ℕ) (past : List Deed) → is_ready (own s past) ≡ is_ready past
is_ready-own s past = λ i. nat_lt (length (sessions-own s past i)) 8

-- ---- what the browser answers

-- a question to the browser's past, which is answered alike without looks
of-browser : {X : Type 0} (question : List Act → X) → ((past : List Act) → question (unlooked past) ≡ question past)
    → (s : ℕ) (past : List Deed) → question (acts (own s past)) ≡ question (acts past)
of-browser question same s past = ap question (acts-own s past) ∙ same (acts past)

pub top_of-own : (s : ℕ) (past : List Deed) (c : ℕ) → top_of (acts (own s past)) c ≡ top_of (acts past) c
top_of-own s past c = of-browser (λ p. top_of p c) (λ p. top_of-unlooked p c) s past

top_at-own : (s : ℕ) (past : List Deed) (c : ℕ) → top_at (acts (own s past)) c ≡ top_at (acts past) c
top_at-own s past c = of-browser (λ p. top_at p c) (λ p. top_at-unlooked p c) s past

is_alive-own : (s : ℕ) (past : List Deed) (c : ℕ) → is_alive (acts (own s past)) c ≡ is_alive (acts past) c
is_alive-own s past c = of-browser (λ p. is_alive p c) (λ p. is_alive-unlooked p c) s past

tree_events-own : (s : ℕ) (past : List Deed) → tree_events (acts (own s past)) ≡ tree_events (acts past)
tree_events-own s past = of-browser tree_events tree_events-unlooked s past

entry_added-own : (s : ℕ) (past : List Deed) (m c : ℕ) (level : Level) (line : List ℕ)
    → entry_added (acts (own s past)) m c level line ≡ entry_added (acts past) m c level line
entry_added-own s past m c level line = of-browser (λ p. entry_added p m c level line) (λ p. entry_added-unlooked p m c level line) s past

pub user_checked-own : (s : ℕ) (past : List Deed) (id : List ℕ) → browser.user_checked (acts (own s past)) id ≡ browser.user_checked (acts past) id
user_checked-own s past id = of-browser (λ p. browser.user_checked p id) (λ p. user_checked-unlooked p id) s past

pub outcome-own : (s : ℕ) (past : List Deed) (action : Action) → browser.outcome (acts (own s past)) action ≡ browser.outcome (acts past) action
outcome-own s past action = of-browser (λ p. browser.outcome p action) (λ p. outcome-unlooked p action) s past

pub context_named-own : (s : ℕ) (past : List Deed) (id : List ℕ) → browser.context_named (acts (own s past)) id ≡ browser.context_named (acts past) id
context_named-own s past id = of-browser (λ p. browser.context_named p id) (λ p. context_named-unlooked p id) s past

pub occurs-own : (s : ℕ) (past : List Deed) (action : Action) (act : Act)
    → occurs (acts (own s past)) (moment (own s past)) action act ≡ occurs (acts past) (moment past) action act
occurs-own s past action act =
    ap (λ m. occurs (acts (own s past)) m action act) (moment-own s past)
    ∙ of-browser (λ p. occurs p (moment past) action act) (λ p. occurs-unlooked p (moment past) action act) s past

-- ---- what the session itself is subscribed to

pub subscriptions_made-own : (s : ℕ) (past : List Deed) → subscriptions_made (own s past) s ≡ subscriptions_made past s
subscriptions_made-own s [] = refl
subscriptions_made-own s (Subscribed t es scope ∷ past) =
    let ih = subscriptions_made-own s past in
    either-way (λ p. subscriptions_made p s) (s == t) (Subscribed t es scope) (own s past) (if s == t then suc (subscriptions_made past s) else subscriptions_made past s)
    (λ i. if s == t then suc (ih i) else ih i) (λ e. rw e ih)
subscriptions_made-own s (Cancelled t ns ∷ past) =
    let ih = subscriptions_made-own s past in
    either-way (λ p. subscriptions_made p s) (s == t) (Cancelled t ns) (own s past) (subscriptions_made past s) ih (λ e. ih)
subscriptions_made-own s (Dismissed t es ∷ past) =
    let ih = subscriptions_made-own s past in
    either-way (λ p. subscriptions_made p s) (s == t) (Dismissed t es) (own s past) (subscriptions_made past s) ih (λ e. ih)
subscriptions_made-own s (Did Looked ∷ past) = subscriptions_made-own s past
subscriptions_made-own s (d ∷ past) = subscriptions_made-own s past

events_of-own : (s : ℕ) (past : List Deed) (n : ℕ) → events_of (own s past) s n ≡ events_of past s n
events_of-own s [] n = refl
events_of-own s (Subscribed t es scope ∷ past) n =
    let ih = events_of-own s past n in
    let made = subscriptions_made-own s past in
    either-way (λ p. events_of p s n) (s == t) (Subscribed t es scope) (own s past) (events_of (Subscribed t es scope ∷ past) s n)
    (λ i. if s == t && n == suc (made i) then es else ih i) (λ e. rw e ih)
events_of-own s (Cancelled t ns ∷ past) n =
    let ih = events_of-own s past n in either-way (λ p. events_of p s n) (s == t) (Cancelled t ns) (own s past) (events_of past s n) ih (λ e. ih)
events_of-own s (Dismissed t es ∷ past) n =
    let ih = events_of-own s past n in either-way (λ p. events_of p s n) (s == t) (Dismissed t es) (own s past) (events_of past s n) ih (λ e. ih)
events_of-own s (Did Looked ∷ past) n = events_of-own s past n
events_of-own s (d ∷ past) n = events_of-own s past n

scope_of-own : (s : ℕ) (past : List Deed) (n : ℕ) → scope_of (own s past) s n ≡ scope_of past s n
scope_of-own s [] n = refl
scope_of-own s (Subscribed t es scope ∷ past) n =
    let ih = scope_of-own s past n in
    let made = subscriptions_made-own s past in
    either-way (λ p. scope_of p s n) (s == t) (Subscribed t es scope) (own s past) (scope_of (Subscribed t es scope ∷ past) s n)
    (λ i. if s == t && n == suc (made i) then scope else ih i) (λ e. rw e ih)
scope_of-own s (Cancelled t ns ∷ past) n =
    let ih = scope_of-own s past n in either-way (λ p. scope_of p s n) (s == t) (Cancelled t ns) (own s past) (scope_of past s n) ih (λ e. ih)
scope_of-own s (Dismissed t es ∷ past) n =
    let ih = scope_of-own s past n in either-way (λ p. scope_of p s n) (s == t) (Dismissed t es) (own s past) (scope_of past s n) ih (λ e. ih)
scope_of-own s (Did Looked ∷ past) n = scope_of-own s past n
scope_of-own s (d ∷ past) n = scope_of-own s past n

is_kept-own : (s : ℕ) (past : List Deed) (n : ℕ) → is_kept (own s past) s n ≡ is_kept past s n
is_kept-own s [] n = refl
is_kept-own s (Subscribed t es scope ∷ past) n =
    let ih = is_kept-own s past n in
    let made = subscriptions_made-own s past in
    either-way (λ p. is_kept p s n) (s == t) (Subscribed t es scope) (own s past) (is_kept (Subscribed t es scope ∷ past) s n)
    (λ i. (s == t && n == suc (made i)) || ih i) (λ e. rw e ih)
is_kept-own s (Cancelled t ns ∷ past) n =
    let ih = is_kept-own s past n in
    either-way (λ p. is_kept p s n) (s == t) (Cancelled t ns) (own s past) (is_kept (Cancelled t ns ∷ past) s n)
    (λ i. not (s == t && is_listed ns n) && ih i) (λ e. rw e ih)
is_kept-own s (Dismissed t es ∷ past) n =
    let ih = is_kept-own s past n in either-way (λ p. is_kept p s n) (s == t) (Dismissed t es) (own s past) (is_kept past s n) ih (λ e. ih)
is_kept-own s (Did Looked ∷ past) n = is_kept-own s past n
is_kept-own s (d ∷ past) n = is_kept-own s past n

holds-own : (s : ℕ) (past : List Deed) (n : ℕ) (e : EventName) → holds (own s past) s n e ≡ holds past s n e
holds-own s [] n e = refl
holds-own s (Subscribed t es scope ∷ past) n e =
    let ih = holds-own s past n e in
    let made = subscriptions_made-own s past in
    either-way (λ p. holds p s n e) (s == t) (Subscribed t es scope) (own s past) (holds (Subscribed t es scope ∷ past) s n e)
    (λ i. if s == t && n == suc (made i) then is_among es e else ih i) (λ apart. rw apart ih)
holds-own s (Cancelled t ns ∷ past) n e =
    let ih = holds-own s past n e in
    either-way (λ p. holds p s n e) (s == t) (Cancelled t ns) (own s past) (holds (Cancelled t ns ∷ past) s n e)
    (λ i. not (s == t && is_listed ns n) && ih i) (λ apart. rw apart ih)
holds-own s (Dismissed t es ∷ past) n e =
    let ih = holds-own s past n e in
    let scope = scope_of-own s past n in
    either-way (λ p. holds p s n e) (s == t) (Dismissed t es) (own s past) (holds (Dismissed t es ∷ past) s n e)
    (λ i. not (s == t && is_global (scope i) && is_among es e) && ih i) (λ apart. rw apart ih)
holds-own s (Did Looked ∷ past) n e = holds-own s past n e
holds-own s (d ∷ past) n e = holds-own s past n e

is_live-own : (s : ℕ) (past : List Deed) (n : ℕ) → is_live (own s past) s n ≡ is_live past s n
is_live-own s past n =
    λ i. is_kept-own s past n i && (length (events_of-own s past n i) == 0 || list_any (λ e. holds-own s past n e i) all_events)

pub subscriptions-own : (s : ℕ) (past : List Deed) → subscriptions (own s past) s ≡ subscriptions past s
subscriptions-own s past = λ i. filter (λ n. is_live-own s past n i) (up_to (subscriptions_made-own s past i))

pub holds_globally-own : (s : ℕ) (past : List Deed) (e : EventName) → holds_globally (own s past) s e ≡ holds_globally past s e
holds_globally-own s past e = λ i. list_any (λ n. is_global (scope_of-own s past n i) && holds-own s past n e i) (subscriptions-own s past i)

pub is_enabled-own : (s : ℕ) (past : List Deed) (e : EventName) (top : Top) → is_enabled (own s past) s e top ≡ is_enabled past s e top
is_enabled-own s past e top =
    λ i. is_active-own s past s i
    && list_any (λ n. holds-own s past n e i && covers (scope_of-own s past n i) top) (up_to (subscriptions_made-own s past i))

-- the same with one more subscription, of whatever session
enabled-subscribed-own : (s : ℕ) (past : List Deed) (t : ℕ) (es : List EventName) (scope : Scope) (e : EventName) (top : Top)
    → is_enabled (Subscribed t es scope ∷ own s past) s e top ≡ is_enabled (Subscribed t es scope ∷ past) s e top
enabled-subscribed-own s past t es scope e top =
    let made = subscriptions_made-own s past in
    λ i. is_active-own s past s i
    && list_any (λ n. (if s == t && n == suc (made i) then is_among es e else holds-own s past n e i)
    && covers (if s == t && n == suc (made i) then scope else scope_of-own s past n i) top) (up_to (if s == t then suc (made i) else made i))

pub is_newly_enabled-own : (s : ℕ) (past : List Deed) (t : ℕ) (es : List EventName) (scope : Scope) (e : EventName) (top : Top)
    → is_newly_enabled (own s past) (Subscribed t es scope) s e top ≡ is_newly_enabled past (Subscribed t es scope) s e top
is_newly_enabled-own s past t es scope e top =
    λ i. (is_alive-own s past top.number i && not (is_enabled-own s past e top i)) && enabled-subscribed-own s past t es scope e top i

-- ---- the log

missed-own : (s : ℕ) (past : List Deed) → missed (own s past) s ≡ missed past s
missed-own s [] = refl
missed-own s (Began c ∷ past) = λ i. if s == suc (sessions_made-own s past i) then [] else missed-own s past i
missed-own s (Did (Logged c level line) ∷ past) =
    λ i. if is_enabled-own s past EntryAdded (top_at-own s past c i) i then missed-own s past i
    else missed-own s past i ++ just_missed (entry_added-own s past (moment-own s past i) c level line i) ∷ []
missed-own s (Subscribed t es scope ∷ past) =
    let ih = missed-own s past in
    either-way (λ p. missed p s) (s == t) (Subscribed t es scope) (own s past) (missed (Subscribed t es scope ∷ past) s)
    (λ i. if s == t then map (announced_at (λ top. is_newly_enabled-own s past t es scope EntryAdded top i)) (ih i) else ih i) (λ e. rw e ih)
missed-own s (Cancelled t ns ∷ past) =
    let ih = missed-own s past in either-way (λ p. missed p s) (s == t) (Cancelled t ns) (own s past) (missed past s) ih (λ e. ih)
missed-own s (Dismissed t es ∷ past) =
    let ih = missed-own s past in either-way (λ p. missed p s) (s == t) (Dismissed t es) (own s past) (missed past s) ih (λ e. ih)
missed-own s (Did Looked ∷ past) = missed-own s past
missed-own s (d ∷ past) = missed-own s past

waiting_for-own : (s : ℕ) (past : List Deed) → waiting_for (own s past) s ≡ waiting_for past s
waiting_for-own s past = λ i. map (λ m. m.entry) (filter (λ m. not m.announced) (last_hundred (missed-own s past i)))

pub announcements-own : (s : ℕ) (past : List Deed) (t : ℕ) (es : List EventName) (scope : Scope)
    → announcements (own s past) (Subscribed t es scope) s ≡ announcements past (Subscribed t es scope) s
announcements-own s past t es scope =
    λ i. filter (λ o. is_newly_enabled-own s past t es scope o.event o.top i) (tree_events-own s past i ++ waiting_for-own s past i)
