-- What each turn rests on; and so, whatever the history, an open connection was opened.
use Rattle.std.proofs.Common.{◌≡◌, ℕ, Bool, true, false, cond, not, ◌&&◌, List, [], ◌∷◌, ◌∙◌, refl, arith, Result, Ok, Err, Option, Some, None, ap}
use Rattle.std.specs.Prelude.{◌==◌, ◌++◌, filter, find, ⊤, nat_lt, length, codes, bytes_eq, option_map}
use Rattle.std.specs.List.{list_any, list_all}
use Rattle.std.proofs.lemmas.Bool.Decides.{nat_tests}
use Rattle.std.proofs.lemmas.List.Folds.{list_any-append}
use Rattle.bidi_params.specs.declared.error_code.ErrorCode.{ErrorCode}
use Rattle.bidi_params.specs.declared.error_code.ErrorCode.TheVariants.{InvalidArgument, SessionNotCreated, UnknownError}
use Rattle.bidi_messages.specs.Verdict.{Verdict, Accepted, Refused}
use Rattle.bidi_handles.specs.declared.id.IdKind.TheVariants.{Session}
use Rattle.bidi_handles.specs.Ids.{id_of}
use Rattle.bidi_contexts.specs.Acts.{Act}
use Rattle.bidi_contexts.specs.Actions.{Action}
use Rattle.bidi_contexts.specs.Contexts.{up_to}
use Rattle.bidi_handles.specs.Checks.{◌>>=◌, need}
use Rattle.bidi_contexts.specs.Outcome as browser
use Rattle.bidi_remote.specs.Machine.Commands.{Command, Status, New, End, Subscribe, UnsubscribeById, UnsubscribeByEvents, OfBrowser, command_of, id_of_command}
use Rattle.bidi_remote.specs.Machine.History.{Input, At, Open, Drop, Heard, NotText, OfPage, Deed, Time, Opened, Dropped}
use Rattle.bidi_remote.specs.Machine.History.{Began, Ended, Subscribed, Cancelled, Dismissed, Did, Told, acts}
use Rattle.bidi_remote.specs.Machine.Sessions.{sessions_made, is_active, sessions}
use Rattle.bidi_remote.specs.Machine.Connections.{Attachment, Shut, Alone, SpeaksFor, is_shut, is_open, attachment_of, openings}
use Rattle.bidi_sessions.specs.Capabilities.{matching}
use Rattle.bidi_remote.specs.Machine.Subscriptions.{subscriptions, holds_globally}
use Rattle.bidi_remote.specs.Machine.Outcome.{NotTaken, Lost, outcome, replied, asked, answered, in_page, opening, is_ready}
use Rattle.bidi_remote.specs.Machine.Outcome.{all_named, scope_asked, subscriptions_named, subscribe_outcome}
use Rattle.bidi_remote.specs.Machine.Outcome.{unsubscribe_by_events_outcome, session_of_resource, may_open, turn, with_turn, deeds, did}
use Rattle.bidi_remote.proofs.ConnectionLemmas.{WasOpened}
use Rattle.bidi_sessions.specs.Limits.{most_subscriptions}

-- ---- what each turn rests on

-- A connection is opened for an active session, a session begins on an open connection alone, one subscribes that a connection speaks for, and the browser does what an action comes to.
abbrev pub IsFair : List Deed → Deed → Type 0
IsFair past (Opened c o) = (s : ℕ) → o ≡ Some s → is_active past s ≡ true
IsFair past (Began c) = attachment_of past c ≡ Alone
IsFair past (Subscribed s events scope) = (c : ℕ) × (attachment_of past c ≡ SpeaksFor s)
IsFair past (Did act) = (action : Action) × (browser.outcome (acts past) action ≡ Ok act)
IsFair past d = ⊤

-- the deed, where there is one, is fair
abbrev pub IsFairIfDone : List Deed → {E : Type 0} → Result Deed E → Type 0
IsFairIfDone past (Ok d) = IsFair past d
IsFairIfDone past (Err e) = ⊤

-- after a check
checked : {A : Type 0} (past : List Deed) (r : Result A ErrorCode) (next : A → Result Deed ErrorCode)
    → ((x : A) → IsFairIfDone past (next x)) → IsFairIfDone past (r >>= next)
checked past (Ok x) next h = h x
checked past (Err code) next h = tt

did_fair : (past : List Deed) (action : Action) (r : Result Act ErrorCode) → browser.outcome (acts past) action ≡ r → IsFairIfDone past (did r)
did_fair past action (Ok act) is = (action, is)
did_fair past action (Err code) is = tt

new_fair : (past : List Deed) (c : ℕ) (m : Result (Unit {0}) ErrorCode) (room : Bool) → attachment_of past c ≡ Alone
    → (let r : Result Deed ErrorCode = m >>= λ fit. need room SessionNotCreated >>= λ few. Ok (Began c) in IsFairIfDone past r)
new_fair past c (Err code) room e = tt
new_fair past c (Ok fit) true e = e
new_fair past c (Ok fit) false e = tt

subscribe_fair : (past : List Deed) (c s : ℕ) (names : List (List ℕ)) (contexts users : Option (List (List ℕ)))
    → attachment_of past c ≡ SpeaksFor s → IsFairIfDone past (subscribe_outcome past s names contexts users)
subscribe_fair past c s names contexts users e =
    let few : Result (Unit {0}) ErrorCode = need (nat_lt (length (subscriptions past s)) most_subscriptions) UnknownError in
    checked past (all_named names) (λ events. scope_asked (acts past) contexts users >>= λ scope. few >>= λ room. Ok (Subscribed s events scope))
    (λ events. checked past (scope_asked (acts past) contexts users) (λ scope. few >>= λ room. Ok (Subscribed s events scope))
    (λ scope. checked past few (λ room. Ok (Subscribed s events scope)) (λ room. (c, e))))

by_events_fair : (past : List Deed) (s : ℕ) (names : List (List ℕ)) → IsFairIfDone past (unsubscribe_by_events_outcome past s names)
by_events_fair past s names =
    checked past (all_named names) (λ events. need (list_all (holds_globally past s) events) InvalidArgument >>= λ held. Ok (Dismissed s events))
    (λ events. checked past (need (list_all (holds_globally past s) events) InvalidArgument) (λ held. Ok (Dismissed s events)) (λ held. tt))

outcome_fair : (past : List Deed) (c : ℕ) (s : Attachment) (command : Command) → attachment_of past c ≡ s → IsFairIfDone past (outcome past c s command)
outcome_fair past c Shut command e = tt
outcome_fair past c Alone Status e = tt
outcome_fair past c Alone (New request) e = new_fair past c (matching request) (is_ready past) e
outcome_fair past c Alone End e = tt
outcome_fair past c Alone (Subscribe names contexts users) e = tt
outcome_fair past c Alone (UnsubscribeById ids) e = tt
outcome_fair past c Alone (UnsubscribeByEvents names) e = tt
outcome_fair past c Alone (OfBrowser action) e = tt
outcome_fair past c (SpeaksFor s) Status e = tt
outcome_fair past c (SpeaksFor s) (New request) e = tt
outcome_fair past c (SpeaksFor s) End e = tt
outcome_fair past c (SpeaksFor s) (Subscribe names contexts users) e = subscribe_fair past c s names contexts users e
outcome_fair past c (SpeaksFor s) (UnsubscribeById ids) e = checked past (subscriptions_named past s ids) (λ ns. Ok (Cancelled s ns)) (λ ns. tt)
outcome_fair past c (SpeaksFor s) (UnsubscribeByEvents names) e = by_events_fair past s names
outcome_fair past c (SpeaksFor s) (OfBrowser action) e = did_fair past action (browser.outcome (acts past) action) refl

replied_fair : (past : List Deed) (c id : ℕ) (r : Result Deed ErrorCode) → IsFairIfDone past r → IsFairIfDone past (replied c id r)
replied_fair past c id (Ok d) h = h
replied_fair past c id (Err code) h = tt

asked_fair : (past : List Deed) (c id : ℕ) (command : Option Command) → IsFairIfDone past (asked past c id command)
asked_fair past c id None = tt
asked_fair past c id (Some command) =
    replied_fair past c id (outcome past c (attachment_of past c) command) (outcome_fair past c (attachment_of past c) command refl)

answered_fair : (past : List Deed) (c : ℕ) (v : Verdict) → IsFairIfDone past (answered past c v)
answered_fair past c (Accepted t) = asked_fair past c (id_of_command t) (command_of t)
answered_fair past c (Refused id code) = tt

when_open : (past : List Deed) (c : ℕ) (b : Bool) (r : Result Deed NotTaken)
    → IsFairIfDone past r → (let t : Result Deed NotTaken = cond b r (Err (Lost c)) in IsFairIfDone past t)
when_open past c true r h = h
when_open past c false r h = tt

-- what is found among the active sessions is active
found_active : (past : List Deed) (q : ℕ → Bool) (ns : List ℕ) (s : ℕ) → find q (filter (is_active past) ns) ≡ Some s → is_active past s ≡ true
found_active past q [] s found = cc
found_active past q (n ∷ ns) s found = let ih = found_active past q ns s in grind (arith, nat_tests, ih)

-- so is the session of a resource
resource_active : (past : List Deed) (resource : List ℕ) (s : ℕ) (b : Bool) (o : Option ℕ)
    → find (λ t. bytes_eq resource (codes "/session/" ++ id_of Session t)) (sessions past) ≡ o
    → cond b (Some None) (option_map Some o) ≡ Some (Some s) → is_active past s ≡ true
resource_active past resource s true o found e = cc
resource_active past resource s false None found e = cc
resource_active past resource s false (Some t) found e =
    let is : t ≡ s = cc in
    found_active past (λ n. bytes_eq resource (codes "/session/" ++ id_of Session n)) (up_to (sessions_made past)) s (found ∙ ap Some is)

opening_fair : (past : List Deed) (c : ℕ) (b : Bool) (o : Option (Option ℕ))
    → may_open past c ≡ b → ((s : ℕ) → o ≡ Some (Some s) → is_active past s ≡ true) → IsFairIfDone past (opening past c o)
opening_fair past c b None e active = tt
opening_fair past c true (Some o) e active = rw e (λ s is. active s (ap Some is))
opening_fair past c false (Some o) e active = rw e tt

in_page_fair : (past : List Deed) (action : Action) (r : Result Act ErrorCode) → browser.outcome (acts past) action ≡ r → IsFairIfDone past (in_page r)
in_page_fair past action (Ok act) is = (action, is)
in_page_fair past action (Err code) is = tt

-- what a turn does is fair
pub turn_fair : (past : List Deed) (i : Input) → IsFairIfDone past (turn past i)
turn_fair past (At n) = tt
turn_fair past (Open c resource) =
    opening_fair past c (may_open past c) (session_of_resource past resource) refl
    (λ s. resource_active past resource s (bytes_eq resource (codes "/session"))
    (find (λ t. bytes_eq resource (codes "/session/" ++ id_of Session t)) (sessions past)) refl)
turn_fair past (Drop c) = when_open past c (is_open past c) (Ok (Dropped c)) tt
turn_fair past (Heard c v) = when_open past c (is_open past c) (answered past c v) (answered_fair past c v)
turn_fair past (NotText c) = when_open past c (is_open past c) (answered past c (Refused None InvalidArgument)) tt
turn_fair past (OfPage action) = in_page_fair past action (browser.outcome (acts past) action) refl

-- ---- so what is open was opened

any_filter : (c : ℕ) (p : ℕ → Bool) (xs : List ℕ) → list_any (λ d. d == c) (filter p xs) ≡ (p c && list_any (λ d. d == c) xs)
any_filter c p [] = grind (arith, nat_tests)
any_filter c p (x ∷ xs) = grind (arith, nat_tests, any_filter c p xs)

opened_more : (past : List Deed) (r : Result Deed NotTaken) → IsFairIfDone past r → ((c : ℕ) → WasOpened past c) → (c : ℕ) → WasOpened (with_turn past r) c
opened_more past (Err refusal) fair was c = was c
opened_more past (Ok (Time n)) fair was c = was c
opened_more past (Ok (Opened d s)) fair was c = λ e.
    let so = was c in
    grind (
      arith,
      nat_tests,
      so,
      list_any-append (λ x. x == c) (filter (λ x. not (d == x)) (openings past)) (d ∷ []),
      any_filter c (λ x. not (d == x)) (openings past),
    )
opened_more past (Ok (Dropped d)) fair was c = λ e. let so = was c in grind (arith, nat_tests, so)
opened_more past (Ok (Began d)) fair was c = λ e. let so = was c in let alone = ap is_shut fair in grind (arith, nat_tests, so, alone)
opened_more past (Ok (Ended s)) fair was c = λ e. let so = was c in grind (arith, nat_tests, so)
opened_more past (Ok (Subscribed s events scope)) fair was c = was c
opened_more past (Ok (Cancelled s ns)) fair was c = was c
opened_more past (Ok (Dismissed s events)) fair was c = was c
opened_more past (Ok (Did act)) fair was c = was c
opened_more past (Ok Told) fair was c = was c

pub was_opened : (h : List Input) (c : ℕ) → WasOpened (deeds h) c
was_opened [] c = λ e. cc
was_opened (i ∷ h) c = opened_more (deeds h) (turn (deeds h) i) (turn_fair (deeds h) i) (was_opened h) c
