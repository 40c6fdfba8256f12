-- What a session sees of an input: the same after its own past, and nothing of what is struck.
use Rattle.std.proofs.Common.{◌≡◌, ◌∙◌, ℕ, suc, Bool, true, false, not, ◌&&◌, ◌||◌, List, [], ◌∷◌, ◌++◌, map, Option, Some, None}
use Rattle.std.proofs.Common.{refl, sym, ap, subst, eqb-true, Result, Ok, Err, is_err, arith, nat_lt, length}
use Rattle.std.specs.Prelude.{◌==◌, if◌then◌else◌, filter, flat_map, codes}
use Rattle.std.specs.List.{list_all}
use Rattle.std.proofs.lemmas.Bool.Decides.{nat_tests}
use Rattle.std.proofs.lemmas.List.Elements.{filter-append}
use Rattle.bidi_tree.specs.Node.{Node, text, no_members}
use Rattle.bidi_params.specs.declared.error_code.ErrorCode.{ErrorCode}
use Rattle.bidi_params.specs.declared.error_code.ErrorCode.TheVariants.{InvalidArgument, SessionNotCreated, UnknownError}
use Rattle.bidi_handles.specs.Checks.{◌>>=◌, need}
use Rattle.bidi_handles.specs.declared.id.IdKind.TheVariants.{Session}
use Rattle.bidi_handles.specs.Ids.{id_of}
use Rattle.bidi_handles.specs.Maps.{◌being◌and◌, mapped, nothing}
use Rattle.bidi_messages.specs.Message.{status_tree}
use Rattle.bidi_messages.specs.Verdict.{Accepted, Refused}
use Rattle.bidi_contexts.specs.Acts.{Act, Looked}
use Rattle.bidi_contexts.specs.Actions.{Action}
use Rattle.bidi_contexts.specs.Occurrences.{Occurrence}
use Rattle.bidi_browser.specs.Occurs.{Item, Happens, Replies, looked_result}
use Rattle.bidi_sessions.specs.Capabilities.{capabilities, matching}
use Rattle.bidi_remote.specs.Machine.Commands.{Command, Status, New, End, Subscribe, UnsubscribeById, UnsubscribeByEvents, OfBrowser, command_of, id_of_command}
use Rattle.bidi_remote.specs.Machine.History.{Input, At, Open, Drop, Heard, NotText, OfPage, Deed, Opened, Began, Ended}
use Rattle.bidi_remote.specs.Machine.History.{Subscribed, Cancelled, Dismissed, Did, Told, acts}
use Rattle.bidi_remote.specs.Machine.Sessions.{sessions}
use Rattle.bidi_remote.specs.Machine.Connections.{Attachment, Shut, Alone, SpeaksFor, is_for, attachment_of, is_open, openings}
use Rattle.bidi_remote.specs.Machine.Subscriptions.{is_enabled, subscriptions_made, subscriptions, holds_globally}
use Rattle.bidi_remote.specs.Machine.Outcome.{NotTaken, all_named, scope_asked, subscriptions_named, is_ready, did, outcome_in, outcome_alone, outcome, replied, asked, answered}
use Rattle.bidi_remote.specs.Machine.Outcome.{turn, with_turn}
use Rattle.bidi_remote.specs.Machine.Outcome as machine
use Rattle.bidi_remote.specs.Machine.Sent.{Sent, Text, Close, to_session, hearers, to_hearers, announcements, status_result, new_result, subscription_tree}
use Rattle.bidi_remote.specs.Machine.Sent.{subscribe_result, action_in, items, announced, closed, sent_to, sent_unasked, refused, told, occurrence_text}
use Rattle.bidi_remote.specs.Strike.{is_for_another, is_quiet, is_struck}
use Rattle.bidi_reduce.specs.Seen.{seen_on, is_own}
use Rattle.bidi_sessions.proofs.ListLemmas.{flat_map-same}
use Rattle.bidi_reduce.proofs.KeptListLemmas.{filter-flat_map, flat_map-filter, none-append, none-flat_map, none-passing}
use Rattle.bidi_reduce.specs.Own.{own}
use Rattle.bidi_reduce.proofs.OwnLemmas.{attachment_of-own, connections_of-own, sessions-own, sessions_made-own, is_ready-own}
use Rattle.bidi_reduce.proofs.OwnLemmas.{occurs-own, is_enabled-own, announcements-own, subscriptions_made-own}
use Rattle.bidi_reduce.proofs.QuietLemmas.{asks_quietly, command-quiet}
use Rattle.bidi_reduce.proofs.TurnLemmas.{turn-own, with_turn-own, with_turn-hidden, is_hidden, hides, struck-hidden, not-quiet}

-- what a session sees at an input, after a past
abbrev pub seen_at : List Deed → ℕ → Input → List Sent
seen_at past s i = let r = turn past i in filter (λ x. is_own past (with_turn past r) s (seen_on x)) (told past i r)

-- ---- who hears

-- a connection that speaks for another session is none of this one
for_another : (s u : ℕ) (attachment : Attachment) → (s == u) ≡ false → is_for u attachment ≡ true → is_for s attachment ≡ false
for_another s u Shut apart for = refl
for_another s u Alone apart for = refl
for_another s u (SpeaksFor t) apart for = grind (arith, nat_tests, apart, for)

either-own : (a b : Bool) → a ≡ false → b ≡ a → (a || b) ≡ false
either-own a b none same = rw (same, none) refl

module _ (s : ℕ) (past after : List Deed) (same : (c : ℕ) → attachment_of after c ≡ attachment_of past c) where
  -- what a session sees, where no connection changes
  abbrev pub shows : Sent → Bool
  shows x = is_own past after s (seen_on x)

  -- it sees no text for another session
  unheard : (u : ℕ) (o : Occurrence) → (s == u) ≡ false → filter shows (to_session past o u) ≡ []
  unheard u o apart =
      none-passing shows (λ c. Text c (occurrence_text o)) (λ c. is_for u (attachment_of past c)) (openings past)
      λ c for. either-own (is_for s (attachment_of past c)) (is_for s (attachment_of after c)) (for_another s u (attachment_of past c) apart for)
      (ap (is_for s) (same c))

  -- what a session is sent of an event
  abbrev heard_by : List Deed → Occurrence → ℕ → List Sent
  heard_by p o u = if is_enabled p u o.event o.top then filter shows (to_session p o u) else []

  none-either : (b : Bool) (xs : List Sent) → xs ≡ [] → (if b then xs else []) ≡ []
  none-either true xs none = none
  none-either false xs none = refl

  same-hearer : (o : Occurrence) (u : ℕ) → heard_by (own s past) o u ≡ heard_by past o u
  same-hearer o u = by (s == u) refl
    where
      to : filter shows (to_session (own s past) o u) ≡ filter shows (to_session past o u)
      to = λ i. filter shows (map (λ c. Text c (occurrence_text o)) (connections_of-own s past u i))

      by : (b : Bool) → (s == u) ≡ b → heard_by (own s past) o u ≡ heard_by past o u
      by true e =
          let enabled : is_enabled (own s past) u o.event o.top ≡ is_enabled past u o.event o.top =
          subst (λ v. is_enabled (own s past) v o.event o.top ≡ is_enabled past v o.event o.top) (eqb-true s u e) (is_enabled-own s past o.event o.top) in
          λ i. if enabled i then to i else []
      by false e =
          none-either (is_enabled (own s past) u o.event o.top) _ (to ∙ unheard u o e)
          ∙ sym (none-either (is_enabled past u o.event o.top) _ (unheard u o e))

  heard-each : (p : List Deed) (o : Occurrence) → filter shows (to_hearers p o) ≡ flat_map (heard_by p o) (sessions p)
  heard-each p o =
      filter-flat_map shows (to_session p o) (hearers p o)
      ∙ flat_map-filter (λ u. filter shows (to_session p o u)) (λ u. is_enabled p u o.event o.top) (sessions p)

  -- an event
  pub heard-own : (o : Occurrence) → filter shows (to_hearers (own s past) o) ≡ filter shows (to_hearers past o)
  heard-own o =
      heard-each (own s past) o
      ∙ (flat_map-same (heard_by (own s past) o) (heard_by past o) (sessions (own s past)) (same-hearer o)
      ∙ (ap (flat_map (heard_by past o)) (sessions-own s past) ∙ sym (heard-each past o)))

  -- the items of a command, and those of a step of a play
  pub sent_to-own : (c id : ℕ) (all : List Item) → filter shows (flat_map (sent_to (own s past) c id) all) ≡ filter shows (flat_map (sent_to past c id) all)
  sent_to-own c id all =
      filter-flat_map shows (sent_to (own s past) c id) all
      ∙ (flat_map-same (λ x. filter shows (sent_to (own s past) c id x)) (λ x. filter shows (sent_to past c id x)) all each
      ∙ sym (filter-flat_map shows (sent_to past c id) all))
    where
      each : (x : Item) → filter shows (sent_to (own s past) c id x) ≡ filter shows (sent_to past c id x)
      each (Happens o) = heard-own o
      each (Replies result) = refl

  pub sent_unasked-own : (all : List Item) → filter shows (flat_map (sent_unasked (own s past)) all) ≡ filter shows (flat_map (sent_unasked past) all)
  sent_unasked-own all =
      filter-flat_map shows (sent_unasked (own s past)) all
      ∙ (flat_map-same (λ x. filter shows (sent_unasked (own s past) x)) (λ x. filter shows (sent_unasked past x)) all each
      ∙ sym (filter-flat_map shows (sent_unasked past) all))
    where
      each : (x : Item) → filter shows (sent_unasked (own s past) x) ≡ filter shows (sent_unasked past x)
      each (Happens o) = heard-own o
      each (Replies result) = refl

-- ---- what a kept input is told

-- a subscription is one of the session's own
abbrev is_fine : {E : Type 0} → ℕ → Result Deed E → Bool
is_fine s (Ok (Subscribed t es scope)) = s == t
is_fine s r = true

then-fine : {A : Type 0} (s : ℕ) (r : Result A ErrorCode) (next : A → Result Deed ErrorCode) → ((x : A) → is_fine s (next x) ≡ true) → is_fine s (r >>= next) ≡ true
then-fine s (Ok x) next fine = fine x
then-fine s (Err code) next fine = refl

did-fine : (s : ℕ) (r : Result Act ErrorCode) → is_fine s (did r) ≡ true
did-fine s (Ok act) = refl
did-fine s (Err code) = refl

-- of the session itself, or not quiet
outcome_in-fine : (s u : ℕ) (past : List Deed) (command : Command) → (not (s == u) && asks_quietly (Some command)) ≡ false → is_fine s (outcome_in past u command) ≡ true
outcome_in-fine s u past Status kept = refl
outcome_in-fine s u past (New request) kept = refl
outcome_in-fine s u past End kept = refl
outcome_in-fine s u past (Subscribe names contexts users) kept =
    then-fine s (all_named names) _ λ events.
    then-fine s (scope_asked (acts past) contexts users) _ λ scope.
    then-fine s (need (nat_lt (length (subscriptions past u)) 256) UnknownError) (λ few. Ok (Subscribed u events scope)) λ few. own_one (s == u) kept
  where
    own_one : (b : Bool) → (not b && true) ≡ false → b ≡ true
    own_one true e = refl
    own_one false e = cc
outcome_in-fine s u past (UnsubscribeById ids) kept = then-fine s (subscriptions_named past u ids) (λ ns. Ok (Cancelled u ns)) λ ns. refl
outcome_in-fine s u past (UnsubscribeByEvents names) kept =
    then-fine s (all_named names) _ λ events.
    then-fine s (need (list_all (holds_globally past u) events) InvalidArgument) (λ held. Ok (Dismissed u events)) λ held. refl
outcome_in-fine s u past (OfBrowser action) kept = did-fine s _

outcome_alone-fine : (s : ℕ) (past : List Deed) (c : ℕ) (command : Command) → is_fine s (outcome_alone past c command) ≡ true
outcome_alone-fine s past c (New request) =
    then-fine s (matching request) _ λ fit. then-fine s (need (is_ready past) SessionNotCreated) (λ few. Ok (Began c)) λ few. refl
outcome_alone-fine s past c Status = refl
outcome_alone-fine s past c command = refl

outcome-fine : (s : ℕ) (past : List Deed) (c : ℕ) (attachment : Attachment) (command : Command)
    → (is_for_another s attachment && asks_quietly (Some command)) ≡ false → is_fine s (outcome past c attachment command) ≡ true
outcome-fine s past c Shut command kept = refl
outcome-fine s past c Alone command kept = outcome_alone-fine s past c command
outcome-fine s past c (SpeaksFor u) command kept = outcome_in-fine s u past command kept

replied-fine : (s c id : ℕ) (r : Result Deed ErrorCode) → is_fine s r ≡ true → is_fine s (replied c id r) ≡ true
replied-fine s c id (Ok d) fine = fine-again d fine
  where
    fine-again : (d : Deed) → is_fine {E = ErrorCode} s (Ok d) ≡ true → is_fine {E = NotTaken} s (Ok d) ≡ true
    fine-again (Subscribed t es scope) e = e
    fine-again d e = refl
replied-fine s c id (Err code) fine = refl

asked-fine : (s : ℕ) (past : List Deed) (c id : ℕ) (command : Option Command)
    → (is_for_another s (attachment_of past c) && asks_quietly command) ≡ false → is_fine s (asked past c id command) ≡ true
asked-fine s past c id None kept = refl
asked-fine s past c id (Some command) kept =
    replied-fine s c id (outcome past c (attachment_of past c) command) (outcome-fine s past c (attachment_of past c) command kept)

if_open-fine : (s : ℕ) (b : Bool) (r : Result Deed NotTaken) (lost : NotTaken) → is_fine s r ≡ true → is_fine s (if b then r else Err lost) ≡ true
if_open-fine s true r lost fine = fine
if_open-fine s false r lost fine = refl

-- what the items of a deed are
subscribe_result-own : (s : ℕ) (past : List Deed) (t : ℕ) → (s == t) ≡ true → subscribe_result (own s past) t ≡ subscribe_result past t
subscribe_result-own s past t e =
    ap (λ n. subscription_tree t (suc n))
    (subst (λ v. subscriptions_made (own s past) v ≡ subscriptions_made past v) (eqb-true s t e) (subscriptions_made-own s past))

status_result-own : (s : ℕ) (past : List Deed) → status_result (own s past) ≡ status_result past
status_result-own s past = λ i. if is_ready-own s past i then status_tree true (codes "ready") else status_tree false (codes "full")

new_result-own : (s : ℕ) (past : List Deed) → new_result (own s past) ≡ new_result past
new_result-own s past =
    λ i. mapped (
    "capabilities" being capabilities and
    "sessionId" being text (id_of Session (suc (sessions_made-own s past i))) and no_members)

items-own : (s : ℕ) (past : List Deed) (action : Option Action) (d : Deed) → is_fine {E = NotTaken} s (Ok d) ≡ true → items (own s past) action d ≡ items past action d
items-own s past (Some action) (Did act) fine = occurs-own s past action act
items-own s past None (Did act) fine = refl
items-own s past None Told fine = λ i. Replies (status_result-own s past i) ∷ []
items-own s past (Some action) Told fine = λ i. Replies (status_result-own s past i) ∷ []
items-own s past None (Began c) fine = λ i. Replies (new_result-own s past i) ∷ []
items-own s past (Some action) (Began c) fine = λ i. Replies (new_result-own s past i) ∷ []
items-own s past None (Subscribed t es scope) fine = λ i. Replies (subscribe_result-own s past t fine i) ∷ []
items-own s past (Some action) (Subscribed t es scope) fine = λ i. Replies (subscribe_result-own s past t fine i) ∷ []
items-own s past None d fine = refl
items-own s past (Some action) d fine = refl

announced-own : (s : ℕ) (past : List Deed) (d : Deed) → is_fine {E = NotTaken} s (Ok d) ≡ true → announced (own s past) d ≡ announced past d
announced-own s past (Subscribed t es scope) fine =
    subst (λ v. announced (own s past) (Subscribed v es scope) ≡ announced past (Subscribed v es scope)) (eqb-true s t fine)
    (λ i. flat_map (λ o. map (λ c. Text c (occurrence_text o)) (connections_of-own s past s i)) (announcements-own s past s es scope i))
announced-own s past d fine = refl

closed-own : (s : ℕ) (past : List Deed) (d : Deed) → closed (own s past) d ≡ closed past d
closed-own s past (Ended t) = λ i. map Close (connections_of-own s past t i)
closed-own s past d = refl

-- ---- a kept input

-- where the middle part shows the same, the whole does
middle : (p : Sent → Bool) (xs ys zs ends : List Sent) → filter p ys ≡ filter p zs → filter p (xs ++ (ys ++ ends)) ≡ filter p (xs ++ (zs ++ ends))
middle p xs ys zs ends same =
    filter-append p xs (ys ++ ends)
    ∙ (ap (λ all. filter p xs ++ all) (filter-append p ys ends ∙ (ap (λ all. all ++ filter p ends) same ∙ sym (filter-append p zs ends)))
    ∙ sym (filter-append p xs (zs ++ ends)))

-- only what the browser did has events; the others are replies
items-shown : (s : ℕ) (past : List Deed) (c id : ℕ) (action : Option Action) (d : Deed)
    → filter (λ x. is_own past (d ∷ past) s (seen_on x)) (flat_map (sent_to (own s past) c id) (items past action d))
    ≡ filter (λ x. is_own past (d ∷ past) s (seen_on x)) (flat_map (sent_to past c id) (items past action d))
items-shown s past c id (Some action) (Did act) = sent_to-own s past (Did act ∷ past) (λ k. refl) c id (items past (Some action) (Did act))
items-shown s past c id (Some action) d = refl
items-shown s past c id None Told = refl
items-shown s past c id None d = refl

-- what is told of a command, but for who hears its events
told-heard : (s : ℕ) (past : List Deed) (c : ℕ) (t : Node) (d : Deed) → is_fine {E = NotTaken} s (Ok d) ≡ true
    → told (own s past) (Heard c (Accepted t)) (Ok d)
    ≡ announced past d ++ (flat_map (sent_to (own s past) c (id_of_command t)) (items past (action_in (command_of t)) d) ++ closed past d)
told-heard s past c t d fine =
    λ i. announced-own s past d fine i
    ++ (flat_map (sent_to (own s past) c (id_of_command t)) (items-own s past (action_in (command_of t)) d fine i) ++ closed-own s past d i)

heard-shown : (s : ℕ) (past : List Deed) (c : ℕ) (t : Node) (r : Result Deed NotTaken) → is_fine s r ≡ true
    → filter (λ x. is_own past (with_turn past r) s (seen_on x)) (told (own s past) (Heard c (Accepted t)) r)
    ≡ filter (λ x. is_own past (with_turn past r) s (seen_on x)) (told past (Heard c (Accepted t)) r)
heard-shown s past c t (Ok d) fine =
    let action = action_in (command_of t) in
    let id = id_of_command t in
    ap (filter (λ x. is_own past (d ∷ past) s (seen_on x))) (told-heard s past c t d fine)
    ∙ middle (λ x. is_own past (d ∷ past) s (seen_on x)) (announced past d) (flat_map (sent_to (own s past) c id) (items past action d))
    (flat_map (sent_to past c id) (items past action d)) (closed past d) (items-shown s past c id action d)
heard-shown s past c t (Err refusal) fine = refl

page-shown : (s : ℕ) (past : List Deed) (action : Action) (r : Result Act ErrorCode)
    → filter (λ x. is_own past (with_turn past (machine.in_page r)) s (seen_on x)) (told (own s past) (OfPage action) (machine.in_page r))
    ≡ filter (λ x. is_own past (with_turn past (machine.in_page r)) s (seen_on x)) (told past (OfPage action) (machine.in_page r))
page-shown s past action (Ok act) =
    ap (λ all. filter (λ x. is_own past (Did act ∷ past) s (seen_on x)) (flat_map (sent_unasked (own s past)) all)) (occurs-own s past action act)
    ∙ sent_unasked-own s past (Did act ∷ past) (λ k. refl) (items past (Some action) (Did act))
page-shown s past action (Err code) = refl

-- of other inputs what is told asks no past
told-open : (p q : List Deed) (c : ℕ) (resource : List ℕ) (r : Result Deed NotTaken) → told p (Open c resource) r ≡ told q (Open c resource) r
told-open p q c resource (Ok (Opened d t)) = refl
told-open p q c resource (Ok d) = refl
told-open p q c resource (Err refusal) = refl

told-drop : (p q : List Deed) (c : ℕ) (r : Result Deed NotTaken) → told p (Drop c) r ≡ told q (Drop c) r
told-drop p q c (Ok (Opened d t)) = refl
told-drop p q c (Ok d) = refl
told-drop p q c (Err refusal) = refl

told-refused : (p q : List Deed) (c : ℕ) (id : Option ℕ) (code : ErrorCode) (r : Result Deed NotTaken)
    → told p (Heard c (Refused id code)) r ≡ told q (Heard c (Refused id code)) r
told-refused p q c id code (Ok (Opened d t)) = refl
told-refused p q c id code (Ok d) = refl
told-refused p q c id code (Err refusal) = refl

told-no_text : (p q : List Deed) (c : ℕ) (r : Result Deed NotTaken) → told p (NotText c) r ≡ told q (NotText c) r
told-no_text p q c (Ok (Opened d t)) = refl
told-no_text p q c (Ok d) = refl
told-no_text p q c (Err refusal) = refl

-- what shows of a kept input that did this
kept-shown : (s : ℕ) (past : List Deed) (i : Input) → is_struck past s i ≡ false
    → filter (λ x. is_own past (with_turn past (turn past i)) s (seen_on x)) (told (own s past) i (turn past i))
    ≡ filter (λ x. is_own past (with_turn past (turn past i)) s (seen_on x)) (told past i (turn past i))
kept-shown s past (At n) kept = refl
kept-shown s past (Open c resource) kept =
    ap (filter (λ x. is_own past (with_turn past (turn past (Open c resource))) s (seen_on x))) (told-open (own s past) past c resource (turn past (Open c resource)))
kept-shown s past (Drop c) kept =
    ap (filter (λ x. is_own past (with_turn past (turn past (Drop c))) s (seen_on x))) (told-drop (own s past) past c (turn past (Drop c)))
kept-shown s past (Heard c (Accepted t)) kept =
    let loud : (is_for_another s (attachment_of past c) && asks_quietly (command_of t)) ≡ false =
    subst (λ q. (is_for_another s (attachment_of past c) && q) ≡ false) (command-quiet t)
    (not-quiet (is_for_another s (attachment_of past c)) (is_quiet t) (is_err (answered past c (Accepted t))) kept) in
    heard-shown s past c t (turn past (Heard c (Accepted t)))
    (if_open-fine s (is_open past c) (answered past c (Accepted t)) (machine.Lost c) (asked-fine s past c (id_of_command t) (command_of t) loud))
kept-shown s past (Heard c (Refused id code)) kept =
    ap (filter (λ x. is_own past (with_turn past (turn past (Heard c (Refused id code)))) s (seen_on x)))
    (told-refused (own s past) past c id code (turn past (Heard c (Refused id code))))
kept-shown s past (NotText c) kept =
    ap (filter (λ x. is_own past (with_turn past (turn past (NotText c))) s (seen_on x))) (told-no_text (own s past) past c (turn past (NotText c)))
kept-shown s past (OfPage action) kept = page-shown s past action _

-- a connection of the session is one after its own past too
is_own-own : (s : ℕ) (past : List Deed) (r : Result Deed NotTaken) (c : Option ℕ)
    → is_own (own s past) (with_turn (own s past) r) s c ≡ is_own past (with_turn past r) s c
is_own-own s past r None = refl
is_own-own s past r (Some c) =
    let after : attachment_of (with_turn (own s past) r) c ≡ attachment_of (with_turn past r) c =
    sym (attachment_of-own s (with_turn (own s past) r) c) ∙ (ap (λ p. attachment_of p c) (with_turn-own s past r) ∙ attachment_of-own s (with_turn past r) c) in
    λ i. is_for s (attachment_of-own s past c i) || is_for s (after i)

-- of what is told, it shows the same
shown-own : (s : ℕ) (past : List Deed) (r : Result Deed NotTaken) (all : List Sent)
    → filter (λ x. is_own (own s past) (with_turn (own s past) r) s (seen_on x)) all ≡ filter (λ x. is_own past (with_turn past r) s (seen_on x)) all
shown-own s past r all = λ j. filter (λ x. is_own-own s past r (seen_on x) j) all

-- a session sees the same of a kept input after its own past
pub seen-own : (s : ℕ) (past : List Deed) (i : Input) → is_struck past s i ≡ false → seen_at (own s past) s i ≡ seen_at past s i
seen-own s past i kept =
    ap (λ r. filter (λ x. is_own (own s past) (with_turn (own s past) r) s (seen_on x)) (told (own s past) i r)) (turn-own s past i kept)
    ∙ (shown-own s past (turn past i) (told (own s past) i (turn past i)) ∙ kept-shown s past i kept)

-- ---- a struck input

not-true : (b : Bool) → not b ≡ true → b ≡ false
not-true true e = cc
not-true false e = refl

another-not : (s : ℕ) (attachment : Attachment) → is_for_another s attachment ≡ true → is_for s attachment ≡ false
another-not s Shut other = refl
another-not s Alone other = refl
another-not s (SpeaksFor t) other = not-true (s == t) other

struck-another : (another idle : Bool) → (another && idle) ≡ true → another ≡ true
struck-another true idle struck = refl
struck-another false idle struck = cc

-- a refusal goes to the connection that asked
abbrev IsTo : ℕ → Result Deed NotTaken → Type 0
IsTo c (Err (machine.Error d id code)) = d ≡ c
IsTo c r = Unit {0}

if_open-to : (c : ℕ) (b : Bool) (r : Result Deed NotTaken) → IsTo c r → IsTo c (if b then r else Err (machine.Lost c))
if_open-to c true r to = to
if_open-to c false r to = tt

replied-to : (c id : ℕ) (r : Result Deed ErrorCode) → IsTo c (replied c id r)
replied-to c id (Ok d) = tt
replied-to c id (Err code) = refl

asked-to : (past : List Deed) (c id : ℕ) (command : Option Command) → IsTo c (asked past c id command)
asked-to past c id None = refl
asked-to past c id (Some command) = replied-to c id (outcome past c (attachment_of past c) command)

module _ (s : ℕ) (past after : List Deed) (same : (c : ℕ) → attachment_of after c ≡ attachment_of past c) (c : ℕ)
    (other : is_for_another s (attachment_of past c) ≡ true) where
  -- it sees nothing on the connection of another session
  not_own : is_own past after s (Some c) ≡ false
  not_own = either-own (is_for s (attachment_of past c)) (is_for s (attachment_of after c)) (another-not s (attachment_of past c) other) (ap (is_for s) (same c))

  pub refusal-unseen : (r : NotTaken) → IsTo c (Err r) → filter (shows s past after same) (refused r) ≡ []
  refusal-unseen (machine.Denied d) to = refl
  refusal-unseen (machine.Lost d) to = refl
  refusal-unseen (machine.Error d id code) to = rw (ap (λ k. is_own past after s (Some k)) to ∙ not_own) refl
  refusal-unseen machine.NoEffect to = refl

  reply-unseen : (id : ℕ) (result : Node) → filter (shows s past after same) (flat_map (sent_to past c id) (Replies result ∷ [])) ≡ []
  reply-unseen id result = rw not_own refl

  -- what does not show has no events
  items-unseen : (id : ℕ) (action : Option Action) (d : Deed) → is_hidden s d ≡ true
      → filter (shows s past after same) (flat_map (sent_to past c id) (items past action d)) ≡ []
  items-unseen id (Some action) (Did Looked) hidden = reply-unseen id (looked_result (acts past) action)
  items-unseen id None (Did Looked) hidden = reply-unseen id nothing
  items-unseen id None Told hidden = reply-unseen id (status_result past)
  items-unseen id (Some action) Told hidden = reply-unseen id (status_result past)
  items-unseen id None (Subscribed t es scope) hidden = reply-unseen id (subscribe_result past t)
  items-unseen id (Some action) (Subscribed t es scope) hidden = reply-unseen id (subscribe_result past t)
  items-unseen id None (Cancelled t ns) hidden = reply-unseen id nothing
  items-unseen id (Some action) (Cancelled t ns) hidden = reply-unseen id nothing
  items-unseen id None (Dismissed t es) hidden = reply-unseen id nothing
  items-unseen id (Some action) (Dismissed t es) hidden = reply-unseen id nothing
  items-unseen id action d hidden = cc

  announced-unseen : (d : Deed) → is_hidden s d ≡ true → filter (shows s past after same) (announced past d) ≡ []
  announced-unseen (Subscribed t es scope) hidden =
      none-flat_map (shows s past after same) (λ o. to_session past o t) (announcements past (Subscribed t es scope) t)
      λ o. unheard s past after same t o (not-true (s == t) hidden)
  announced-unseen d hidden = refl

  closed-unseen : (d : Deed) → is_hidden s d ≡ true → closed past d ≡ []
  closed-unseen (Ended t) hidden = cc
  closed-unseen d hidden = refl

  pub deed-unseen : (t : Node) (d : Deed) → is_hidden s d ≡ true → filter (shows s past after same) (told past (Heard c (Accepted t)) (Ok d)) ≡ []
  deed-unseen t d hidden =
      none-append (shows s past after same) (announced past d)
      (flat_map (sent_to past c (id_of_command t)) (items past (action_in (command_of t)) d) ++ closed past d) (announced-unseen d hidden)
      (none-append (shows s past after same) (flat_map (sent_to past c (id_of_command t)) (items past (action_in (command_of t)) d)) (closed past d)
      (items-unseen (id_of_command t) (action_in (command_of t)) d hidden) (ap (filter (shows s past after same)) (closed-unseen d hidden)))

-- no connection changes where nothing shows
attachment-hidden : (s : ℕ) (past : List Deed) (r : Result Deed NotTaken) → hides s r ≡ true → (c : ℕ) → attachment_of (with_turn past r) c ≡ attachment_of past c
attachment-hidden s past r hidden c =
    sym (attachment_of-own s (with_turn past r) c) ∙ (ap (λ p. attachment_of p c) (with_turn-hidden s past r hidden) ∙ attachment_of-own s past c)

text-unseen : (s : ℕ) (past : List Deed) (c : ℕ) (t : Node) (r : Result Deed NotTaken)
    → is_for_another s (attachment_of past c) ≡ true → hides s r ≡ true → IsTo c r
    → filter (λ x. is_own past (with_turn past r) s (seen_on x)) (told past (Heard c (Accepted t)) r) ≡ []
text-unseen s past c t (Ok d) other hidden to = deed-unseen s past (d ∷ past) (attachment-hidden s past (Ok d) hidden) c other t d hidden
text-unseen s past c t (Err refusal) other hidden to = refusal-unseen s past past (λ k. refl) c other refusal to

refused-unseen : (s : ℕ) (past : List Deed) (c : ℕ) (id : Option ℕ) (code : ErrorCode) (b : Bool) → is_for_another s (attachment_of past c) ≡ true
    → filter (λ x. is_own past (with_turn past (if b then Err (machine.Error c id code) else Err (machine.Lost c))) s (seen_on x))
    (told past (Heard c (Refused id code)) (if b then Err (machine.Error c id code) else Err (machine.Lost c))) ≡ []
refused-unseen s past c id code true other = refusal-unseen s past past (λ k. refl) c other (machine.Error c id code) refl
refused-unseen s past c id code false other = refl

-- a session sees nothing of a struck input
pub seen-struck : (s : ℕ) (past : List Deed) (i : Input) → is_struck past s i ≡ true → seen_at past s i ≡ []
seen-struck s past (Heard c (Accepted t)) struck =
    text-unseen s past c t (turn past (Heard c (Accepted t))) (struck-another (is_for_another s (attachment_of past c)) _ struck)
    (struck-hidden s past (Heard c (Accepted t)) struck)
    (if_open-to c (is_open past c) (answered past c (Accepted t)) (asked-to past c (id_of_command t) (command_of t)))
seen-struck s past (Heard c (Refused id code)) struck =
    refused-unseen s past c id code (is_open past c) (struck-another (is_for_another s (attachment_of past c)) true struck)
seen-struck s past i struck = cc
