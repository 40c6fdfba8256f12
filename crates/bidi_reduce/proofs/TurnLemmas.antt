-- What an input does: the same after the past of a session, unless it is a quiet command of another one.
use Rattle.std.proofs.Common.{◌≡◌, ◌∙◌, ℕ, Bool, true, false, not, ◌&&◌, ◌||◌, List, [], ◌∷◌, length, Option, Some, None}
use Rattle.std.proofs.Common.{refl, sym, ap, subst, nat_lt, eqb-true, Result, Ok, Err, is_err}
use Rattle.std.specs.Prelude.{◌==◌, if◌then◌else◌, find, bytes_eq}
use Rattle.std.specs.List.{list_all}
use Rattle.bidi_tree.specs.Node.{Node}
use Rattle.bidi_params.specs.declared.error_code.ErrorCode.{ErrorCode}
use Rattle.bidi_params.specs.declared.error_code.ErrorCode.TheVariants.{InvalidArgument, SessionNotCreated, UnknownError}
use Rattle.bidi_handles.specs.Checks.{◌>>=◌, need, found}
use Rattle.bidi_handles.specs.declared.id.IdKind.TheVariants.{Subscription}
use Rattle.bidi_handles.specs.Ids.{id_text}
use Rattle.bidi_contexts.specs.Acts.{Act, Looked}
use Rattle.bidi_contexts.specs.Actions.{Activate, GetTree, GetRealms}
use Rattle.bidi_contexts.specs.Outcome as browser
use Rattle.bidi_messages.specs.Verdict.{Accepted, Refused}
use Rattle.bidi_sessions.specs.Capabilities.{matching}
use Rattle.bidi_remote.specs.Machine.Commands.{Command, Status, New, End, Subscribe, UnsubscribeById, UnsubscribeByEvents, OfBrowser, command_of, id_of_command}
use Rattle.bidi_remote.specs.Machine.History.{Input, At, Open, Drop, Heard, NotText, OfPage, Deed, Opened, Dropped, Began}
use Rattle.bidi_remote.specs.Machine.History.{Subscribed, Cancelled, Dismissed, Did, Told, Below, Within, acts}
use Rattle.bidi_remote.specs.Machine.Connections.{Attachment, Shut, Alone, SpeaksFor, attachment_of, is_open}
use Rattle.bidi_remote.specs.Machine.Subscriptions.{subscriptions, holds_globally}
use Rattle.bidi_remote.specs.Machine.Outcome.{all_named, tops_named, users_named, scope_asked, subscriptions_named}
use Rattle.bidi_remote.specs.Machine.Outcome.{did, outcome_in, outcome_alone, outcome, opening, replied}
use Rattle.bidi_remote.specs.Machine.Outcome.{NotTaken, Denied, Lost, Error, asked, answered, in_page, turn, with_turn}
use Rattle.bidi_remote.specs.Strike.{is_for_another, is_quiet, is_idle, is_struck}
use Rattle.bidi_reduce.specs.Own.{own}
use Rattle.bidi_reduce.proofs.OwnLemmas.{either-way, attachment_of-own, is_open-own, session_of_resource-own, may_open-own, is_ready-own, outcome-own}
use Rattle.bidi_reduce.proofs.OwnLemmas.{context_named-own, top_of-own, user_checked-own, subscriptions-own, holds_globally-own}
use Rattle.bidi_reduce.proofs.QuietLemmas.{asks_quietly, command-quiet}

-- ---- the commands of the session itself

tops_named-own : (s : ℕ) (past : List Deed) (ids : List (List ℕ)) → tops_named (acts (own s past)) ids ≡ tops_named (acts past) ids
tops_named-own s past [] = refl
tops_named-own s past (id ∷ ids) = λ i. do
  c ← context_named-own s past id i
  tops ← tops_named-own s past ids i
  Ok (top_of-own s past c i ∷ tops)

users_named-own : (s : ℕ) (past : List Deed) (ids : List (List ℕ)) → users_named (acts (own s past)) ids ≡ users_named (acts past) ids
users_named-own s past [] = refl
users_named-own s past (id ∷ ids) = λ i. do
  u ← user_checked-own s past id i
  users ← users_named-own s past ids i
  Ok (u ∷ users)

scope_asked-own : (s : ℕ) (past : List Deed) (contexts users : Option (List (List ℕ))) → scope_asked (acts (own s past)) contexts users ≡ scope_asked (acts past) contexts users
scope_asked-own s past None None = refl
scope_asked-own s past (Some ids) None = λ i. do
  tops ← tops_named-own s past ids i
  Ok (Below tops)
scope_asked-own s past None (Some ids) = λ i. do
  users ← users_named-own s past ids i
  Ok (Within users)
scope_asked-own s past (Some ids) (Some users) = refl

subscriptions_named-own : (s : ℕ) (past : List Deed) (ids : List (List ℕ)) → subscriptions_named (own s past) s ids ≡ subscriptions_named past s ids
subscriptions_named-own s past [] = refl
subscriptions_named-own s past (id ∷ ids) = λ i. do
  n ← found (find (λ n. bytes_eq id (id_text Subscription s n)) (subscriptions-own s past i)) InvalidArgument
  ns ← subscriptions_named-own s past ids i
  Ok (n ∷ ns)

outcome_in-own : (s : ℕ) (past : List Deed) (command : Command) → outcome_in (own s past) s command ≡ outcome_in past s command
outcome_in-own s past Status = refl
outcome_in-own s past (New request) = refl
outcome_in-own s past End = refl
outcome_in-own s past (Subscribe names contexts users) = λ i. do
  events ← all_named names
  scope ← scope_asked-own s past contexts users i
  few ← need (nat_lt (length (subscriptions-own s past i)) 256) UnknownError
  Ok (Subscribed s events scope)
outcome_in-own s past (UnsubscribeById ids) = λ i. do
  ns ← subscriptions_named-own s past ids i
  Ok (Cancelled s ns)
outcome_in-own s past (UnsubscribeByEvents names) = λ i. do
  events ← all_named names
  held ← need (list_all (λ e. holds_globally-own s past e i) events) InvalidArgument
  Ok (Dismissed s events)
outcome_in-own s past (OfBrowser action) = λ i. did (outcome-own s past action i)

-- ---- the commands of others

-- one that is not quiet
outcome_in-loud : (s u : ℕ) (past : List Deed) (command : Command) → asks_quietly (Some command) ≡ false → outcome_in (own s past) u command ≡ outcome_in past u command
outcome_in-loud s u past Status loud = cc
outcome_in-loud s u past (New request) loud = refl
outcome_in-loud s u past End loud = refl
outcome_in-loud s u past (Subscribe names contexts users) loud = cc
outcome_in-loud s u past (UnsubscribeById ids) loud = cc
outcome_in-loud s u past (UnsubscribeByEvents names) loud = cc
outcome_in-loud s u past (OfBrowser action) loud = λ i. did (outcome-own s past action i)

-- one without a session
outcome_alone-own : (s : ℕ) (past : List Deed) (c : ℕ) (command : Command) → outcome_alone (own s past) c command ≡ outcome_alone past c command
outcome_alone-own s past c (New request) = λ i. do
  fit ← matching request
  few ← need (is_ready-own s past i) SessionNotCreated
  Ok (Began c)
outcome_alone-own s past c command = refl

-- one on a connection, as it stands
outcome-at : (s : ℕ) (past : List Deed) (c : ℕ) (attachment : Attachment) (command : Command)
    → (is_for_another s attachment && asks_quietly (Some command)) ≡ false → outcome (own s past) c attachment command ≡ outcome past c attachment command
outcome-at s past c Shut command kept = refl
outcome-at s past c Alone command kept = outcome_alone-own s past c command
outcome-at s past c (SpeaksFor u) command kept = by (s == u) refl
  where
    by : (b : Bool) → (s == u) ≡ b → outcome_in (own s past) u command ≡ outcome_in past u command
    by true e = subst (λ v. outcome_in (own s past) v command ≡ outcome_in past v command) (eqb-true s u e) (outcome_in-own s past command)
    by false e = outcome_in-loud s u past command (rw e at kept)

-- ---- inputs

asked-own : (s : ℕ) (past : List Deed) (c id : ℕ) (command : Option Command)
    → (is_for_another s (attachment_of past c) && asks_quietly command) ≡ false → asked (own s past) c id command ≡ asked past c id command
asked-own s past c id None kept = refl
asked-own s past c id (Some command) kept =
    ap (λ x. replied c id (outcome (own s past) c x command)) (attachment_of-own s past c)
    ∙ ap (replied c id) (outcome-at s past c (attachment_of past c) command kept)

-- a text that is not a quiet command of another session
answered-own : (s : ℕ) (past : List Deed) (c : ℕ) (t : Node)
    → (is_for_another s (attachment_of past c) && is_quiet t) ≡ false → answered (own s past) c (Accepted t) ≡ answered past c (Accepted t)
answered-own s past c t kept =
    asked-own s past c (id_of_command t) (command_of t) (subst (λ q. (is_for_another s (attachment_of past c) && q) ≡ false) (command-quiet t) kept)

opening-own : (s : ℕ) (past : List Deed) (c : ℕ) (session : Option (Option ℕ)) → opening (own s past) c session ≡ opening past c session
opening-own s past c None = refl
opening-own s past c (Some t) = λ i. if may_open-own s past c i then Ok (Opened c t) else Err (Denied c)

-- what is not struck is no quiet command of another session
pub not-quiet : (another quiet err : Bool) → (another && (quiet || err)) ≡ false → (another && quiet) ≡ false
not-quiet true true err kept = kept
not-quiet true false err kept = refl
not-quiet false quiet err kept = refl

pub turn-own : (s : ℕ) (past : List Deed) (i : Input) → is_struck past s i ≡ false → turn (own s past) i ≡ turn past i
turn-own s past (At n) kept = refl
turn-own s past (Open c resource) kept = λ i. opening-own s past c (session_of_resource-own s past resource i) i
turn-own s past (Drop c) kept = λ i. if is_open-own s past c i then Ok (Dropped c) else Err (Lost c)
turn-own s past (Heard c (Accepted t)) kept =
    let same = answered-own s past c t (not-quiet (is_for_another s (attachment_of past c)) (is_quiet t) (is_err (answered past c (Accepted t))) kept) in
    λ i. if is_open-own s past c i then same i else Err (Lost c)
turn-own s past (Heard c (Refused id code)) kept = λ i. if is_open-own s past c i then Err (Error c id code) else Err (Lost c)
turn-own s past (NotText c) kept = λ i. if is_open-own s past c i then Err (Error c None InvalidArgument) else Err (Lost c)
turn-own s past (OfPage action) kept = λ i. in_page (outcome-own s past action i)

-- an input is struck after the past of the session where it is struck after the past
quiet-idle : (another quiet a b : Bool) → quiet ≡ true → (another && (quiet || a)) ≡ (another && (quiet || b))
quiet-idle another true a b e = refl
quiet-idle another false a b e = cc

and-none : (another quiet : Bool) → quiet ≡ false → (another && quiet) ≡ false
and-none true quiet e = e
and-none false quiet e = refl

idle-own : (s : ℕ) (past : List Deed) (c : ℕ) (t : Node) (b : Bool) → is_quiet t ≡ b
    → (is_for_another s (attachment_of past c) && is_idle (own s past) c (Accepted t)) ≡ (is_for_another s (attachment_of past c) && is_idle past c (Accepted t))
idle-own s past c t true quiet = quiet-idle (is_for_another s (attachment_of past c)) (is_quiet t) _ _ quiet
idle-own s past c t false quiet =
    ap (λ r. is_for_another s (attachment_of past c) && (is_quiet t || is_err r))
    (answered-own s past c t (and-none (is_for_another s (attachment_of past c)) (is_quiet t) quiet))

pub is_struck-own : (s : ℕ) (past : List Deed) (i : Input) → is_struck (own s past) s i ≡ is_struck past s i
is_struck-own s past (Heard c (Accepted t)) =
    ap (λ x. is_for_another s x && is_idle (own s past) c (Accepted t)) (attachment_of-own s past c) ∙ idle-own s past c t (is_quiet t) refl
is_struck-own s past (Heard c (Refused id code)) = λ i. is_for_another s (attachment_of-own s past c i) && true
is_struck-own s past (At n) = refl
is_struck-own s past (Open c resource) = refl
is_struck-own s past (Drop c) = refl
is_struck-own s past (NotText c) = refl
is_struck-own s past (OfPage action) = refl

-- ---- the past after it

pub own-again : (s : ℕ) (past : List Deed) → own s (own s past) ≡ own s past
own-again s [] = refl
own-again s (Subscribed t es scope ∷ past) =
    let ih = own-again s past in
    either-way (own s) (s == t) (Subscribed t es scope) (own s past) (if s == t then Subscribed t es scope ∷ own s past else own s past)
    (λ i. if s == t then Subscribed t es scope ∷ ih i else ih i) (λ e. rw e ih)
own-again s (Cancelled t ns ∷ past) =
    let ih = own-again s past in
    either-way (own s) (s == t) (Cancelled t ns) (own s past) (if s == t then Cancelled t ns ∷ own s past else own s past)
    (λ i. if s == t then Cancelled t ns ∷ ih i else ih i) (λ e. rw e ih)
own-again s (Dismissed t es ∷ past) =
    let ih = own-again s past in
    either-way (own s) (s == t) (Dismissed t es) (own s past) (if s == t then Dismissed t es ∷ own s past else own s past)
    (λ i. if s == t then Dismissed t es ∷ ih i else ih i) (λ e. rw e ih)
own-again s (Did Looked ∷ past) = own-again s past
own-again s (Told ∷ past) = own-again s past
own-again s (d ∷ past) = λ i. d ∷ own-again s past i

-- one deed more
own-more : (s : ℕ) (d : Deed) (past : List Deed) → own s (d ∷ own s past) ≡ own s (d ∷ past)
own-more s (Subscribed t es scope) past = λ i. if s == t then Subscribed t es scope ∷ own-again s past i else own-again s past i
own-more s (Cancelled t ns) past = λ i. if s == t then Cancelled t ns ∷ own-again s past i else own-again s past i
own-more s (Dismissed t es) past = λ i. if s == t then Dismissed t es ∷ own-again s past i else own-again s past i
own-more s (Did Looked) past = own-again s past
own-more s Told past = own-again s past
own-more s d past = λ i. d ∷ own-again s past i

pub with_turn-own : (s : ℕ) (past : List Deed) (r : Result Deed NotTaken) → own s (with_turn (own s past) r) ≡ own s (with_turn past r)
with_turn-own s past (Ok d) = own-more s d past
with_turn-own s past (Err refusal) = own-again s past

-- ---- what is struck

-- the deed does not show for the session
abbrev pub is_hidden : ℕ → Deed → Bool
is_hidden s (Subscribed t es scope) = not (s == t)
is_hidden s (Cancelled t ns) = not (s == t)
is_hidden s (Dismissed t es) = not (s == t)
is_hidden s (Did Looked) = true
is_hidden s Told = true
is_hidden s d = false

-- what comes of it, a deed or a refusal, does not show
abbrev pub hides : {E : Type 0} → ℕ → Result Deed E → Bool
hides s (Ok d) = is_hidden s d
hides s (Err refusal) = true

own-left : (b : Bool) (d : Deed) (past : List Deed) → not b ≡ true → (if b then d ∷ past else past) ≡ past
own-left true d past hidden = cc
own-left false d past hidden = refl

own-hidden : (s : ℕ) (d : Deed) (past : List Deed) → is_hidden s d ≡ true → own s (d ∷ past) ≡ own s past
own-hidden s (Subscribed t es scope) past hidden = own-left (s == t) (Subscribed t es scope) (own s past) hidden
own-hidden s (Cancelled t ns) past hidden = own-left (s == t) (Cancelled t ns) (own s past) hidden
own-hidden s (Dismissed t es) past hidden = own-left (s == t) (Dismissed t es) (own s past) hidden
own-hidden s (Did Looked) past hidden = refl
own-hidden s Told past hidden = refl
own-hidden s d past hidden = cc

pub with_turn-hidden : (s : ℕ) (past : List Deed) (r : Result Deed NotTaken) → hides s r ≡ true → own s (with_turn past r) ≡ own s past
with_turn-hidden s past (Ok d) hidden = own-hidden s d past hidden
with_turn-hidden s past (Err refusal) hidden = refl

then-hides : {A : Type 0} (s : ℕ) (r : Result A ErrorCode) (next : A → Result Deed ErrorCode) → ((x : A) → hides s (next x) ≡ true) → hides s (r >>= next) ≡ true
then-hides s (Ok x) next hidden = hidden x
then-hides s (Err code) next hidden = refl

looks-hidden : {A : Type 0} (s : ℕ) (r : Result A ErrorCode) → hides s (did (browser.looked r)) ≡ true
looks-hidden s (Ok x) = refl
looks-hidden s (Err code) = refl

looked_at-hidden : (s : ℕ) (past : List Act) (id : Option (List ℕ)) → hides s (did (browser.looked_at past id)) ≡ true
looked_at-hidden s past None = refl
looked_at-hidden s past (Some id) = looks-hidden s (browser.context_named past id)

-- a quiet command of another session
outcome-hidden : (s u : ℕ) (past : List Deed) (command : Command) → not (s == u) ≡ true → asks_quietly (Some command) ≡ true → hides s (outcome_in past u command) ≡ true
outcome-hidden s u past Status other quiet = refl
outcome-hidden s u past (New request) other quiet = refl
outcome-hidden s u past End other quiet = cc
outcome-hidden s u past (Subscribe names contexts users) other quiet =
    then-hides s (all_named names) _ λ events.
    then-hides s (scope_asked (acts past) contexts users) _ λ scope.
    then-hides s (need (nat_lt (length (subscriptions past u)) 256) UnknownError) (λ few. Ok (Subscribed u events scope)) λ few. other
outcome-hidden s u past (UnsubscribeById ids) other quiet = then-hides s (subscriptions_named past u ids) (λ ns. Ok (Cancelled u ns)) λ ns. other
outcome-hidden s u past (UnsubscribeByEvents names) other quiet =
    then-hides s (all_named names) _ λ events.
    then-hides s (need (list_all (holds_globally past u) events) InvalidArgument) (λ held. Ok (Dismissed u events)) λ held. other
outcome-hidden s u past (OfBrowser (Activate id)) other quiet = looks-hidden s (browser.top_named (acts past) id)
outcome-hidden s u past (OfBrowser (GetTree depth root)) other quiet = looked_at-hidden s (acts past) root
outcome-hidden s u past (OfBrowser (GetRealms context type)) other quiet = looked_at-hidden s (acts past) context
outcome-hidden s u past (OfBrowser action) other quiet = cc

replied-hidden : (s c id : ℕ) (r : Result Deed ErrorCode) → hides s r ≡ true → hides s (replied c id r) ≡ true
replied-hidden s c id (Ok d) hidden = hidden
replied-hidden s c id (Err code) hidden = refl

err-hidden : {E : Type 0} (s : ℕ) (r : Result Deed E) → is_err r ≡ true → hides s r ≡ true
err-hidden s (Ok d) err = cc
err-hidden s (Err refusal) err = refl

attachment-hidden : (s : ℕ) (past : List Deed) (c : ℕ) (attachment : Attachment) (command : Command)
    → is_for_another s attachment ≡ true → asks_quietly (Some command) ≡ true → hides s (outcome past c attachment command) ≡ true
attachment-hidden s past c Shut command other quiet = cc
attachment-hidden s past c Alone command other quiet = cc
attachment-hidden s past c (SpeaksFor u) command other quiet = outcome-hidden s u past command other quiet

asked-hidden : (s : ℕ) (past : List Deed) (c id : ℕ) (command : Option Command)
    → is_for_another s (attachment_of past c) ≡ true → asks_quietly command ≡ true → hides s (asked past c id command) ≡ true
asked-hidden s past c id None other quiet = refl
asked-hidden s past c id (Some command) other quiet =
    replied-hidden s c id (outcome past c (attachment_of past c) command) (attachment-hidden s past c (attachment_of past c) command other quiet)

either-hidden : (s : ℕ) (b : Bool) (r : Result Deed NotTaken) (lost : NotTaken) → hides s r ≡ true → hides s (if b then r else Err lost) ≡ true
either-hidden s true r lost hidden = hidden
either-hidden s false r lost hidden = refl

-- what is struck is of another session, and quiet or refused
struck-parts : (another quiet err : Bool) → (another && (quiet || err)) ≡ true → (another ≡ true) × ((quiet ≡ false) → err ≡ true)
struck-parts true true err struck = (refl, λ e. cc)
struck-parts true false err struck = (refl, λ e. struck)
struck-parts false quiet err struck = cc

answered-hidden : (s : ℕ) (past : List Deed) (c : ℕ) (t : Node) (b : Bool) → is_quiet t ≡ b
    → is_struck past s (Heard c (Accepted t)) ≡ true → hides s (answered past c (Accepted t)) ≡ true
answered-hidden s past c t true quiet struck =
    let parts = struck-parts (is_for_another s (attachment_of past c)) (is_quiet t) (is_err (answered past c (Accepted t))) struck in
    asked-hidden s past c (id_of_command t) (command_of t) parts.0 (sym (command-quiet t) ∙ quiet)
answered-hidden s past c t false quiet struck =
    let parts = struck-parts (is_for_another s (attachment_of past c)) (is_quiet t) (is_err (answered past c (Accepted t))) struck in
    err-hidden s (answered past c (Accepted t)) (parts.1 quiet)

pub struck-hidden : (s : ℕ) (past : List Deed) (i : Input) → is_struck past s i ≡ true → hides s (turn past i) ≡ true
struck-hidden s past (Heard c (Accepted t)) struck =
    either-hidden s (is_open past c) (answered past c (Accepted t)) (Lost c) (answered-hidden s past c t (is_quiet t) refl struck)
struck-hidden s past (Heard c (Refused id code)) struck = either-hidden s (is_open past c) (Err (Error c id code)) (Lost c) refl
struck-hidden s past i struck = cc

-- a struck input leaves the past of the session as it was
pub struck-own : (s : ℕ) (past : List Deed) (i : Input) → is_struck past s i ≡ true → own s (with_turn past (turn past i)) ≡ own s past
struck-own s past i struck = with_turn-hidden s past (turn past i) (struck-hidden s past i struck)
