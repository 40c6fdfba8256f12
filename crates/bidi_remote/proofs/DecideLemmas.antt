-- What a command comes to, by the tables and by the past.
use Rattle.std.proofs.Common.{◌≡◌, ◌∙◌, ℕ, Bool, true, false, not, ◌&&◌, List, [], ◌∷◌, ◌++◌, map, length}
use Rattle.std.proofs.Common.{Option, Some, unwrap_or, Result, Ok, Err, refl, sym, ap, ap₂, subst}
use Rattle.std.specs.Prelude.{◌==◌, filter, find, nat_lt, codes, if◌then◌else◌}
use Rattle.std.proofs.Common.{zero-le, arith}
use Rattle.std.specs.List.{list_all, AllByRecursion, items_where_true}
use Rattle.std.proofs.lemmas.List.{length-map, map-append}
use Rattle.std.proofs.lemmas.List.Elements.{filter-append}
use Rattle.bidi_tree.specs.Text.{compact_text}
use Rattle.bidi_shape.specs.Name as name
use Rattle.bidi_shape.specs.Term as term
use Rattle.bidi_shape.specs.Term.{required, no_more, rule, extensible}
use Rattle.bidi_shape.specs.Fits.{Fits, fits_bool, fits_text, fits_map, fits_rule, no_row}
use Rattle.bidi_shape.proofs.FitsLemmas.{row_fits}
use Rattle.bidi_methods.specs.declared.method.Method.TheVariants.{SessionStatus}
use Rattle.bidi_messages.specs.Message.{status_tree}
use Rattle.bidi_browser.specs.Results.{IsResultText}
use Rattle.bidi_params.specs.declared.error_code.ErrorCode.{ErrorCode}
use Rattle.bidi_params.specs.declared.error_code.ErrorCode.TheVariants.{InvalidArgument, UnknownError}
use Rattle.bidi_methods.specs.declared.event_data.EventName.{EventName}
use Rattle.bidi_methods.specs.declared.event_data.EventName.TheVariants.{EntryAdded}
use Rattle.bidi_handles.specs.Checks.{◌>>=◌, need, found}
use Rattle.bidi_contexts.specs.declared.occurrence.Top.{Top}
use Rattle.bidi_contexts.specs.Acts.{Act, Looked}
use Rattle.bidi_contexts.specs.Contexts.{is_alive}
use Rattle.bidi_contexts.specs.Occurrences.{Occurrence, tree_events}
use Rattle.bidi_contexts.specs.Occurrences.{is_among}
use Rattle.bidi_browser.specs.Occurs.{Replies}
use Rattle.bidi_remote.specs.declared.state.State.{State}
use Rattle.bidi_remote.specs.declared.turn.Asker.{Asker}
use Rattle.bidi_remote.specs.declared.turn.Change.{Change}
use Rattle.bidi_remote.specs.declared.turn.Change.TheVariants.{Nothing, Begin, End, Subscribe, Cancel, Dismiss, Browse}
use Rattle.bidi_remote.specs.declared.turn.Turn.{Turn}
use Rattle.bidi_sessions.specs.declared.subscriptions.Subscription.{Subscription}
use Rattle.bidi_sessions.specs.Capabilities.{Request, matching}
use Rattle.bidi_remote.specs.Machine.Commands.{Command}
use Rattle.bidi_remote.specs.Machine.History.{Deed, Began, Subscribed, Dismissed, Scope, acts}
use Rattle.bidi_remote.specs.Machine.Sessions.{is_active}
use Rattle.bidi_remote.specs.Machine.Subscriptions.{subscriptions, is_newly_enabled, holds_globally, covers}
use Rattle.bidi_remote.specs.Machine.LogBuffer.{missed, waiting_for}
use Rattle.bidi_remote.specs.Machine.Outcome.{is_ready, new_outcome, all_named, scope_asked, subscribe_outcome}
use Rattle.bidi_remote.specs.Machine.Outcome.{subscriptions_named, unsubscribe_by_events_outcome}
use Rattle.bidi_remote.specs.Machine.Sent.{items, action_in, announcements}
use Rattle.bidi_active.specs.Written.{Written, written_in}
use Rattle.bidi_remote.specs.State.EventTexts.{written, AreMessages}
use Rattle.bidi_remote.specs.State.MissedRows.{places, IsEntry}
use Rattle.bidi_active.specs.Places.{waiting}
use Rattle.bidi_active.specs.SessionView as in_hand
use Rattle.bidi_sessions.specs.SubscriptionView.{row_of}
use Rattle.bidi_remote.specs.State.Stands.{AgreeWith}
use Rattle.bidi_sessions.specs.SubscriptionRows.{SubscriptionRow}
use Rattle.bidi_remote.specs.State.SessionRows.{session_row, session_rows, row_at, subscription_rows}
use Rattle.bidi_active.specs.SessionRows.{row_in, begun}
use Rattle.bidi_sessions.specs.SubscriptionRows.{any_covers, any_global, numbers_named}
use Rattle.bidi_active.specs.News.{is_new}
use Rattle.bidi_browser.specs.View.{result_tree}
use Rattle.bidi_browser.specs.declared.command_result.CommandResult.{CommandResult}
use Rattle.bidi_remote.specs.State.Turns.{Decides, IsMade, IsOfSessions, deed_of, announced_by}
use Rattle.bidi_sessions.proofs.ListLemmas.{filter-same, all-same}
use Rattle.bidi_remote.proofs.PlaceLemmas.{waiting-places, waiting-events, new-written}
use Rattle.bidi_remote.proofs.SubscriptionLemmas.{newly-enabled, numbers-session_rows, find-active, named-subscription_rows, global-held}
use Rattle.bidi_sessions.specs.Limits.{most_sessions, most_subscriptions}

-- ---- a turn

-- a change of sessions leaves the browser as it is
pub made-of_sessions : (change : Change) (past : List Act) (act : Act) → IsOfSessions change → IsMade change past act
made-of_sessions (Browse change) past act ours = absurd ours
made-of_sessions Nothing past act ours = tt
made-of_sessions (Begin c buffer) past act ours = ours
made-of_sessions (End s) past act ours = tt
made-of_sessions (Subscribe s es scope) past act ours = tt
made-of_sessions (Cancel s ns) past act ours = tt
made-of_sessions (Dismiss s es) past act ours = tt

module _ (turn : Turn) (past : List Deed) (asker : Asker) (asked : Command) (answer : Result Deed ErrorCode) (change : Change)
    (r : CommandResult) (ours : IsOfSessions change)
    (same : turn.change ≡ change) (before : turn.telling.before.items ≡ [])
    (reply : turn.telling.reply ≡ Some (record { to = asker; outcome = r })) (after : turn.telling.after.items ≡ [])
    (is : answer ≡ Ok (deed_of change Looked)) (told : Replies (result_tree r) ∷ [] ≡ items past (action_in (Some asked)) (deed_of change Looked)) where
  -- a change that is announced, and then replied to
  pub announced-decides : written_in turn.telling.announced.items ≡ map written (announced_by past (deed_of change Looked))
      → AreMessages (written_in turn.telling.announced.items) → Decides (Ok turn) past asker asked answer
  announced-decides announced messages = (
    Looked,
    is ∙ ap (λ x. Ok (deed_of x Looked)) (sym same),
    subst (λ x. IsMade x (acts past) Looked) (sym same) (made-of_sessions change (acts past) Looked ours),
    record {
      announced = announced ∙ ap (λ x. map written (announced_by past (deed_of x Looked))) (sym same);
      messages = messages;
      items = rw (before, reply, after) (told ∙ ap (λ x. items past (action_in (Some asked)) (deed_of x Looked)) (sym same));
    },
    rw reply refl,
  )

  -- one of which only a reply tells
  pub replied-decides : turn.telling.announced.items ≡ [] → announced_by past (deed_of change Looked) ≡ [] → Decides (Ok turn) past asker asked answer
  replied-decides none quiet = announced-decides (ap written_in none ∙ ap (map written) (sym quiet)) (subst (λ es. AreMessages (written_in es)) (sym none) tt)

-- ---- the table of sessions

-- whether there is room for a session
pub is_ready-rows : (t : State) (past : List Deed) (b : Bool) → AgreeWith t past → b ≡ nat_lt (length (in_hand.rows_in t.sessions)) most_sessions → b ≡ is_ready past
is_ready-rows t past b a is =
    is ∙ ap (λ n. nat_lt n most_sessions) (ap length a.sessions ∙ (sym (length-map (session_rows past) (λ r. r.number)) ∙ ap length (numbers-session_rows past)))

-- an active session is found
pub found-active : (t : State) (past : List Deed) (s : ℕ)
    → AgreeWith t past → is_active past s ≡ true → find (λ r. r.number == s) (in_hand.rows_in t.sessions) ≡ Some (session_row past s)
found-active t past s a active = ap (find (λ r. r.number == s)) a.sessions ∙ find-active past s active

-- its row
pub row-active : (t : State) (past : List Deed) (s : ℕ)
    → AgreeWith t past → is_active past s ≡ true → row_in s (in_hand.rows_in t.sessions) ≡ session_row past s
row-active t past s a active = ap (λ o. unwrap_or o (begun s)) (found-active t past s a active)

-- ---- `session.status`

status-fits : (ready : Bool) (message : List ℕ) → Fits (status_tree ready message) (rule name.status_result)
status-fits ready message =
    fits_rule _ name.status_result (fits_map _ _ extensible
    (row_fits _ (codes "ready") required term.bool _ (fits_bool ready)
    (row_fits _ (codes "message") required term.text no_more (fits_text message) (no_row _))) (refl, zero-le))

-- its text is that of a result
pub status-result : (s : List ℕ) (ready : Bool) → s ≡ compact_text (if ready then status_tree true (codes "ready") else status_tree false (codes "full"))
    → IsResultText SessionStatus s (if ready then status_tree true (codes "ready") else status_tree false (codes "full"))
status-result s true written = (written, (((refl, tt), (tt, tt)), (tt, (tt, tt))), (refl, omega arith), status-fits true (codes "ready"))
status-result s false written = (written, (((refl, tt), (tt, tt)), (tt, (tt, tt))), (refl, omega arith), status-fits false (codes "full"))

-- ---- `session.new`

no_error : {E : Type 0} (r : Result (Unit {0}) E) → ((e : E) → r ≡ Err e → ⊥) → r ≡ Ok tt
no_error (Ok tt) h = refl
no_error (Err e) h = absurd (h e refl)

pub new-began : (past : List Deed) (c : ℕ) (request : Request) (fits : Result (Unit {0}) ErrorCode)
    → fits ≡ matching request → ((e : ErrorCode) → fits ≡ Err e → ⊥) → true ≡ is_ready past → new_outcome past c request ≡ Ok (Began c)
new-began past c request fits same fit room = rw (sym same ∙ no_error fits fit, sym room) refl

-- ---- `session.subscribe`

-- what is kept of items of which each has P
pub all-kept : {X : Type 0} (P : X → Type 0) (bs : List Bool) (xs : List X) → AllByRecursion P xs → AllByRecursion P (items_where_true bs xs)
all-kept P [] xs all = tt
all-kept P (b ∷ bs) [] all = tt
all-kept P (true ∷ bs) (x ∷ xs) all = (all.0, all-kept P bs xs all.1)
all-kept P (false ∷ bs) (x ∷ xs) all = all-kept P bs xs all.1

-- as many subscriptions are held as live
pub held-length : (past : List Deed) (s : ℕ) (held : List Subscription)
    → map row_of held ≡ subscription_rows past s → length held ≡ length (subscriptions past s)
held-length past s held rows = sym (length-map held row_of) ∙ (ap length rows ∙ length-map (subscriptions past s) (row_at past s))

-- the checks, one after another
pub subscribe-checked : (past : List Deed) (s n : ℕ) (names : List (List ℕ)) (contexts users : Option (List (List ℕ)))
    (es : List EventName) (scope : Scope) (few : Bool)
    → all_named names ≡ Ok es → scope_asked (acts past) contexts users ≡ Ok scope → n ≡ length (subscriptions past s) → nat_lt n most_subscriptions ≡ few
    → subscribe_outcome past s names contexts users ≡ (need few UnknownError >>= λ room. Ok (Subscribed s es scope))
subscribe-checked past s n names contexts users es scope few named scoped long is =
    rw (named, scoped) (ap (λ (b : Bool). need b UnknownError >>= λ room. Ok (Subscribed s es scope)) (ap (λ k. nat_lt k most_subscriptions) (sym long) ∙ is))

-- what is new by the table is what is announced: of the tree, then of the entries that wait
pub new-announced : (past : List Deed) (s : ℕ) (held : List SubscriptionRow) (es : List EventName) (scope : Scope) (tree waits : List Written)
    → is_active past s ≡ true → AllByRecursion IsEntry (missed past s) → held ≡ subscription_rows past s
    → tree ≡ map written (filter (λ o. is_new (acts past) held es scope o.event o.top) (tree_events (acts past)))
    → waits ≡ filter (λ w. is_new (acts past) held es scope EntryAdded w.top) (waiting (places past s))
    → tree ++ waits ≡ map written (announcements past (Subscribed s es scope) s)
new-announced past s held es scope tree waits active entries rows told later =
    let in_hand = λ (o : Occurrence). is_new (acts past) held es scope o.event o.top in
    let newly = λ (o : Occurrence). is_newly_enabled past (Subscribed s es scope) s o.event o.top in
    let same = λ (o : Occurrence). ap (λ all. is_new (acts past) all es scope o.event o.top) rows ∙ sym (newly-enabled past s es scope o.event o.top active) in
    ap₂ (λ xs ys. xs ++ ys) told
    (later ∙ (ap (filter (λ w. is_new (acts past) held es scope EntryAdded w.top)) (waiting-places past s)
    ∙ new-written (is_new (acts past) held es scope) (waiting_for past s) (waiting-events past s entries)))
    ∙ (sym (map-append written (filter in_hand (tree_events (acts past))) (filter in_hand (waiting_for past s)))
    ∙ ap (map written) (sym (filter-append in_hand (tree_events (acts past)) (waiting_for past s))
    ∙ filter-same in_hand newly (tree_events (acts past) ++ waiting_for past s) same))

-- ---- `session.unsubscribe`

-- the ids name in the table what they name in the past
pub numbers-named : (past : List Deed) (s : ℕ) (ids : List (List ℕ)) → numbers_named s (subscription_rows past s) ids ≡ subscriptions_named past s ids
numbers-named past s [] = refl
numbers-named past s (id ∷ ids) =
    ap₂ (λ (o : Option ℕ) (r : Result (List ℕ) ErrorCode). found o InvalidArgument >>= λ n. r >>= λ ns. Ok (n ∷ ns))
    (sym (named-subscription_rows past s id)) (numbers-named past s ids)

-- each event is held globally in the table where it is in the past
pub all-held : (past : List Deed) (s : ℕ) (es : List EventName) → list_all (any_global (subscription_rows past s)) es ≡ list_all (holds_globally past s) es
all-held past s es = all-same _ _ es (λ e. sym (global-held past s e))

pub dismiss-checked : (past : List Deed) (s : ℕ) (names : List (List ℕ)) (es : List EventName) (b : Bool)
    → all_named names ≡ Ok es → list_all (holds_globally past s) es ≡ b
    → unsubscribe_by_events_outcome past s names ≡ (need b InvalidArgument >>= λ held. Ok (Dismissed s es))
dismiss-checked past s names es b named held = rw named (ap (λ (b : Bool). need b InvalidArgument >>= λ held. Ok (Dismissed s es)) held)
