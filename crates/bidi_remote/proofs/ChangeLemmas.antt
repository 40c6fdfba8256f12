-- How the tables move with the past.
use Rattle.std.proofs.Common.{◌≡◌, ◌∙◌, ℕ, ◌+◌, Bool, true, false, cond, not, ◌&&◌, List, [], ◌∷◌, ◌++◌, map}
use Rattle.std.proofs.Common.{length, refl, sym, ap, ap₂, subst, arith, Err, Option, Some, None}
use Rattle.std.specs.Prelude.{◌==◌, filter, find, nat_lt, bytes_eq, codes, if◌then◌else◌, option_map}
use Rattle.std.specs.List.{AllByRecursion}
use Rattle.std.proofs.lemmas.List.{length-map}
use Rattle.bidi_handles.specs.declared.id.IdKind.TheVariants.{Session as OfSession}
use Rattle.bidi_handles.specs.Ids.{id_of}
use Rattle.bidi_contexts.specs.declared.occurrence.Top.{Top}
use Rattle.bidi_browser.specs.declared.browser.Browser.{Browser}
use Rattle.bidi_contexts.specs.Acts.{Act, Logged}
use Rattle.bidi_contexts.specs.Occurrences.{entry_added}
use Rattle.bidi_browser.specs.Stands.{StandsFor}
use Rattle.bidi_tree.specs.declared.number.JsUint.{JsUint}
use Rattle.bidi_scripts.specs.declared.log_entry.Level.{Level}
use Rattle.bidi_messages.specs.contracts.message.MessageShape.TheImpl.{ghosts}
use Rattle.bidi_messages.specs.Reading.{IsMessageText}
use Rattle.bidi_methods.specs.declared.event_data.EventName.{EventName}
use Rattle.bidi_methods.specs.declared.event_data.EventName.TheVariants.{EntryAdded}
use Rattle.bidi_sessions.specs.declared.connections.Connections.{Connections}
use Rattle.bidi_active.specs.declared.sessions.Sessions.{Sessions}
use Rattle.bidi_remote.specs.declared.state.State.{State}
use Rattle.bidi_remote.specs.Machine.History.{Input, Open, Deed, Scope, Time, Opened, Dropped, Began, Ended}
use Rattle.bidi_remote.specs.Machine.History.{Subscribed, Cancelled, Dismissed, Did, Told, acts, moment}
use Rattle.bidi_remote.specs.Machine.Sessions.{is_active, sessions, next_session}
use Rattle.bidi_remote.specs.Machine.Subscriptions.{subscriptions_made, is_enabled}
use Rattle.bidi_remote.specs.Machine.LogBuffer.{Missed, missed, announced_at, last_hundred}
use Rattle.bidi_remote.specs.Machine.Connections.{Attachment, Shut, is_shut, is_open, is_for, opened_for, attachment_of, open_connections}
use Rattle.bidi_remote.specs.Machine.Outcome.{Denied, deeds, may_open, opening, session_of_resource, turn}
use Rattle.bidi_sessions.specs.ConnectionRows as connections
use Rattle.bidi_remote.specs.State.ConnectionRows.{rows, opening_by}
use Rattle.bidi_sessions.specs.ConnectionRows.{attachment_in, attachment_in_hand}
use Rattle.bidi_sessions.specs.declared.connections.Attachment as declared_attachment
use Rattle.bidi_sessions.specs.declared.connections.Attachment.TheVariants as in_code
use Rattle.bidi_active.specs.SessionView as in_hand
use Rattle.bidi_active.specs.SessionRows.{SessionRow, begun, subscribed, cancelled, lost, logged, changed}
use Rattle.bidi_remote.specs.State.SessionRows.{session_rows, subscription_rows, updated}
use Rattle.bidi_active.specs.Written.{Written}
use Rattle.bidi_remote.specs.State.EventTexts.{written}
use Rattle.bidi_remote.specs.State.MissedRows.{place_of, IsEntry}
use Rattle.bidi_remote.specs.State.Stands.{AgreeWith}
use Rattle.bidi_remote.specs.State.Turns.{IsQuiet}
use Rattle.bidi_remote.proofs.LogLemmas.{rows-logged}
use Rattle.bidi_remote.proofs.PlaceLemmas.{entries-announced, entries-logged}
use Rattle.bidi_remote.proofs.ConnectionLemmas.{rows-opened, rows-dropped, rows-began, rows-ended, attachment-found}
use Rattle.bidi_remote.proofs.OpeningLemmas.{was_opened}
use Rattle.bidi_remote.proofs.SubscriptionLemmas.{session_rows-began, session_rows-ended, session_rows-subscribed}
use Rattle.bidi_remote.proofs.SubscriptionLemmas.{session_rows-cancelled, session_rows-dismissed, numbers-session_rows}
use Rattle.bidi_remote.proofs.RowLemmas.{changed-updated, one-row}
use Rattle.bidi_sessions.proofs.ListLemmas.{find-map}
use Rattle.bidi_sessions.specs.Limits.{most_connections}

-- ---- the tables after a deed

-- another moment
pub agree-time : (t : State) (past : List Deed) (n : JsUint) → AgreeWith t past → AgreeWith (record t { moment = n }) (Time n.value ∷ past)
agree-time t past n a = record { moment = refl; made = a.made; sessions = a.sessions; connections = a.connections; browser = a.browser; entries = a.entries }

-- the status was told
pub agree-told : (t : State) (past : List Deed) → AgreeWith t past → AgreeWith t (Told ∷ past)
agree-told t past a = record { moment = a.moment; made = a.made; sessions = a.sessions; connections = a.connections; browser = a.browser; entries = a.entries }

-- another browser that stands for the same
pub agree-kept : (t : State) (past : List Deed) (b : Browser) → AgreeWith t past → StandsFor b (acts past) → AgreeWith (record t { browser = b }) past
agree-kept t past b a stands =
    record { moment = a.moment; made = a.made; sessions = a.sessions; connections = a.connections; browser = stands; entries = a.entries }

-- what is no entry of the log is missed by nobody
quiet-act : (past : List Deed) (act : Act) → IsQuiet act → (s : ℕ) → missed (Did act ∷ past) s ≡ missed past s
quiet-act past (Logged c level line) quiet s = absurd quiet
quiet-act past act quiet s = refl

-- the browser did something else than to log
pub agree-did : (t : State) (past : List Deed) (act : Act) (b : Browser)
    → AgreeWith t past → IsQuiet act → StandsFor b (act ∷ acts past) → AgreeWith (record t { browser = b }) (Did act ∷ past)
agree-did t past act b a quiet stands =
    let same = quiet-act past act quiet in record {
      moment = a.moment;
      made = a.made;
      sessions =
          a.sessions ∙ sym (λ i. map (λ s.
          record { number = s; made = subscriptions_made past s; subscriptions = subscription_rows past s; missed = map place_of (last_hundred (same s i)) })
          (sessions past));
      connections = a.connections;
      browser = stands;
      entries = λ s. subst (AllByRecursion IsEntry) (sym (same s)) (a.entries s);
    }

-- it logged an entry, which each session hears or misses
pub agree-logged : (t : State) (past : List Deed) (c : ℕ) (level : Level) (line : List ℕ) (b : Browser) (s : Sessions) (w : Written)
    → AgreeWith t past → w ≡ written (entry_added (acts past) (moment past) c level line)
    → IsMessageText ghosts.shape w.text → s.made ≡ t.sessions.made
    → in_hand.rows_in s ≡ map (logged w) (in_hand.rows_in t.sessions) → StandsFor b (Logged c level line ∷ acts past)
    → AgreeWith (record t { browser = b; sessions = s }) (Did (Logged c level line) ∷ past)
agree-logged t past c level line b s w a is text made rows stands =
    let o = entry_added (acts past) (moment past) c level line in record {
      moment = a.moment;
      made = made ∙ a.made;
      sessions = rows ∙ (ap₂ (λ v all. map (logged v) all) is a.sessions ∙ sym (rows-logged past c level line));
      connections = a.connections;
      browser = stands;
      entries =
          λ k. entries-logged (is_enabled past k EntryAdded o.top) (missed past k) o refl
          (subst (λ v. IsMessageText ghosts.shape v.text) is text) (a.entries k);
    }

-- a connection more
pub agree-opened : (t : State) (past : List Deed) (c : ℕ) (s : Option ℕ) (v : Connections) → AgreeWith t past → is_shut (attachment_of past c) ≡ true
    → connections.rows_in v ≡ connections.rows_in t.connections ++ (c, opened_for s) ∷ [] → AgreeWith (record t { connections = v }) (Opened c s ∷ past)
agree-opened t past c s v a shut is = record {
  moment = a.moment;
  made = a.made;
  sessions = a.sessions;
  connections = is ∙ (ap (λ xs. xs ++ (c, opened_for s) ∷ []) a.connections ∙ sym (rows-opened past c s shut));
  browser = a.browser;
  entries = a.entries;
}

-- a connection less
pub agree-dropped : (t : State) (past : List Deed) (c : ℕ) (v : Connections)
    → AgreeWith t past → connections.rows_in v ≡ filter (λ row. not (row.0 == c)) (connections.rows_in t.connections)
    → AgreeWith (record t { connections = v }) (Dropped c ∷ past)
agree-dropped t past c v a is = record {
  moment = a.moment;
  made = a.made;
  sessions = a.sessions;
  connections = is ∙ (ap (filter (λ row. not (row.0 == c))) a.connections ∙ sym (rows-dropped past c));
  browser = a.browser;
  entries = a.entries;
}

-- of no entries, and of entries of which some are announced
if_none : (b : Bool) (ms : List Missed) → AllByRecursion IsEntry ms → AllByRecursion IsEntry (cond b [] ms)
if_none true ms all = tt
if_none false ms all = all

if_announced : (b : Bool) (p : Top → Bool) (ms : List Missed) → AllByRecursion IsEntry ms → AllByRecursion IsEntry (cond b (map (announced_at p) ms) ms)
if_announced true p ms all = entries-announced p ms all
if_announced false p ms all = all

-- a session more, which is that of an open connection and has no subscription yet
pub agree-began : (t : State) (past : List Deed) (c n : ℕ) (v : Connections) (s : Sessions)
    → AgreeWith t past → is_shut (attachment_of past c) ≡ false → subscriptions_made past (next_session past) ≡ 0 → n ≡ t.sessions.made + 1
    → s.made ≡ n → in_hand.rows_in s ≡ in_hand.rows_in t.sessions ++ begun n ∷ []
    → connections.rows_in v ≡ map (connections.begun c n) (connections.rows_in t.connections)
    → AgreeWith (record t { connections = v; sessions = s }) (Began c ∷ past)
agree-began t past c n v s a opened fresh next made more is =
    let number : n ≡ next_session past = let m = a.made in omega (arith, m, next) in record {
      moment = a.moment;
      made = made ∙ number;
      sessions = more ∙ (ap₂ (λ rows k. rows ++ begun k ∷ []) a.sessions number ∙ sym (session_rows-began past c fresh));
      connections = is ∙ (ap₂ (λ k rows. map (connections.begun c k) rows) number a.connections ∙ sym (rows-began past c opened));
      browser = a.browser;
      entries = λ k. if_none (k == next_session past) (missed past k) (a.entries k);
    }

-- a session less, and its connections
pub agree-ended : (t : State) (past : List Deed) (n : ℕ) (v : Connections) (s : Sessions)
    → AgreeWith t past → connections.rows_in v ≡ filter (λ row. not (is_for n row.1)) (connections.rows_in t.connections)
    → in_hand.rows_in s ≡ filter (λ r. not (r.number == n)) (in_hand.rows_in t.sessions)
    → s.made ≡ t.sessions.made → AgreeWith (record t { connections = v; sessions = s }) (Ended n ∷ past)
agree-ended t past n v s a shut less made = record {
  moment = a.moment;
  made = made ∙ a.made;
  sessions = less ∙ (ap (filter (λ r. not (r.number == n))) a.sessions ∙ sym (session_rows-ended past n));
  connections = shut ∙ (ap (filter (λ row. not (is_for n row.1))) a.connections ∙ sym (rows-ended past n));
  browser = a.browser;
  entries = a.entries;
}

module _ (t : State) (past : List Deed) (n : ℕ) (s : Sessions) (a : AgreeWith t past) (made : s.made ≡ t.sessions.made) where
  -- the first of that number is the only one
  row-changed : (f : SessionRow → SessionRow)
      → in_hand.rows_in s ≡ changed n f (in_hand.rows_in t.sessions) → in_hand.rows_in s ≡ updated n f (session_rows past)
  row-changed f is = is ∙ (ap (changed n f) a.sessions ∙ changed-updated n f (session_rows past) (one-row past n))

  -- a subscription more
  pub agree-subscribed : (es : List EventName) (scope : Scope)
      → is_active past n ≡ true → in_hand.rows_in s ≡ changed n (subscribed (acts past) es scope) (in_hand.rows_in t.sessions)
      → AgreeWith (record t { sessions = s }) (Subscribed n es scope ∷ past)
  agree-subscribed es scope active is = record {
    moment = a.moment;
    made = made ∙ a.made;
    sessions = row-changed (subscribed (acts past) es scope) is ∙ sym (session_rows-subscribed past n es scope active);
    connections = a.connections;
    browser = a.browser;
    entries = λ k. if_announced (k == n) _ (missed past k) (a.entries k);
  }

  -- subscriptions less
  pub agree-cancelled : (ns : List ℕ) → in_hand.rows_in s ≡ changed n (cancelled ns) (in_hand.rows_in t.sessions)
      → AgreeWith (record t { sessions = s }) (Cancelled n ns ∷ past)
  agree-cancelled ns is = record {
    moment = a.moment;
    made = made ∙ a.made;
    sessions = row-changed (cancelled ns) is ∙ sym (session_rows-cancelled past n ns);
    connections = a.connections;
    browser = a.browser;
    entries = a.entries;
  }

  -- events less
  pub agree-dismissed : (es : List EventName)
      → in_hand.rows_in s ≡ changed n (lost es) (in_hand.rows_in t.sessions) → AgreeWith (record t { sessions = s }) (Dismissed n es ∷ past)
  agree-dismissed es is = record {
    moment = a.moment;
    made = made ∙ a.made;
    sessions = row-changed (lost es) is ∙ sym (session_rows-dismissed past n es);
    connections = a.connections;
    browser = a.browser;
    entries = a.entries;
  }

-- ---- what the tables say

-- how a connection stands
pub stands : (t : State) (h : List Input) (c : ℕ) (x : Attachment)
    → AgreeWith t (deeds h) → x ≡ attachment_in (find (λ row. row.0 == c) (connections.rows_in t.connections)) → x ≡ attachment_of (deeds h) c
stands t h c x a is = is ∙ attachment-found (deeds h) c (connections.rows_in t.connections) (was_opened h c) a.connections

-- what is not said to be shut is open
pub not_shut : (s : declared_attachment.Attachment) → (s ≡ in_code.Shut → ⊥) → is_shut (attachment_in_hand s) ≡ false
not_shut in_code.Shut h = absurd (h refl)
not_shut in_code.Alone h = refl
not_shut (in_code.SpeaksFor s) h = refl

-- as many connections are open
length-open : (t : State) (past : List Deed) → AgreeWith t past → length (connections.rows_in t.connections) ≡ length (open_connections past)
length-open t past a = ap length a.connections ∙ length-map (open_connections past) (λ c. (c, attachment_of past c))

-- a resource names what it names
resource-names : (t : State) (past : List Deed) (resource : List ℕ) (o : Option (Option ℕ)) → AgreeWith t past
    → o ≡ (if bytes_eq resource (codes "/session") then Some None else option_map (λ r. Some r.number)
    (find (λ r. bytes_eq resource (codes "/session/" ++ id_of OfSession r.number)) (in_hand.rows_in t.sessions)))
    → session_of_resource past resource ≡ o
resource-names t past resource o a is =
    let named = λ (n : ℕ). bytes_eq resource (codes "/session/" ++ id_of OfSession n) in
    sym (is ∙ ap (λ o. if bytes_eq resource (codes "/session") then Some None else o)
    (sym (find-map (λ r. r.number) Some named (in_hand.rows_in t.sessions))
    ∙ ap (λ ns. option_map Some (find named ns)) (ap (map (λ r. r.number)) a.sessions ∙ numbers-session_rows past)))

-- what may not be opened is denied
opening-denied : (past : List Deed) (c : ℕ) (o : Option (Option ℕ)) → may_open past c ≡ false → opening past c o ≡ Err (Denied c)
opening-denied past c None no_room = refl
opening-denied past c (Some s) no_room = rw no_room refl

opening-may : (past : List Deed) (c : ℕ) (o : Option (Option ℕ)) → may_open past c ≡ true → opening past c o ≡ opening_by c o
opening-may past c None room = refl
opening-may past c (Some s) room = rw room refl

-- a connection that is shut may be opened where there is room
pub opens : (t : State) (past : List Deed) (c : ℕ) (resource : List ℕ) (o : Option (Option ℕ)) (room : Bool)
    → AgreeWith t past → attachment_of past c ≡ Shut → room ≡ nat_lt (length (connections.rows_in t.connections)) most_connections → room ≡ true
    → o ≡ (if bytes_eq resource (codes "/session") then Some None else option_map (λ r. Some r.number)
    (find (λ r. bytes_eq resource (codes "/session/" ++ id_of OfSession r.number)) (in_hand.rows_in t.sessions)))
    → opening_by c o ≡ turn past (Open c resource)
opens t past c resource o room a shut has free is =
    let may : may_open past c ≡ true = rw (shut, sym (ap (λ n. nat_lt n most_connections) (length-open t past a)) ∙ (sym has ∙ free)) refl in
    sym (ap (opening past c) (resource-names t past resource o a is) ∙ opening-may past c o may)

-- and is denied where there is none
pub opens-full : (t : State) (past : List Deed) (c : ℕ) (resource : List ℕ) (room : Bool) → AgreeWith t past
    → room ≡ nat_lt (length (connections.rows_in t.connections)) most_connections → room ≡ false → Err (Denied c) ≡ turn past (Open c resource)
opens-full t past c resource room a has none =
    let may : may_open past c ≡ false = full (not (is_open past c)) (sym (ap (λ n. nat_lt n most_connections) (length-open t past a)) ∙ (sym has ∙ none)) in
    sym (opening-denied past c (session_of_resource past resource) may)
  where
    full : (b : Bool) {r : Bool} → r ≡ false → (b && r) ≡ false
    full true none = none
    full false none = refl

-- so is one that is open
pub opens-open : (past : List Deed) (c : ℕ) (resource : List ℕ) → is_shut (attachment_of past c) ≡ false → Err (Denied c) ≡ turn past (Open c resource)
opens-open past c resource opened = let may : may_open past c ≡ false = rw opened refl in sym (opening-denied past c (session_of_resource past resource) may)
