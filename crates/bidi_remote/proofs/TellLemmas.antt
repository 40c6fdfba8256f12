-- What is sent for a turn, by the tables and by the past.
use Rattle.std.proofs.Common.{◌≡◌, ◌∙◌, ℕ, Bool, true, false, ◌&&◌, List, [], ◌∷◌, ◌++◌, append_assoc, map}
use Rattle.std.proofs.Common.{flat_map, Option, Result, Ok, Err, refl, sym, ap, ap₂, subst, arith}
use Rattle.std.specs.Prelude.{filter, IfOk}
use Rattle.std.specs.List.{AllByRecursion, list_any}
use Rattle.std.proofs.lemmas.Bool.Decides.{nat_tests}
use Rattle.std.proofs.lemmas.Grind.{flat_map-append}
use Rattle.bidi_methods.specs.declared.event_data.EventName.{EventName}
use Rattle.bidi_messages.specs.contracts.message.MessageShape.TheImpl.{ghosts}
use Rattle.bidi_messages.specs.Reading.{IsMessageText}
use Rattle.bidi_contexts.specs.declared.occurrence.Top.{Top}
use Rattle.bidi_contexts.specs.Contexts.{up_to}
use Rattle.bidi_contexts.specs.Occurrences.{Occurrence}
use Rattle.bidi_browser.specs.Occurs.{Item, Happens}
use Rattle.bidi_remote.specs.Machine.History as history
use Rattle.bidi_remote.specs.Machine.History.{Deed}
use Rattle.bidi_remote.specs.Machine.Connections.{is_for}
use Rattle.bidi_remote.specs.Machine.Sessions.{is_active, sessions, sessions_made}
use Rattle.bidi_remote.specs.Machine.Subscriptions.{is_enabled}
use Rattle.bidi_remote.specs.Machine.Sent.{Sent, Text, Close, occurrence_text, to_session, hearers, to_hearers, closed}
use Rattle.bidi_sessions.specs.ConnectionRows as connections
use Rattle.bidi_remote.specs.State.ConnectionRows.{rows}
use Rattle.bidi_sessions.specs.ConnectionRows.{to_each}
use Rattle.bidi_active.specs.SessionRows.{SessionRow}
use Rattle.bidi_remote.specs.State.SessionRows.{session_row, session_rows, subscription_rows}
use Rattle.bidi_sessions.specs.SubscriptionRows.{any_covers}
use Rattle.bidi_remote.specs.Machine.Messages.{ReadsBack, AllReadBack}
use Rattle.bidi_active.specs.Written.{Written}
use Rattle.bidi_remote.specs.State.EventTexts.{AreMessages}
use Rattle.bidi_remote.specs.State.Routes.{to_one, to_all}
use Rattle.bidi_remote.specs.State.Turns.{sent_for, sent_of_item, to_subscriber, to_subscriber_in, closed_in}
use Rattle.bidi_sessions.proofs.ListLemmas.{all-append, flat_map-same}
use Rattle.bidi_remote.proofs.ConnectionLemmas.{each-past}
use Rattle.bidi_remote.proofs.SubscriptionLemmas.{covers-enabled}

-- ---- the sessions that hear an event, one after another

module _ (rows : List connections.ConnectionRow) (text : List ℕ) (e : EventName) (top : Top) where
  abbrev pub heard : List SessionRow → List Sent
  heard all = flat_map (λ r. to_each (λ n. Text n text) r.number rows) (filter (λ r. any_covers r.subscriptions e top) all)

  -- the next one hears it
  pub heard-next : (r : SessionRow) (rest : List SessionRow) (sent : List Sent) → any_covers r.subscriptions e top ≡ true
      → sent ++ heard (r ∷ rest) ≡ (sent ++ to_each (λ n. Text n text) r.number rows) ++ heard rest
  heard-next r rest sent is = rw is (sym (append_assoc sent (to_each (λ n. Text n text) r.number rows) (heard rest)))

  -- it does not
  pub heard-other : (r : SessionRow) (rest : List SessionRow) → any_covers r.subscriptions e top ≡ false → heard (r ∷ rest) ≡ heard rest
  heard-other r rest is = rw is refl

  -- nobody does
  pub heard-none : {X : Type 0} (row : X → SessionRow) (all : List X)
      → list_any (λ x. any_covers (row x).subscriptions e top) all ≡ false → heard (map row all) ≡ []
  heard-none row [] none = refl
  heard-none row (x ∷ all) none = let ih = heard-none row all in grind (arith, nat_tests, ih, none)

-- ---- by the past

-- each connection of a session is sent what each that speaks for it is
to_one-past : (past : List Deed) (s : ℕ) (o : Occurrence) → to_one (rows past) s (occurrence_text o) ≡ to_session past o s
to_one-past past s o = each-past (λ c. Text c (occurrence_text o)) past s

-- the rows of the active sessions that hear an event
rows_hear : (past : List Deed) (o : Occurrence) (b : Bool) (s : ℕ)
    → is_active past s ≡ b → (b && any_covers (subscription_rows past s) o.event o.top) ≡ is_enabled past s o.event o.top
rows_hear past o b s is = ap (λ a. a && any_covers (subscription_rows past s) o.event o.top) (sym is) ∙ sym (covers-enabled past s o.event o.top)

hearing : {X : Type 0} (f : SessionRow → List X) (row : ℕ → SessionRow) (hears : SessionRow → Bool) (active enabled : ℕ → Bool) (ns : List ℕ)
    → ((s : ℕ) → (active s && hears (row s)) ≡ enabled s)
    → flat_map f (filter hears (map row (filter active ns))) ≡ flat_map (λ s. f (row s)) (filter enabled (filter active ns))
hearing f row hears active enabled [] same = refl
hearing f row hears active enabled (n ∷ ns) same = let ih = hearing f row hears active enabled ns same in let at = same n in grind (arith, nat_tests, ih, at)

-- an event goes to its hearers
pub to_all-past : (past : List Deed) (o : Occurrence) → to_all (session_rows past) (rows past) o ≡ to_hearers past o
to_all-past past o =
    hearing (λ r. to_one (rows past) r.number (occurrence_text o)) (session_row past) (λ r. any_covers r.subscriptions o.event o.top)
    (is_active past) (λ s. is_enabled past s o.event o.top) (up_to (sessions_made past))
    (λ s. rows_hear past o (is_active past s) s refl)
    ∙ flat_map-same _ _ (hearers past o) (λ s. to_one-past past s o)

-- what is announced goes to the session that subscribed
to_subscriber-past : (past : List Deed) (d : Deed) (ws : List Written) → to_subscriber_in (rows past) d ws ≡ to_subscriber past d ws
to_subscriber-past past (history.Subscribed s es scope) ws = flat_map-same _ _ ws (λ w. each-past (λ c. Text c w.text) past s)
to_subscriber-past past d ws = refl

-- the end of a session closes its connections
closed-past : (past : List Deed) (d : Deed) → closed_in (rows past) d ≡ closed past d
closed-past past (history.Ended s) = each-past Close past s
closed-past past d = refl

-- items that are events
sent-happened : (past : List Deed) (asker : Option (ℕ × ℕ)) (os : List Occurrence)
    → flat_map (sent_of_item past asker) (map Happens os) ≡ flat_map (to_all (session_rows past) (rows past)) os
sent-happened past asker [] = refl
sent-happened past asker (o ∷ os) = ap₂ (λ xs ys. xs ++ ys) (sym (to_all-past past o)) (sent-happened past asker os)

-- all of them, and the reply among them
sent-items : (past : List Deed) (asker : Option (ℕ × ℕ)) (before after : List Occurrence) (reply : List Item)
    → flat_map (sent_of_item past asker) (map Happens before ++ (reply ++ map Happens after))
    ≡ flat_map (to_all (session_rows past) (rows past)) before
    ++ (flat_map (sent_of_item past asker) reply ++ flat_map (to_all (session_rows past) (rows past)) after)
sent-items past asker before after reply =
    flat_map-append (sent_of_item past asker) (map Happens before) (reply ++ map Happens after)
    ∙ ap₂ (λ xs ys. xs ++ ys) (sent-happened past asker before)
    (flat_map-append (sent_of_item past asker) reply (map Happens after)
    ∙ ap (λ ys. flat_map (sent_of_item past asker) reply ++ ys) (sent-happened past asker after))

-- one after another
pub in-order : {X : Type 0} (a b c d e : List X) → (((a ++ b) ++ c) ++ d) ++ e ≡ a ++ ((b ++ (c ++ d)) ++ e)
in-order a b c d e =
    ap (λ xs. xs ++ e) (append_assoc (a ++ b) c d ∙ append_assoc a b (c ++ d)) ∙ append_assoc a (b ++ (c ++ d)) e

-- what is sent by the rows of the tables, in its order
abbrev pub sent_in : List SessionRow → List connections.ConnectionRow → Deed → List Sent → List Written → List Occurrence → List Occurrence → List Sent
sent_in sessions rows d replied announced before after =
    to_subscriber_in rows d announced ++ ((flat_map (to_all sessions rows) before ++ (replied ++ flat_map (to_all sessions rows) after)) ++ closed_in rows d)

-- it is what the past says
pub sent_in-past : (past : List Deed) (d : Deed) (asker : Option (ℕ × ℕ)) (announced : List Written) (before after : List Occurrence)
    (reply : List Item) (replied : List Sent)
    → replied ≡ flat_map (sent_of_item past asker) reply
    → sent_in (session_rows past) (rows past) d replied announced before after
    ≡ sent_for past asker d announced (map Happens before ++ (reply ++ map Happens after))
sent_in-past past d asker announced before after reply replied is =
    let all = flat_map (to_all (session_rows past) (rows past)) in
    ap₂ (λ xs ys. xs ++ ys) (to_subscriber-past past d announced)
    (ap₂ (λ xs ys. xs ++ ys) (ap (λ xs. all before ++ (xs ++ all after)) is ∙ sym (sent-items past asker before after reply)) (closed-past past d))

-- ---- texts that read back

all-map : {X Y : Type 0} (P : Y → Type 0) (f : X → Y) → ((x : X) → P (f x)) → (xs : List X) → AllByRecursion P (map f xs)
all-map P f each [] = tt
all-map P f each (x ∷ xs) = (each x, all-map P f each xs)

all-flat_map : {X Y : Type 0} (P : Y → Type 0) (f : X → List Y) → ((x : X) → AllByRecursion P (f x)) → (xs : List X) → AllByRecursion P (flat_map f xs)
all-flat_map P f each [] = tt
all-flat_map P f each (x ∷ xs) = all-append P (f x) (flat_map f xs) (each x) (all-flat_map P f each xs)

-- what was sent, and what is added to it
pub more-read : (old more : List Sent) {all : List Sent} → all ≡ old ++ more → AllReadBack more → AllReadBack old → AllReadBack all
more-read old more is added before = subst AllReadBack (sym is) (all-append ReadsBack old more before added)

-- the same, where it was added
pub if-more-read : {D E : Type 0} (r : Result D E) (old more all : List Sent)
    → IfOk r (λ done. all ≡ old ++ more) → AllReadBack more → AllReadBack old → IfOk r (λ done. AllReadBack all)
if-more-read (Ok done) old more all is added before = more-read old more is added before
if-more-read (Err e) old more all is added before = tt

module _ (rows : List connections.ConnectionRow) (text : List ℕ) (is : IsMessageText ghosts.shape text) where
  -- a text to each connection of a session
  pub each-reads : (s : ℕ) → AllReadBack (to_each (λ c. Text c text) s rows)
  each-reads s = all-map ReadsBack (λ row. Text row.0 text) (λ row. is) (filter (λ row. is_for s row.1) rows)

  -- and to those of all sessions that hear an event
  pub heard-read : (e : EventName) (top : Top) (all : List SessionRow) → AllReadBack (heard rows text e top all)
  heard-read e top all =
      all-flat_map ReadsBack (λ r. to_each (λ n. Text n text) r.number rows) (λ r. each-reads r.number)
      (filter (λ r. any_covers r.subscriptions e top) all)

-- what is announced reads back
pub subscriber-read : (rows : List connections.ConnectionRow) (d : Deed) (ws : List Written) → AreMessages ws → AllReadBack (to_subscriber_in rows d ws)
subscriber-read rows (history.Subscribed s es scope) [] all = tt
subscriber-read rows (history.Subscribed s es scope) (w ∷ ws) all =
    all-append ReadsBack (to_one rows s w.text) (flat_map (λ v. to_one rows s v.text) ws) (each-reads rows w.text all.0 s)
    (subscriber-read rows (history.Subscribed s es scope) ws all.1)
subscriber-read rows d ws all = tt

-- closes are no texts
pub closed-read : (rows : List connections.ConnectionRow) (d : Deed) → AllReadBack (closed_in rows d)
closed-read rows (history.Ended s) = all-map ReadsBack (λ row. Close row.0) (λ row. tt) (filter (λ row. is_for s row.1) rows)
closed-read rows d = tt
