-- How the table of subscriptions moves with the past.
use Rattle.std.proofs.Common.{◌≡◌, ◌∙◌, ◌<◌, ◌≤◌, ℕ, suc, zero, Bool, true, false, not, ◌&&◌, ◌||◌, List, [], ◌∷◌}
use Rattle.std.proofs.Common.{◌++◌, length, Some, refl, sym, ap, ap₂, subst, arith, eq-eqb, eqb-true}
use Rattle.std.specs.Prelude.{◌==◌, filter, map, find, bytes_eq, option_map, if◌then◌else◌}
use Rattle.std.specs.List.{list_any, list_all}
use Rattle.std.proofs.Math.Bool.{and-true, and-false, and_assoc}
use Rattle.std.proofs.Math.Dec.{eqb-suc-zero}
use Rattle.std.proofs.lemmas.Bool.Decides.{nat_tests}
use Rattle.std.proofs.lemmas.List.{map-append, map-id}
use Rattle.std.proofs.lemmas.List.Elements.{filter-append}
use Rattle.std.proofs.lemmas.List.Folds.{list_any-append}
use Rattle.std.proofs.lemmas.Simd.{map-map}
use Rattle.bidi_methods.specs.declared.event_data.EventName.{EventName}
use Rattle.bidi_methods.specs.declared.event_data.EventName.TheVariants.{EntryAdded}
use Rattle.bidi_methods.specs.EventName.{events as all_events}
use Rattle.bidi_handles.specs.declared.id.IdKind.TheVariants.{Subscription}
use Rattle.bidi_handles.specs.Ids.{id_text}
use Rattle.bidi_contexts.specs.declared.occurrence.Top.{Top}
use Rattle.bidi_contexts.specs.Contexts.{up_to, is_alive}
use Rattle.bidi_contexts.specs.Occurrences.{is_among}
use Rattle.bidi_remote.specs.Machine.History.{Deed, Began, Ended, Subscribed, Cancelled, Dismissed, Scope, acts}
use Rattle.bidi_remote.specs.Machine.Sessions.{sessions_made, next_session, is_active, sessions}
use Rattle.bidi_remote.specs.Machine.Subscriptions.{subscriptions_made, next_subscription, subscriptions, events_of, scope_of, is_listed}
use Rattle.bidi_remote.specs.Machine.Subscriptions.{is_global, is_kept, is_live, holds, holds_globally, covers, is_enabled}
use Rattle.bidi_remote.specs.Machine.Subscriptions.{is_newly_enabled}
use Rattle.bidi_sessions.specs.SubscriptionRows.{SubscriptionRow}
use Rattle.bidi_remote.specs.State.SessionRows.{row_at, events_left, subscription_rows}
use Rattle.bidi_active.specs.SessionRows.{SessionRow}
use Rattle.bidi_remote.specs.State.SessionRows.{session_row, session_rows}
use Rattle.bidi_sessions.specs.SubscriptionRows.{any_covers, any_global, row_covers, without}
use Rattle.bidi_sessions.specs.SubscriptionRows.{loses_all, stripped, dismissed}
use Rattle.bidi_active.specs.SessionRows.{begun, subscribed, cancelled, changed}
use Rattle.bidi_remote.specs.State.SessionRows.{updated}
use Rattle.bidi_active.specs.News.{is_new}
use Rattle.bidi_remote.specs.State.MissedRows.{places}
use Rattle.bidi_active.specs.Places.{all_left}
use Rattle.bidi_remote.specs.Machine.LogBuffer.{missed}
use Rattle.bidi_sessions.proofs.EventLemmas.{is_among-all, some_passes, any_event, is_among-filter, filter-is_among}
use Rattle.bidi_sessions.proofs.ListLemmas.{each-passing}
use Rattle.bidi_remote.proofs.PlaceLemmas.{places-announced}
use Rattle.bidi_remote.proofs.SessionLemmas.{both, active_made, sessions-began}

-- ---- what a subscription holds for

-- it holds for events that it named
holds_named : (past : List Deed) (s n : ℕ) (e : EventName) → holds past s n e ≡ true → is_among (events_of past s n) e ≡ true
holds_named [] s n e held = cc
holds_named (Subscribed t es scope ∷ past) s n e held = let ih = holds_named past s n e in grind (arith, nat_tests, ih)
holds_named (Cancelled t ns ∷ past) s n e held = let ih = holds_named past s n e in grind (arith, nat_tests, ih)
holds_named (Dismissed t es ∷ past) s n e held = let ih = holds_named past s n e in grind (arith, nat_tests, ih)
holds_named (d ∷ past) s n e held = holds_named past s n e held

-- and only while it is kept
holds_kept : (past : List Deed) (s n : ℕ) (e : EventName) → holds past s n e ≡ true → is_kept past s n ≡ true
holds_kept [] s n e held = cc
holds_kept (Subscribed t es scope ∷ past) s n e held = let ih = holds_kept past s n e in grind (arith, nat_tests, ih)
holds_kept (Cancelled t ns ∷ past) s n e held = let ih = holds_kept past s n e in grind (arith, nat_tests, ih)
holds_kept (Dismissed t es ∷ past) s n e held = let ih = holds_kept past s n e in grind (arith, nat_tests, ih)
holds_kept (d ∷ past) s n e held = holds_kept past s n e held

-- so what holds for an event is live
holds_live : (past : List Deed) (s n : ℕ) (e : EventName) → holds past s n e ≡ true → is_live past s n ≡ true
holds_live past s n e held = rw (holds_kept past s n e held, some_passes (holds past s n) all_events e (is_among-all e) held) (grind (arith, nat_tests))

-- and it is live while it holds for an event that it named
is_live-named : (past : List Deed) (s n : ℕ)
    → is_live past s n ≡ (is_kept past s n && (length (events_of past s n) == 0 || list_any (holds past s n) (events_of past s n)))
is_live-named past s n =
    ap (λ b. is_kept past s n && (length (events_of past s n) == 0 || b)) (any_event (holds past s n) (events_of past s n) (holds_named past s n))

-- it holds for the events that are left
left_holds : (past : List Deed) (s n : ℕ) (e : EventName) → is_among (events_left past s n) e ≡ holds past s n e
left_holds past s n e = let left = is_among-filter (holds past s n) (events_of past s n) e in let named = holds_named past s n e in grind (arith, left, named)

-- ---- rows

-- a row, by what the past tells of its subscription
row_is : (past : List Deed) (s n : ℕ) (es : List EventName) (scope : Scope) (h : EventName → Bool)
    → events_of past s n ≡ es → scope_of past s n ≡ scope → ((e : EventName) → holds past s n e ≡ h e)
    → row_at past s n ≡ record { number = n; events = filter h es; scope = scope }
row_is past s n es scope h named reach held = λ i. record { number = n; events = filter (λ e. held e i) (named i); scope = reach i }

-- the rows of two pasts that tell the same of each subscription
rows_agree : (past next : List Deed) (s : ℕ) → subscriptions_made next s ≡ subscriptions_made past s
    → ((n : ℕ) → is_live next s n ≡ is_live past s n) → ((n : ℕ) → row_at next s n ≡ row_at past s n)
    → subscription_rows next s ≡ subscription_rows past s
rows_agree past next s made live row = λ i. map (λ n. row n i) (filter (λ n. live n i) (up_to (made i)))

-- the rows of some numbers, and then of others
rows_append : (f : ℕ → SubscriptionRow) (p : ℕ → Bool) (ms ns : List ℕ) → map f (filter p (ms ++ ns)) ≡ map f (filter p ms) ++ map f (filter p ns)
rows_append f p ms ns = ap (map f) (filter-append p ms ns) ∙ map-append f (filter p ms) (filter p ns)

-- rows that are the same but for one number, up to a smaller one
rows_below : (f g : ℕ → SubscriptionRow) (p q : ℕ → Bool) (m k : ℕ)
    → k < m → ((n : ℕ) → (n == m) ≡ false → p n ≡ q n) → ((n : ℕ) → (n == m) ≡ false → f n ≡ g n)
    → map f (filter p (up_to k)) ≡ map g (filter q (up_to k))
rows_below f g p q m zero less live row = refl
rows_below f g p q m (suc k) less live row =
    let ih = rows_below f g p q m k (omega arith) live row in
    let a = live (suc k) in
    let b = row (suc k) in
    let left = rows_append f p (up_to k) (suc k ∷ []) in
    let right = rows_append g q (up_to k) (suc k ∷ []) in
    grind (arith, nat_tests, ih, a, b, left, right)

-- some rows go, and the others change
rows_change : {X : Type 0} (f g : ℕ → X) (p q : ℕ → Bool) (keeps : X → Bool) (change : X → X) (ns : List ℕ)
    → ((n : ℕ) → p n ≡ (q n && keeps (g n))) → ((n : ℕ) → keeps (g n) ≡ true → f n ≡ change (g n))
    → map f (filter p ns) ≡ map change (filter keeps (map g (filter q ns)))
rows_change f g p q keeps change [] live row = refl
rows_change f g p q keeps change (n ∷ ns) live row =
    let ih = rows_change f g p q keeps change ns live row in
    let a = live n in
    let b = row n in
    grind (arith, nat_tests, ih, a, b)

-- a number is itself
itself : (n : ℕ) → (n == n) ≡ true
itself n = eq-eqb n n refl

-- ---- a new subscription

-- it holds for one of the eight events, or named none
named_some : (es : List EventName) → (length es == 0 || list_any (is_among es) all_events) ≡ true
named_some [] = refl
named_some (e ∷ es) = rw (eqb-suc-zero (length es)) (some_passes (is_among (e ∷ es)) all_events e (is_among-all e) (grind (arith, nat_tests)))

module _ (past : List Deed) (s : ℕ) (es : List EventName) (scope : Scope) where
  -- it is live
  live-made : is_live (Subscribed s es scope ∷ past) s (next_subscription past s) ≡ true
  live-made = rw (itself s, itself (next_subscription past s)) (named_some es)

  -- its row
  row-made : row_at (Subscribed s es scope ∷ past) s (next_subscription past s) ≡ record { number = next_subscription past s; events = es; scope = scope }
  row-made =
      let n = next_subscription past s in
      row_is (Subscribed s es scope ∷ past) s n es scope (is_among es) (rw (itself s, itself n) refl) (rw (itself s, itself n) refl)
      (λ e. rw (itself s, itself n) refl)
      ∙ ap (λ left. record { number = n; events = left; scope = scope }) (filter-is_among es es (λ e here. here))

  -- those of before are live as before
  live-before : (n : ℕ) → (n == next_subscription past s) ≡ false → is_live (Subscribed s es scope ∷ past) s n ≡ is_live past s n
  live-before n apart = rw (itself s, apart) refl

  -- their rows
  row-before : (n : ℕ) → (n == next_subscription past s) ≡ false → row_at (Subscribed s es scope ∷ past) s n ≡ row_at past s n
  row-before n apart =
      row_is (Subscribed s es scope ∷ past) s n (events_of past s n) (scope_of past s n) (holds past s n) (rw (itself s, apart) refl)
      (rw (itself s, apart) refl) (λ e. rw (itself s, apart) refl)

  -- the new row is the last
  pub rows-subscribed : subscription_rows (Subscribed s es scope ∷ past) s
      ≡ subscription_rows past s ++ record { number = next_subscription past s; events = es; scope = scope } ∷ []
  rows-subscribed =
      let next = Subscribed s es scope ∷ past in
      let n = next_subscription past s in
      let front = rows_below (row_at next s) (row_at past s) (is_live next s) (is_live past s) n (subscriptions_made past s)
      (omega arith) live-before row-before in
      let last : map (row_at next s) (filter (is_live next s) (n ∷ [])) ≡ record { number = n; events = es; scope = scope } ∷ [] =
      rw live-made (ap (λ r. r ∷ []) row-made) in
      rw (itself s) (rows_append (row_at next s) (is_live next s) (up_to (subscriptions_made past s)) (n ∷ []) ∙ (λ i. front i ++ last i))

-- the rows of another session stay
pub rows-subscribed-other : (past : List Deed) (s t : ℕ) (es : List EventName) (scope : Scope)
    → (s == t) ≡ false → subscription_rows (Subscribed t es scope ∷ past) s ≡ subscription_rows past s
rows-subscribed-other past s t es scope apart =
    rows_agree past (Subscribed t es scope ∷ past) s (rw apart refl) (λ n. rw apart refl)
    (λ n. row_is (Subscribed t es scope ∷ past) s n (events_of past s n) (scope_of past s n) (holds past s n) (rw apart refl)
    (rw apart refl) (λ e. rw apart refl))

-- and so does the number of those that it made
pub made-subscribed-other : (past : List Deed) (s t : ℕ) (es : List EventName) (scope : Scope)
    → (s == t) ≡ false → subscriptions_made (Subscribed t es scope ∷ past) s ≡ subscriptions_made past s
made-subscribed-other past s t es scope apart = rw apart refl

-- ---- an unsubscribe by ids

-- what is not named stays live
live-cancelled : (past : List Deed) (s n : ℕ) (ns : List ℕ) (b : Bool) → is_listed ns n ≡ b → is_live (Cancelled s ns ∷ past) s n ≡ (is_live past s n && not b)
live-cancelled past s n ns true named = rw (itself s, named) (sym (and-false (is_live past s n)))
live-cancelled past s n ns false named = rw (itself s, named) (sym (and-true (is_live past s n)))

-- and keeps its row
row-cancelled : (past : List Deed) (s n : ℕ) (ns : List ℕ) → not (is_listed ns n) ≡ true → row_at (Cancelled s ns ∷ past) s n ≡ row_at past s n
row-cancelled past s n ns stays =
    let free : is_listed ns n ≡ false = grind arith in
    row_is (Cancelled s ns ∷ past) s n (events_of past s n) (scope_of past s n) (holds past s n) refl refl (λ e. rw (itself s, free) refl)

-- the rows with those numbers go
pub rows-cancelled : (past : List Deed) (s : ℕ) (ns : List ℕ) → subscription_rows (Cancelled s ns ∷ past) s ≡ without ns (subscription_rows past s)
rows-cancelled past s ns =
    rows_change (row_at (Cancelled s ns ∷ past) s) (row_at past s) (is_live (Cancelled s ns ∷ past) s) (is_live past s)
    (λ r. not (is_listed ns r.number)) (λ r. r) (up_to (subscriptions_made past s))
    (λ n. live-cancelled past s n ns (is_listed ns n) refl) (λ n. row-cancelled past s n ns)
    ∙ map-id (without ns (subscription_rows past s))

-- the rows of another session stay
pub rows-cancelled-other : (past : List Deed) (s t : ℕ) (ns : List ℕ)
    → (s == t) ≡ false → subscription_rows (Cancelled t ns ∷ past) s ≡ subscription_rows past s
rows-cancelled-other past s t ns apart =
    rows_agree past (Cancelled t ns ∷ past) s refl (λ n. rw apart refl)
    (λ n. row_is (Cancelled t ns ∷ past) s n (events_of past s n) (scope_of past s n) (holds past s n) refl refl (λ e. rw apart refl))

-- ---- an unsubscribe by events

-- one passes where some are left
any_left : {X : Type 0} (p : X → Bool) (xs : List X) → list_any p xs ≡ not (length (filter p xs) == 0)
any_left p [] = refl
any_left p (x ∷ xs) = let ih = any_left p xs in grind (arith, nat_tests, ih)

-- one passes and does not go, where not all that are left go
any_stays : {X : Type 0} (p goes : X → Bool) (xs : List X) → list_any (λ x. not (goes x) && p x) xs ≡ not (list_all goes (filter p xs))
any_stays p goes [] = refl
any_stays p goes (x ∷ xs) = let ih = any_stays p goes xs in grind (arith, nat_tests, ih)

-- none of no items stays
none_stays : {X : Type 0} (goes : X → Bool) (xs : List X) → (length xs == 0) ≡ true → list_all goes xs ≡ true
none_stays goes [] none = refl
none_stays goes (x ∷ xs) none = grind (arith, nat_tests)

-- there was none, or one stays, where there was none or one, and not all that were left go
left_after : {X : Type 0} (p goes : X → Bool) (xs : List X)
    → (length xs == 0 || list_any (λ x. not (goes x) && p x) xs)
    ≡ ((length xs == 0 || list_any p xs) && not (not (length (filter p xs) == 0) && list_all goes (filter p xs)))
left_after p goes [] = refl
left_after p goes (x ∷ xs) =
    let none = none_stays goes (filter p (x ∷ xs)) in
    rw (any_left p (x ∷ xs), any_stays p goes (x ∷ xs)) (grind (arith, nat_tests, none))

-- what is live stays so, unless it is global and loses its last events
live-dismissed : (past : List Deed) (s n : ℕ) (es : List EventName) (b : Bool) → is_global (scope_of past s n) ≡ b
    → is_live (Dismissed s es ∷ past) s n ≡ (is_live past s n && not (loses_all es (row_at past s n)))
live-dismissed past s n es true wide =
    let next = Dismissed s es ∷ past in
    let named = events_of past s n in
    let held : (e : EventName) → holds next s n e ≡ (not (is_among es e) && holds past s n e) = λ e. rw (itself s, wide) refl in
    let left = filter (holds past s n) named in
    let lost = not (length left == 0) && list_all (is_among es) left in
    is_live-named next s n
    ∙ ((λ i. is_kept past s n && (length named == 0 || list_any (λ e. held e i) named))
    ∙ (ap (λ b. is_kept past s n && b) (left_after (holds past s n) (is_among es) named)
    ∙ (sym (and_assoc (is_kept past s n) (length named == 0 || list_any (holds past s n) named) (not lost))
    ∙ (λ i. sym (is_live-named past s n) i && not (sym wide i && lost)))))
live-dismissed past s n es false wide = rw (itself s, wide) (sym (and-true (is_live past s n)))

-- a global row loses those events
row-dismissed : (past : List Deed) (s n : ℕ) (es : List EventName) (b : Bool)
    → is_global (scope_of past s n) ≡ b → row_at (Dismissed s es ∷ past) s n ≡ stripped es (row_at past s n)
row-dismissed past s n es true wide =
    rw wide (row_is (Dismissed s es ∷ past) s n (events_of past s n) (scope_of past s n) (λ e. not (is_among es e) && holds past s n e) refl
    refl (λ e. rw (itself s, wide) refl)
    ∙ ap (λ left. record { number = n; events = left; scope = scope_of past s n }) (both (λ e. not (is_among es e)) (holds past s n) (events_of past s n)))
row-dismissed past s n es false wide =
    rw wide (row_is (Dismissed s es ∷ past) s n (events_of past s n) (scope_of past s n) (holds past s n) refl refl (λ e. rw (itself s, wide) refl))

-- the global rows lose those events, and go with their last
pub rows-dismissed : (past : List Deed) (s : ℕ) (es : List EventName) → subscription_rows (Dismissed s es ∷ past) s ≡ dismissed es (subscription_rows past s)
rows-dismissed past s es =
    rows_change (row_at (Dismissed s es ∷ past) s) (row_at past s) (is_live (Dismissed s es ∷ past) s) (is_live past s)
    (λ r. not (loses_all es r)) (stripped es) (up_to (subscriptions_made past s))
    (λ n. live-dismissed past s n es (is_global (scope_of past s n)) refl) (λ n stays. row-dismissed past s n es (is_global (scope_of past s n)) refl)

-- the rows of another session stay
pub rows-dismissed-other : (past : List Deed) (s t : ℕ) (es : List EventName)
    → (s == t) ≡ false → subscription_rows (Dismissed t es ∷ past) s ≡ subscription_rows past s
rows-dismissed-other past s t es apart =
    rows_agree past (Dismissed t es ∷ past) s refl (λ n. rw apart refl)
    (λ n. row_is (Dismissed t es ∷ past) s n (events_of past s n) (scope_of past s n) (holds past s n) refl refl (λ e. rw apart refl))

-- ---- what the rows tell

-- a test of rows, by their numbers
any_row : (t : SubscriptionRow → Bool) (f : ℕ → SubscriptionRow) (ns : List ℕ) → list_any t (map f ns) ≡ list_any (λ n. t (f n)) ns
any_row t f [] = refl
any_row t f (n ∷ ns) = ap (λ b. t (f n) || b) (any_row t f ns)

-- one test after another
any_both : (p q : ℕ → Bool) (ns : List ℕ) → list_any q (filter p ns) ≡ list_any (λ n. p n && q n) ns
any_both p q [] = refl
any_both p q (n ∷ ns) = let ih = any_both p q ns in grind (arith, nat_tests, ih)

-- a live subscription covers what it holds for, and no other does
live_covers : (past : List Deed) (s n : ℕ) (e : EventName) (b : Bool) (top : Top)
    → holds past s n e ≡ b → (is_live past s n && row_covers e top (row_at past s n)) ≡ (b && covers (scope_of past s n) top)
live_covers past s n e true top held = rw (left_holds past s n e, held, holds_live past s n e held) refl
live_covers past s n e false top held = rw (left_holds past s n e, held) (and-false (is_live past s n))

-- they tell whether an event is enabled
pub covers-enabled : (past : List Deed) (s : ℕ) (e : EventName) (top : Top)
    → is_enabled past s e top ≡ (is_active past s && any_covers (subscription_rows past s) e top)
covers-enabled past s e top =
    let all = up_to (subscriptions_made past s) in
    ap (λ b. is_active past s && b) (sym (any_row (row_covers e top) (row_at past s) (subscriptions past s)
    ∙ (any_both (is_live past s) (λ n. row_covers e top (row_at past s n)) all
    ∙ (λ i. list_any (λ n. live_covers past s n e (holds past s n e) top refl i) all))))

-- and whether a global subscription holds for it
pub global-held : (past : List Deed) (s : ℕ) (e : EventName) → holds_globally past s e ≡ any_global (subscription_rows past s) e
global-held past s e =
    sym (any_row (λ r. is_global r.scope && is_among r.events e) (row_at past s) (subscriptions past s)
    ∙ (λ i. list_any (λ n. is_global (scope_of past s n) && left_holds past s n e i) (subscriptions past s)))

-- what one more enables
newly : (alive before new : Bool) → (alive && not before && (before || (new || false))) ≡ (alive && (not before && new))
newly alive before new = grind arith

-- a new subscription enables what it names and covers, and no row covered before
pub newly-enabled : (past : List Deed) (s : ℕ) (es : List EventName) (scope : Scope) (e : EventName) (top : Top) → is_active past s ≡ true
    → is_newly_enabled past (Subscribed s es scope) s e top
    ≡ (is_alive (acts past) top.number && (not (any_covers (subscription_rows past s) e top) && (is_among es e && covers scope top)))
newly-enabled past s es scope e top active =
    let next = Subscribed s es scope ∷ past in
    let rows = subscription_rows past s in
    let before = covers-enabled past s e top ∙ ap (λ b. b && any_covers rows e top) active in
    let after = covers-enabled next s e top ∙ (ap (λ b. b && any_covers (subscription_rows next s) e top) active
    ∙ (ap (λ all. any_covers all e top) (rows-subscribed past s es scope)
    ∙ list_any-append (row_covers e top) rows (record { number = next_subscription past s; events = es; scope = scope } ∷ []))) in
    (λ i. is_alive (acts past) top.number && not (before i) && after i) ∙ newly (is_alive (acts past) top.number) (any_covers rows e top) (is_among es e && covers scope top)

-- ---- the table of sessions

-- the row of this session, or of another
row_updated : (past next : List Deed) (s n : ℕ) (f : SessionRow → SessionRow) (b : Bool) → (n == s) ≡ b → session_row next s ≡ f (session_row past s)
    → ((m : ℕ) → (m == s) ≡ false → session_row next m ≡ session_row past m) → session_row next n ≡ (if b then f (session_row past n) else session_row past n)
row_updated past next s n f true is own other = subst (λ m. session_row next m ≡ f (session_row past m)) (sym (eqb-true n s is)) own
row_updated past next s n f false apart own other = other n apart

-- the row of one session changes
rows_updated : (past next : List Deed) (s : ℕ) (f : SessionRow → SessionRow) → sessions next ≡ sessions past → session_row next s ≡ f (session_row past s)
    → ((n : ℕ) → (n == s) ≡ false → session_row next n ≡ session_row past n) → session_rows next ≡ updated s f (session_rows past)
rows_updated past next s f active own other =
    (λ i. map (λ n. row_updated past next s n f (n == s) refl own other i) (active i))
    ∙ sym (map-map (λ r. if r.number == s then f r else r) (session_row past) (sessions past))

-- what it announces leaves its place
places-subscribed : (past : List Deed) (s : ℕ) (es : List EventName) (scope : Scope) → is_active past s ≡ true
    → places (Subscribed s es scope ∷ past) s ≡ all_left (is_new (acts past) (subscription_rows past s) es scope EntryAdded) (places past s)
places-subscribed past s es scope active =
    rw (itself s) (places-announced (is_newly_enabled past (Subscribed s es scope) s EntryAdded)
    (is_new (acts past) (subscription_rows past s) es scope EntryAdded) (missed past s)
    (λ top. newly-enabled past s es scope EntryAdded top active))

-- and other sessions announce nothing
places-subscribed-other : (past : List Deed) (s t : ℕ) (es : List EventName) (scope : Scope)
    → (s == t) ≡ false → places (Subscribed t es scope ∷ past) s ≡ places past s
places-subscribed-other past s t es scope apart = rw apart refl

-- it has the new subscription
pub session_rows-subscribed : (past : List Deed) (s : ℕ) (es : List EventName) (scope : Scope) → is_active past s ≡ true
    → session_rows (Subscribed s es scope ∷ past) ≡ updated s (subscribed (acts past) es scope) (session_rows past)
session_rows-subscribed past s es scope active =
    let more : subscriptions_made (Subscribed s es scope ∷ past) s ≡ next_subscription past s = rw (itself s) refl in
    rows_updated past (Subscribed s es scope ∷ past) s (subscribed (acts past) es scope) refl
    (λ i. record { number = s; made = more i; subscriptions = rows-subscribed past s es scope i; missed = places-subscribed past s es scope active i })
    (λ n apart i. record {
      number = n;
      made = made-subscribed-other past n s es scope apart i;
      subscriptions = rows-subscribed-other past n s es scope apart i;
      missed = places-subscribed-other past n s es scope apart i;
    })

-- it is without those that an unsubscribe named
pub session_rows-cancelled : (past : List Deed) (s : ℕ) (ns : List ℕ)
    → session_rows (Cancelled s ns ∷ past) ≡ updated s (λ r. record r { subscriptions = without ns r.subscriptions }) (session_rows past)
session_rows-cancelled past s ns =
    rows_updated past (Cancelled s ns ∷ past) s (λ r. record r { subscriptions = without ns r.subscriptions }) refl
    (λ i. record { number = s; made = subscriptions_made past s; subscriptions = rows-cancelled past s ns i; missed = places past s })
    (λ n apart i. record { number = n; made = subscriptions_made past n; subscriptions = rows-cancelled-other past n s ns apart i; missed = places past n })

-- the same go where the same numbers are listed
pub cancelled-same : (ns ms : List ℕ) → ((n : ℕ) → is_listed ns n ≡ is_listed ms n)
    → (s : ℕ) (rows : List SessionRow) → changed s (cancelled ns) rows ≡ changed s (cancelled ms) rows
cancelled-same ns ms same s rows = λ i. changed s (λ r. record r { subscriptions = filter (λ q. not (same q.number i)) r.subscriptions }) rows

-- and without those events
pub session_rows-dismissed : (past : List Deed) (s : ℕ) (es : List EventName)
    → session_rows (Dismissed s es ∷ past) ≡ updated s (λ r. record r { subscriptions = dismissed es r.subscriptions }) (session_rows past)
session_rows-dismissed past s es =
    rows_updated past (Dismissed s es ∷ past) s (λ r. record r { subscriptions = dismissed es r.subscriptions }) refl
    (λ i. record { number = s; made = subscriptions_made past s; subscriptions = rows-dismissed past s es i; missed = places past s })
    (λ n apart i. record { number = n; made = subscriptions_made past n; subscriptions = rows-dismissed-other past n s es apart i; missed = places past n })

-- the end of a session takes its row out
pub session_rows-ended : (past : List Deed) (s : ℕ) → session_rows (Ended s ∷ past) ≡ filter (λ r. not (r.number == s)) (session_rows past)
session_rows-ended past s =
    rows_change (session_row past) (session_row past) (is_active (Ended s ∷ past)) (is_active past) (λ r. not (r.number == s))
    (λ r. r) (up_to (sessions_made past))
    (λ n. grind (arith, nat_tests)) (λ n stays. refl)
    ∙ map-id (filter (λ r. not (r.number == s)) (session_rows past))

-- a new session has missed nothing, and the others what they had
places-began : (past : List Deed) (c : ℕ) → places (Began c ∷ past) (next_session past) ≡ []
places-began past c = rw (itself (next_session past)) refl

places-began-other : (past : List Deed) (c s : ℕ) → (s == next_session past) ≡ false → places (Began c ∷ past) s ≡ places past s
places-began-other past c s apart = rw apart refl

row-began-other : (past : List Deed) (c s : ℕ) → is_active past s ≡ true → session_row (Began c ∷ past) s ≡ session_row past s
row-began-other past c s active =
    let made = (active_made past s active).1 in
    let apart : (s == next_session past) ≡ false = grind (arith, nat_tests, made) in
    (λ i. record { number = s; made = subscriptions_made past s; subscriptions = subscription_rows past s; missed = places-began-other past c s apart i })

-- the row of a new session is the last, and has no subscription where none was made for its number
pub session_rows-began : (past : List Deed) (c : ℕ) → subscriptions_made past (next_session past) ≡ 0
    → session_rows (Began c ∷ past) ≡ session_rows past ++ begun (next_session past) ∷ []
session_rows-began past c none =
    let s = next_session past in
    ap (map (session_row (Began c ∷ past))) (sessions-began past c)
    ∙ (map-append (session_row (Began c ∷ past)) (sessions past) (s ∷ [])
    ∙ ap₂ (λ rows row. rows ++ row ∷ []) (each-passing (session_row (Began c ∷ past)) (session_row past) (is_active past)
    (up_to (sessions_made past)) (λ n active. row-began-other past c n active))
    (λ i. record { number = s; made = none i; subscriptions = map (row_at past s) (filter (is_live past s) (up_to (none i))); missed = places-began past c i }))

-- ---- what is found in the tables

-- a number from 1 on is among those up to one that is not smaller
up_to-any : (s n : ℕ) → 0 < s → s ≤ n → list_any (λ m. m == s) (up_to n) ≡ true
up_to-any s zero first last = absurd (omega arith)
up_to-any s (suc n) first last =
    let ih = up_to-any s n first in
    let parts = list_any-append (λ m. m == s) (up_to n) (suc n ∷ []) in
    grind (arith, nat_tests, ih, parts)

-- a row is found by its number
find-row : (f : ℕ → SessionRow) (p : ℕ → Bool) (s : ℕ) (ns : List ℕ) → ((n : ℕ) → (f n).number ≡ n) → p s ≡ true → list_any (λ n. n == s) ns ≡ true
    → find (λ r. r.number == s) (map f (filter p ns)) ≡ Some (f s)
find-row f p s [] number passes there = cc
find-row f p s (n ∷ ns) number passes there = let ih = find-row f p s ns number passes in let at = number n in grind (arith, nat_tests, ih, at)

-- an active session is found by its number
pub find-active : (past : List Deed) (s : ℕ) → is_active past s ≡ true → find (λ r. r.number == s) (session_rows past) ≡ Some (session_row past s)
find-active past s active =
    let made = active_made past s active in
    find-row (session_row past) (is_active past) s (up_to (sessions_made past)) (λ n. refl) active (up_to-any s (sessions_made past) made.0 made.1)

-- a number is found by its row
find-number : (f : ℕ → SubscriptionRow) (q : ℕ → Bool) (ns : List ℕ)
    → ((n : ℕ) → (f n).number ≡ n) → find q ns ≡ option_map (λ r. r.number) (find (λ r. q r.number) (map f ns))
find-number f q [] number = refl
find-number f q (n ∷ ns) number = let ih = find-number f q ns number in let at = number n in grind (arith, nat_tests, ih, at)

-- a live subscription is found by its id
pub named-subscription_rows : (past : List Deed) (s : ℕ) (id : List ℕ)
    → find (λ n. bytes_eq id (id_text Subscription s n)) (subscriptions past s)
    ≡ option_map (λ r. r.number) (find (λ r. bytes_eq id (id_text Subscription s r.number)) (subscription_rows past s))
named-subscription_rows past s id = find-number (row_at past s) (λ n. bytes_eq id (id_text Subscription s n)) (subscriptions past s) (λ n. refl)

-- the numbers in the table are those of the active sessions
pub numbers-session_rows : (past : List Deed) → map (λ r. r.number) (session_rows past) ≡ sessions past
numbers-session_rows past = map-map (λ r. r.number) (session_row past) (sessions past) ∙ map-id (sessions past)
