-- Questions to the tables, answered by the past.
use Rattle.std.proofs.Common.{◌≡◌, ◌∙◌, ℕ, Bool, true, false, ◌&&◌, List, [], ◌∷◌, map, Option, Some, None, unwrap_or, Result, Ok, Err, refl, sym, ap, arith}
use Rattle.std.specs.Prelude.{◌==◌, filter, find, if◌then◌else◌, option_map}
use Rattle.std.proofs.lemmas.Bool.Decides.{nat_tests}
use Rattle.bidi_params.specs.declared.error_code.ErrorCode.{ErrorCode}
use Rattle.bidi_params.specs.declared.error_code.ErrorCode.TheVariants.{NoSuchFrame}
use Rattle.bidi_methods.specs.declared.event_data.EventName.{EventName}
use Rattle.bidi_scripts.specs.declared.log_entry.Level.{Level}
use Rattle.bidi_contexts.specs.declared.occurrence.Top.{Top}
use Rattle.bidi_contexts.specs.Acts.{Act, Logged}
use Rattle.bidi_contexts.specs.Contexts.{up_to, context_of}
use Rattle.bidi_contexts.specs.Occurrences.{Occurrence, top_at}
use Rattle.bidi_handles.specs.Checks.{◌>>=◌, found}
use Rattle.bidi_remote.specs.Machine.History.{Deed, acts}
use Rattle.bidi_remote.specs.Machine.Sessions.{is_active, sessions, sessions_made}
use Rattle.bidi_remote.specs.Machine.Subscriptions.{subscriptions, is_enabled, holds_globally}
use Rattle.bidi_remote.specs.Machine.Asking.{hears, top_named, subscriptions_in}
use Rattle.bidi_remote.specs.State.Heard.{heard_by, is_heard_by, first_top}
use Rattle.bidi_active.specs.SessionRows.{SessionRow, row_in, begun}
use Rattle.bidi_remote.specs.State.SessionRows.{session_row, session_rows, subscription_rows, row_at}
use Rattle.bidi_sessions.specs.SubscriptionRows.{SubscriptionRow, any_covers, any_global}
use Rattle.bidi_remote.proofs.SubscriptionLemmas.{covers-enabled, global-held, find-active}

-- ---- the table of sessions

-- a session that is not active has no row
find-gone : (f : ℕ → SessionRow) (p : ℕ → Bool) (s : ℕ) (ns : List ℕ) → ((n : ℕ) → (f n).number ≡ n) → p s ≡ false
    → find (λ r. r.number == s) (map f (filter p ns)) ≡ None
find-gone f p s [] number gone = refl
find-gone f p s (n ∷ ns) number gone = let ih = find-gone f p s ns number gone in let at = number n in grind (arith, nat_tests, ih, at)

found-hears : (past : List Deed) (s : ℕ) (e : EventName) (top : Option Top) (b : Bool) → is_active past s ≡ b
    → is_heard_by (find (λ r. r.number == s) (session_rows past)) e top ≡ hears past s e top
found-hears past s e (Some top) true active =
    ap (λ o. is_heard_by o e (Some top)) (find-active past s active)
    ∙ (ap (λ b. b && any_covers (subscription_rows past s) e top) (sym active) ∙ sym (covers-enabled past s e top))
found-hears past s e None true active =
    ap (λ o. is_heard_by o e None) (find-active past s active)
    ∙ (sym (global-held past s e) ∙ ap (λ b. b && holds_globally past s e) (sym active))
found-hears past s e (Some top) false active =
    ap (λ o. is_heard_by o e (Some top)) (find-gone (session_row past) (is_active past) s (up_to (sessions_made past)) (λ n. refl) active)
    ∙ (ap (λ b. b && any_covers (subscription_rows past s) e top) (sym active) ∙ sym (covers-enabled past s e top))
found-hears past s e None false active =
    ap (λ o. is_heard_by o e None) (find-gone (session_row past) (is_active past) s (up_to (sessions_made past)) (λ n. refl) active)
    ∙ ap (λ b. b && holds_globally past s e) (sym active)

-- a session hears an event if its row does
pub row-hears : (past : List Deed) (s : ℕ) (e : EventName) (top : Option Top) (rows : List SessionRow) (o : Option SessionRow)
    → o ≡ find (λ r. r.number == s) rows → rows ≡ session_rows past → is_heard_by o e top ≡ hears past s e top
row-hears past s e top rows o is same =
    ap (λ x. is_heard_by x e top) (is ∙ ap (find (λ r. r.number == s)) same) ∙ found-hears past s e top (is_active past s) refl

-- the numbers of the rows of some subscriptions
row-numbers : (past : List Deed) (s : ℕ) (ns : List ℕ) → map (λ r. r.number) (map (row_at past s) ns) ≡ ns
row-numbers past s [] = refl
row-numbers past s (n ∷ ns) = ap (λ rest. n ∷ rest) (row-numbers past s ns)

found-numbers : (past : List Deed) (s : ℕ) (b : Bool) → is_active past s ≡ b
    → map (λ r. r.number) (unwrap_or (find (λ r. r.number == s) (session_rows past)) (begun s)).subscriptions ≡ subscriptions_in past s
found-numbers past s true active =
    ap (λ o. map (λ r. r.number) (unwrap_or o (begun s)).subscriptions) (find-active past s active)
    ∙ (row-numbers past s (subscriptions past s) ∙ ap (λ b. if b then subscriptions past s else []) (sym active))
found-numbers past s false active =
    ap (λ o. map (λ r. r.number) (unwrap_or o (begun s)).subscriptions)
    (find-gone (session_row past) (is_active past) s (up_to (sessions_made past)) (λ n. refl) active)
    ∙ ap (λ b. if b then subscriptions past s else []) (sym active)

-- the subscriptions of a session's row have the numbers of its live ones
pub held-numbers : (past : List Deed) (s : ℕ) (rows : List SessionRow) (held : List SubscriptionRow)
    → held ≡ (row_in s rows).subscriptions → rows ≡ session_rows past → map (λ r. r.number) held ≡ subscriptions_in past s
held-numbers past s rows held is same =
    ap (map (λ r. r.number)) (is ∙ ap (λ rs. (row_in s rs).subscriptions) same) ∙ found-numbers past s (is_active past s) refl

-- ---- a log entry that is planned

logged-there : (o : Option ℕ) (c : ℕ) (level : Level) (line : List ℕ) → (found o NoSuchFrame >>= λ k. Ok (Logged k level line)) ≡ Ok (Logged c level line)
    → o ≡ Some c
logged-there None c level line e = cc
logged-there (Some k) c level line e = cc

logged-nowhere : (o : Option ℕ) (code : ErrorCode) (level : Level) (line : List ℕ)
    → (found o NoSuchFrame >>= λ k. Ok (Logged k level line)) ≡ Err code → o ≡ None
logged-nowhere None code level line e = refl
logged-nowhere (Some k) code level line e = cc

-- it has the top-level context of its context
pub entry-top : (past : List Act) (id : List ℕ) (c : ℕ) (level : Level) (line : List ℕ) (os : List Occurrence) (o : Occurrence)
    → (found (context_of past id) NoSuchFrame >>= λ k. Ok (Logged k level line)) ≡ Ok (Logged c level line)
    → os ≡ o ∷ [] → o.top ≡ top_at past c → first_top os ≡ top_named past id
entry-top past id c level line os o is told there =
    ap first_top told ∙ (ap Some there ∙ sym (ap (option_map (top_at past)) (logged-there (context_of past id) c level line is)))

-- none is planned where no context is
pub entry-nowhere : (past : List Act) (id : List ℕ) (code : ErrorCode) (level : Level) (line : List ℕ)
    → (found (context_of past id) NoSuchFrame >>= λ k. Ok (Logged k level line)) ≡ Err code → None ≡ top_named past id
entry-nowhere past id code level line is = sym (ap (option_map (top_at past)) (logged-nowhere (context_of past id) code level line is))
