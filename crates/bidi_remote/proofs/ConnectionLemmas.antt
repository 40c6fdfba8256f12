-- How the table of open connections answers the questions about the past, and moves with it.
use Rattle.std.proofs.Common.{◌≡◌, ◌∙◌, ℕ, Bool, true, false, not, List, [], ◌∷◌, ◌++◌, refl, sym, ap, arith}
use Rattle.std.specs.Prelude.{◌==◌, filter, map, find, if◌then◌else◌, Option, Some, None}
use Rattle.std.specs.List.{list_any}
use Rattle.std.proofs.lemmas.Bool.Decides.{nat_tests}
use Rattle.std.proofs.lemmas.List.{map-append}
use Rattle.std.proofs.lemmas.List.Elements.{filter-append}
use Rattle.bidi_remote.specs.Machine.History.{Deed, Opened, Dropped, Began, Ended}
use Rattle.bidi_remote.specs.Machine.Sessions.{next_session}
use Rattle.bidi_remote.specs.Machine.Connections.{Attachment, Shut, Alone, SpeaksFor, is_shut, is_for, opened_for, attachment_of, openings, connections_of}
use Rattle.bidi_sessions.specs.ConnectionRows.{attachment_in, ConnectionRow, begun, to_each}
use Rattle.bidi_remote.specs.State.ConnectionRows.{rows}
use Rattle.bidi_remote.specs.Machine.Sent.{Sent}

-- ---- rows

-- the rows of these numbers, which stand so
abbrev pub rows_by : (ℕ → Attachment) → List ℕ → List ConnectionRow
rows_by f cs = map (λ c. (c, f c)) (filter (λ c. not (is_shut (f c))) cs)

-- what is shut is `Shut`
pub is_Shut : (s : Attachment) → is_shut s ≡ true → s ≡ Shut
is_Shut Shut e = refl
is_Shut Alone e = cc
is_Shut (SpeaksFor s) e = cc

for_not_shut : (s : ℕ) (x : Attachment) → is_for s x ≡ true → is_shut x ≡ false
for_not_shut s Shut e = cc
for_not_shut s Alone e = cc
for_not_shut s (SpeaksFor t) e = refl

-- what was just opened is open
pub opened_not_shut : (s : Option ℕ) → is_shut (opened_for s) ≡ false
opened_not_shut None = refl
opened_not_shut (Some s) = refl

-- no row has the number of a connection that is shut
find-shut : (f : ℕ → Attachment) (c : ℕ) (cs : List ℕ) → is_shut (f c) ≡ true → find (λ row. row.0 == c) (rows_by f cs) ≡ None
find-shut f c [] e = refl
find-shut f c (x ∷ cs) e = let ih = find-shut f c cs e in grind (arith, nat_tests, ih)

-- the row of one that is open and stands among the numbers
find-open : (f : ℕ → Attachment) (c : ℕ) (cs : List ℕ)
    → is_shut (f c) ≡ false → list_any (λ d. d == c) cs ≡ true → find (λ row. row.0 == c) (rows_by f cs) ≡ Some (c, f c)
find-open f c [] e there = cc
find-open f c (x ∷ cs) e there = let ih = find-open f c cs e in grind (arith, nat_tests, ih)

-- ---- one deed more

-- a connection that was shut stands nowhere among the open ones
opened-apart : (f g : ℕ → Attachment) (c : ℕ) (cs : List ℕ) → is_shut (f c) ≡ true → ((d : ℕ) → (d == c) ≡ false → g d ≡ f d)
    → rows_by g (filter (λ d. not (c == d)) cs) ≡ rows_by f cs
opened-apart f g c [] e same = refl
opened-apart f g c (x ∷ cs) e same = let ih = opened-apart f g c cs e same in let at = same x in grind (arith, nat_tests, ih, at)

-- an opening goes to the end
pub rows-opened : (past : List Deed) (c : ℕ) (s : Option ℕ)
    → is_shut (attachment_of past c) ≡ true → rows (Opened c s ∷ past) ≡ rows past ++ (c, opened_for s) ∷ []
rows-opened past c s e =
    let g = attachment_of (Opened c s ∷ past) in
    let cs = filter (λ d. not (c == d)) (openings past) in
    let split = filter-append (λ d. not (is_shut (g d))) cs (c ∷ []) in
    let parts = map-append {B = ConnectionRow} (λ d. (d, g d)) (filter (λ d. not (is_shut (g d))) cs) (filter (λ d. not (is_shut (g d))) (c ∷ [])) in
    let front = opened-apart (attachment_of past) g c (openings past) e (λ d apart. rw apart refl) in
    grind (arith, nat_tests, split, parts, front, opened_not_shut s)

dropped-rows : (f g : ℕ → Attachment) (c : ℕ) (cs : List ℕ) → ((d : ℕ) → g d ≡ (if d == c then Shut else f d))
    → rows_by g cs ≡ filter (λ row. not (row.0 == c)) (rows_by f cs)
dropped-rows f g c [] same = refl
dropped-rows f g c (x ∷ cs) same = let ih = dropped-rows f g c cs same in let at = same x in grind (arith, nat_tests, ih, at)

-- a drop takes the connection out
pub rows-dropped : (past : List Deed) (c : ℕ) → rows (Dropped c ∷ past) ≡ filter (λ row. not (row.0 == c)) (rows past)
rows-dropped past c = dropped-rows (attachment_of past) (attachment_of (Dropped c ∷ past)) c (openings past) (λ d. refl)

begun-rows : (f g : ℕ → Attachment) (c s : ℕ) (cs : List ℕ) → is_shut (f c) ≡ false → ((d : ℕ) → g d ≡ (if d == c then SpeaksFor s else f d))
    → rows_by g cs ≡ map (begun c s) (rows_by f cs)
begun-rows f g c s [] e same = refl
begun-rows f g c s (x ∷ cs) e same = let ih = begun-rows f g c s cs e same in let at = same x in grind (arith, nat_tests, ih, at)

-- a new session is that of the connection that asked for it
pub rows-began : (past : List Deed) (c : ℕ) → is_shut (attachment_of past c) ≡ false → rows (Began c ∷ past) ≡ map (begun c (next_session past)) (rows past)
rows-began past c e = begun-rows (attachment_of past) (attachment_of (Began c ∷ past)) c (next_session past) (openings past) e (λ d. refl)

ended-rows : (f g : ℕ → Attachment) (s : ℕ) (cs : List ℕ) → ((d : ℕ) → g d ≡ (if is_for s (f d) then Shut else f d))
    → rows_by g cs ≡ filter (λ row. not (is_for s row.1)) (rows_by f cs)
ended-rows f g s [] same = refl
ended-rows f g s (x ∷ cs) same =
    let ih = ended-rows f g s cs same in
    let at = same x in
    let open_for = for_not_shut s (f x) in
    grind (arith, nat_tests, ih, at, open_for)

-- the end of a session takes its connections out
pub rows-ended : (past : List Deed) (s : ℕ) → rows (Ended s ∷ past) ≡ filter (λ row. not (is_for s row.1)) (rows past)
rows-ended past s = ended-rows (attachment_of past) (attachment_of (Ended s ∷ past)) s (openings past) (λ d. refl)

each-row : (what : ℕ → Sent) (f : ℕ → Attachment) (s : ℕ) (cs : List ℕ) → to_each what s (rows_by f cs) ≡ map what (filter (λ c. is_for s (f c)) cs)
each-row what f s [] = refl
each-row what f s (x ∷ cs) = let ih = each-row what f s cs in let open_for = for_not_shut s (f x) in grind (arith, nat_tests, ih, open_for)

-- the connections of a session are those that speak for it
pub each-past : (what : ℕ → Sent) (past : List Deed) (s : ℕ) → to_each what s (rows past) ≡ map what (connections_of past s)
each-past what past s = each-row what (attachment_of past) s (openings past)

-- ---- the table in hand

-- an open connection was opened
abbrev pub WasOpened : List Deed → ℕ → Type 0
WasOpened past c = is_shut (attachment_of past c) ≡ false → list_any (λ d. d == c) (openings past) ≡ true

find-rows : (past : List Deed) (c : ℕ) (b : Bool)
    → b ≡ is_shut (attachment_of past c) → WasOpened past c → attachment_in (find (λ row. row.0 == c) (rows past)) ≡ attachment_of past c
find-rows past c true is opened = ap attachment_in (find-shut (attachment_of past) c (openings past) (sym is)) ∙ sym (is_Shut (attachment_of past c) (sym is))
find-rows past c false is opened = ap attachment_in (find-open (attachment_of past) c (openings past) (sym is) (opened (sym is)))

-- the table says how a connection stands
pub attachment-found : (past : List Deed) (c : ℕ) (all : List ConnectionRow)
    → WasOpened past c → all ≡ rows past → attachment_in (find (λ row. row.0 == c) all) ≡ attachment_of past c
attachment-found past c all opened same = ap (λ xs. attachment_in (find (λ row. row.0 == c) xs)) same ∙ find-rows past c (is_shut (attachment_of past c)) refl opened
