-- What a session has missed, by the past and by its places.
use Rattle.std.proofs.Common.{◌≡◌, ◌∙◌, ◌+◌, ◌-◌, ℕ, zero, suc, Bool, true, false, cond, not, List, [], ◌∷◌, ◌++◌, length, map, drop, refl, sym, ap, ap₂, arith}
use Rattle.std.specs.Prelude.{filter, Option, None, Some, if◌then◌else◌}
use Rattle.std.specs.List.{AllByRecursion}
use Rattle.std.proofs.lemmas.List.{length-map, length-append, length-drop, drop-map, drop-append-le, map-append}
use Rattle.bidi_messages.specs.contracts.message.MessageShape.TheImpl.{ghosts}
use Rattle.bidi_methods.specs.declared.event_data.EventName.{EventName}
use Rattle.bidi_methods.specs.declared.event_data.EventName.TheVariants.{EntryAdded}
use Rattle.bidi_messages.specs.Reading.{IsMessageText}
use Rattle.bidi_contexts.specs.declared.occurrence.Top.{Top}
use Rattle.bidi_contexts.specs.Occurrences.{Occurrence}
use Rattle.bidi_remote.specs.Machine.History.{Deed}
use Rattle.bidi_remote.specs.Machine.LogBuffer.{Missed, missed, just_missed, announced_at, last_hundred, waiting_for}
use Rattle.bidi_remote.specs.Machine.Sent.{occurrence_text}
use Rattle.bidi_active.specs.Written.{Written}
use Rattle.bidi_remote.specs.State.EventTexts.{written, AreMessages}
use Rattle.bidi_remote.specs.State.MissedRows.{place_of, places, IsEntry}
use Rattle.bidi_active.specs.Places.{waiting, with_missed, left, all_left}
use Rattle.bidi_sessions.specs.Limits.{most_missed}

-- ---- the last hundred of a list

-- they are those of the list, seen by f
hundred-map : {A B : Type 0} (f : A → B) (xs : List A) → drop (length (map f xs) - most_missed) (map f xs) ≡ map f (drop (length xs - most_missed) xs)
hundred-map f xs = ap (λ n. drop (n - most_missed) (map f xs)) (length-map xs f) ∙ drop-map f (length xs - most_missed) xs

drop-twice : {A : Type 0} (k j : ℕ) (xs : List A) → drop j (drop k xs) ≡ drop (j + k) xs
drop-twice zero j xs = let none : j ≡ j + 0 = omega arith in ap (λ n. drop n xs) none
drop-twice (suc k) zero [] = let more : suc k ≡ 0 + suc k = omega arith in ap (λ n. drop n []) more
drop-twice (suc k) (suc j) [] = let more : suc (j + suc k) ≡ suc j + suc k = omega arith in ap (λ n. drop n []) more
drop-twice (suc k) j (x ∷ xs) = let more : suc (j + k) ≡ j + suc k = omega arith in drop-twice k j xs ∙ ap (λ n. drop n (x ∷ xs)) more

-- one more behind the last hundred, or behind all
hundred-more : {A : Type 0} (xs : List A) (x : A)
    → (let more = drop (length xs - most_missed) xs ++ x ∷ [] in drop (length more - most_missed) more) ≡ drop (length (xs ++ x ∷ []) - most_missed) (xs ++ x ∷ [])
hundred-more xs x =
    let k = length xs - most_missed in
    let kept = drop k xs in
    let j = length (kept ++ x ∷ []) - most_missed in
    let long = length-append kept (x ∷ []) in
    let short = length-drop k xs in
    let all = length-append xs (x ∷ []) in
    let same : length (xs ++ x ∷ []) - most_missed ≡ j + k = omega (arith, long, short, all) in
    ap (drop j) (sym (drop-append-le k xs (x ∷ []) (omega arith))) ∙ (drop-twice k j (xs ++ x ∷ []) ∙ ap (λ n. drop n (xs ++ x ∷ [])) (sym same))

-- ---- places

-- one more is missed
pub places-more : (all : List Missed) (o : Occurrence)
    → map place_of (last_hundred (all ++ just_missed o ∷ [])) ≡ with_missed (written o) (map place_of (last_hundred all))
places-more all o =
    ap (map place_of) (sym (hundred-more all (just_missed o)))
    ∙ (sym (hundred-map place_of (last_hundred all ++ just_missed o ∷ []))
    ∙ ap (λ ps. drop (length ps - most_missed) ps) (map-append place_of (last_hundred all) (just_missed o ∷ [])))

-- those of some top-level contexts are announced
pub places-announced : (p q : Top → Bool) (all : List Missed)
    → ((top : Top) → p top ≡ q top) → map place_of (last_hundred (map (announced_at p) all)) ≡ all_left q (map place_of (last_hundred all))
places-announced p q all same = ap (map place_of) (hundred-map (announced_at p) all) ∙ each (last_hundred all)
  where
    one : (m : Missed) (b : Bool) → m.announced ≡ b → place_of (announced_at p m) ≡ left q (place_of m)
    one m true is = rw is refl
    one m false is = rw is (ap (λ b. if b then None else Some (written m.entry)) (same m.entry.top))

    each : (ms : List Missed) → map place_of (map (announced_at p) ms) ≡ map (left q) (map place_of ms)
    each [] = refl
    each (m ∷ ms) = ap₂ (λ x xs. x ∷ xs) (one m m.announced refl) (each ms)

-- ---- what waits

-- what waits in the places
waiting-next : (m : Missed) (ms : List Missed) (b : Bool)
    → m.announced ≡ b → waiting (map place_of ms) ≡ map written (map (λ n. n.entry) (filter (λ n. not n.announced) ms))
    → waiting (map place_of (m ∷ ms)) ≡ map written (map (λ n. n.entry) (filter (λ n. not n.announced) (m ∷ ms)))
waiting-next m ms true is same = rw is same
waiting-next m ms false is same = rw is (ap (λ ws. written m.entry ∷ ws) same)

waiting-in : (ms : List Missed) → waiting (map place_of ms) ≡ map written (map (λ m. m.entry) (filter (λ m. not m.announced) ms))
waiting-in [] = refl
waiting-in (m ∷ ms) = waiting-next m ms m.announced refl (waiting-in ms)

pub waiting-places : (past : List Deed) (s : ℕ) → waiting (places past s) ≡ map written (waiting_for past s)
waiting-places past s = waiting-in (last_hundred (missed past s))

-- of some entries, those that are new
new-next : (n : EventName → Top → Bool) (o : Occurrence) (os : List Occurrence) (b : Bool) → n EntryAdded o.top ≡ b → n o.event o.top ≡ n EntryAdded o.top
    → filter (λ w. n EntryAdded w.top) (map written os) ≡ map written (filter (λ x. n x.event x.top) os)
    → filter (λ w. n EntryAdded w.top) (map written (o ∷ os)) ≡ map written (filter (λ x. n x.event x.top) (o ∷ os))
new-next n o os true is same rest = rw (same, is) (ap (λ ws. written o ∷ ws) rest)
new-next n o os false is same rest = rw (same, is) rest

pub new-written : (n : EventName → Top → Bool) (os : List Occurrence) → AllByRecursion (λ o. o.event ≡ EntryAdded) os
    → filter (λ w. n EntryAdded w.top) (map written os) ≡ map written (filter (λ o. n o.event o.top) os)
new-written n [] all = refl
new-written n (o ∷ os) all = new-next n o os (n EntryAdded o.top) refl (ap (λ e. n e o.top) all.0) (new-written n os all.1)

-- ---- entries

-- so is each that is left
all-dropped : {X : Type 0} (P : X → Type 0) (n : ℕ) (xs : List X) → AllByRecursion P xs → AllByRecursion P (drop n xs)
all-dropped P zero xs all = all
all-dropped P (suc n) [] all = tt
all-dropped P (suc n) (x ∷ xs) all = all-dropped P n xs all.1

-- an announced entry is one
pub entries-announced : (p : Top → Bool) (ms : List Missed) → AllByRecursion IsEntry ms → AllByRecursion IsEntry (map (announced_at p) ms)
entries-announced p [] all = tt
entries-announced p (m ∷ ms) all = (record { event = all.0.event; reads_back = all.0.reads_back }, entries-announced p ms all.1)

-- and each of some where another is added
entries-more : (ms : List Missed) (m : Missed) → IsEntry m → AllByRecursion IsEntry ms → AllByRecursion IsEntry (ms ++ m ∷ [])
entries-more [] m is all = (is, tt)
entries-more (n ∷ ms) m is all = (all.0, entries-more ms m is all.1)

-- an entry more, where it was missed
pub entries-logged : (b : Bool) (ms : List Missed) (o : Occurrence) → o.event ≡ EntryAdded → IsMessageText ghosts.shape (occurrence_text o)
    → AllByRecursion IsEntry ms → AllByRecursion IsEntry (cond b ms (ms ++ just_missed o ∷ []))
entries-logged true ms o is text all = all
entries-logged false ms o is text all = entries-more ms (just_missed o) (record { event = is; reads_back = text }) all

-- what waits is an entry
waits-next : (P : Occurrence → Type 0) (m : Missed) (ms : List Missed) (b : Bool)
    → m.announced ≡ b → P m.entry → AllByRecursion P (map (λ n. n.entry) (filter (λ n. not n.announced) ms))
    → AllByRecursion P (map (λ n. n.entry) (filter (λ n. not n.announced) (m ∷ ms)))
waits-next P m ms true is this all = rw is all
waits-next P m ms false is this all = rw is (this, all)

waiting-all : (P : Occurrence → Type 0) (ms : List Missed)
    → AllByRecursion (λ m. P m.entry) ms → AllByRecursion P (map (λ m. m.entry) (filter (λ m. not m.announced) ms))
waiting-all P [] all = tt
waiting-all P (m ∷ ms) all = waits-next P m ms m.announced refl all.0 (waiting-all P ms all.1)

are-events : (ms : List Missed) → AllByRecursion IsEntry ms → AllByRecursion (λ m. m.entry.event ≡ EntryAdded) ms
are-events [] all = tt
are-events (m ∷ ms) all = (all.0.event, are-events ms all.1)

are-texts : (ms : List Missed) → AllByRecursion IsEntry ms → AllByRecursion (λ m. IsMessageText ghosts.shape (occurrence_text m.entry)) ms
are-texts [] all = tt
are-texts (m ∷ ms) all = (all.0.reads_back, are-texts ms all.1)

pub waiting-events : (past : List Deed) (s : ℕ) → AllByRecursion IsEntry (missed past s) → AllByRecursion (λ o. o.event ≡ EntryAdded) (waiting_for past s)
waiting-events past s all =
    waiting-all (λ o. o.event ≡ EntryAdded) (last_hundred (missed past s))
    (are-events _ (all-dropped IsEntry (length (missed past s) - most_missed) (missed past s) all))

-- and its text that of a message
texts-messages : (os : List Occurrence) → AllByRecursion (λ o. IsMessageText ghosts.shape (occurrence_text o)) os → AreMessages (map written os)
texts-messages [] all = tt
texts-messages (o ∷ os) all = (all.0, texts-messages os all.1)

pub waiting-messages : (past : List Deed) (s : ℕ) → AllByRecursion IsEntry (missed past s) → AreMessages (map written (waiting_for past s))
waiting-messages past s all =
    texts-messages (waiting_for past s)
    (waiting-all (λ o. IsMessageText ghosts.shape (occurrence_text o)) (last_hundred (missed past s))
    (are-texts _ (all-dropped IsEntry (length (missed past s) - most_missed) (missed past s) all)))

-- so are those of them that are kept
kept-next : {X : Type 0} (P : X → Type 0) (b : Bool) (x : X) (xs : List X) → P x → AllByRecursion P xs → AllByRecursion P (cond b (x ∷ xs) xs)
kept-next P true x xs this all = (this, all)
kept-next P false x xs this all = all

pub all-filtered : {X : Type 0} (P : X → Type 0) (p : X → Bool) (xs : List X) → AllByRecursion P xs → AllByRecursion P (filter p xs)
all-filtered P p [] all = tt
all-filtered P p (x ∷ xs) all = kept-next P (p x) x (filter p xs) all.0 (all-filtered P p xs all.1)
