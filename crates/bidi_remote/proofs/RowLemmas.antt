-- A row of the table of sessions that changes is the only one of its session.
use Rattle.std.proofs.Common.{◌≡◌, ◌<◌, ◌≤◌, ℕ, zero, suc, Bool, List, [], ◌∷◌, length, map}
use Rattle.std.proofs.Common.{refl, arith}
use Rattle.std.specs.Prelude.{◌==◌, filter}
use Rattle.std.proofs.lemmas.Bool.Decides.{nat_tests}
use Rattle.std.proofs.lemmas.List.Elements.{filter-append}
use Rattle.std.proofs.lemmas.List.{length-append}
use Rattle.bidi_contexts.specs.Contexts.{up_to}
use Rattle.bidi_remote.specs.Machine.History.{Deed}
use Rattle.bidi_remote.specs.Machine.Sessions.{is_active, sessions, sessions_made}
use Rattle.bidi_active.specs.SessionRows.{SessionRow, changed}
use Rattle.bidi_remote.specs.State.SessionRows.{session_row, session_rows, updated}

-- how many rows have the number
abbrev pub count : ℕ → List SessionRow → ℕ
count s rows = length (filter (λ r. r.number == s) rows)

unchanged : (s : ℕ) (f : SessionRow → SessionRow) (rows : List SessionRow) → count s rows ≡ 0 → updated s f rows ≡ rows
unchanged s f [] none = refl
unchanged s f (r ∷ rows) none = let ih = unchanged s f rows in grind (arith, nat_tests, ih, none)

-- where at most one row has the number, the first is the only one
pub changed-updated : (s : ℕ) (f : SessionRow → SessionRow) (rows : List SessionRow) → count s rows ≤ 1 → changed s f rows ≡ updated s f rows
changed-updated s f [] few = refl
changed-updated s f (r ∷ rows) few = let rest = unchanged s f rows in let ih = changed-updated s f rows in grind (arith, nat_tests, few, rest, ih)

-- ---- no two sessions have one number

absent : (m s : ℕ) → m < s → length (filter (λ k. k == s) (up_to m)) ≡ 0
absent zero s less = refl
absent (suc n) s less =
    let ih = absent n s (omega arith) in
    let parts = filter-append (λ k. k == s) (up_to n) (suc n ∷ []) in
    let long = length-append (filter (λ k. k == s) (up_to n)) (filter (λ k. k == s) (suc n ∷ [])) in
    grind (arith, nat_tests, ih, parts, long)

once : (m s : ℕ) → length (filter (λ k. k == s) (up_to m)) ≤ 1
once zero s = omega arith
once (suc n) s =
    let ih = once n s in
    let none = absent n s in
    let parts = filter-append (λ k. k == s) (up_to n) (suc n ∷ []) in
    let long = length-append (filter (λ k. k == s) (up_to n)) (filter (λ k. k == s) (suc n ∷ [])) in
    grind (arith, nat_tests, ih, none, parts, long)

fewer : (p q : ℕ → Bool) (xs : List ℕ) → length (filter q (filter p xs)) ≤ length (filter q xs)
fewer p q [] = omega arith
fewer p q (x ∷ xs) = let ih = fewer p q xs in grind (arith, nat_tests, ih)

count-rows : (past : List Deed) (s : ℕ) (ns : List ℕ) → count s (map (session_row past) ns) ≡ length (filter (λ k. k == s) ns)
count-rows past s [] = refl
count-rows past s (n ∷ ns) = let ih = count-rows past s ns in grind (arith, nat_tests, ih)

pub one-row : (past : List Deed) (s : ℕ) → count s (session_rows past) ≤ 1
one-row past s =
    let rows = count-rows past s (sessions past) in
    let active = fewer (is_active past) (λ k. k == s) (up_to (sessions_made past)) in
    let all = once (sessions_made past) s in
    omega (arith, rows, active, all)
