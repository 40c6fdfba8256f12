-- How the table of active sessions moves with the past.
use Rattle.std.proofs.Common.{◌≡◌, ◌<◌, ◌≤◌, ℕ, suc, zero, Bool, true, ◌&&◌, ◌||◌, List, [], ◌∷◌, ◌++◌, refl, arith}
use Rattle.std.specs.Prelude.{◌==◌, filter}
use Rattle.std.proofs.lemmas.Bool.Decides.{nat_tests}
use Rattle.std.proofs.lemmas.List.Elements.{filter-append}
use Rattle.bidi_contexts.specs.Contexts.{up_to}
use Rattle.bidi_remote.specs.Machine.History.{Deed, Began, Ended}
use Rattle.bidi_remote.specs.Machine.Sessions.{sessions_made, next_session, is_active, sessions}

-- the numbers up to n are other numbers than a greater one
past-range : (p : ℕ → Bool) (m n : ℕ) → n < m → filter (λ s. s == m || p s) (up_to n) ≡ filter p (up_to n)
past-range p m zero less = refl
past-range p m (suc n) less =
    let ih = past-range p m n (omega arith) in
    let left = filter-append (λ s. s == m || p s) (up_to n) (suc n ∷ []) in
    let right = filter-append p (up_to n) (suc n ∷ []) in
    grind (arith, nat_tests, ih, left, right)

-- a new session is the last
pub sessions-began : (past : List Deed) (c : ℕ) → sessions (Began c ∷ past) ≡ sessions past ++ next_session past ∷ []
sessions-began past c =
    let m = next_session past in
    let parts = filter-append (λ s. s == m || is_active past s) (up_to (sessions_made past)) (m ∷ []) in
    let front = past-range (is_active past) m (sessions_made past) (omega arith) in
    grind (arith, nat_tests, parts, front)

-- two tests at once are one after the other
pub both : {X : Type 0} (q p : X → Bool) (xs : List X) → filter (λ x. q x && p x) xs ≡ filter q (filter p xs)
both q p [] = refl
both q p (x ∷ xs) = let ih = both q p xs in grind (arith, nat_tests, ih)

-- an active session was made
pub active_made : (past : List Deed) (s : ℕ) → is_active past s ≡ true → (0 < s) × (s ≤ sessions_made past)
active_made [] s active = cc
active_made (Began c ∷ past) s active = let ih = active_made past s in grind (arith, nat_tests, ih)
active_made (Ended t ∷ past) s active = let ih = active_made past s in grind (arith, nat_tests, ih)
active_made (d ∷ past) s active = active_made past s active
