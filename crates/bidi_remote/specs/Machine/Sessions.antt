-- The active sessions. After WebDriver BiDi, "The session.new Command" and "The session.end Command".
use Rattle.std.specs.Prelude.{ℕ, suc, ◌==◌, Bool, false, not, ◌&&◌, ◌||◌, List, [], ◌∷◌, filter}
use Rattle.bidi_contexts.specs.Contexts.{up_to}
use Rattle.bidi_remote.specs.Machine.History.{Deed, Began, Ended}

-- how many sessions were ever made
abbrev pub sessions_made : List Deed → ℕ
sessions_made [] = 0
sessions_made (Began c ∷ past) = suc (sessions_made past)
sessions_made (d ∷ past) = sessions_made past

-- the number of the next session
abbrev pub next_session : List Deed → ℕ
next_session past = suc (sessions_made past)

-- whether a session is active: from its beginning to its end
abbrev pub is_active : List Deed → ℕ → Bool
is_active [] s = false
is_active (Began c ∷ past) s = s == next_session past || is_active past s
is_active (Ended t ∷ past) s = not (s == t) && is_active past s
is_active (d ∷ past) s = is_active past s

-- the active sessions, in order of creation
abbrev pub sessions : List Deed → List ℕ
sessions past = filter (is_active past) (up_to (sessions_made past))
