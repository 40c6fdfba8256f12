-- The connections that are open, and the session that each speaks for. After WebDriver BiDi, "Transport" and "Establishing a Connection".
use Rattle.std.specs.Prelude.{ℕ, ◌==◌, Bool, not, if◌then◌else◌, List, [], ◌∷◌, ◌++◌, filter}
use Rattle.bidi_remote.specs.Machine.History.{Deed, Opened, Dropped, Began, Ended}
use Rattle.bidi_remote.specs.Machine.Sessions.{next_session}
pub use Rattle.bidi_sessions.specs.Attachment.{Attachment, Shut, Alone, SpeaksFor, is_shut, is_for, opened_for}

-- the state of a connection after a past; the end of its session shuts it
abbrev pub attachment_of : List Deed → ℕ → Attachment
attachment_of [] c = Shut
attachment_of (Opened d s ∷ past) c = if c == d then opened_for s else attachment_of past c
attachment_of (Dropped d ∷ past) c = if c == d then Shut else attachment_of past c
attachment_of (Began d ∷ past) c = if c == d then SpeaksFor (next_session past) else attachment_of past c
attachment_of (Ended s ∷ past) c = if is_for s (attachment_of past c) then Shut else attachment_of past c
attachment_of (d ∷ past) c = attachment_of past c

-- whether a connection is open: from its opening to a drop or to the end of its session
abbrev pub is_open : List Deed → ℕ → Bool
is_open past c = not (is_shut (attachment_of past c))

-- the connections that were ever opened, each at the place of its last opening
abbrev pub openings : List Deed → List ℕ
openings [] = []
openings (Opened d s ∷ past) = filter (λ c. not (d == c)) (openings past) ++ d ∷ []
openings (d ∷ past) = openings past

-- the open connections, in order of opening
abbrev pub open_connections : List Deed → List ℕ
open_connections past = filter (is_open past) (openings past)

-- the connections that speak for a session, in order of opening
abbrev pub connections_of : List Deed → ℕ → List ℕ
connections_of past s = filter (λ c. is_for s (attachment_of past c)) (openings past)
