-- What the remote end replied, and the numbers of what ids name. This project's own.
use Rattle.std.specs.Prelude.{◌≡◌, ℕ, ◌-◌, ◌<◌, ◌^◌, Bool, false, List, ◌++◌, length, codes, bytes_eq, eqb, slice_get, Option, Some, None, option_and_then}
use Rattle.std.specs.List.{list_any, ends_with}
use Rattle.bidi_handles.specs.Ids.{id_text}
use Rattle.bidi_handles.specs.declared.id.IdKind.TheVariants.{Subscription}
use Rattle.bidi_sessions.specs.Scope.{is_listed}
use Rattle.bidi_sessions.specs.Sent.{Sent, Text, Close, Opened, Denied, Lost, NoEffect}

-- the text of a message that is sent
abbrev pub text_in : Sent → Option (List ℕ)
text_in (Text c text) = Some text
text_in (Close c) = None
text_in (Opened c) = None
text_in (Denied c) = None
text_in (Lost c) = None
text_in NoEffect = None

-- whether there is a text, and it ends so
abbrev pub ends_in : List ℕ → Option (List ℕ) → Bool
ends_in end None = false
ends_in end (Some text) = ends_with eqb text end

-- the text of the last thing that is sent, if it is a message
abbrev pub last_text : List Sent → Option (List ℕ)
last_text sent = option_and_then text_in (slice_get sent (length sent - 1))

-- whether the command was answered by a success, which is sent last
abbrev pub succeeded : List Sent → Bool
succeeded sent = ends_in (codes ",\"type\":\"success\"}") (last_text sent)

-- The command was answered by a success, which is sent last, and gives the id of this subscription of a session.
abbrev pub Gives : ℕ → List Sent → ℕ → Type 0
Gives s sent n = (front : List ℕ) × (last_text sent ≡ Some (front ++ (id_text Subscription s n ++ codes "\"},\"type\":\"success\"}")))

-- the result that gives the id of this subscription of a session
-- example: `{"subscription":"00000001-0005-8000-8000-000000000001"}`
abbrev pub id_result : ℕ → ℕ → List ℕ
id_result s n = codes "{\"subscription\":\"" ++ (id_text Subscription s n ++ codes "\"}")

-- These are the numbers below 2^48 whose ids are among these.
abbrev pub AreNumbers : (ℕ → List ℕ) → List (List ℕ) → List ℕ → Type 0
AreNumbers id_of_number ids ns = (n : ℕ) → n < 2 ^ 48 → is_listed ns n ≡ list_any (λ id. bytes_eq id (id_of_number n)) ids
