-- The past that a table stands for, and the room in a table.
use Rattle.std.specs.Prelude.{◌≡◌, ◌<◌, ◌^◌, ◌==◌, ℕ, true, false, nat_lt, List, length, map, Some, Result, Ok, Err, vec_len, vec_capacity, get_or}
use Rattle.std.specs.List.{position}
use Rattle.bidi_params.specs.declared.error_code.ErrorCode.{ErrorCode}
use Rattle.bidi_params.specs.declared.error_code.ErrorCode.TheVariants.{UnknownError}
use Rattle.bidi_handles.specs.declared.id.IdKind.{IdKind}
use Rattle.bidi_handles.specs.declared.id.IdKind.TheVariants.{Realm, UserContext}
use Rattle.bidi_handles.specs.Handles.{HasSpare}
use Rattle.bidi_contexts.specs.declared.context.Context as declared_context
use Rattle.bidi_contexts.specs.declared.contexts.Contexts.{Contexts}
use Rattle.bidi_contexts.specs.declared.navigation.Navigation.{Navigation}
use Rattle.bidi_contexts.specs.declared.session_history.Move.{Move}
use Rattle.bidi_contexts.specs.declared.users.Users.{Users}
use Rattle.bidi_contexts.specs.Acts.{Act, next_number}
use Rattle.bidi_contexts.specs.Accepted.{AreAccepted}
use Rattle.bidi_contexts.specs.ContextRows.{ContextRow, row_of, rows}
use Rattle.bidi_contexts.specs.HistoryInHand.{move_of, Leads, HasRoomFor}
use Rattle.bidi_contexts.specs.Limits.{most_users}
use Rattle.bidi_contexts.specs.Places.{entries_of}
use Rattle.bidi_contexts.specs.Users.{others}

-- ---- the past

-- The rows of the live contexts in a table, in tree order.
abbrev pub rows_in : Contexts → List ContextRow
rows_in contexts = map row_of contexts.live.items

-- The numbers of the live user contexts beside `default`, in order of creation.
abbrev pub numbers_in : Users → List ℕ
numbers_in users = map (λ u. u.number) users.live.items

-- The table has a row for each context that is live after the past, and the past can be.
pub record IsTableOf (contexts : Contexts) (past : List Act) : Type 0 where
  pub rows : map row_of contexts.live.items ≡ rows past
  pub accepted : AreAccepted past

-- The user contexts beside `default` are those that are live after the past, and the next one gets the number that the past gives it.
pub record AreUsersOf (users : Users) (past : List Act) : Type 0 where
  pub live : map (λ u. u.number) users.live.items ≡ others past
  pub next : users.next ≡ next_number past UserContext

-- ---- ids and room

-- The next thing of each kind gets a number that can stand in an id.
abbrev pub HasIds : List Act → Type 0
HasIds past = (kind : IdKind) → next_number past kind < 2 ^ 48

-- There is room for one more context.
abbrev pub HasRoomForOne : Contexts → Type 0
HasRoomForOne contexts = vec_len contexts.live < vec_capacity contexts.live

-- There is room for what a move adds to the session history of the context of a number, if that context is live.
abbrev pub HasRoomIn : Contexts → ℕ → Move → Type 0
HasRoomIn contexts number move =
    (i : ℕ) (d : declared_context.Context)
    → position (λ c. c.number == number) contexts.live.items ≡ Some i → HasRoomFor (get_or contexts.live.items i d).details.value.history move

-- There is room for one more handle in the realm of the context of a number, if that context is live.
abbrev pub HasRoomForHandle : Contexts → ℕ → Type 0
HasRoomForHandle contexts number =
    (i : ℕ) (d : declared_context.Context)
    → position (λ c. c.number == number) contexts.live.items ≡ Some i → HasSpare (get_or contexts.live.items i d).details.value.handles

-- There is room for one more user context.
abbrev pub HasRoomForUser : Users → Type 0
HasRoomForUser users = vec_len users.live < vec_capacity users.live

-- It is the number that the next user context gets, or the code says that there is no room for one.
abbrev pub IsNextUser : Result ℕ ErrorCode → List Act → Type 0
IsNextUser (Ok n) past = (nat_lt (length (others past)) most_users ≡ true) × (n ≡ next_number past UserContext)
IsNextUser (Err code) past = (nat_lt (length (others past)) most_users ≡ false) × (code ≡ UnknownError)

-- ---- a navigation

-- The navigation is the next one of the past: its realm is the next, and its move leads to an entry that exists or that it adds.
pub record IsNavigation (n : Navigation) (past : List Act) : Type 0 where
  pub realm : n.realm ≡ next_number past Realm
  pub leads : Leads (entries_of past n.context) (move_of n.to)
