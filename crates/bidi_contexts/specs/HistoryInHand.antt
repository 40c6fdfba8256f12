-- What contracts see of the session history that the code has: its entries, moves in it, and room.
use Rattle.std.specs.Prelude.{◌<◌, length, ⊤}
use Rattle.std.specs.VecDeque.{deque_len, deque_capacity}
use Rattle.bidi_contexts.specs.declared.session_history.SessionHistory.{SessionHistory}
use Rattle.bidi_contexts.specs.declared.session_history.Move as declared_move
use Rattle.bidi_contexts.specs.declared.session_history.Move.TheVariants as in_code
use Rattle.bidi_contexts.specs.Acts.{Move, To, Again, Across}
use Rattle.bidi_contexts.specs.Places.{Entries}

-- The entries of a session history, with the place of the present one.
abbrev pub entries_in : SessionHistory → Entries
entries_in history = record { urls = history.entries.items; place = history.place }

-- The move that the code has, as a move of the definitions.
abbrev pub move_of : declared_move.Move → Move
move_of (in_code.To url) = To url
move_of in_code.Again = Again
move_of (in_code.Across place) = Across place

-- A move leads to an entry that exists or that it adds.
abbrev pub Leads : Entries → Move → Type 0
Leads entries (Across place) = place < length entries.urls
Leads entries move = ⊤

-- The session history has room for the entry that the move adds, if it adds one.
abbrev pub HasRoomFor : SessionHistory → declared_move.Move → Type 0
HasRoomFor history (in_code.To url) = deque_len history.entries < deque_capacity history.entries
HasRoomFor history move = ⊤
