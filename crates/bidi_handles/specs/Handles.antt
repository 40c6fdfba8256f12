-- The handles of a realm, as contracts see them, and looking one up. After WebDriver BiDi, "The script.Handle Type".
use Rattle.std.specs.Prelude.{ℕ, ◌<◌, List, bytes_eq, find, map, option_map, vec_len, vec_capacity}
use Rattle.bidi_tree.specs.Node.{Node}
use Rattle.bidi_handles.specs.declared.handles.Handles.{Handles}
use Rattle.bidi_handles.specs.declared.id.IdKind.TheVariants.{Handle}
use Rattle.bidi_handles.specs.Ids.{id_of}
use Rattle.bidi_handles.specs.Values.{Held}
use Rattle.bidi_handles.specs.ValuesInHand.{handle_seen}

-- the value of the handle with this id, among handles by number; None if no handle has it
abbrev pub held_among : List (ℕ × Node) → Held
held_among handles id = option_map (λ held. held.1) (find (λ held. bytes_eq id (id_of Handle held.0)) handles)

-- the handles of the code, by number, each with its value
abbrev pub handles_seen : Handles → List (ℕ × Node)
handles_seen handles = map handle_seen handles.items.items

-- the values that these handles hold, by the ids of the handles
abbrev pub values_in : Handles → Held
values_in handles = held_among (handles_seen handles)

-- there is room for one more handle, so adding one takes no memory
abbrev pub HasSpare : Handles → Type 0
HasSpare handles = vec_len handles.items < vec_capacity handles.items
