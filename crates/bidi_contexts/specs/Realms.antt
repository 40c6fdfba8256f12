-- Realms, the handles that hold values in them, and the table that replaces running scripts. After WebDriver BiDi, "The script Module".
use Rattle.std.specs.Prelude.{ℕ, ◌==◌, true, not, if◌then◌else◌, List, [], ◌∷◌, ◌++◌, map, filter, find, bytes_eq, Option, Some, None, is_some, option_map}
use Rattle.bidi_tree.specs.Node.{Node}
use Rattle.bidi_handles.specs.declared.id.IdKind.TheVariants.{Context, Realm, Handle}
use Rattle.bidi_handles.specs.Ids.{id_of, has_id}
use Rattle.bidi_contexts.specs.Acts.{Act, Made, Framed, Moved, Tabled, Ran, Disowned, Ending, Returned, Threw, ScriptEffect, next_number}
use Rattle.bidi_contexts.specs.Contexts.{contexts}

-- The realm of a context; each creation and each navigation begins a new one.
abbrev pub realm_of : List Act → ℕ → ℕ
realm_of [] c = 1
realm_of (Made w u ∷ past) c = if c == next_number past Context then next_number past Realm else realm_of past c
realm_of (Framed p url ∷ past) c = if c == next_number past Context then next_number past Realm else realm_of past c
realm_of (Moved d move ∷ past) c = if c == d then next_number past Realm else realm_of past c
realm_of (act ∷ past) c = realm_of past c

-- The live realms, by the creation of their contexts.
abbrev pub realms : List Act → List ℕ
realms past = map (realm_of past) (contexts past)

-- The value that a script returned or threw.
abbrev pub value_of : Ending → Node
value_of (Returned value) = value
value_of (Threw value) = value

-- The handles that a realm has: those given in it and not released since, by number, each with its value.
abbrev pub handles_of : List Act → ℕ → List (ℕ × Node)
handles_of [] r = []
handles_of (Ran q ending true ∷ past) r = if q == r then handles_of past r ++ (next_number past Handle, value_of ending) ∷ [] else handles_of past r
handles_of (Disowned q ids ∷ past) r = if q == r then filter (λ held. not (has_id ids held.0)) (handles_of past r) else handles_of past r
handles_of (act ∷ past) r = handles_of past r

-- The value that the handle of an id holds in a realm; a handle of another realm is unknown there.
abbrev pub held_value : List Act → ℕ → List ℕ → Option Node
held_value past r id = option_map (λ held. held.1) (find (λ held. bytes_eq id (id_of Handle held.0)) (handles_of past r))

-- The last row that was set for a text.
abbrev pub row_of : List Act → List ℕ → Option ScriptEffect
row_of [] text = None
row_of (Tabled t row ∷ past) text = if bytes_eq t text then Some row else row_of past text
row_of (act ∷ past) text = row_of past text

-- The texts that have a row, each once.
abbrev pub tabled_texts : List Act → List (List ℕ)
tabled_texts [] = []
tabled_texts (Tabled t row ∷ past) = if is_some (row_of past t) then tabled_texts past else t ∷ tabled_texts past
tabled_texts (act ∷ past) = tabled_texts past
