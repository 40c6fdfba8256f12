-- The places of a log buffer: one for each entry that is kept, which holds the entry as long as it waits.
use Rattle.std.specs.Prelude.{◌-◌, Bool, if◌then◌else◌, List, [], ◌∷◌, ◌++◌, length, drop, map, flat_map, Option, Some, None, option_to_list}
use Rattle.bidi_contexts.specs.declared.occurrence.Top.{Top}
use Rattle.bidi_sessions.specs.Limits.{most_missed}
use Rattle.bidi_active.specs.Written.{Written, place_row}
use Rattle.bidi_active.specs.declared.log_buffer.LogBuffer.{LogBuffer}

-- the places of a log buffer, each with the entry that waits there
abbrev pub places_in : LogBuffer → List (Option Written)
places_in b = map place_row b.places.items

-- the entries that wait, in order
abbrev pub waiting : List (Option Written) → List Written
waiting all = flat_map option_to_list all

-- the places with one more entry; if there are too many, the oldest is dropped
abbrev pub with_missed : Written → List (Option Written) → List (Option Written)
with_missed w all = let more = all ++ Some w ∷ [] in drop (length more - most_missed) more

-- the place after the entries of some top-level contexts were announced
abbrev pub left : (Top → Bool) → Option Written → Option Written
left is_announced None = None
left is_announced (Some w) = if is_announced w.top then None else Some w

-- all places after the entries of some top-level contexts were announced
abbrev pub all_left : (Top → Bool) → List (Option Written) → List (Option Written)
all_left is_announced all = map (left is_announced) all
