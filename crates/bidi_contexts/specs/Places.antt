-- The session history of a context: its entries and the place of the present one. After WebDriver BiDi, "The browsingContext.traverseHistory Command".
use Rattle.std.specs.Prelude.{ℕ, ◌+◌, ◌-◌, ◌==◌, min, nat_lt, ℤ, pos, negsuc, if◌then◌else◌, List, [], ◌∷◌, ◌++◌}
use Rattle.std.specs.Prelude.{length, take, drop, slice_get, Option, Some, None, option_and_then, unwrap_or}
use Rattle.url.specs.Parts.{Parts}
use Rattle.bidi_handles.specs.declared.id.IdKind.TheVariants.{Context}
use Rattle.bidi_contexts.specs.Urls.{about_blank}
use Rattle.bidi_contexts.specs.Limits.{most_entries}
use Rattle.bidi_contexts.specs.Acts.{Act, Made, Framed, Moved, Move, To, Again, Across, next_number}

-- The URLs of the entries, the oldest first, and the place of the present one, counted from 0.
pub record Entries : Type 0 where
  pub urls : List Parts
  pub place : ℕ

-- The entries of a context that is created at a URL: this one alone.
abbrev pub begun_at : Parts → Entries
begun_at url = record { urls = url ∷ []; place = 0 }

-- The entries after a navigation to a URL: those after the present one go, the new one is added, and the oldest goes if there would be more than fifty.
abbrev pub with_entry : Entries → Parts → Entries
with_entry entries url =
    let all = take (entries.place + 1) entries.urls ++ url ∷ [] in
    record { urls = drop (length all - most_entries) all; place = min (entries.place + 1) (most_entries - 1) }

-- The entries after a navigation.
abbrev pub moved : Entries → Move → Entries
moved entries (To url) = with_entry entries url
moved entries Again = entries
moved entries (Across place) = record entries { place = place }

-- The entries of a context: the URL at which it was created, changed by each of its navigations since.
abbrev pub entries_of : List Act → ℕ → Entries
entries_of [] c = begun_at about_blank
entries_of (Made w u ∷ past) c = if c == next_number past Context then begun_at about_blank else entries_of past c
entries_of (Framed p url ∷ past) c = if c == next_number past Context then begun_at url else entries_of past c
entries_of (Moved d move ∷ past) c = if c == d then moved (entries_of past c) move else entries_of past c
entries_of (act ∷ past) c = entries_of past c

-- The URL of the present entry.
abbrev pub present : Entries → Parts
present entries = unwrap_or (slice_get entries.urls entries.place) about_blank

-- The URL of a context.
abbrev pub url_of : List Act → ℕ → Parts
url_of past c = present (entries_of past c)

-- The place that lies delta from n, unless it is before the first.
abbrev pub shifted : ℕ → ℤ → Option ℕ
shifted n (pos d) = Some (n + d)
shifted n (negsuc d) = if nat_lt d n then Some (n - (d + 1)) else None

-- The place that lies delta from the present entry, if an entry is there.
abbrev pub place_across : Entries → ℤ → Option ℕ
place_across entries delta =
    option_and_then (λ n. if nat_lt n (length entries.urls) then Some n else None) (shifted entries.place delta)
