-- The names of events and modules that a test made known. This project's own.
use Rattle.std.specs.Prelude.{ℕ, ◌==◌, nat_le, Bool, not, ◌&&◌, ◌||◌, if◌then◌else◌, List, [], ◌∷◌, ◌++◌, length, get_or, codes, bytes_eq, eqb, is_ok, is_some, Option}
use Rattle.std.specs.List.{list_all, list_any, starts_with, slice_split}
use Rattle.bidi_shape.specs.WordLaws.{value_named}
use Rattle.bidi_methods.specs.declared.event_data.EventName.{EventName}
use Rattle.bidi_methods.specs.EventName.{event_words}
use Rattle.bidi_sessions.specs.EventNames.{all_named}

-- whether a byte can stand in a name: a letter, a digit, `.`, `:`, `-` or `_`
abbrev pub is_name_byte : ℕ → Bool
is_name_byte b =
    (nat_le 97 b && nat_le b 122) || ((nat_le 65 b && nat_le b 90) || ((nat_le 48 b && nat_le b 57) || ((b == 46) || ((b == 58) || ((b == 45) || (b == 95))))))

-- how many bytes a name can have
abbrev pub longest_name : ℕ
longest_name = 255

-- whether this is a name: 1 to 255 such bytes
abbrev pub is_name : List ℕ → Bool
is_name name = nat_le 1 (length name) && (nat_le (length name) longest_name && list_all is_name_byte name)

-- the words of a text: what stands between its blanks; two blanks have an empty word between them
-- example: `a b.c` has `a` and `b.c`
abbrev pub words : List ℕ → List (List ℕ)
words text = slice_split (λ b. b == 32) text

-- whether a word can be made known: it is a name, or `*`, which makes all names known
abbrev pub can_be_known : List ℕ → Bool
can_be_known word = bytes_eq word (codes "*") || is_name word

-- whether a name is that of an event in the module of this name: it starts with the module, and a `.` follows
-- example: `network.fetchError` is in `network`
abbrev pub is_in : List ℕ → List ℕ → Bool
is_in name outer = starts_with eqb name outer && (get_or name (length outer) 0 == 46)

-- whether a name is this one, or that of an event in the module of this name
abbrev pub is_or_in : List ℕ → List ℕ → Bool
is_or_in name outer = bytes_eq name outer || is_in name outer

-- whether what a test made known makes this name known; `*` makes all names known
abbrev pub makes_known : List ℕ → List ℕ → Bool
makes_known by name = bytes_eq by (codes "*") || is_or_in name by

-- whether this is a name, and known
abbrev pub is_known : List (List ℕ) → List ℕ → Bool
is_known known name = is_name name && list_any (λ by. makes_known by name) known

-- ---- names of the profile, and of a test alone

-- the event of the profile that has this name, if there is one
abbrev pub event_named : List ℕ → Option EventName
event_named name = value_named event_words.first event_words.rest name

-- whether only the test has a name: it is known, and the profile has no event and no module of this name
abbrev pub is_foreign : List (List ℕ) → List ℕ → Bool
is_foreign known name = is_known known name && not (is_ok (all_named (name ∷ [])))

-- whether the test may have further events in the module of this name: it is known, and no event of the profile
abbrev pub is_module : List (List ℕ) → List ℕ → Bool
is_module known name = is_known known name && not (is_some (event_named name))

-- ---- what becomes known

-- those of some words that are not known yet, each once
abbrev pub new_words : List (List ℕ) → List (List ℕ) → List (List ℕ)
new_words known [] = []
new_words known (w ∷ ws) = if list_any (bytes_eq w) known then new_words known ws else w ∷ new_words (known ++ w ∷ []) ws
