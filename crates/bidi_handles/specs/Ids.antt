-- Ids of all kinds of things, as strings. After RFC 9562, 4 and 5.8; the layout of the bytes is this project's own.
use Rattle.std.specs.Prelude.{ℕ, Bool, List, ◌∷◌, ◌++◌, bytes_eq, drop}
use Rattle.std.specs.List.{list_any}
use Rattle.std.specs.Int.{w16, w32, w64, to_be_bytes}
use Rattle.uuid.specs.Text.{hyphenated_text, lower}
use Rattle.bidi_handles.specs.declared.id.IdKind.{IdKind}
use Rattle.bidi_handles.specs.declared.id.IdKind.TheVariants.{Session, Context, Realm, Navigation, Subscription, Handle, Window, UserContext}

-- the number that an id of this kind contains
abbrev pub kind_number : IdKind → ℕ
kind_number Session = 1
kind_number Context = 2
kind_number Realm = 3
kind_number Navigation = 4
kind_number Subscription = 5
kind_number Handle = 6
kind_number Window = 7
kind_number UserContext = 8

-- the session that an id contains: that of a subscription, and 0 for any other kind
abbrev pub session_in : IdKind → ℕ → ℕ
session_in Subscription session = session
session_in _ session = 0

-- the sixteen bytes of an id: the session in four, the kind in two, version 8 and its variant with zeros, and the number in six
abbrev pub id_bytes : IdKind → ℕ → ℕ → List ℕ
id_bytes kind session n =
    to_be_bytes w32 (session_in kind session)
    ++ (to_be_bytes w16 (kind_number kind) ++ (128 ∷ 0 ∷ 128 ∷ 0 ∷ drop 2 (to_be_bytes w64 n)))

-- the id of the n-th thing of a kind; a subscription counts within its session
-- example: the first context has `00000000-0002-8000-8000-000000000001`
abbrev pub id_text : IdKind → ℕ → ℕ → List ℕ
id_text kind session n = hyphenated_text lower (id_bytes kind session n)

-- the id of the n-th thing of a kind other than subscriptions
abbrev pub id_of : IdKind → ℕ → List ℕ
id_of kind n = id_text kind 0 n

-- the id of the n-th handle is among these
abbrev pub has_id : List (List ℕ) → ℕ → Bool
has_id ids n = list_any (bytes_eq (id_of Handle n)) ids
