-- The spelling of JSON in facts: `'` means a quotation mark, and `$` with a letter and a digit means a whole id.
use Prim.Native.String.{String}
use Rattle.std.specs.Prelude.{ℕ, zero, suc, ◌-◌, ◌==◌, List, [], ◌∷◌, ◌++◌, slice_index, codes, if◌then◌else◌}
use Rattle.bidi_handles.specs.declared.id.IdKind.TheVariants.{Session, Context, Realm, Navigation, Subscription, Handle, Window, UserContext}
use Rattle.bidi_handles.specs.Ids.{id_of, id_text}

-- the id of a letter and a number
abbrev pub id_at : ℕ → ℕ → List ℕ
id_at letter n =
    if letter == slice_index (codes "s") 0 then id_of Session n
    else if letter == slice_index (codes "c") 0 then id_of Context n
    else if letter == slice_index (codes "r") 0 then id_of Realm n
    else if letter == slice_index (codes "n") 0 then id_of Navigation n
    else if letter == slice_index (codes "u") 0 then id_text Subscription 1 n
    else if letter == slice_index (codes "v") 0 then id_text Subscription 2 n
    else if letter == slice_index (codes "h") 0 then id_of Handle n
    else if letter == slice_index (codes "w") 0 then id_of Window n
    else id_of UserContext n

-- the id of the letter and the digit at the front
abbrev pub id_ahead : List ℕ → List ℕ
id_ahead bytes = id_at (slice_index bytes 0) (slice_index bytes 1 - 48)

-- the text, after so many bytes that an id has used
abbrev pub spelled : ℕ → List ℕ → List ℕ
spelled n [] = []
spelled (suc n) (b ∷ bytes) = spelled n bytes
spelled zero (b ∷ bytes) =
    if b == 36 then id_ahead bytes ++ spelled 2 bytes
    else (if b == 39 then 34 else b) ∷ spelled 0 bytes

abbrev pub said : String → List ℕ
said s = spelled 0 (codes s)
