-- Resolving local values, and handles of remote values. After WebDriver BiDi, "The script.LocalValue Type", "The script.RemoteValue Type".
use Prim.Native.String.{String}
use Rattle.std.specs.Prelude.{ℕ, Bool, false, not, ◌&&◌, ◌||◌, nat_le, List, [], ◌∷◌, length, codes, bytes_eq, Option, Some, None, Result, Ok, Err}
use Rattle.std.specs.List.{list_any}
use Rattle.bidi_tree.specs.Node.{Node, null, boolean, whole, odd, text, list, map, Items, no_items, item, Members, no_members, member, put, get_member, levels}
use Rattle.bidi_tree.specs.Text.{compact_text}
use Rattle.bidi_params.specs.declared.error_code.ErrorCode.{ErrorCode}
use Rattle.bidi_params.specs.declared.error_code.ErrorCode.TheVariants.{NoSuchHandle, NoSuchNode, UnknownError}
use Rattle.bidi_handles.specs.declared.id.IdKind.TheVariants.{Handle}
use Rattle.bidi_handles.specs.Maps.{id_tree}
use Rattle.bidi_handles.specs.Params.{text_at}
use Rattle.bidi_handles.specs.Checks.{◌>>=◌, need, found}
use Rattle.bidi_shape.specs.Limits.{most_bytes, most_levels}

-- ---- resolving a local value

-- the value of each handle of a realm, by the handle's id; None if there is no such handle
abbrev pub Held : Type 0
Held = List ℕ → Option Node

-- the value of the handle that the member `handle` names
abbrev pub handle_value : Held → Node → Result Node ErrorCode
handle_value held (text id) = found (held id) NoSuchHandle
handle_value held t = Err NoSuchHandle

-- the value of an object: `no such node` if it has a `sharedId`, the value of its handle if it has a `handle`, and else the object resolved inside
abbrev pub referred : Held → Option Node → Option Node → Result Node ErrorCode → Result Node ErrorCode
referred held (Some id) handle other = Err NoSuchNode
referred held None (Some id) other = handle_value held id
referred held None None other = other

-- the object of these members, or the code of their failure
abbrev pub in_map : Result Members ErrorCode → Result Node ErrorCode
in_map (Ok ms) = Ok (map ms)
in_map (Err code) = Err code

-- the array of these items, or the code of their failure
abbrev pub in_list : Result Items ErrorCode → Result Node ErrorCode
in_list (Ok ts) = Ok (list ts)
in_list (Err code) = Err code

-- A local value with each reference replaced by the value of its handle, or the code of the first reference that fails. In a pair the key
-- comes first. Everything else stays, because a local and a remote value of the same type and content have the same tree.
abbrev mutual
  -- example: a shared id is `no such node`
  pub resolved : Held → Node → Result Node ErrorCode
  resolved held null = Ok null
  resolved held (boolean b) = Ok (boolean b)
  resolved held (whole z) = Ok (whole z)
  resolved held odd = Ok odd
  resolved held (text s) = Ok (text s)
  resolved held (list ts) = in_list (resolved_items held ts)
  resolved held (map ms) = referred held (get_member (codes "sharedId") ms) (get_member (codes "handle") ms) (in_map (resolved_members held ms))

  -- the items resolved in order, or the code of the first that fails
  pub resolved_items : Held → Items → Result Items ErrorCode
  resolved_items held no_items = Ok no_items
  resolved_items held (item t ts) = do
    u ← resolved held t
    us ← resolved_items held ts
    Ok (item u us)

  -- the members resolved in order, or the code of the first that fails
  pub resolved_members : Held → Members → Result Members ErrorCode
  resolved_members held no_members = Ok no_members
  resolved_members held (member k t ms) = do
    u ← resolved held t
    us ← resolved_members held ms
    Ok (member k u us)

-- an argument, or `this`, resolved; `unknown error` if the result has more than 60 levels or 1,048,576 bytes of compact text
abbrev pub argument : Held → Node → Result Node ErrorCode
argument held value = do
  v ← resolved held value
  small ← need (nat_le (levels v) most_levels && nat_le (length (compact_text v)) most_bytes) UnknownError
  Ok v

-- the arguments resolved in order, or the code of the first that fails
abbrev pub arguments : Held → List Node → Result (List Node) ErrorCode
arguments held [] = Ok []
arguments held (value ∷ values) = do
  v ← argument held value
  vs ← arguments held values
  Ok (v ∷ vs)

-- ---- handles

-- the string is one of these words
abbrev pub is_one_of : List String → List ℕ → Bool
is_one_of words s = list_any (λ word. bytes_eq (codes word) s) words

-- the value can have a handle: all values can except primitive ones
abbrev pub takes_handle : Node → Bool
takes_handle v = not (is_one_of ("undefined" ∷ "null" ∷ "string" ∷ "number" ∷ "boolean" ∷ "bigint" ∷ []) (text_at "type" v))

-- the object with this tree at this name; any other tree is left as it is
abbrev pub with_member : String → Node → Node → Node
with_member name t (map ms) = map (put (codes name) t ms)
with_member name t u = u

-- the value with its handle, if it has one
abbrev pub shown_as : Option ℕ → Node → Node
shown_as None value = value
shown_as (Some n) value = with_member "handle" (id_tree Handle n) value

-- ---- the table

-- the tree has a member `handle` or `internalId`, at any depth
abbrev mutual
  pub has_handle : Node → Bool
  has_handle null = false
  has_handle (boolean b) = false
  has_handle (whole z) = false
  has_handle odd = false
  has_handle (text s) = false
  has_handle (list ts) = items_have_handle ts
  has_handle (map ms) = members_have_handle ms

  -- some item has a member `handle` or `internalId`, at any depth
  pub items_have_handle : Items → Bool
  items_have_handle no_items = false
  items_have_handle (item t ts) = has_handle t || items_have_handle ts

  -- some member is named `handle` or `internalId`, or has such a member at any depth
  pub members_have_handle : Members → Bool
  members_have_handle no_members = false
  members_have_handle (member k t ms) = is_one_of ("handle" ∷ "internalId" ∷ []) k || (has_handle t || members_have_handle ms)
