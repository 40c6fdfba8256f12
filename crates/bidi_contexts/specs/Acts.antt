-- Acts: what the browser has done. Its past is a list of acts, the newest first, which name everything by number.
use Rattle.std.specs.Prelude.{ℕ, suc, Bool, true, false, if◌then◌else◌, List, [], ◌∷◌, Option, is_none}
use Rattle.url.specs.Parts.{Parts}
use Rattle.bidi_tree.specs.Node.{Node}
use Rattle.bidi_scripts.specs.declared.log_entry.Level.{Level}
use Rattle.bidi_handles.specs.declared.id.IdKind.{IdKind}
use Rattle.bidi_handles.specs.declared.id.IdKind.TheVariants.{Context, Realm, Navigation, Handle, Window, UserContext}

-- A navigation leads to a URL, to the same entry again, or to another entry of the session history.
pub data Move : Type 0 where
  To : (url : Parts) → Move
  Again : Move
  Across : (place : ℕ) → Move

-- A script returned a value or threw one, given as the tree of a remote value.
pub data Ending : Type 0 where
  Returned : (value : Node) → Ending
  Threw : (value : Node) → Ending

-- A row of the script table says how a script ends, or which of its arguments it returns.
pub data ScriptEffect : Type 0 where
  EndsIn : (ending : Ending) → ScriptEffect
  GivesBack : (argument : ℕ) → ScriptEffect

-- What the browser did at a command that it accepted, or at a step of a page that had an effect.
pub data Act : Type 0 where
  -- a top-level context came in a user context, in a window that stood or in a new one
  Made : (window : Option ℕ) (user : ℕ) → Act
  -- a child of a context came, at a URL
  Framed : (parent : ℕ) (url : Parts) → Act
  -- a context went, and all below it
  Removed : (context : ℕ) → Act
  Moved : (context : ℕ) (move : Move) → Act
  Logged : (context : ℕ) (level : Level) (text : List ℕ) → Act
  Tabled : (text : List ℕ) (row : ScriptEffect) → Act
  -- a script ended in a realm, and where held is true its value got a handle
  Ran : (realm : ℕ) (ending : Ending) (held : Bool) → Act
  Disowned : (realm : ℕ) (handles : List (List ℕ)) → Act
  -- a user context came
  UserMade : Act
  -- a user context went, and all contexts in it
  UserRemoved : (user : ℕ) → Act
  -- nothing changed
  Looked : Act

-- The act gives out an id of the kind.
abbrev pub gives : IdKind → Act → Bool
gives Context (Made w u) = true
gives Context (Framed p url) = true
gives Realm (Made w u) = true
gives Realm (Framed p url) = true
gives Realm (Moved c move) = true
gives Navigation (Moved c move) = true
gives Handle (Ran r ending held) = held
gives Window (Made w u) = is_none w
gives UserContext UserMade = true
gives kind act = false

-- How many ids of the kind exist before the first act: one each for the first context, its realm and its window.
abbrev pub given_at_start : IdKind → ℕ
given_at_start Context = 1
given_at_start Realm = 1
given_at_start Window = 1
given_at_start kind = 0

-- How many ids of the kind have been given out, including those that exist at the start.
abbrev pub given : List Act → IdKind → ℕ
given [] kind = given_at_start kind
given (act ∷ past) kind = if gives kind act then suc (given past kind) else given past kind

-- The number that the next thing of the kind gets; no number is given twice.
-- example: at the start the next context is 2
abbrev pub next_number : List Act → IdKind → ℕ
next_number past kind = suc (given past kind)
