-- The inputs that a remote end hears in its steps, and the deeds that they lead to. After WebDriver BiDi, "Transport".
use Rattle.std.specs.Prelude.{◌≡◌, ℕ, List, [], ◌∷◌, Option, Some, None, ⊤}
use Rattle.bidi_tree.specs.Node.{Node}
use Rattle.bidi_tree.specs.Text.{tree_of_text}
use Rattle.bidi_shape.specs.Name.{table_row}
use Rattle.bidi_shape.specs.Term.{rule}
use Rattle.bidi_shape.specs.Fits.{Fits}
use Rattle.bidi_contexts.specs.Acts.{Act}
use Rattle.bidi_contexts.specs.Actions.{Action, Frame, Unframe, Log, TableRow}
use Rattle.bidi_methods.specs.declared.event_data.EventName.{EventName}
use Rattle.bidi_messages.specs.Verdict.{Verdict, IsVerdict}
use Rattle.bidi_sessions.specs.Step as step
pub use Rattle.bidi_sessions.specs.Scope.{Scope, All, Below, Within}
use Rattle.bidi_shape.specs.Limits.{most_bytes}

-- ---- what is heard

-- An input is a step as the remote end hears it. A history is a list of inputs, the newest first.
pub data Input : Type 0 where
  At : (moment : ℕ) → Input
  Open : (conn : ℕ) (resource : List ℕ) → Input
  Drop : (conn : ℕ) → Input
  Heard : (conn : ℕ) (verdict : Verdict) → Input
  -- a binary message
  NotText : (conn : ℕ) → Input
  -- a step of a page, as the action that the browser takes
  OfPage : (action : Action) → Input

-- the tree of the text of a row of the script table, if it is JSON of at most `most_bytes` bytes
abbrev pub row_tree : List ℕ → Option Node
row_tree s = tree_of_text (Some most_bytes) s

-- The text is read as this row of the script table: its tree, if that fits the rule TableRow, and else no row.
pub data IsRow (s : List ℕ) : Option Node → Type 0 where
  is_row : (t : Node) → row_tree s ≡ Some t → Fits t (rule table_row) → IsRow s (Some t)
  is_not_json : row_tree s ≡ None → IsRow s None
  is_no_row : (t : Node) → row_tree s ≡ Some t → (Fits t (rule table_row) → ⊥) → IsRow s None

-- The browser takes a step of a page as this action. The text of a row is taken as the row that is read from it.
abbrev pub IsTakenAs : step.PageStep → Action → Type 0
IsTakenAs (step.Frame id url) a = a ≡ Frame id url
IsTakenAs (step.Unframe id) a = a ≡ Unframe id
IsTakenAs (step.Log id level text) a = a ≡ Log id level text
IsTakenAs (step.TableRow text) a = (row : Option Node) × IsRow text row × (a ≡ TableRow row)

-- The step is heard as this input. A message is heard as its verdict, and a step of a page as an action of the browser.
abbrev pub IsHeardAs : step.Step → Input → Type 0
IsHeardAs (step.At n) i = i ≡ At n
IsHeardAs (step.Open c resource) i = i ≡ Open c resource
IsHeardAs (step.Drop c) i = i ≡ Drop c
IsHeardAs (step.Text c text) i = (v : Verdict) × IsVerdict text v × (i ≡ Heard c v)
IsHeardAs (step.NotText c) i = i ≡ NotText c
IsHeardAs (step.Page page) i = (a : Action) × IsTakenAs page a × (i ≡ OfPage a)

-- Each step is heard as the input at the same place in the list.
abbrev pub AreHeardAs : List step.Step → List Input → Type 0
AreHeardAs [] [] = ⊤
AreHeardAs [] (i ∷ inputs) = ⊥
AreHeardAs (x ∷ steps) [] = ⊥
AreHeardAs (x ∷ steps) (i ∷ inputs) = IsHeardAs x i × AreHeardAs steps inputs

-- ---- deeds

-- A deed is what the remote end did at an input, with numbers in place of ids. A past is a list of deeds, the newest first.
pub data Deed : Type 0 where
  Time : (moment : ℕ) → Deed
  Opened : (conn : ℕ) (session : Option ℕ) → Deed
  Dropped : (conn : ℕ) → Deed
  -- a session began, and this connection, which asked for it, speaks for it
  Began : (conn : ℕ) → Deed
  Ended : (session : ℕ) → Deed
  Subscribed : (session : ℕ) (events : List EventName) (scope : Scope) → Deed
  -- a session lost the subscriptions of these numbers, or these events of its global subscriptions
  Cancelled : (session : ℕ) (subscriptions : List ℕ) → Deed
  Dismissed : (session : ℕ) (events : List EventName) → Deed
  -- the browser did this
  Did : (act : Act) → Deed
  -- the status was reported, and nothing changed
  Told : Deed

-- the acts of the browser in a past, the newest first
abbrev pub acts : List Deed → List Act
acts [] = []
acts (Did act ∷ past) = act ∷ acts past
acts (d ∷ past) = acts past

-- the time on the clock: that of the last `At`, or 0
abbrev pub moment : List Deed → ℕ
moment [] = 0
moment (Time n ∷ past) = n
moment (d ∷ past) = moment past
