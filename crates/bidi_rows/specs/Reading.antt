-- How the JSON of a row is read. This project's own.
use Rattle.std.specs.Prelude.{◌≡◌, ℕ, ◌<◌, ◌≤◌, Bool, true, false, ◌&&◌, List, [], ◌∷◌, ◌++◌, length, codes, bytes_eq, Option, Some, None, IfSome, IsSome, ⊤, option_and_then}
use Rattle.std.specs.List.{list_any}
use Rattle.std.specs.Option.{option_or}
use Rattle.json.specs.Json.{Json, null, boolean, number, string, array, object, Items, no_items, item, Members, no_members, member, document}
use Rattle.json.specs.Find.{get, as_str, as_number}
use Rattle.json.specs.Print.{quoted}
use Rattle.bidi_tree.specs.Node.{levels}
use Rattle.bidi_tree.specs.Json.{json_node}
use Rattle.bidi_rows.specs.Command.{js_uint}
use Rattle.bidi_rows.specs.Rows.{Event, Reply, Result, Error, Answer, Action, Answers, Holds, Row, compact, event_text}

-- how many bytes the text of a row or of an event can have
abbrev pub most_bytes : ℕ
most_bytes = 1048576

-- how many levels a part can have
abbrev pub most_part_levels : ℕ
most_part_levels = 60

-- whether each property has one of these names
abbrev pub all_among : List (List ℕ) → Members → Bool
all_among names no_members = true
all_among names (member name j ms) = list_any (bytes_eq name) names && all_among names ms

-- whether the value is an object whose properties have names among these
abbrev pub has_only : List (List ℕ) → Json → Bool
has_only names null = false
has_only names (boolean b) = false
has_only names (number s) = false
has_only names (string s) = false
has_only names (array js) = false
has_only names (object ms) = all_among names ms

-- the string at a name, if there is one
abbrev pub string_at : List ℕ → Json → Option (List ℕ)
string_at name j = option_and_then as_str (get name j)

-- the value, if it is an object
abbrev pub object_in : Json → Option Json
object_in null = None
object_in (boolean b) = None
object_in (number s) = None
object_in (string s) = None
object_in (array js) = None
object_in (object ms) = Some (object ms)

-- the object at a name, if there is one
abbrev pub object_at : List ℕ → Json → Option Json
object_at name j = option_and_then object_in (get name j)

-- ---- events

-- the context that the params of an event name: the string `context`, or else the string `source.context`
abbrev pub context_in : Json → Option (List ℕ)
context_in params = option_or (string_at (codes "context") params) (option_and_then (string_at (codes "context")) (get (codes "source") params))

-- the names that the properties of an event can have
abbrev pub event_names : List (List ℕ)
event_names = codes "method" ∷ codes "params" ∷ []

-- The value is JSON for this event: an object with a string `method`, an object `params`, and no other property.
pub record IsEvent (j : Json) (e : Event) : Type 0 where
  pub params : Json
  pub names : has_only event_names j ≡ true
  pub has_method : string_at (codes "method") j ≡ Some e.method
  pub has_params : object_at (codes "params") j ≡ Some params
  pub context : e.context ≡ context_in params
  pub text : e.text ≡ event_text e.method params

-- The items are JSON for these events, in order.
abbrev pub AreEvents : Items → List Event → Type 0
AreEvents no_items [] = ⊤
AreEvents no_items (e ∷ es) = ⊥
AreEvents (item j js) [] = ⊥
AreEvents (item j js) (e ∷ es) = IsEvent j e × AreEvents js es

-- The property, if there is one, is an array of these events; without it there are none.
abbrev pub HasEvents : Option Json → List Event → Type 0
HasEvents None es = es ≡ []
HasEvents (Some j) es = (js : Items) × (j ≡ array js) × AreEvents js es

-- ---- answers

-- The properties `result`, `error` and `message` give this reply: an object `result`, or a string `error`, whose message is the string
-- `message`, or the code itself.
pub data HasReply (j : Json) : Reply → Type 0 where
  has_result : (result : Json) → object_at (codes "result") j ≡ Some result → get (codes "error") j ≡ None → get (codes "message") j ≡ None
      → HasReply j (Result (compact result))
  has_error : (code : List ℕ) → get (codes "result") j ≡ None → string_at (codes "error") j ≡ Some code → get (codes "message") j ≡ None
      → HasReply j (Error (quoted code) (quoted code))
  has_message : (code : List ℕ) (message : List ℕ) → get (codes "result") j ≡ None → string_at (codes "error") j ≡ Some code
      → string_at (codes "message") j ≡ Some message → HasReply j (Error (quoted code) (quoted message))

-- The properties give this answer.
pub record HasAnswer (j : Json) (a : Answer) : Type 0 where
  pub before : HasEvents (get (codes "before") j) a.before
  pub reply : HasReply j a.reply
  pub after : HasEvents (get (codes "after") j) a.after

-- the names that the properties of an answer can have
abbrev pub answer_names : List (List ℕ)
answer_names = codes "result" ∷ codes "error" ∷ codes "message" ∷ codes "before" ∷ codes "after" ∷ []

-- ---- rows

-- The property `params`, if there is one, is the part, which nests at most `most_part_levels` levels deep.
abbrev pub HasPart : Option Json → Option Json → Type 0
HasPart None part = part ≡ None
HasPart (Some j) part = (part ≡ Some j) × (levels (json_node j) ≤ most_part_levels)

-- The property `times`, if there is one, says how often the row may be used, which is at least once.
abbrev pub HasTimes : Option Json → Option ℕ → Type 0
HasTimes None left = left ≡ None
HasTimes (Some j) left = (left ≡ option_and_then js_uint (as_number j)) × IfSome left (λ n. 0 < n) × IsSome left

-- the names that the properties of a row that holds can have
abbrev pub hold_names : List (List ℕ)
hold_names = codes "method" ∷ codes "params" ∷ codes "times" ∷ []

-- the names that the properties of a row that answers can have
abbrev pub row_names : List (List ℕ)
row_names = hold_names ++ answer_names

-- The properties `method`, `params` and `times` are those of this row.
pub record IsFor (j : Json) (r : Row) : Type 0 where
  pub has_method : string_at (codes "method") j ≡ Some r.method
  pub part : HasPart (get (codes "params") j) r.part
  pub times : HasTimes (get (codes "times") j) r.left

-- The row answers as the properties say, or holds if they are those of a row that holds.
abbrev pub Does : Json → Action → Type 0
Does j (Answers answer) = (has_only row_names j ≡ true) × HasAnswer j answer
Does j Holds = has_only hold_names j ≡ true

-- The text is JSON for this row.
pub record IsRow (s : List ℕ) (r : Row) : Type 0 where
  pub value : Json
  pub few : length s ≤ most_bytes
  pub is_json : document s ≡ Some value
  pub is_for : IsFor value r
  pub does : Does value r.action
  pub bytes : r.bytes ≡ length s

-- The text is JSON for this row, and the row answers.
abbrev pub IsAnsweringRow : List ℕ → Row → Type 0
IsAnsweringRow s r = IsRow s r × (answer : Answer) × (r.action ≡ Answers answer)

-- The text is JSON for this row, and the row holds.
abbrev pub IsHoldingRow : List ℕ → Row → Type 0
IsHoldingRow s r = IsRow s r × (r.action ≡ Holds)

-- The text is JSON for this answer.
pub record IsAnswer (s : List ℕ) (a : Answer) : Type 0 where
  pub value : Json
  pub few : length s ≤ most_bytes
  pub is_json : document s ≡ Some value
  pub names : has_only answer_names value ≡ true
  pub answer : HasAnswer value a

-- The text is JSON for this event.
pub record IsEventText (s : List ℕ) (e : Event) : Type 0 where
  pub value : Json
  pub few : length s ≤ most_bytes
  pub is_json : document s ≡ Some value
  pub event : IsEvent value e
