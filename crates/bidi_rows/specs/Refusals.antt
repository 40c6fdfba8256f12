-- When the text of a row, an answer or an event is refused. This project's own.
use Rattle.std.specs.Prelude.{◌≡◌, ◌<◌, ◌≤◌, ◌⊎◌, ℕ, true, false, List, length, codes, Result, Ok, Err, Option, None, Some, IsSome}
use Rattle.json.specs.Json.{Json, array, Items, no_items, item, document}
use Rattle.json.specs.Find.{get}
use Rattle.json.specs.declared.error.Error.{Error}
use Rattle.json.specs.declared.error.Error.TheVariants as json
use Rattle.bidi_rows.specs.Rows.{Event, Reply, Row}
use Rattle.bidi_rows.specs.Reading.{most_bytes, answer_names, event_names, hold_names, row_names, has_only, string_at, object_at, HasEvents, HasReply, HasPart, HasTimes, IsFor}
use Rattle.bidi_rows.specs.declared.fault.RowFault.{RowFault}
use Rattle.bidi_rows.specs.declared.fault.RowFault.TheVariants.{NoMemory, TooLong, NotJson, Unexpected, NoMethod, NoParams, DeepPart, BadTimes, BadReply, BadEvents}

-- the fault of a text that the parser of JSON does not read
abbrev pub fault_of : Error → RowFault
fault_of json.OutOfMemory = NoMemory
fault_of error = NotJson

-- P holds if the fault is not `NoMemory`
abbrev pub WhenRefused : RowFault → Type 0 → Type 0
WhenRefused NoMemory P = Unit {0}
WhenRefused fault P = P

-- P holds if the text was refused: the call failed with another fault than `NoMemory`
abbrev pub IfRefused : {T : Type 0} → Result T RowFault → Type 0 → Type 0
IfRefused (Ok v) P = Unit {0}
IfRefused (Err fault) P = WhenRefused fault P

-- The fault is `NoMemory`, or comes for this reason.
abbrev pub HasReason : (RowFault → Type 0) → RowFault → Type 0
HasReason Refuses NoMemory = Unit {0}
HasReason Refuses fault = Refuses fault

-- If the call failed, it was by `NoMemory` or for this reason.
abbrev pub IfFails : {T : Type 0} → Result T RowFault → (RowFault → Type 0) → Type 0
IfFails (Ok v) Refuses = Unit {0}
IfFails (Err fault) Refuses = HasReason Refuses fault

-- The cases below say when each fault comes. Of several faults the first comes, in the order of these cases, and one without a case never comes.

-- The text is JSON of this value, and not too long.
abbrev pub IsText : List ℕ → Json → Type 0
IsText s j = (length s ≤ most_bytes) × (document s ≡ Some j)

-- Why a text is refused: it is too long; it is not JSON; or it is, and its value has a fault.
abbrev pub RefusesText : (Json → RowFault → Type 0) → List ℕ → RowFault → Type 0
RefusesText Refuses s TooLong = most_bytes < length s
RefusesText Refuses s NotJson = (length s ≤ most_bytes) × (document s ≡ None)
RefusesText Refuses s fault = (j : Json) × IsText s j × Refuses j fault

-- The value is an object with these properties at most.
abbrev pub HasOnly : List (List ℕ) → Json → Type 0
HasOnly names j = has_only names j ≡ true

-- Why a value is refused that may have these properties alone: it is no object, or it has another one; or a later check finds a fault.
abbrev pub RefusesNames : List (List ℕ) → (Json → RowFault → Type 0) → Json → RowFault → Type 0
RefusesNames names Refuses j fault = ((fault ≡ Unexpected) × (has_only names j ≡ false)) ⊎ (HasOnly names j × Refuses j fault)

-- ---- events

-- Why an object with the properties of an event is none: it has no string `method`; or it has, but no object `params`.
abbrev pub RefusesCall : Json → RowFault → Type 0
RefusesCall j NoMethod = string_at (codes "method") j ≡ None
RefusesCall j NoParams = IsSome (string_at (codes "method") j) × (object_at (codes "params") j ≡ None)
RefusesCall j fault = ⊥

-- Why a value is no event.
abbrev pub RefusesEvent : Json → RowFault → Type 0
RefusesEvent = RefusesNames event_names RefusesCall

-- The value is an event.
abbrev pub PassesEvent : Json → Type 0
PassesEvent j = HasOnly event_names j × IsSome (string_at (codes "method") j) × IsSome (object_at (codes "params") j)

-- Why some items are no events: the first that is none has this fault.
abbrev pub RefusesItems : Items → RowFault → Type 0
RefusesItems no_items fault = ⊥
RefusesItems (item j js) fault = RefusesEvent j fault ⊎ (PassesEvent j × RefusesItems js fault)

-- Why a value is no array of events: it is no array, or for one of its items.
abbrev pub RefusesArray : Json → RowFault → Type 0
RefusesArray (array js) fault = RefusesItems js fault
RefusesArray j fault = fault ≡ BadEvents

-- Why a property is no array of events; it may be left out.
abbrev pub RefusesEvents : Option Json → RowFault → Type 0
RefusesEvents None fault = ⊥
RefusesEvents (Some j) fault = RefusesArray j fault

-- ---- answers and rows

-- Why `result`, `error` and `message` give no reply: they have not the form of one.
abbrev pub RefusesReply : Json → RowFault → Type 0
RefusesReply j fault = (fault ≡ BadReply) × ((r : Reply) → HasReply j r → ⊥)

-- Why properties give no answer: `result`, `error` and `message` give no reply; or they do, but `before` has a fault; or it has none, but `after` has.
abbrev pub RefusesAnswer : Json → RowFault → Type 0
RefusesAnswer j fault =
    RefusesReply j fault
    ⊎ (((r : Reply) × HasReply j r) × (RefusesEvents (get (codes "before") j) fault
    ⊎ (((es : List Event) × HasEvents (get (codes "before") j) es) × RefusesEvents (get (codes "after") j) fault)))

-- Why a property is no part: it nests too deep.
abbrev pub RefusesPart : Option Json → RowFault → Type 0
RefusesPart o fault = (fault ≡ DeepPart) × ((part : Option Json) → HasPart o part → ⊥)

-- Why a property is no count of uses: it is no number of the range.
abbrev pub RefusesTimes : Option Json → RowFault → Type 0
RefusesTimes o fault = (fault ≡ BadTimes) × ((left : Option ℕ) → HasTimes o left → ⊥)

-- Why properties are for no row: there is no string `method`; or there is, but `params` nests too deep; or it does not, but `times` is no count.
abbrev pub RefusesFor : Json → RowFault → Type 0
RefusesFor j fault =
    ((fault ≡ NoMethod) × (string_at (codes "method") j ≡ None))
    ⊎ (IsSome (string_at (codes "method") j) × (RefusesPart (get (codes "params") j) fault
    ⊎ (((part : Option Json) × HasPart (get (codes "params") j) part) × RefusesTimes (get (codes "times") j) fault)))

-- Why properties are for no row that answers: they are for no row; or they are, but give no answer.
abbrev pub RefusesAnswering : Json → RowFault → Type 0
RefusesAnswering j fault = RefusesFor j fault ⊎ (((r : Row) × IsFor j r) × RefusesAnswer j fault)

-- ---- texts

-- Why a text is JSON for no event.
abbrev pub RefusesEventText : List ℕ → RowFault → Type 0
RefusesEventText = RefusesText RefusesEvent

-- Why a text is JSON for no array of events with places, whose form is that of events.
abbrev pub RefusesTemplates : List ℕ → RowFault → Type 0
RefusesTemplates = RefusesText RefusesArray

-- Why a text is JSON for no answer.
abbrev pub RefusesAnswerText : List ℕ → RowFault → Type 0
RefusesAnswerText = RefusesText (RefusesNames answer_names RefusesAnswer)

-- Why a text is JSON for no row that holds.
abbrev pub RefusesHolding : List ℕ → RowFault → Type 0
RefusesHolding = RefusesText (RefusesNames hold_names RefusesFor)

-- Why a text is JSON for no row that answers.
abbrev pub RefusesRow : List ℕ → RowFault → Type 0
RefusesRow = RefusesText (RefusesNames row_names RefusesAnswering)
