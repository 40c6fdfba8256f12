-- Reading a text from the remote end as a message. After WebDriver BiDi, "Transport".
use Rattle.std.specs.Prelude.{◌≡◌, ℕ, List, Some, None, Result, Ok, Err, ⊤}
use Rattle.bidi_tree.specs.Node.{Node}
use Rattle.bidi_tree.specs.Text.{tree_of_text, compact_text}
use Rattle.bidi_shape.specs.Name.{message}
use Rattle.bidi_shape.specs.Term.{rule}
use Rattle.bidi_shape.specs.Fits.{Fits}
use Rattle.bidi_shape.specs.Value.{ShapeOf}
use Rattle.bidi_messages.specs.declared.message.Message.{Message}
use Rattle.bidi_messages.specs.declared.message.Message.TheVariants.{Event}
use Rattle.bidi_methods.specs.declared.event_data.EventName.{EventName}
use Rattle.bidi_messages.specs.Message.{event_text}
use Rattle.bidi_messages.specs.declared.text.MessageFault.{MessageFault}
use Rattle.bidi_messages.specs.declared.text.MessageFault.TheVariants.{NotJson, NoFit, NoMemory}

-- the fault has its cause: the text is not JSON, or its tree fits no message; nothing is said of memory
abbrev pub IsCause : MessageFault → List ℕ → Type 0
IsCause NotJson s = tree_of_text None s ≡ None
IsCause NoFit s = (t : Node) × (tree_of_text None s ≡ Some t) × (Fits t (rule message) → ⊥)
IsCause NoMemory s = Unit {0}

-- the tree fits no message, if the fault is `NoFit`; nothing is said of memory
abbrev pub IsMisfit : MessageFault → Node → Type 0
IsMisfit NotJson t = ⊥
IsMisfit NoFit t = Fits t (rule message) → ⊥
IsMisfit NoMemory t = Unit {0}

-- the text of a valid message is read as that message, unless an allocation fails
abbrev pub ReadsAs : ShapeOf Message → List ℕ → Message → Result Message MessageFault → Type 0
ReadsAs shape s m (Ok v) = shape.well m → tree_of_text None s ≡ Some (shape.tree_of m) → shape.same v m
ReadsAs shape s m (Err NoMemory) = Unit {0}
ReadsAs shape s m (Err e) = shape.well m → tree_of_text None s ≡ Some (shape.tree_of m) → ⊥

-- the message is an event
abbrev pub IsEvent : Message → Type 0
IsEvent (Event e) = ⊤
IsEvent m = ⊥

-- the text is the compact text of a tree that fits the rule of messages and reads back as that tree; the text of an event is that of a valid event
-- example: `{"id":1,"result":{},"type":"success"}` is one, `{"id":1}` is not
abbrev pub IsMessageText : ShapeOf Message → List ℕ → Type 0
IsMessageText shape s =
    (t : Node) × Fits t (rule message) × (s ≡ compact_text t) × (tree_of_text None s ≡ Some t)
    × ((e : EventName) (params : Node) → s ≡ event_text e params → (m : Message) × shape.well m × IsEvent m × (shape.tree_of m ≡ t))

-- the text is read as a valid message whose text it is, unless an allocation fails
abbrev pub IsReadAs : ShapeOf Message → List ℕ → Result Message MessageFault → Type 0
IsReadAs shape s (Ok m) = shape.well m × (s ≡ compact_text (shape.tree_of m))
IsReadAs shape s (Err NoMemory) = Unit {0}
IsReadAs shape s (Err e) = ⊥
