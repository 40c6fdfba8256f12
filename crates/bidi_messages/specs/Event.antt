-- The member `type` of events. After WebDriver BiDi, "Protocol".
use Rattle.std.specs.Prelude.{◌≡◌, ℕ, List, [], Some, codes, refl}
use Rattle.bidi_shape.specs.Term.{the}
use Rattle.bidi_shape.specs.WordLaws.{Words, word, value_named}
use Rattle.bidi_messages.specs.declared.event.EventType.{EventType}
use Rattle.bidi_messages.specs.declared.event.EventType.TheVariants.{Event}

-- the string in the member `type` of an event
abbrev pub event_type_text : EventType → List ℕ
event_type_text Event = codes "event"

-- the string in `type` names the type
pub event_type_named : (e : EventType) → value_named (word event_type_text Event) [] (event_type_text e) ≡ Some e
event_type_named Event = refl

-- the type of events as a type with one string
abbrev pub event_type_words : Words EventType
event_type_words = record {
  rule = the "event";
  first = word event_type_text Event;
  rest = [];
  text_of = event_type_text;
  is_rule = refl;
  has_texts = refl;
  names_it = event_type_named;
}
