-- The messages of events, as contracts see them.
use Rattle.std.specs.Prelude.{ℕ, List, map, Option, Some, None, string_bytes}
use Rattle.std.specs.declared.alloc.Global.{Global}
use Rattle.std.specs.declared.rc.Rc.{Rc}
use Rattle.bidi_contexts.specs.declared.occurrence.Top.{Top}
use Rattle.bidi_active.specs.declared.event_text.EventText.{EventText}

-- The message of an event, with the top-level context in whose tree the event occurred.
pub record Written : Type 0 where
  pub top : Top
  pub text : List ℕ

-- the message of an event in the code
abbrev pub written_of : EventText → Written
written_of e = record { top = e.top; text = string_bytes e.text.value }

-- the message in a place of a log buffer, if there is one
abbrev pub place_row : Option (Rc EventText Global) → Option Written
place_row None = None
place_row (Some e) = Some (written_of e.value)

-- the messages of some events in the code
abbrev pub written_in : List (Rc EventText Global) → List Written
written_in es = map (λ e. written_of e.value) es
