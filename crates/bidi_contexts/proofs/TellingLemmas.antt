-- An occurrence in hand by its event, its context and its top-level context.
use Rattle.std.proofs.Common.{◌≡◌, ℕ, refl, sym, subst}
use Rattle.bidi_methods.specs.declared.event_data.EventData.{EventData}
use Rattle.bidi_methods.specs.contracts.event_data.EventDataPayloadEventName.TheImpl.{ghosts}
use Rattle.bidi_contexts.specs.declared.occurrence.Occurrence as in_hand
use Rattle.bidi_contexts.specs.declared.occurrence.Top.{Top}
use Rattle.bidi_contexts.specs.View.{occurrence_of}

-- what it tells is what its event tells
pub told-of : (o : in_hand.Occurrence) (event : EventData) (context : ℕ) (top : Top) → o.event ≡ event → o.context ≡ context → o.top ≡ top
    → occurrence_of o ≡ record { event = ghosts.payload.kind event; context = context; top = top; params = ghosts.payload.tree_of event }
told-of o event context top is at below = rw (is, at, below) refl

-- a message can be made of it where one can be made of its event
pub well-of : (o : in_hand.Occurrence) (event : EventData) → o.event ≡ event → ghosts.payload.well event → ghosts.payload.well o.event
well-of o event is well = subst (λ e. ghosts.payload.well e) (sym is) well
