use Rattle.std.proofs.Common.{◌≡◌, IfOk, string_bytes, ap, subst, refl}
use Rattle.std.proofs.Math.Dec.{eqb}
use Rattle.bidi_tree.specs.Node.{no_members}
use Rattle.bidi_tree.specs.Text.{compact_text}
use Rattle.bidi_shape.specs.ValueLaws.{others_of}
use Rattle.bidi_methods.specs.EventData.{event_of, event_payload}
use Rattle.bidi_messages.specs.Message.{event_tree}
use Rattle.bidi_messages.specs.declared.event.Event.{Event}
use Rattle.bidi_messages.specs.contracts.event.EventShape.TheImpl as events
use Rattle.bidi_messages.proofs.StraightLemmas.{none-further}
use Rattle.bidi_show.proofs.message_lines.text_of_event.Goals as goal

pub event_text-requires : goal.event_text-requires
event_text-requires c = c.requires.payload

-- without further members, its tree is that of its name and params
event-is : (e : Event) → others_of e.ext ≡ no_members → event_tree (event_of e.«data») (event_payload.tree_of e.«data») ≡ events.ghosts.shape.tree_of e
event-is e none = rw none refl

pub returns-then-len-eq0 : goal.returns-then-len-eq0
returns-then-len-eq0 c =
    subst (λ t. IfOk c.event_text.result (λ s. string_bytes s ≡ compact_text t))
    (event-is c.args.event.now (none-further c.args.event.now.ext c.len.result c.len.ensures.len (ap (λ n. eqb n 0) c.if-len-eq0.true))) c.event_text.ensures.text
