-- The id or the method in the trees of responses, errors and events.
use Rattle.std.proofs.Common.{◌≡◌, ◌∙◌, ℕ, pos, List, [], codes, Option, Some, None, option_map}
use Rattle.std.proofs.Common.{option_and_then, unwrap_or, bytes_eq, false, string_bytes, refl, ap}
use Rattle.bidi_tree.specs.Node.{Node, Members, put, get_member, whole, text, map}
use Rattle.bidi_tree.specs.Kind.{text_in}
use Rattle.bidi_tree.specs.declared.number.JsUint.{JsUint}
use Rattle.bidi_tree.proofs.MemberLemmas.{get_member-put, get_member-put_other}
use Rattle.bidi_shape.specs.Parts.{put_part}
use Rattle.bidi_shape.specs.ChoiceLaws.{nullable_tree}
use Rattle.bidi_shape.specs.ValueLaws.{others_of}
use Rattle.bidi_messages.specs.Verdict.{js_uint_in, echoed_id}
use Rattle.bidi_messages.specs.Command.{method_in}
use Rattle.bidi_methods.specs.EventName.{event_name_text}
use Rattle.bidi_methods.specs.EventData.{event_of}
use Rattle.bidi_messages.specs.contracts.message.ResponseShape.TheImpl as response
use Rattle.bidi_messages.specs.contracts.message.ErrorResponseShape.TheImpl as error
use Rattle.bidi_messages.specs.contracts.event.EventShape.TheImpl as event
use Rattle.bidi_methods.specs.contracts.event_data.EventDataPayloadEventName.TheImpl as told
use Rattle.bidi_messages.specs.declared.message.Response.{Response}
use Rattle.bidi_messages.specs.declared.message.ErrorResponse.{ErrorResponse}
use Rattle.bidi_messages.specs.declared.event.Event.{Event}
use Rattle.bidi_params.specs.ErrorCode.{error_code_text}
use Rattle.bidi_messages.proofs.CommandLemmas.{apart, in_range}

-- a member after one with another name
behind : (j k : List ℕ) (x y : Node) (ms : Members) → bytes_eq k j ≡ false → get_member k (put j x (put k y ms)) ≡ Some y
behind j k x y ms differ = get_member-put_other k j x (put k y ms) (apart k j differ) ∙ get_member-put k y ms

-- the members of a response after its id
abbrev after_id : Response → Members
after_id r = put (codes "result") (map (others_of r.«result»)) (others_of r.ext)

-- its id
pub echoed_id-response : (r : Response) → echoed_id (response.ghosts.shape.tree_of r) ≡ Some r.id.value
echoed_id-response r =
    ap (option_and_then js_uint_in) (behind (codes "type") (codes "id") (text (codes "success")) (whole (pos r.id.value)) (after_id r) refl)
    ∙ in_range r.id.value r.id.in_range

-- the members of an error after its id
abbrev after_error_id : ErrorResponse → Members
after_error_id e =
    put (codes "error") (text (error_code_text e.error)) (put (codes "message") (text (string_bytes e.message))
    (put_part (codes "stacktrace") (option_map (λ s. text (string_bytes s)) e.stacktrace) (others_of e.ext)))

error_id : (o : Option JsUint) → js_uint_in (nullable_tree (λ n. whole (pos n.value)) o) ≡ option_map (λ n. n.value) o
error_id None = refl
error_id (Some n) = in_range n.value n.in_range

-- its id, if it has one
pub echoed_id-error : (e : ErrorResponse) → echoed_id (error.ghosts.shape.tree_of e) ≡ option_map (λ n. n.value) e.id
echoed_id-error e =
    ap (option_and_then js_uint_in)
    (behind (codes "type") (codes "id") (text (codes "error")) (nullable_tree (λ n. whole (pos n.value)) e.id) (after_error_id e) refl)
    ∙ error_id e.id

-- the method of an event
pub method_in-event : (e : Event) → method_in (event.ghosts.shape.tree_of e) ≡ event_name_text (event_of e.«data»)
method_in-event e =
    ap (λ o. unwrap_or (option_and_then text_in o) [])
    (behind (codes "type") (codes "method") (text (codes "event")) (text (event_name_text (event_of e.«data»)))
    (put (codes "params") (told.ghosts.payload.tree_of e.«data») (others_of e.ext)) refl)
