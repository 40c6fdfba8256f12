-- The id, the method and the params in the tree of a command.
use Rattle.std.proofs.Common.{◌≡◌, ◌≢◌, ◌∙◌, ◌^◌, ◌<◌, ℕ, pos, List, codes, Some, option_and_then, unwrap_or}
use Rattle.std.proofs.Common.{nat_lt, if◌then◌else◌, None, [], bytes_eq, false, true≢false, sym, refl, ap}
use Rattle.std.proofs.lemmas.Bool.{lt-ltb}
use Rattle.std.proofs.lemmas.Slice.Eq.{bytes_eq-Decides}
use Rattle.bidi_shape.specs.ValueLaws.{others_of}
use Rattle.bidi_tree.specs.Node.{Node, Members, put, get_member, null, whole, text}
use Rattle.bidi_tree.specs.Kind.{text_in}
use Rattle.bidi_tree.proofs.MemberLemmas.{get_member-put, get_member-put_other}
use Rattle.bidi_messages.specs.Verdict.{js_uint_in}
use Rattle.bidi_messages.specs.Command.{id_in, method_in, params_in}
use Rattle.bidi_methods.specs.Method.{method_text}
use Rattle.bidi_methods.specs.CommandData.{method_of}
use Rattle.bidi_messages.specs.contracts.command.CommandShape.TheImpl.{ghosts}
use Rattle.bidi_methods.specs.contracts.command_data.CommandDataPayloadMethod.TheImpl as asks
use Rattle.bidi_messages.specs.declared.command.Command.{Command}

pub apart : (j k : List ℕ) → bytes_eq j k ≡ false → j ≢ k
apart j k differ is = true≢false (sym ((bytes_eq-Decides j k).1 is) ∙ differ)

at_method : (x y : Node) (ms : Members) → get_member (codes "method") (put (codes "id") x (put (codes "method") y ms)) ≡ Some y
at_method x y ms =
    get_member-put_other (codes "method") (codes "id") x (put (codes "method") y ms) (apart (codes "method") (codes "id") refl)
    ∙ get_member-put (codes "method") y ms

at_params : (x y z : Node) (ms : Members) → get_member (codes "params") (put (codes "id") x (put (codes "method") y (put (codes "params") z ms))) ≡ Some z
at_params x y z ms =
    get_member-put_other (codes "params") (codes "id") x (put (codes "method") y (put (codes "params") z ms)) (apart (codes "params") (codes "id") refl)
    ∙ get_member-put_other (codes "params") (codes "method") y (put (codes "params") z ms) (apart (codes "params") (codes "method") refl)
    ∙ get_member-put (codes "params") z ms

pub in_range : (n : ℕ) → n < 2 ^ 53 → (if nat_lt n (2 ^ 53) then Some n else None) ≡ Some n
in_range n h = rw (lt-ltb n (2 ^ 53) h) refl

-- the members after the id, and after the method
abbrev with_params : Command → Members
with_params c = put (codes "params") (asks.ghosts.payload.tree_of c.«data») (others_of c.ext)

abbrev with_method : Command → Members
with_method c = put (codes "method") (text (method_text (method_of c.«data»))) (with_params c)

-- its id
pub id_in-tree : (c : Command) → id_in (ghosts.shape.tree_of c) ≡ c.id.value
id_in-tree c =
    ap (λ o. unwrap_or (option_and_then js_uint_in o) 0) (get_member-put (codes "id") (whole (pos c.id.value)) (with_method c))
    ∙ ap (λ o. unwrap_or o 0) (in_range c.id.value c.id.in_range)

-- its method
pub method_in-tree : (c : Command) → method_in (ghosts.shape.tree_of c) ≡ method_text (method_of c.«data»)
method_in-tree c =
    ap (λ o. unwrap_or (option_and_then text_in o) []) (at_method (whole (pos c.id.value)) (text (method_text (method_of c.«data»))) (with_params c))

-- its params
pub params_in-tree : (c : Command) → params_in (ghosts.shape.tree_of c) ≡ asks.ghosts.payload.tree_of c.«data»
params_in-tree c =
    ap (λ o. unwrap_or o null)
    (at_params (whole (pos c.id.value)) (text (method_text (method_of c.«data»))) (asks.ghosts.payload.tree_of c.«data») (others_of c.ext))
