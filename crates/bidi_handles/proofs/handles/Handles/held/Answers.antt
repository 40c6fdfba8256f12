use Rattle.std.proofs.Common.{◌≡◌, ◌∙◌, ℕ, List, Option, map, sym, ap, subst}
use Rattle.std.specs.Prelude.{bytes_eq, find, option_map}
use Rattle.std.specs.Borrow.{Bor}
use Rattle.std.specs.List.Sorted.{IsStrictlyIncreasing}
use Rattle.bidi_tree.specs.Node.{Node}
use Rattle.bidi_handles.specs.declared.id.IdKind.TheVariants as kind
use Rattle.bidi_handles.specs.declared.handle.Handle.{Handle}
use Rattle.bidi_handles.specs.Ids.{id_of}
use Rattle.bidi_handles.specs.ValuesInHand.{handle_seen, held_tree}
use Rattle.bidi_handles.proofs.SearchLemmas.{value-seen}
use Rattle.bidi_handles.proofs.handles.Handles.held.Goals as goal

-- the value behind the reference
abbrev value : Option (Bor Handle) → Option Node
value o = option_map (λ (h : Handle). held_tree h.value.value) (option_map (λ h. h.now) o)

-- the handle that was looked for is the one of the row
seen : (id : List ℕ) (hs all : List Handle) (o : Option (Bor Handle)) → all ≡ hs → IsStrictlyIncreasing (map (λ h. h.number) hs)
    → (IsStrictlyIncreasing (map (λ h. h.number) all) → option_map (λ h. h.now) o ≡ find (λ h. bytes_eq id (id_of kind.Handle h.number)) all)
    → value o ≡ option_map (λ held. held.1) (find (λ held. bytes_eq id (id_of kind.Handle held.0)) (map handle_seen hs))
seen id hs all o same ascend is =
    let t = λ (m : ℕ). bytes_eq id (id_of kind.Handle m) in
    value-seen t hs (option_map (λ h. h.now) o)
    (is (subst (λ (hs : List Handle). IsStrictlyIncreasing (map (λ h. h.number) hs)) (sym same) ascend) ∙ ap (find (λ (h : Handle). t h.number)) same)

pub returns-in_err-handle : goal.returns-in_err-handle
returns-in_err-handle c =
    ap (option_map (λ h. held_tree h.now.value)) c.from_residual.ensures
    ∙ (sym (ap value c.in_err-handle.was) ∙ seen c.args.id.now c.args.self.now.items.items c.deref.result.now c.handle_of_id.result
    c.deref.ensures.value c.args.self.now.ascend c.handle_of_id.ensures)

pub returns : goal.returns
returns c =
    sym (ap value c.in_ok-handle.was) ∙ seen c.args.id.now c.args.self.now.items.items c.deref.result.now c.handle_of_id.result
    c.deref.ensures.value c.args.self.now.ascend c.handle_of_id.ensures
