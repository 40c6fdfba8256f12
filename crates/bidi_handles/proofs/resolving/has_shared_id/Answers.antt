use Rattle.std.proofs.Common.{◌∙◌, codes, sym, ap}
use Rattle.std.specs.Prelude.{◌||◌, is_some}
use Rattle.bidi_tree.specs.Node.{get_member}
use Rattle.bidi_tree.specs.View.{node}
use Rattle.bidi_shape.specs.ValueLaws.{others_of}
use Rattle.bidi_handles.proofs.ResolveLemmas.{shared_id-there, there-seen}
use Rattle.bidi_handles.proofs.resolving.has_shared_id.Goals as goal

pub returns-then-is_some : goal.returns-then-is_some
returns-then-is_some c =
    let further = is_some (get_member (codes "sharedId") (others_of c.args.object.now.ext)) in
    c.if-is_some.true ∙ sym (shared_id-there c.args.object.now ∙ ap (λ b. b || further) (sym c.is_some.ensures ∙ c.if-is_some.true))

pub returns-else-is_some : goal.returns-else-is_some
returns-else-is_some c =
    let further = get_member (codes "sharedId") (others_of c.args.object.now.ext) in
    c.is_some-else-is_some.ensures
    ∙ (there-seen (λ t. node t.now) c.find_member.result further c.find_member.ensures
    ∙ sym (shared_id-there c.args.object.now ∙ ap (λ b. b || is_some further) (sym c.is_some.ensures ∙ c.if-is_some.false)))
