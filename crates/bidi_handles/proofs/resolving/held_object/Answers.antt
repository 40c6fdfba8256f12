use Rattle.std.proofs.Common.{◌∙◌, string_bytes, codes, sym, ap}
use Rattle.bidi_tree.specs.Node.{get_of}
use Rattle.bidi_values.specs.contracts.reference.RemoteObjectReferenceShape.TheImpl as objects
use Rattle.bidi_handles.specs.Handles.{values_in}
use Rattle.bidi_handles.proofs.ResolveLemmas.{handle-there, none-there, handle-resolved}
use Rattle.bidi_handles.proofs.resolving.held_object.Goals as goal

pub returns : goal.returns
returns c =
    let tree = objects.ghosts.shape.tree_of c.args.object.now in
    handle-resolved (values_in c.args.handles.now) c.held.result tree (string_bytes c.args.object.now.handle)
    (none-there (get_of (codes "sharedId") tree) (sym c.has_shared_id.ensures ∙ c.if-has_shared_id.false)) (handle-there c.args.object.now) (c.held.ensures ∙ ap (values_in c.args.handles.now) c.deref.ensures)
