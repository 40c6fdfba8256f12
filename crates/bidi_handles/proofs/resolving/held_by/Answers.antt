use Rattle.std.proofs.Common.{◌∙◌, string_bytes, codes, sym, subst}
use Rattle.bidi_tree.specs.Node.{get_of}
use Rattle.bidi_params.specs.declared.error_code.ErrorCode.TheVariants.{NoSuchHandle}
use Rattle.bidi_values.specs.contracts.reference.RemoteObjectReferenceShape.TheImpl as objects
use Rattle.bidi_handles.specs.Checks.{found}
use Rattle.bidi_handles.specs.Handles.{values_in}
use Rattle.bidi_handles.specs.Resolves.{Gives}
use Rattle.bidi_values.specs.RemoteView.{remote_tree}
use Rattle.bidi_handles.proofs.ResolveLemmas.{by-shared, by-handle, handle-there, there, none-there}
use Rattle.bidi_handles.proofs.resolving.held_by.Goals as goal

pub returns-then-has_shared_id : goal.returns-then-has_shared_id
returns-then-has_shared_id c =
    let tree = objects.ghosts.shape.tree_of c.args.object.now in
    let id = there (get_of (codes "sharedId") tree) (sym c.has_shared_id.ensures ∙ c.if-has_shared_id.true) in
    by-shared (values_in c.args.handles.now) tree id.0 id.1

pub returns : goal.returns
returns c =
    let held = values_in c.args.handles.now in
    let tree = objects.ghosts.shape.tree_of c.args.object.now in
    by-handle remote_tree held c.copy_held.result tree (string_bytes c.args.object.now.handle)
    (none-there (get_of (codes "sharedId") tree) (sym c.has_shared_id.ensures ∙ c.if-has_shared_id.false)) (handle-there c.args.object.now)
    (subst (λ id. Gives remote_tree c.copy_held.result (found (held id) NoSuchHandle)) c.deref.ensures c.copy_held.ensures)
