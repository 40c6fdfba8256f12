use Rattle.std.proofs.Common.{◌∙◌, Some, ap}
use Rattle.std.specs.Prelude.{option_map}
use Rattle.bidi_handles.specs.Handles.{values_in}
use Rattle.bidi_handles.specs.Resolves.{this_argument}
use Rattle.bidi_handles.specs.ValuesInHand.{local_tree}
use Rattle.bidi_handles.proofs.ResolveLemmas.{this-passes}
use Rattle.bidi_handles.proofs.resolving.check_this.Goals as goal

pub returns-in_ok-sized-in-Some : goal.returns-in_ok-sized-in-Some
returns-in_ok-sized-in-Some c =
    let held = values_in c.args.handles.now in
    let at = c.in_ok-sized-in-Some.ensures in
    (Some at.0, ap (λ v. this_argument held (option_map local_tree v)) c.in-Some.is ∙ this-passes held (local_tree c.in-Some.value) at.0 at.1)
