use Rattle.std.proofs.Common.{◌∙◌, ap, subst, sym}
use Rattle.bidi_methods.specs.Method.{method_text}
use Rattle.bidi_messages.specs.View.{verdict_of}
use Rattle.bidi_messages.specs.contracts.command.CommandShape.TheImpl.{ghosts}
use Rattle.bidi_messages.proofs.CommandLemmas.{id_in-tree, method_in-tree}
use Rattle.bidi_show.specs.MessageLines.{HasVerdict}
use Rattle.bidi_why.proofs.judging.in_short.Goals as goal

pub returns-in-Accepted : goal.returns-in-Accepted
returns-in-Accepted c text judged =
    let v = c.in-Accepted.command in
    let here = subst (λ x. HasVerdict text (verdict_of ghosts.shape x)) c.in-Accepted.is judged in
    (ghosts.shape.tree_of v, here, id_in-tree v, method_in-tree v ∙ ap method_text (sym c.method.ensures))
