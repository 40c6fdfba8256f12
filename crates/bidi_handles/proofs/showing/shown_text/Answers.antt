use Rattle.std.proofs.Common.{◌≡◌, ◌∙◌, ap, sym, subst}
use Rattle.std.specs.Prelude.{IfSome, string_bytes}
use Rattle.bidi_tree.specs.Text.{compact_text}
use Rattle.bidi_handles.specs.Showing.{IsRemote}
use Rattle.bidi_handles.specs.Values.{shown_as}
use Rattle.bidi_handles.specs.ValuesInHand.{held_tree}
use Rattle.bidi_handles.proofs.showing.shown_text.Goals as goal

pub returns-in-Some-clause-text : goal.returns-in-Some-clause-text
returns-in-Some-clause-text c =
    subst (λ found. IfSome found (λ s. string_bytes s ≡ compact_text (shown_as c.args.handle (held_tree c.args.held.now)))) c.in-Some.is
    c.in_ok-text.ensures.text
    ∙ ap (λ t. compact_text (shown_as c.args.handle t)) (sym (c.is_shown_whole.ensures c.if-is_shown_whole.true))

pub returns-in-Some-clause-remote : goal.returns-in-Some-clause-remote
returns-in-Some-clause-remote c =
    subst (λ t. IsRemote (shown_as c.args.handle t)) (sym (c.is_shown_whole.ensures c.if-is_shown_whole.true))
    (subst (λ found. IfSome found (λ s. IsRemote (shown_as c.args.handle (held_tree c.args.held.now)))) c.in-Some.is c.in_ok-text.ensures.remote)
