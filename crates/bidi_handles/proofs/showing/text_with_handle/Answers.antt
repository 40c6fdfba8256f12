use Rattle.std.proofs.Common.{◌∙◌, ◌∷◌, ◌++◌, ap, sym, subst, codes, string_bytes}
use Rattle.bidi_tree.specs.Node.{text}
use Rattle.bidi_tree.specs.Text.{compact_text}
use Rattle.bidi_handles.specs.Ids.{id_of}
use Rattle.bidi_handles.specs.Showing.{IsRemote}
use Rattle.bidi_handles.specs.Values.{with_member}
use Rattle.bidi_handles.specs.ValuesInHand.{held_tree}
use Rattle.bidi_handles.specs.declared.id.IdKind.TheVariants.{Handle}
use Rattle.bidi_handles.proofs.ShowingLemmas.{handle-text}
use Rattle.bidi_handles.proofs.showing.text_with_handle.Goals as goal

pub returns-clause-text : goal.returns-clause-text
returns-clause-text c =
    c.in_ok-text_after_handle.ensures
    ∙ (ap (λ i. codes "{\"handle\":" ++ (compact_text (text i) ++ 44 ∷ c.in-Some.rest.now)) (c.deref-2.ensures ∙ c.in_ok-id.ensures)
    ∙ handle-text (held_tree c.args.held.now) (string_bytes c.args.held.now.text) (id_of Handle c.args.n) c.in-Some.rest.now
    (c.is_unnamed.ensures.unnamed c.if-not-is_unnamed.false) c.args.held.now.written (sym c.deref.ensures ∙ c.in-Some.ensures))

pub returns-clause-remote : goal.returns-clause-remote
returns-clause-remote c =
    subst (λ i. IsRemote (with_member "handle" (text i) (held_tree c.args.held.now))) c.in_ok-id.ensures
    (c.is_unnamed.ensures.handled c.in_ok-id.id c.args.held.now.sound c.requires.takes)
