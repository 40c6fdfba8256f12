use Rattle.std.proofs.Common.{◌≡◌, ◌∙◌, true, option_map, sym, subst}
use Rattle.std.specs.Prelude.{IfOk, IfSome}
use Rattle.bidi_tree.specs.Node.{text}
use Rattle.bidi_values.specs.Cut.{cut_to}
use Rattle.bidi_contexts.specs.Realms.{value_of}
use Rattle.bidi_handles.specs.Ids.{id_of}
use Rattle.bidi_handles.specs.Values.{shown_as, takes_handle}
use Rattle.bidi_handles.specs.ValuesInHand.{held_tree}
use Rattle.bidi_handles.specs.declared.id.IdKind.TheVariants.{Realm}
use Rattle.bidi_browser.specs.Runs.{result_told, success_tree, exception_tree}
use Rattle.bidi_browser.specs.TableInHand.{ending_seen}
use Rattle.bidi_browser.specs.View.{text_tree}
use Rattle.bidi_browser.proofs.showing.result_of_ending.Goals as goal

pub returned-requires-clause-takes : goal.returned-requires-clause-takes
returned-requires-clause-takes c =
    subst (λ h. IfSome c.args.handle (λ n. takes_handle (held_tree h) ≡ true)) (sym c.as_ref.ensures)
    (subst (λ e. IfSome c.args.handle (λ n. takes_handle (value_of (ending_seen e)) ≡ true)) c.in-Returned.is c.requires.takes)

pub returns-in-Returned-clause-tree : goal.returns-in-Returned-clause-tree
returns-in-Returned-clause-tree c =
    let depth = option_map (λ d. d.value) c.args.depth in
    subst (λ e. IfOk c.returned.result (λ r. text_tree r ≡ result_told c.args.realm (ending_seen e) (shown_as c.args.handle (cut_to depth (value_of (ending_seen e))))))
    (sym c.in-Returned.is)
    (subst (λ h. IfOk c.returned.result (λ r. text_tree r ≡ success_tree (text (id_of Realm c.args.realm)) (shown_as c.args.handle (cut_to depth (held_tree h)))))
    c.as_ref.ensures
    (subst (λ s. IfOk c.returned.result (λ r. text_tree r ≡ success_tree (text s) (shown_as c.args.handle (cut_to depth (held_tree c.as_ref.result.now)))))
    (c.deref.ensures ∙ c.in_ok-realm.ensures) c.returned.ensures.tree))

pub threw-requires-clause-takes : goal.threw-requires-clause-takes
threw-requires-clause-takes c =
    subst (λ h. IfSome c.args.handle (λ n. takes_handle (held_tree h) ≡ true)) (sym c.as_ref-in-Threw.ensures)
    (subst (λ e. IfSome c.args.handle (λ n. takes_handle (value_of (ending_seen e)) ≡ true)) c.in-Threw.is c.requires.takes)

pub returns-clause-tree : goal.returns-clause-tree
returns-clause-tree c =
    let depth = option_map (λ d. d.value) c.args.depth in
    subst (λ e. IfOk c.threw.result (λ r. text_tree r ≡ result_told c.args.realm (ending_seen e) (shown_as c.args.handle (cut_to depth (value_of (ending_seen e))))))
    (sym c.in-Threw.is)
    (subst (λ h. IfOk c.threw.result (λ r. text_tree r ≡ exception_tree (text (id_of Realm c.args.realm)) (shown_as c.args.handle (cut_to depth (held_tree h)))))
    c.as_ref-in-Threw.ensures
    (subst (λ s. IfOk c.threw.result (λ r. text_tree r ≡ exception_tree (text s) (shown_as c.args.handle (cut_to depth (held_tree c.as_ref-in-Threw.result.now)))))
    (c.deref-in-Threw.ensures ∙ c.in_ok-realm.ensures) c.threw.ensures.tree))
