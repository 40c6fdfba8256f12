use Rattle.std.proofs.Common.{◌∙◌, ◌∷◌, [], Some, refl, sym, ap, subst}
use Rattle.bidi_tree.specs.Node.{no_members}
use Rattle.bidi_handles.specs.declared.id.IdKind.TheVariants.{Context}
use Rattle.bidi_contexts.specs.Acts.{Made}
use Rattle.bidi_contexts.specs.ContextRows.{row_of}
use Rattle.bidi_handles.specs.Maps.{◌being◌and◌, mapped, id_tree}
use Rattle.bidi_browser.specs.Occurs.{Replies}
use Rattle.bidi_contexts.specs.View.{AreWell}
use Rattle.bidi_browser.proofs.PlanLemmas.{made-row, asked-birth, none-is}
use Rattle.bidi_browser.proofs.births.plan_create.Goals as goal

pub returns-clause-plans : goal.returns-clause-plans
returns-clause-plans c = λ past moment stands ids.
    let w = c.in_ok-place.place.window in
    let u = c.in_ok-place.place.user in
    let context = c.in_ok-context.context in
    let row = made-row past w u (row_of context) _ _ _ _ stands.contexts.accepted stands.next_context stands.next_realm stands.next_window
    c.unwrap_or.ensures c.in_ok-context.ensures in
    let number = c.number.ensures.number ∙ (ap (λ r. r.number) c.in_ok-context.ensures ∙ stands.next_context) in (
      Made w u,
      c.in_ok-place.ensures.checked past stands ids,
      asked-birth past (Made w u) (row_of context) c.in_ok-before.before.items _ (Some c.in_ok-result.result) _ row c.in_ok-before.ensures.told
          (ap (λ t. Replies t ∷ []) (c.in_ok-result.ensures.tree ∙ ap (λ n. mapped ("context" being id_tree Context n and no_members)) number))
          c.new.ensures.items,
      refl,
      (refl, row, none-is w c.is_none-opens_window.result c.is_none-opens_window.ensures),
      λ unasked. c.new.ensures.items,
    )

pub returns-clause-well : goal.returns-clause-well
returns-clause-well c =
    record { before = c.in_ok-before.ensures.well; result = c.in_ok-result.ensures.well; after = subst AreWell (sym c.new.ensures.items) tt }
