use Rattle.std.proofs.Common.{◌∙◌, map, refl, ap, sym}
use Rattle.std.specs.Prelude.{option_map, string_bytes}
use Rattle.bidi_contexts.specs.ContextRows.{row_of, row_at}
use Rattle.bidi_contexts.specs.Outcome.{context_named}
use Rattle.bidi_browser.proofs.PlanLemmas.{holder-found, one-shown}
use Rattle.bidi_browser.proofs.looking.holders.Goals as goal

pub returns-in_ok-context-in-Some : goal.returns-in_ok-context-in-Some
returns-in_ok-context-in-Some c = λ past stands.
    let found = c.in_ok-context-in-Some.ensures past stands.contexts in
    let held = holder-found past (string_bytes c.in-Some.id) found.0 _ (ap (option_map string_bytes) c.in-Some.is)
    (ap (context_named past) (sym c.deref.ensures) ∙ found.1) in (
      held.0,
      one-shown row_of (row_at past) found.0 _ _ _ c.from_ref.ensures.value refl found.2 ∙ ap (map (row_at past)) (sym held.1),
    )
