use Rattle.std.proofs.Common.{◌∙◌, ◌∷◌, [], map, filter, refl, ap, arith}
use Rattle.std.specs.Prelude.{string_bytes}
use Rattle.bidi_methods.specs.declared.result_data.ResultData.TheVariants.{ScriptDisown}
use Rattle.bidi_browser.specs.Asked.{disown_asked}
use Rattle.bidi_browser.specs.Occurs.{Replies}
use Rattle.bidi_handles.specs.Ids.{has_id}
use Rattle.bidi_contexts.specs.ContextRows.{ContextRow}
use Rattle.bidi_browser.proofs.ScriptLemmas.{disown-plans}
use Rattle.bidi_browser.proofs.PlanLemmas.{told-well, result-well}
use Rattle.bidi_browser.proofs.scripts.plan_disown.Goals as goal

pub returns-clause-plans : goal.returns-clause-plans
returns-clause-plans c = λ past moment stands.
    let found = c.in_ok-context.ensures past stands.contexts in
    let ids = map string_bytes c.args.params.now.handles.items in
    disown-plans c.answered.result past moment (disown_asked c.args.params.now) found.0 ids (ScriptDisown c.nothing.result) _
    c.in_ok-numbers.numbers refl found.1 (rw found.2 refl)
    (ap (λ t. Replies t ∷ []) c.nothing.ensures.tree) (c.number.ensures.number ∙ ap (λ (r : ContextRow). r.number) found.3)
    (c.in_ok-numbers.ensures ∙ ap (λ hs. map (λ h. h.0) (filter (λ h. has_id ids h.0) hs)) (c.handles.ensures ∙ ap (λ (r : ContextRow). r.handles) found.3)) c.answered.ensures.before
    c.answered.ensures.outcome c.answered.ensures.after c.answered.ensures.change

pub returns-clause-well : goal.returns-clause-well
returns-clause-well c =
    told-well c.answered.result (ScriptDisown c.nothing.result) c.answered.ensures.before c.answered.ensures.outcome c.answered.ensures.after
    (result-well (ScriptDisown c.nothing.result) _ c.nothing.ensures.well c.nothing.ensures.tree (omega arith))
