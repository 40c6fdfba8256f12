use Rattle.std.proofs.Common.{◌∙◌, ◌∷◌, [], Some, sym, ap, subst, refl, arith}
use Rattle.std.specs.Prelude.{flat_map}
use Rattle.bidi_methods.specs.declared.result_data.ResultData.TheVariants.{BrowserRemoveUserContext}
use Rattle.bidi_browser.specs.declared.command_result.CommandResult.TheVariants.{Data}
use Rattle.bidi_contexts.specs.Acts.{UserRemoved}
use Rattle.bidi_contexts.specs.Contexts.{tops_in}
use Rattle.bidi_contexts.specs.Occurrences.{removal}
use Rattle.bidi_browser.specs.Occurs.{Replies}
use Rattle.bidi_contexts.specs.View.{AreWell}
use Rattle.bidi_browser.proofs.PlanLemmas.{asked-removal, result-well}
use Rattle.bidi_browser.proofs.removals.plan_remove_user.Goals as goal

pub returns-clause-plans : goal.returns-clause-plans
returns-clause-plans c = λ past moment stands.
    let u = c.in-Some.user in
    let told = c.in_ok-before.ensures.told past stands.contexts in (
      UserRemoved u,
      rw (sym (c.named.ensures.named past stands.users) ∙ c.in-Some.is, sym c.eq.ensures ∙ c.if-eq.false) refl,
      asked-removal (flat_map (removal past) (tops_in past u)) c.in_ok-before.before.items _ (Some (Data (BrowserRemoveUserContext c.nothing.result))) told
          (ap (λ t. Replies t ∷ []) c.nothing.ensures.tree) c.new.ensures.items,
      refl,
      refl,
      λ unasked. c.new.ensures.items,
    )

pub returns-clause-well : goal.returns-clause-well
returns-clause-well c = record {
  before = c.in_ok-before.ensures.well;
  result = result-well (BrowserRemoveUserContext c.nothing.result) _ c.nothing.ensures.well c.nothing.ensures.tree (omega arith);
  after = subst AreWell (sym c.new.ensures.items) tt;
}
