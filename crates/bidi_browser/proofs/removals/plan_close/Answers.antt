use Rattle.std.proofs.Common.{◌∙◌, ◌∷◌, [], Some, sym, ap, subst, refl, arith}
use Rattle.bidi_methods.specs.declared.result_data.ResultData.TheVariants.{BrowsingContextClose}
use Rattle.bidi_browser.specs.declared.command_result.CommandResult.TheVariants.{Data}
use Rattle.bidi_contexts.specs.Acts.{Removed}
use Rattle.bidi_contexts.specs.Occurrences.{removal}
use Rattle.bidi_browser.specs.Occurs.{Replies}
use Rattle.bidi_contexts.specs.View.{AreWell}
use Rattle.bidi_browser.proofs.PlanLemmas.{asked-removal, result-well}
use Rattle.bidi_browser.proofs.removals.plan_close.Goals as goal

pub returns-clause-plans : goal.returns-clause-plans
returns-clause-plans c = λ past moment stands.
    let found = c.in_ok-context.ensures past stands.contexts in
    let told = c.in_ok-before.ensures.told past found.0 stands.contexts found.2 in (
      Removed found.0,
      rw found.1 refl,
      asked-removal (removal past found.0) c.in_ok-before.before.items _ (Some (Data (BrowsingContextClose c.nothing.result))) told
          (ap (λ t. Replies t ∷ []) c.nothing.ensures.tree) c.new.ensures.items,
      refl,
      ap Removed (sym (c.number.ensures.number ∙ ap (λ r. r.number) found.2)),
      λ unasked. c.new.ensures.items,
    )

pub returns-clause-well : goal.returns-clause-well
returns-clause-well c = record {
  before = c.in_ok-before.ensures.well;
  result = result-well (BrowsingContextClose c.nothing.result) _ c.nothing.ensures.well c.nothing.ensures.tree (omega arith);
  after = subst AreWell (sym c.new.ensures.items) tt;
}
