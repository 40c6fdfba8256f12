use Rattle.std.proofs.Common.{◌∙◌, ◌∷◌, [], map, ap, refl}
use Rattle.std.specs.Prelude.{option_map, string_bytes}
use Rattle.bidi_methods.specs.declared.method.Method.TheVariants.{BrowsingContextGetTree}
use Rattle.bidi_contexts.specs.Acts.{Looked}
use Rattle.bidi_browser.specs.Asked.{get_tree_asked}
use Rattle.bidi_contexts.specs.Info.{info_of}
use Rattle.bidi_contexts.specs.InfosWritten.{infos_tree}
use Rattle.bidi_browser.specs.Occurs.{Replies, roots}
use Rattle.bidi_browser.specs.declared.command_result.CommandResult.TheVariants.{Text}
use Rattle.bidi_browser.proofs.PlanLemmas.{kept-plans, alone-well, refused-looks}
use Rattle.bidi_browser.proofs.ResultLemmas.{read-back, tree-result}
use Rattle.bidi_browser.proofs.looking.plan_get_tree.Goals as goal

pub returns-in_err-text-clause-plans : goal.returns-in_err-text-clause-plans
returns-in_err-text-clause-plans c = λ past moment stands.
    refused-looks c.roots_text.result c.from_residual.result c.in_err-text.field-0.0 past moment
    (get_tree_asked c.args.params.now) (c.roots_text.ensures.looked past stands) c.in_err-text.was c.from_residual.ensures.1

pub returns-clause-plans : goal.returns-clause-plans
returns-clause-plans c = λ past moment stands.
    let text = c.in_ok-text.text in
    let told = c.in_ok-text.ensures.told in
    let written = tree-result (string_bytes text) told.infos told.written told.well in
    let back = (read-back BrowsingContextGetTree (string_bytes text) _ written).0 in
    kept-plans c.answered.result past moment (get_tree_asked c.args.params.now) Looked (Text (record { method = BrowsingContextGetTree; text = text }))
    refl refl (c.in_ok-text.ensures.looked past stands)
    (ap (λ t. Replies t ∷ []) (back ∙ ap infos_tree
    (told.told past stands ∙ ap (λ d. map (info_of past d) (roots past (option_map string_bytes c.args.params.now.root))) c.depth_in.ensures)))
    c.answered.ensures.before c.answered.ensures.outcome c.answered.ensures.after c.answered.ensures.change

pub returns-clause-well : goal.returns-clause-well
returns-clause-well c =
    let text = c.in_ok-text.text in
    let told = c.in_ok-text.ensures.told in
    let written = tree-result (string_bytes text) told.infos told.written told.well in
    alone-well c.answered.result (Text (record { method = BrowsingContextGetTree; text = text })) c.answered.ensures.before
    c.answered.ensures.outcome c.answered.ensures.after (read-back BrowsingContextGetTree (string_bytes text) _ written).1
