use Rattle.std.proofs.Common.{◌∙◌, ◌∷◌, [], map, string_bytes, ap, refl}
use Rattle.bidi_tree.specs.Node.{no_members}
use Rattle.bidi_methods.specs.declared.method.Method.TheVariants.{BrowserGetUserContexts}
use Rattle.bidi_handles.specs.Maps.{◌being◌and◌, mapped, listed}
use Rattle.bidi_contexts.specs.Acts.{Looked}
use Rattle.bidi_contexts.specs.Actions.{GetUserContexts}
use Rattle.bidi_contexts.specs.Users.{user_info}
use Rattle.bidi_browser.specs.Occurs.{Replies}
use Rattle.bidi_browser.specs.declared.command_result.CommandResult.TheVariants.{Text}
use Rattle.bidi_browser.proofs.PlanLemmas.{kept-plans, alone-well}
use Rattle.bidi_browser.proofs.ResultLemmas.{read-back, users-result}
use Rattle.bidi_browser.proofs.looking.plan_get_users.Goals as goal

pub returns-clause-plans : goal.returns-clause-plans
returns-clause-plans c = λ past moment stands.
    let written = users-result (string_bytes c.in_ok-text.text) (map (λ u. u.number) c.args.browser.now.users.live.items) 0 c.in_ok-text.ensures in
    let told = (read-back BrowserGetUserContexts (string_bytes c.in_ok-text.text) _ written).0 in
    kept-plans c.answered.result past moment GetUserContexts Looked (Text (record { method = BrowserGetUserContexts; text = c.in_ok-text.text })) refl refl refl
    (ap (λ t. Replies t ∷ []) (told ∙ ap (λ us. mapped ("userContexts" being listed (map user_info (0 ∷ us)) and no_members)) stands.users.live))
    c.answered.ensures.before c.answered.ensures.outcome c.answered.ensures.after c.answered.ensures.change

pub returns-clause-well : goal.returns-clause-well
returns-clause-well c =
    let written = users-result (string_bytes c.in_ok-text.text) (map (λ u. u.number) c.args.browser.now.users.live.items) 0 c.in_ok-text.ensures in
    alone-well c.answered.result (Text (record { method = BrowserGetUserContexts; text = c.in_ok-text.text })) c.answered.ensures.before
    c.answered.ensures.outcome c.answered.ensures.after (read-back BrowserGetUserContexts (string_bytes c.in_ok-text.text) _ written).1
