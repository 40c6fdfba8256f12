use Rattle.std.proofs.Common.{◌∙◌, [], ◌∷◌, true, false, codes, string_bytes, refl, sym, ap, subst}
use Rattle.std.specs.Prelude.{if◌then◌else◌, IfSome}
use Rattle.bidi_methods.specs.declared.method.Method.TheVariants.{SessionStatus}
use Rattle.bidi_messages.specs.Message.{status_tree}
use Rattle.bidi_contexts.specs.View.{AreWell}
use Rattle.bidi_browser.specs.Occurs.{Replies}
use Rattle.bidi_browser.specs.Plans.{IsWellResult}
use Rattle.bidi_browser.specs.declared.command_result.CommandResult.TheVariants.{Text}
use Rattle.bidi_browser.proofs.ResultLemmas.{read-back}
use Rattle.bidi_remote.specs.declared.turn.Change.TheVariants as change
use Rattle.bidi_remote.specs.Machine.Commands.{Status}
use Rattle.bidi_remote.proofs.DecideLemmas.{replied-decides, is_ready-rows, status-result}
use Rattle.bidi_remote.proofs.session.status.decide_status.Goals as goal

pub returns-clause-ok : goal.returns-clause-ok
returns-clause-ok c = λ past a.
    let written = status-result (string_bytes c.in_ok-text.text) c.is_ready.result c.in_ok-text.ensures in
    let told = (read-back SessionStatus (string_bytes c.in_ok-text.text) _ written).0 in
    replied-decides c.replied.result past c.args.asker Status _ change.Nothing (Text (record { method = SessionStatus; text = c.in_ok-text.text })) tt
    c.replied.ensures.change c.replied.ensures.before c.replied.ensures.reply c.replied.ensures.after refl
    (ap (λ t. Replies t ∷ []) (told ∙ ap (λ b. if b then status_tree true (codes "ready") else status_tree false (codes "full"))
    (is_ready-rows c.args.state.now past c.is_ready.result a c.is_ready.ensures)))
    c.replied.ensures.announced refl

pub returns-clause-well : goal.returns-clause-well
returns-clause-well c =
    let written = status-result (string_bytes c.in_ok-text.text) c.is_ready.result c.in_ok-text.ensures in record {
      before = subst AreWell (sym c.replied.ensures.before) tt;
      reply = subst (λ o. IfSome o (λ r. IsWellResult r.outcome)) (sym c.replied.ensures.reply) (read-back SessionStatus (string_bytes c.in_ok-text.text) _ written).1;
      after = subst AreWell (sym c.replied.ensures.after) tt;
    }
