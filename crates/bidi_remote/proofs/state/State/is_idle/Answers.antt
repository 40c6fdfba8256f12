use Rattle.std.proofs.Common.{◌≡◌, ◌∙◌, true, false, ◌||◌, sym, ap, subst, is_err}
use Rattle.bidi_messages.specs.contracts.command.CommandShape.TheImpl.{ghosts}
use Rattle.bidi_messages.specs.View.{verdict_of, IsWell}
use Rattle.bidi_params.specs.contracts.session.capabilities.NewParametersShape.TheImpl as params
use Rattle.bidi_methods.specs.Method.{method_text}
use Rattle.bidi_methods.specs.CommandData.{method_of}
use Rattle.bidi_remote.specs.Machine.Connections.{attachment_of}
use Rattle.bidi_remote.specs.Machine.Outcome.{deeds, outcome}
use Rattle.bidi_remote.specs.Strike as strike
use Rattle.bidi_remote.specs.State.Asked.{asked_of}
use Rattle.bidi_sessions.specs.ConnectionRows.{attachment_in_hand}
use Rattle.bidi_remote.proofs.AskLemmas.{well-asked}
use Rattle.bidi_remote.proofs.StrikeLemmas.{idle-command, idle-loud, is_quiet_text, found-so}
use Rattle.bidi_remote.proofs.state.State.is_idle.Goals as goal

pub is_refused-requires : goal.is_refused-requires
is_refused-requires c = well-asked _ (subst (IsWell ghosts.shape) c.in-Accepted.is c.requires)

pub returns-then-is_quiet : goal.returns-then-is_quiet
returns-then-is_quiet c = λ h short a stands.
    let conn = c.args.conn.value in
    let command = c.in-Accepted.command in
    let quiet : is_quiet_text (method_text (method_of command.«data»)) ≡ true =
    sym (ap (λ m. is_quiet_text (method_text m)) c.method.ensures) ∙ (sym c.is_quiet.ensures ∙ c.if-is_quiet.true) in
    sym (ap (λ v. strike.is_idle (deeds h) conn (verdict_of ghosts.shape v)) c.in-Accepted.is
    ∙ (idle-command (deeds h) conn command (subst (IsWell ghosts.shape) c.in-Accepted.is c.requires)
    ∙ ap (λ b. b || is_err (outcome (deeds h) conn (attachment_of (deeds h) conn) (asked_of params.ghosts.shape command.«data»))) quiet))

pub returns-else-is_quiet : goal.returns-else-is_quiet
returns-else-is_quiet c = λ h short a stands.
    let conn = c.args.conn.value in
    let command = c.in-Accepted.command in
    let loud : is_quiet_text (method_text (method_of command.«data»)) ≡ false =
    sym (ap (λ m. is_quiet_text (method_text m)) c.method.ensures) ∙ (sym c.is_quiet.ensures ∙ c.if-is_quiet.false) in
    let same : strike.is_idle (deeds h) conn (verdict_of ghosts.shape c.args.verdict.now)
    ≡ is_err (outcome (deeds h) conn (attachment_in_hand c.args.attachment) (asked_of params.ghosts.shape command.«data»)) =
    ap (λ v. strike.is_idle (deeds h) conn (verdict_of ghosts.shape v)) c.in-Accepted.is
    ∙ idle-loud (deeds h) conn command (attachment_in_hand c.args.attachment) (subst (IsWell ghosts.shape) c.in-Accepted.is c.requires) stands loud in
    found-so c.is_refused.result (λ x. x ≡ is_err (outcome (deeds h) conn (attachment_in_hand c.args.attachment) (asked_of params.ghosts.shape command.«data»)))
    (λ x. x ≡ strike.is_idle (deeds h) conn (verdict_of ghosts.shape c.args.verdict.now)) (λ x e. e ∙ sym same) (c.is_refused.ensures h short a stands)
