use Rattle.std.proofs.Common.{◌≡◌, ap₂, subst, ◌∙◌, false}
use Rattle.std.specs.Prelude.{IfOk}
use Rattle.std.proofs.lemmas.Result.{IfOk-weaker}
use Rattle.clap.specs.Words.{app_of, with_subcommand}
use Rattle.clap.specs.declared.builder.command.Command.TheViews.{out-Command}
use Rattle.bidi_command_line.proofs.grammar.joined.Goals as goal

pub returns : goal.returns
returns c = λ app shape is_app is_shape is_local.
    let top : app_of c.in_ok-command.field-0 ≡ app = subst (λ r. IfOk r (λ m. app_of m ≡ app)) c.in_ok-command.was is_app in
    let sub : (app_of c.in_ok-subcommand.subcommand).top ≡ shape = subst (λ r. IfOk r (λ m. (app_of m).top ≡ shape)) c.in_ok-subcommand.was is_shape in
    let local : (out-Command c.in_ok-subcommand.subcommand).has_globals ≡ false =
    subst (λ r. IfOk r (λ m. (out-Command m).has_globals ≡ false)) c.in_ok-subcommand.was is_local in
    IfOk-weaker c.subcommand.result _ _ (λ whole adds. adds.shape local ∙ ap₂ with_subcommand top sub) c.subcommand.ensures
