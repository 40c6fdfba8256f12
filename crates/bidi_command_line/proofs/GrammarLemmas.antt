-- An argument that is not global leaves the command without a global argument, if it had none.
use Rattle.std.proofs.Common.{◌≡◌, ◌||◌, Bool, true, false, refl, ap, ◌∙◌, Result, IfOk}
use Rattle.std.proofs.lemmas.Result.{IfOk-weaker}
use Rattle.clap.specs.Words.{AddsArg}
use Rattle.clap.specs.declared.builder.arg.Arg.{Arg}
use Rattle.clap.specs.declared.builder.command.Command.{Command}
use Rattle.clap.specs.declared.builder.command.Command.TheViews.{out-Command}

or-false : (b : Bool) → (b || false) ≡ b
or-false true = refl
or-false false = refl

pub kept_local : {E : Type 0} (result : Result Command E) (old : Command) (a : Arg) → a.global ≡ false → IfOk result (AddsArg old a)
    → IfOk result (λ more. (out-Command more).has_globals ≡ (out-Command old).has_globals)
kept_local result old a local adds =
    IfOk-weaker result _ _ (λ more added. added.globals ∙ ap (λ g. (out-Command old).has_globals || g) local ∙ or-false (out-Command old).has_globals) adds
