use Rattle.std.proofs.Common.{◌∷◌, ◌++◌, refl}
use Rattle.std.specs.Prelude.{codes, decimal}
use Rattle.bidi_lines.proofs.ResultLemmas.{no_truth, on_none}
use Rattle.bidi_play.proofs.lines.heard_in.Goals as goal

pub returns-in_err-word-clause-none : goal.returns-in_err-word-clause-none
returns-in_err-word-clause-none c =
    on_none c.from_residual.result _ (λ n text sayable e. c.in_err-word.ensures.first (codes ">") (decimal n ++ 32 ∷ text) e refl)

pub returns-then-not-is_same_text-clause-none : goal.returns-then-not-is_same_text-clause-none
returns-then-not-is_same_text-clause-none c = λ n text sayable e.
    no_truth (c.if-not-is_same_text.ensures.1 (c.in_ok-word.ensures.first (codes ">") (decimal n ++ 32 ∷ text) e refl).0)
