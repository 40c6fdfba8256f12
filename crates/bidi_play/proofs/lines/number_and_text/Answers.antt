use Rattle.std.proofs.Common.{arith}
use Rattle.std.specs.Prelude.{decimal}
use Rattle.bidi_play.proofs.DigitLemmas.{no_space}
use Rattle.bidi_lines.proofs.ResultLemmas.{on_none}
use Rattle.bidi_play.proofs.lines.number_and_text.Goals as goal

pub returns-in_err-number-clause-none : goal.returns-in_err-number-clause-none
returns-in_err-number-clause-none c =
    on_none c.from_residual.result _ (λ n text lt e. c.in_err-number.ensures.first (decimal n) text e (no_space n (omega arith)))

pub returns-in_err-n-clause-none : goal.returns-in_err-n-clause-none
returns-in_err-n-clause-none c =
    on_none c.from_residual-in_err-n.result _ (λ n text lt e.
    c.in_err-n.ensures.none n (omega arith) (c.in_ok-number.ensures.first (decimal n) text e (no_space n (omega arith))).0)
