use Rattle.std.proofs.Common.{arith}
use Rattle.std.specs.Prelude.{decimal}
use Rattle.bidi_play.proofs.DigitLemmas.{no_space}
use Rattle.bidi_lines.proofs.ResultLemmas.{if_none_at}
use Rattle.bidi_script_lines.proofs.script_line.number_and_text.Goals as goal

pub returns-in_default-clause-none : goal.returns-in_default-clause-none
returns-in_default-clause-none c = λ n text lt e. c.in_default.ensures.first (decimal n) text e (no_space n (omega arith))

pub returns-in-None-clause-none : goal.returns-in-None-clause-none
returns-in-None-clause-none c = λ n text lt e.
    if_none_at c.read_number.result _ c.read_number.ensures.none c.in-None.is n (omega arith)
    (c.in-Some.ensures.first (decimal n) text e (no_space n (omega arith))).0
