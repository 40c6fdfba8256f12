use Rattle.std.proofs.Common.{arith}
use Rattle.std.specs.Prelude.{decimal}
use Rattle.bidi_play.proofs.DigitLemmas.{no_space}
use Rattle.bidi_lines.proofs.ResultLemmas.{if_none_at}
use Rattle.bidi_script_lines.proofs.OrderLemmas.{no_space_in}
use Rattle.bidi_script_lines.proofs.script_line.read_release.Goals as goal

pub returns-in-None-read_number-clause-none : goal.returns-in-None-read_number-clause-none
returns-in-None-read_number-clause-none c = λ n lt. (
  λ row e. c.in-None.ensures.first (decimal n) row e (no_space n (omega (arith, lt))),
  if_none_at c.read_number.result _ c.read_number.ensures.none c.in-None-read_number.is n lt,
)

pub returns-in-None-read_number-2-clause-none : goal.returns-in-None-read_number-2-clause-none
returns-in-None-read_number-2-clause-none c = λ n lt. (
  λ row e. if_none_at c.read_number-in-Some.result _ c.read_number-in-Some.ensures.none c.in-None-read_number-2.is n lt
      (c.in-Some.ensures.first (decimal n) row e (no_space n (omega (arith, lt)))).0,
  λ e. no_space_in c.in-Some.number.now c.in-Some.row.now (decimal n) (c.in-Some.ensures.some) e (no_space n (omega (arith, lt))),
)
