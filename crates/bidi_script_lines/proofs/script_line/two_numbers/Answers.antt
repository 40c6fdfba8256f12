use Rattle.std.proofs.Common.{arith}
use Rattle.std.specs.Prelude.{decimal}
use Rattle.std.proofs.Common.{sym, ◌∙◌}
use Rattle.bidi_play.proofs.DigitLemmas.{no_space}
use Rattle.bidi_lines.proofs.FeedLemmas.{one_front}
use Rattle.bidi_lines.proofs.ResultLemmas.{if_none_at}
use Rattle.bidi_script_lines.proofs.script_line.two_numbers.Goals as goal

pub returns-in-None-clause-none : goal.returns-in-None-clause-none
returns-in-None-clause-none c = λ n code lt short e.
    let conn = c.in-Some.first in
    let range = conn.in_range in
    if_none_at c.read_number.result _ c.read_number.ensures.none c.in-None.is code short
    (one_front 32 (decimal conn.value) c.in-Some.second.now (decimal n) (decimal code) (no_space conn.value (omega (arith, range))) (no_space n (omega (arith, lt)))
    (sym c.in-Some.ensures.some ∙ e)).1
