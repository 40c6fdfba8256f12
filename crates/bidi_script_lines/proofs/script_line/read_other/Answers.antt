use Rattle.bidi_script_lines.specs.ScriptLines.{word_of, rest_of}
use Rattle.bidi_script_lines.proofs.OrderLemmas.{none_of, word_has_no_space}
use Rattle.bidi_script_lines.proofs.script_line.read_other.Goals as goal

pub returns-in-None-clause-none : goal.returns-in-None-clause-none
returns-in-None-clause-none c = λ l p w e. c.in-None.ensures.first (word_of l) (rest_of l) e (word_has_no_space l p)

pub returns-in-Some-clause-none : goal.returns-in-Some-clause-none
returns-in-Some-clause-none c =
    none_of c.read_order.result (λ order l p w e.
    let same = c.in-Some.ensures.first (word_of l) (rest_of l) e (word_has_no_space l p) in order l p w same.0 same.1)
    c.read_order.ensures.none
