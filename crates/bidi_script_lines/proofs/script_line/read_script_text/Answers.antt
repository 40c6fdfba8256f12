use Rattle.bidi_lines.proofs.ResultLemmas.{if_none_at}
use Rattle.bidi_script_lines.proofs.OrderLemmas.{none_of, no_line}
use Rattle.bidi_script_lines.proofs.script_line.read_script_text.Goals as goal

pub returns-in-None-clause-none : goal.returns-in-None-clause-none
returns-in-None-clause-none c =
    let found = c.in_ok-step in
    none_of c.read_other.result (λ other l w e. no_line c.args.line.now (if_none_at found.field-0 _ found.ensures.none c.in-None.is) other l w e) c.read_other.ensures.none
