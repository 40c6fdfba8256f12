use Rattle.std.proofs.Common.{ap₂}
use Rattle.bidi_script_lines.specs.ScriptLines.{On}
use Rattle.bidi_script_lines.proofs.OrderLemmas.{first_word}
use Rattle.bidi_script_lines.proofs.script_line.read_on.Goals as goal

pub returns-clause-some : goal.returns-clause-some
returns-clause-some c = (
  c.in-Some.method.now,
  c.in-Some.events.now,
  ap₂ On c.in_ok-method.ensures.ok c.in_ok-events.ensures.ok,
  first_word c.args.rest.now c.in-Some.method.now c.in-Some.events.now c.in-Some.ensures.some c.in-Some.ensures.first,
  c.in-Some.ensures.some,
)
