use Rattle.std.proofs.Common.{◌≡◌, ◌++◌, flat_map, drop}
use Rattle.bidi_remarks.specs.Remark.{unanswered_line}
use Rattle.bidi_why.proofs.unanswered.unanswered_lines.Given as goal

abbrev pub invariant-loop-command : goal.invariant-loop-command
invariant-loop-command l =
    l.text.items ++ flat_map (λ c. unanswered_line l.form c.line c.id c.method.now) (drop l.command-index l.commands)
    ≡ flat_map (λ c. unanswered_line l.form c.line c.id c.method.now) l.commands
