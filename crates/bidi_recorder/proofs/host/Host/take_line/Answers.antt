use Rattle.bidi_script_lines.specs.View.{said_by}
use Rattle.bidi_scripted.proofs.FateLemmas.{anyway}
use Rattle.bidi_recorder.proofs.HostLemmas.{line_taken, stays}
use Rattle.bidi_recorder.proofs.host.Host.take_line.Goals as goal

pub returns-clause-taken : goal.returns-clause-taken
returns-clause-taken c =
    line_taken (said_by c.args.said) c.args.self.now.end c.perform.new.end _ c.requires.line c.requires.can c.requires.plain
    c.in_ok-outcome.ensures.plain c.in_ok-outcome.ensures.brings

pub returns-in_err-outcome-clause-err : goal.returns-in_err-outcome-clause-err
returns-in_err-outcome-clause-err c = anyway c.from_residual.result (stays c.args.self.now.end c.perform.new.end c.in_err-outcome.ensures.err)
