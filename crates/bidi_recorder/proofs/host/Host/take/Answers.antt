use Rattle.std.proofs.Common.{refl, ◌∙◌}
use Rattle.bidi_sessions.specs.View.{step_of}
use Rattle.bidi_script_lines.specs.ScriptLines.{Plain}
use Rattle.bidi_recorder.proofs.HostLemmas.{written_line}
use Rattle.bidi_recorder.proofs.host.Host.take.Goals as goal

pub take_line-requires-clause-can : goal.take_line-requires-clause-can
take_line-requires-clause-can c =
    written_line (Plain (step_of c.args.step)) c.as_str.result.now (c.as_str.ensures.value ∙ c.requires.line) c.requires.parts c.as_str.utf8
    (c.if-not-is_line.ensures.yes refl)
