use Rattle.std.proofs.Common.{◌∙◌, sym, true≢false}
use Rattle.bidi_lines.proofs.ResultLemmas.{match_some}
use Rattle.bidi_script_lines.specs.ScriptLines.{Plain}
use Rattle.bidi_script_lines.proofs.PlainLemmas.{said_plain}
use Rattle.bidi_sessions.specs.View.{step_of}
use Rattle.bidi_run.proofs.reducing.ScriptReducer.take.Goals as goal

pub stay-requires-then-self : goal.stay-requires-then-self
stay-requires-then-self c =
    let is = match_some c.args.step c.in-Some.step _ _ c.requires c.in-Some.is in
    (Plain (step_of c.in-Some.step), said_plain (step_of c.in-Some.step) is.0, is.1, λ part. absurd (true≢false (sym c.if-self.true ∙ part)))
