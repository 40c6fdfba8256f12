use Rattle.std.proofs.Common.{◌∙◌, map, sym}
use Rattle.bidi_sessions.specs.View.{sent_of}
use Rattle.bidi_scripted.specs.View.{script_of}
use Rattle.bidi_script_lines.proofs.StepLemmas.{with-few}
use Rattle.bidi_script_lines.proofs.outcome.with_followers.Goals as goal

pub returns-then-not-has_followers : goal.returns-then-not-has_followers
returns-then-not-has_followers c =
    sym (with-few (script_of c.args.end.now.script).followers (sym c.has_followers.ensures ∙ c.if-not-has_followers.true) (map sent_of c.args.sent.items))
