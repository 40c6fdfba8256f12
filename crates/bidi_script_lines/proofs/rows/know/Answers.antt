use Rattle.std.proofs.Common.{inl, ap, map}
use Rattle.bidi_sessions.specs.View.{sent_of}
use Rattle.bidi_scripted.specs.Faults.{RefusesNames}
use Rattle.bidi_scripted.specs.View.{script_of}
use Rattle.bidi_script_lines.specs.Outcomes.{OfTest}
use Rattle.bidi_script_lines.specs.Performing.{KnowsMore}
use Rattle.bidi_script_lines.proofs.PerformLemmas.{no-effect, no-names, are-names}
use Rattle.bidi_script_lines.proofs.rows.know.Goals as goal

pub returns-in-Ok-clause-brings : goal.returns-in-Ok-clause-brings
returns-in-Ok-clause-brings c = λ h.
    let call = c.in-Ok.ensures in
    let empty = ap (λ items. OfTest (map sent_of items)) c.new.ensures.items in
    inl (are-names c.args.names.now (script_of c.args.end.now.script) call.named call.room, empty, call.end, call.ok)

pub returns-in-Err-clause-brings : goal.returns-in-Err-clause-brings
returns-in-Err-clause-brings c = λ h.
    let script = script_of c.args.end.now.script in
    no-effect (KnowsMore c.args.names.now c.args.end.now c.names.new.self) _ (RefusesNames c.args.names.now script) c.in-Err.fault c.args.end.now c.names.new.self c.refused.result
    c.refused.ensures.ok c.refused.ensures.has_reason c.in-Err.ensures.why (no-names c.args.names.now script) (c.in-Err.ensures.end, c.in-Err.ensures.err)
