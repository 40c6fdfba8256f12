use Rattle.std.proofs.Common.{inl, ap, map}
use Rattle.bidi_sessions.specs.View.{sent_of}
use Rattle.bidi_scripted.specs.Faults.{RefusesFollower}
use Rattle.bidi_scripted.specs.View.{script_of}
use Rattle.bidi_script_lines.specs.Outcomes.{OfTest}
use Rattle.bidi_script_lines.specs.Performing.{Follows}
use Rattle.bidi_script_lines.proofs.PerformLemmas.{no-effect, no-follower}
use Rattle.bidi_script_lines.proofs.rows.follow.Goals as goal

pub returns-in-Ok-clause-brings : goal.returns-in-Ok-clause-brings
returns-in-Ok-clause-brings c = λ h.
    let call = c.in-Ok.ensures in
    let empty = ap (λ items. OfTest (map sent_of items)) c.new.ensures.items in
    inl (call.ok.0, call.ok.1, call.room, empty, call.end, call.ok.2)

pub returns-in-Err-clause-brings : goal.returns-in-Err-clause-brings
returns-in-Err-clause-brings c = λ h.
    let script = script_of c.args.end.now.script in
    no-effect (Follows c.args.method.now c.args.events.now c.args.end.now c.on.new.self) _ (RefusesFollower c.args.events.now script) c.in-Err.fault c.args.end.now c.on.new.self
    c.refused_events.result c.refused_events.ensures.ok c.refused_events.ensures.has_reason c.in-Err.ensures.why (no-follower c.args.events.now script) (c.in-Err.ensures.end, c.in-Err.ensures.err)
