use Rattle.std.proofs.Common.{inl, ap}
use Rattle.bidi_scripted.specs.Script.{held_by}
use Rattle.bidi_scripted.specs.Faults.{RefusesAnswer}
use Rattle.bidi_scripted.specs.View.{script_of}
use Rattle.bidi_script_lines.specs.Outcomes.{OfTest}
use Rattle.bidi_script_lines.specs.Performing.{ReleasesWith}
use Rattle.bidi_script_lines.proofs.PerformLemmas.{there, no-effect, no-answer}
use Rattle.bidi_script_lines.proofs.rows.release_with.Goals as goal

pub returns-in-Ok-clause-brings : goal.returns-in-Ok-clause-brings
returns-in-Ok-clause-brings c = λ h s.
    let call = c.in-Ok.ensures in
    let (held, is) = there (held_by c.args.number.value (script_of c.args.end.now.script)) call.not_held in
    let p = call.answered h held s is in
    inl (record {
      held = held;
      was_held = is;
      answer = p.0;
      is_answer = p.1;
      sends = ap OfTest p.2;
      released = call.released;
      end = call.end;
    })

pub returns-in-Err-clause-brings : goal.returns-in-Err-clause-brings
returns-in-Err-clause-brings c = λ h s.
    let held = held_by c.args.number.value (script_of c.args.end.now.script) in
    no-effect (ReleasesWith c.args.number.value c.args.row.now h c.args.end.now c.release_with.new.self) _ (RefusesAnswer c.args.row.now held) c.in-Err.fault c.args.end.now c.release_with.new.self
    c.refused.result c.refused.ensures.ok c.refused.ensures.has_reason c.in-Err.ensures.why (no-answer c.args.row.now held) (c.in-Err.ensures.end, c.in-Err.ensures.err)
