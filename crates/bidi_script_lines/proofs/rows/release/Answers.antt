use Rattle.std.proofs.Common.{inl, ◌∙◌}
use Rattle.bidi_scripted.specs.Script.{held_by}
use Rattle.bidi_scripted.specs.Faults.{RefusesRelease}
use Rattle.bidi_scripted.specs.View.{script_of}
use Rattle.bidi_script_lines.specs.Performing.{Releases}
use Rattle.bidi_script_lines.proofs.PerformLemmas.{there, taken-of_test, taken-of_machine, not-released, no-release}
use Rattle.bidi_script_lines.proofs.rows.release.Goals as goal

pub returns-in-Ok-clause-brings : goal.returns-in-Ok-clause-brings
returns-in-Ok-clause-brings c = λ h s.
    let call = c.in-Ok.ensures in
    let taken = c.in-Ok.taken in
    let (held, is) = there (held_by c.args.number.value (script_of c.args.end.now.script)) call.not_held in
    inl (record {
      held = held;
      was_held = is;
      lost = λ lost.
          let p = call.lost held is lost in
          (c.of_taken.ensures ∙ taken-of_test taken _ p.0, p.1, p.2);
      goes_on = λ lives none.
          let p = call.handed_on held is lives none in
          let sent = p.2 h s in
          (p.0, p.1, c.of_taken.ensures ∙ taken-of_machine taken _ sent.0, sent.1, sent.2, p.3);
      named = λ lives some.
          let p = call.named h held s is lives some in
          (taken, p.0, p.1, c.of_taken.ensures, p.2);
      released = call.released;
    })

pub returns-in-Err-clause-brings : goal.returns-in-Err-clause-brings
returns-in-Err-clause-brings c = λ h s.
    let held = held_by c.args.number.value (script_of c.args.end.now.script) in
    not-released (Releases c.args.number.value h c.args.end.now c.release.new.self) _ (RefusesRelease held) c.in-Err.fault c.args.end.now c.release.new.self c.refused.result
    c.refused.ensures.ok c.refused.ensures.has_reason c.in-Err.ensures.why (no-release held) c.in-Err.ensures.err
