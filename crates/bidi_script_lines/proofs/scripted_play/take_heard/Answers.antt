use Rattle.std.proofs.Common.{◌≡◌, Ok, refl, subst}
use Rattle.bidi_sessions.specs.Step as steps
use Rattle.bidi_sessions.specs.Step.{Step}
use Rattle.bidi_scripted.specs.Script.{no_script}
use Rattle.bidi_scripted.specs.View.{script_of}
use Rattle.bidi_script_lines.specs.Performing.{TakesStep}
use Rattle.bidi_script_lines.specs.ScriptLines.{Plain}
use Rattle.bidi_script_lines.proofs.PlainLemmas.{said_plain, same_plain}
use Rattle.bidi_script_lines.proofs.scripted_play.take_heard.Goals as goal

pub returns-in-Ok-clause-ok : goal.returns-in-Ok-clause-ok
returns-in-Ok-clause-ok c =
    let step = steps.Text c.args.conn.value c.args.text.now in record {
      said = Plain step;
      is = record { says = c.requires.1; can = said_plain step c.requires.0; plain = λ s can is. refl };
      brings = λ h s. c.in-Ok.ensures.brings h s;
      takes = λ s same empty.
          subst (λ (t : Step). TakesStep t c.args.end.now c.hear.new.end (Ok c.in-Ok.outcome) × (script_of c.hear.new.end.script ≡ no_script))
          (same_plain step s same) (c.in-Ok.ensures.plain empty);
    }

pub returns-in-Err-clause-says : goal.returns-in-Err-clause-says
returns-in-Err-clause-says c = λ _.
    let step = steps.Text c.args.conn.value c.args.text.now in (Plain step, said_plain step c.requires.0, c.requires.1)
