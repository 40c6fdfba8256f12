use Rattle.bidi_lines.proofs.ResultLemmas.{match_none, match_some}
use Rattle.bidi_script_lines.specs.View.{said_by}
use Rattle.bidi_script_lines.proofs.scripted_play.take_said.Goals as goal

pub returns-in-Ok-clause-ok : goal.returns-in-Ok-clause-ok
returns-in-Ok-clause-ok c = record {
  said = said_by c.in-Some.said;
  is = match_some c.args.said c.in-Some.said _ _ c.requires c.in-Some.is;
  brings = λ h s. c.in-Ok.ensures.brings h s;
  takes = λ s same empty. c.in-Ok.ensures.plain s same empty;
}

pub returns-in-Err-clause-says : goal.returns-in-Err-clause-says
returns-in-Err-clause-says c = λ _.
    let is = match_some c.args.said c.in-Some.said _ _ c.requires c.in-Some.is in (said_by c.in-Some.said, is.can, is.says)

pub returns-in_default-clause-ok : goal.returns-in_default-clause-ok
returns-in_default-clause-ok c = match_none c.args.said _ _ c.requires c.in_default.is
