use Rattle.bidi_shape.specs.Outcome.{known_misfit}
use Rattle.bidi_pair_lines.proofs.WordLemmas.{no_sending}
use Rattle.bidi_pair_lines.proofs.pair_lines.sending.Goals as goal

pub returns-in-Err-NoFit-clause-none : goal.returns-in-Err-NoFit-clause-none
returns-in-Err-NoFit-clause-none g c text tree d well says =
    no_sending c.args.link c.args.method text (g.S.Parsed.tree c.args.params.now) d tree
    (known_misfit c.in-Err-NoFit.field-0 c.in-Err-NoFit.field-0-is c.in-Err-NoFit.ensures.no_fit) well says
