use Rattle.bidi_why.proofs.TellingLemmas.{tells_kept}
use Rattle.bidi_why.proofs.one_side.explain_kept.Goals as goal

pub returns : goal.returns
returns c =
    tells_kept c.args.form c.args.side c.args.profile_only c.args.number c.args.line.now c.in_ok-found.found c.kept.result c.kept.ensures c.in_ok-found.ensures
