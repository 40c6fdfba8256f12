use Rattle.std.proofs.lemmas.Str.Pattern.{contains_text}
use Rattle.bidi_rows.proofs.StringLemmas.{contains_is}
use Rattle.bidi_rows.proofs.matching.contains.Goals as goal

pub returns : goal.returns
returns c =
    contains_is c.contains.result c.args.text.now c.args.wanted.now (contains_text c.contains.result c.args.wanted.now c.args.text.now c.contains.ensures.cases)
