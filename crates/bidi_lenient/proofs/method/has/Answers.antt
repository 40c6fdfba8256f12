use Rattle.std.proofs.lemmas.Str.Pattern.{contains_text}
use Rattle.bidi_lenient.proofs.method.has.Goals as goal

pub returns : goal.returns
returns c = contains_text c.contains.result c.args.name.now c.args.text.now c.contains.ensures.cases
