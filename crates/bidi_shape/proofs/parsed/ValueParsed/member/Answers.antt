use Rattle.bidi_tree.proofs.JsonLemmas.{member_parsed}
use Rattle.bidi_shape.proofs.parsed.ValueParsed.member.Goals as goal

pub returns : goal.returns
returns c = member_parsed c.args.name.now c.args.self.now c.get.result c.get.ensures
