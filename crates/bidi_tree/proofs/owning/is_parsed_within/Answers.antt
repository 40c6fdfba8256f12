use Rattle.std.proofs.Common.{refl, arith}
use Rattle.json.specs.Value.{value_view}
use Rattle.bidi_tree.proofs.JsonLemmas.{levels-json}
use Rattle.bidi_tree.proofs.owning.is_parsed_within.Goals as goal

pub returns-then-is_shallow : goal.returns-then-is_shallow
returns-then-is_shallow c = (λ _. omega (arith, levels-json (value_view c.args.value.now), c.is_shallow.ensures c.if-is_shallow.true), λ _. refl)
