use Rattle.std.proofs.Common.{IsUtf8, subst, sym}
use Rattle.bidi_requests.proofs.TargetLemmas.{resource-utf8}
use Rattle.bidi_requests.proofs.targets.resource_text.Goals as goal

pub unreachable-requires : goal.unreachable-requires
unreachable-requires c = c.in-Err.ensures.cases.0 (subst IsUtf8 (sym c.resource_of.ensures) (resource-utf8 c.args.target.now c.requires))
