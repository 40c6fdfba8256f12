use Rattle.std.proofs.Common.{arith}
use Rattle.std.proofs.lemmas.Grind.{common_steps}
use Rattle.bidi_sessions.proofs.CapabilityLemmas.{apart_asked}
use Rattle.bidi_sessions.proofs.capabilities.are_apart.Goals as goal

pub returns-then-is_one_absent-3 : goal.returns-then-is_one_absent-3
returns-then-is_one_absent-3 c =
    let h = apart_asked c.args.always.now c.args.choice.now c.requires.always c.requires.choice c.requires.always_known c.requires.choice_known in
    grind (arith, common_steps)

pub returns-else-is_one_absent-3 : goal.returns-else-is_one_absent-3
returns-else-is_one_absent-3 c =
    let h = apart_asked c.args.always.now c.args.choice.now c.requires.always c.requires.choice c.requires.always_known c.requires.choice_known in
    grind (arith, common_steps)
