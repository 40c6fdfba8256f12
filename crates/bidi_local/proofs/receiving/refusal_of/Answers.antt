use Rattle.std.proofs.Common.{◌∙◌, sym}
use Rattle.bidi_local.specs.Receiving.{refuses, is_stray}
use Rattle.bidi_local.proofs.receiving.refusal_of.Goals as goal

pub returns-in-Some-clause-refusal : goal.returns-in-Some-clause-refusal
returns-in-Some-clause-refusal c = refuses c.in-Some.method (sym c.method_of.ensures ∙ c.in-Some.is)

pub returns-in-None-clause-refusal : goal.returns-in-None-clause-refusal
returns-in-None-clause-refusal c = is_stray (sym c.method_of.ensures ∙ c.in-None.is)
