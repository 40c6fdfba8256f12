use Rattle.std.proofs.Common.{◌∙◌, Some, None, sym}
use Rattle.bidi_sessions.proofs.CapabilityLemmas.{matching_asked}
use Rattle.bidi_sessions.proofs.capabilities.match_capabilities.Goals as goal

pub returns-in-Some : goal.returns-in-Some
returns-in-Some c =
    rw (← c.deref.ensures.value) c.match_choices.ensures ∙ sym (matching_asked c.args.params.now (Some c.in-Some.choices) c.requires c.in-Some.is)

pub returns-in-None : goal.returns-in-None
returns-in-None c = c.match_always.ensures ∙ sym (matching_asked c.args.params.now None c.requires c.in-None.is)
