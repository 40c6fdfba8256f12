use Rattle.std.proofs.Common.{◌∙◌, nat_eq}
use Rattle.bidi_local.proofs.PendingLemmas.{lookup-find}
use Rattle.bidi_local.proofs.pending.method_of.Goals as goal

pub returns : goal.returns
returns c = c.copied.ensures ∙ c.get.ensures.value ∙ lookup-find (nat_eq c.args.id) c.args.pending.now.entries
