use Rattle.std.proofs.Common.{ap, option_map}
use Rattle.bidi_local.specs.View.{meaning_of}
use Rattle.bidi_local.proofs.MeaningLemmas.{error_means, error_stray}
use Rattle.bidi_local.proofs.receiving.receive_error.Goals as goal

pub returns-in-Some-clause-means : goal.returns-in-Some-clause-means
returns-in-Some-clause-means c =
    error_means c.args.pending.now.entries c.args.error c.in-Some.id.value (meaning_of c.refusal_of.result.received) c.requires
    (ap (option_map (λ n. n.value)) c.in-Some.is) c.refusal_of.ensures.refusal

pub returns-clause-means : goal.returns-clause-means
returns-clause-means c = error_stray c.args.pending.now.entries c.args.error c.requires (ap (option_map (λ n. n.value)) c.in-None.is)
