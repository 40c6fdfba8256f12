use Rattle.std.proofs.Common.{◌∙◌}
use Rattle.std.proofs.lemmas.Slice.Eq.{bytes_eq-Decides}
use Rattle.bidi_handles.specs.Ids.{id_text}
use Rattle.bidi_handles.specs.declared.id.IdKind.TheVariants.{Subscription}
use Rattle.bidi_sessions.proofs.ListLemmas.{some-same}
use Rattle.bidi_names.proofs.ReplyLemmas.{id-long, id-ascii, none_some}
use Rattle.bidi_names.proofs.replies.number_made.Goals as goal

pub returns-in_err-id_given-clause-every : goal.returns-in_err-id_given-clause-every
returns-in_err-id_given-clause-every c = λ n less gives.
    let id = id_text Subscription c.args.session n in
    absurd (none_some id (c.in_err-id_given.ensures.every gives.0 id (some-same _ _ (c.in_ok-last_text.ensures ∙ gives.1)) (id-ascii Subscription c.args.session n)
    (id-long Subscription c.args.session n)))

pub returns-clause-every : goal.returns-clause-every
returns-clause-every c = λ n less gives.
    let id = id_text Subscription c.args.session n in
    let same = some-same _ _ (c.in_ok-id_given.ensures.every gives.0 id (some-same _ _ (c.in_ok-last_text.ensures ∙ gives.1)) (id-ascii Subscription c.args.session n)
    (id-long Subscription c.args.session n)) in
    c.id_number.ensures.every n less ((bytes_eq-Decides c.in_ok-id_given.field-0.now id).1 same)
