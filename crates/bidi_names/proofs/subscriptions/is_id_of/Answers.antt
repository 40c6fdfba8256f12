use Rattle.std.proofs.Common.{◌∙◌}
use Rattle.bidi_handles.specs.Ids.{id_text}
use Rattle.bidi_handles.specs.declared.id.IdKind.TheVariants.{Subscription}
use Rattle.bidi_names.proofs.ReplyLemmas.{is_id-found, is_id-none}
use Rattle.bidi_names.proofs.subscriptions.is_id_of.Goals as goal

pub returns-in-Some : goal.returns-in-Some
returns-in-Some c =
    c.is_listed.ensures ∙ is_id-found (id_text Subscription c.args.session) c.args.id.now c.args.numbers.now c.in-Some.number
    c.in-Some.ensures.some.0 c.in-Some.ensures.some.1 c.in-Some.ensures.every

pub returns-in-None : goal.returns-in-None
returns-in-None c = is_id-none (id_text Subscription c.args.session) c.args.id.now c.args.numbers.now c.in-None.ensures.every
