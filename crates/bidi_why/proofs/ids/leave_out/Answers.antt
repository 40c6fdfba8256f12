use Rattle.std.proofs.Common.{rules, not, ◌==◌}
use Rattle.std.proofs.lemmas.Fn.{filter_same}
use Rattle.bidi_why.proofs.ids.leave_out.Goals as goal

pub returns : goal.returns
returns c = filter_same _ (λ l. not (l.0 == c.args.id)) _ (λ x b f' k. search rules) _ _ c.retain.ensures.filtered
