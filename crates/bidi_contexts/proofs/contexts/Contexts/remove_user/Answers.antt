use Rattle.std.proofs.Common.{◌∙◌, map, ap, rules}
use Rattle.std.specs.Prelude.{◌==◌, not}
use Rattle.std.proofs.lemmas.Fn.{filter_same}
use Rattle.bidi_contexts.specs.declared.context.Context.{Context}
use Rattle.bidi_contexts.specs.ContextRows.{row_of}
use Rattle.bidi_contexts.proofs.EditLemmas.{left-rows}
use Rattle.bidi_contexts.proofs.contexts.Contexts.remove_user.Goals as goal

pub returns : goal.returns
returns c = λ past table accepted. record {
  rows = ap (map row_of) (filter_same _ (λ (x : Context). not (x.details.value.user == c.args.user)) _ (λ x b f' k. search rules) _ _ c.retain.ensures.filtered)
      ∙ left-rows past c.args.user c.args.self.now.live.items accepted table.rows;
  accepted = accepted;
}
