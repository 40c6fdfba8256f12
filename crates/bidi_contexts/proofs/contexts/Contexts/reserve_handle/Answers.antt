use Rattle.std.proofs.Common.{◌∙◌, sym, ap}
use Rattle.std.specs.List.{position}
use Rattle.std.specs.Prelude.{◌==◌}
use Rattle.bidi_contexts.specs.declared.context.Context.{Context}
use Rattle.bidi_contexts.specs.ContextRows.{row_of}
use Rattle.bidi_contexts.proofs.MoveLemmas.{changed-at, changed-self}
use Rattle.bidi_contexts.proofs.contexts.Contexts.reserve_handle.Goals as goal

pub returns-in-Some-clause-kept : goal.returns-in-Some-clause-kept
returns-in-Some-clause-kept c = λ past table.
    let items = c.args.self.now.live.items in
    let number = c.args.number in
    let at = ap (position (λ (x : Context). x.number == number)) (sym c.deref.ensures.value) ∙ (sym c.place_of.ensures ∙ c.in-Some.is) in
    let old = c.index_mut.result.now in
    record {
      rows =
          changed-at row_of (λ r. r) number items c.in-Some.place _ old at
          (c.reserve_handle.ensures.kept ∙ ap row_of c.index_mut.ensures.value)
          ∙ (changed-self number _ ∙ table.rows);
      accepted = table.accepted;
    }
