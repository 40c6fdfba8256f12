use Rattle.std.proofs.Common.{◌∙◌, ◌<◌, ℕ, All, sym, ap, subst}
use Rattle.bidi_handles.specs.Handles.{handles_seen}
use Rattle.bidi_handles.specs.ValuesInHand.{handle_seen}
use Rattle.bidi_contexts.specs.declared.context.Details.{Details}
use Rattle.bidi_contexts.specs.ContextRows.{ContextRow, held_in}
use Rattle.bidi_contexts.specs.HistoryInHand.{entries_in}
use Rattle.bidi_contexts.proofs.context.Context.hold.Goals as goal

-- the row of a context of a number with these details
abbrev row_with : ℕ → Details → ContextRow
row_with number d =
    record {
      number = number;
      parent = d.parent;
      top = d.top;
      level = d.level;
      window = d.window;
      user = d.user;
      realm = d.realm;
      entries = entries_in d.history;
      handles = handles_seen d.handles;
    }

pub returns : goal.returns
returns c = λ above.
    let same = c.deref_mut.ensures.value in
    let number = c.args.self.now.number in
    ap (λ hs. record (row_with number c.deref_mut.result.now) { handles = hs })
    (c.hold.ensures.added (subst (λ (d : Details). All (λ held. held.0 < c.args.handle.number) (handles_seen d.handles)) (sym same) above))
    ∙ ap (λ (d : Details). held_in (handle_seen c.args.handle) (row_with number d)) same
