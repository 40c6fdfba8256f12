use Rattle.std.proofs.Common.{◌∙◌, sym, true≢false}
use Rattle.std.specs.Prelude.{◌==◌}
use Rattle.std.specs.List.{list_any}
use Rattle.bidi_sessions.specs.IndexRows.{is_held}
use Rattle.bidi_sessions.specs.IndexView.{index_row_of}
use Rattle.bidi_sessions.proofs.IndexLemmas.{names-any, last-decides}
use Rattle.bidi_sessions.proofs.event_index.EventIndex.hears.Goals.{then-is_global, else-is_global}
use Rattle.bidi_sessions.proofs.event_index.EventIndex.hears.Goals as goal

pub returns-else-names : goal.returns-else-names
returns-else-names c =
    let x = c.args.self.now in
    let top = c.args.top in
    let within = names-any c.deref-else-names.result.now x.within.items top.user c.names-else-names.result c.deref-else-names.ensures.value x.within_order
    c.names-else-names.ensures in
    elim c.if-is_global.branch [
      | then-is_global w ↦ absurd (true≢false (sym w.if-is_global.true ∙ (sym w.value-is ∙ c.if-names.false)))
      | else-is_global w ↦
          let below = names-any w.deref.result.now x.below.items top.number w.names.result w.deref.ensures.value x.below_order w.names.ensures in
          last-decides (is_held (index_row_of x)) (list_any (λ p. p.0 == top.number) x.below.items) (list_any (λ p. p.0 == top.user) x.within.items)
          (sym c.is_global.ensures ∙ w.if-is_global.false) (sym below ∙ (sym w.value-is ∙ c.if-names.false)) within
    ]
