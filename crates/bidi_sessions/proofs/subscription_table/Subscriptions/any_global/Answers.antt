use Rattle.std.proofs.Common.{◌∙◌, get_or, sym, ap}
use Rattle.std.proofs.Math.Bool.{Bool-set}
use Rattle.std.proofs.Math.Logic.{∥∥₁_elim}
use Rattle.bidi_sessions.specs.IndexRows.{is_held}
use Rattle.bidi_sessions.specs.IndexView.{index_row_of}
use Rattle.bidi_sessions.specs.SubscriptionsView.{rows_of}
use Rattle.bidi_sessions.proofs.IndexLemmas.{index-at, is_held-global}
use Rattle.bidi_sessions.proofs.subscription_table.Subscriptions.any_global.Goals as goal

pub returns : goal.returns
returns c =
    let items = c.args.self.now.by_event in
    let x = c.index-self-place_of.result in
    let at = c.index-self-place_of.is ∙ ap (λ i. get_or items i x) c.place_of.ensures.place in
    ∥∥₁_elim c.args.self.now.index (Bool-set _ _) (λ same. c.is_global.ensures ∙ (ap (λ y. is_held (index_row_of y)) (sym c.index-self-place_of.is)
    ∙ (ap is_held (index-at items (rows_of c.args.self.now) c.args.event x same at)
    ∙ is_held-global (rows_of c.args.self.now) c.args.event)))
