use Rattle.std.proofs.Common.{◌∙◌, get_or, sym, ap}
use Rattle.std.proofs.Math.Bool.{Bool-set}
use Rattle.std.proofs.Math.Logic.{∥∥₁_elim}
use Rattle.bidi_sessions.specs.IndexRows.{hears}
use Rattle.bidi_sessions.specs.IndexView.{index_row_of}
use Rattle.bidi_sessions.specs.SubscriptionsView.{rows_of}
use Rattle.bidi_sessions.proofs.IndexLemmas.{index-at, hears-covers}
use Rattle.bidi_sessions.proofs.subscription_table.Subscriptions.hears.Goals as goal

pub returns : goal.returns
returns c =
    let items = c.args.self.now.by_event in
    let x = c.index-self-place_of.result in
    let at = c.index-self-place_of.is ∙ ap (λ i. get_or items i x) c.place_of.ensures.place in
    ∥∥₁_elim c.args.self.now.index (Bool-set _ _) (λ same. c.hears.ensures ∙ (ap (λ y. hears c.args.top (index_row_of y)) (sym c.index-self-place_of.is)
    ∙ (ap (hears c.args.top) (index-at items (rows_of c.args.self.now) c.args.event x same at)
    ∙ hears-covers (rows_of c.args.self.now) c.args.event c.args.top)))
