use Rattle.std.proofs.Common.{◌∙◌, ◌∷◌, [], map, sym, ap}
use Rattle.std.proofs.Math.Logic.{∥∥₁_map}
use Rattle.std.proofs.lemmas.List.{map-append}
use Rattle.bidi_sessions.specs.SubscriptionView.{row_of}
use Rattle.bidi_sessions.specs.SubscriptionsView.{rows_of}
use Rattle.bidi_sessions.specs.IndexRows.{index}
use Rattle.bidi_sessions.proofs.IndexLemmas.{index-more}
use Rattle.bidi_sessions.proofs.subscription_table.Subscriptions.add.Goals as goal

pub invariant_of-self : goal.invariant_of-self
invariant_of-self c =
    let rows = ap (map row_of) c.push_reserved.ensures.items ∙ map-append row_of c.args.self.now.rows.items (c.args.subscription ∷ []) in
    record {
      index = ∥∥₁_map c.args.self.now.index (λ same. index-more c.args.self.now.by_event c.add_each.new.by_event (rows_of c.args.self.now)
          (row_of c.args.subscription) c.add_each.ensures same ∙ ap index (sym rows));
    }
