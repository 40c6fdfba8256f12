use Rattle.std.proofs.Common.{◌∙◌, sym, ap}
use Rattle.std.proofs.Math.Logic.{∥∥₁_map}
use Rattle.bidi_sessions.specs.SubscriptionsView.{rows_of}
use Rattle.bidi_sessions.specs.IndexRows.{index}
use Rattle.bidi_sessions.proofs.IndexLemmas.{index-dismissed}
use Rattle.bidi_sessions.proofs.subscription_table.Subscriptions.dismiss.Goals as goal

pub invariant_of-self : goal.invariant_of-self
invariant_of-self c = record {
  index = ∥∥₁_map c.args.self.now.index (λ same. index-dismissed c.args.self.now.by_event c.dismiss_each.new.by_event (rows_of c.args.self.now)
      c.args.events.now c.dismiss_each.ensures same ∙ ap index (sym c.dismiss.ensures));
}
