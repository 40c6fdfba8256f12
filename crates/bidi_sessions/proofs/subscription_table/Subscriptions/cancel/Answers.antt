use Rattle.std.proofs.Common.{◌∙◌, map, not, sym, ap}
use Rattle.std.proofs.Math.Logic.{∥∥₁_map}
use Rattle.bidi_sessions.specs.Scope.{is_listed}
use Rattle.bidi_sessions.specs.SubscriptionView.{row_of}
use Rattle.bidi_sessions.specs.SubscriptionsView.{rows_of}
use Rattle.bidi_sessions.specs.IndexRows.{index}
use Rattle.bidi_sessions.proofs.ListLemmas.{map-filter}
use Rattle.bidi_sessions.proofs.IndexLemmas.{index-without}
use Rattle.bidi_sessions.proofs.subscription_table.Subscriptions.cancel.Goals as goal

pub returns : goal.returns
returns c = ap (map row_of) c.cancel.ensures ∙ map-filter row_of (λ r. not (is_listed c.args.numbers.now r.number)) c.args.self.now.rows.items

pub invariant_of-self : goal.invariant_of-self
invariant_of-self c =
    let rows = ap (map row_of) c.cancel.ensures ∙ map-filter row_of (λ r. not (is_listed c.args.numbers.now r.number)) c.args.self.now.rows.items in
    record {
      index = ∥∥₁_map c.args.self.now.index (λ same. index-without c.args.self.now.by_event c.cancel_each.new.by_event (rows_of c.args.self.now)
          c.args.numbers.now c.cancel_each.ensures same ∙ ap index (sym rows));
    }
