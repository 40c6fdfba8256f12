use Rattle.std.proofs.Common.{◌≡◌, ◌+◌, map, drop}
use Rattle.bidi_names.specs.Subscriptions.{names_in, named_of}
use Rattle.bidi_names.specs.Sums.{total}
use Rattle.bidi_names.proofs.subscriptions.left_by_names.Given as goal

-- what is left, with what all have, is what there was with what the rest has
abbrev pub invariant-loop-subscription : goal.invariant-loop-subscription
invariant-loop-subscription l =
    l.left + total (map (λ n. names_in l.session (named_of n)) l.subscriptions)
    ≡ l.fn.names + total (map (λ n. names_in l.session (named_of n)) (drop l.subscription-index l.subscriptions))
