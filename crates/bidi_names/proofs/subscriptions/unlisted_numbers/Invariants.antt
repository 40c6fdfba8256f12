use Rattle.std.proofs.Common.{◌≡◌, ◌++◌, map, drop}
use Rattle.bidi_names.specs.Subscriptions.{named_of, unlisted}
use Rattle.bidi_names.proofs.subscriptions.unlisted_numbers.Given as goal

-- what is left is added to what was found
abbrev pub invariant-loop-subscription : goal.invariant-loop-subscription
invariant-loop-subscription l = map (λ n. n.number) (unlisted l.numbers l.session (map named_of l.subscriptions))
    ≡ l.found.items ++ map (λ n. n.number) (unlisted l.numbers l.session (map named_of (drop l.subscription-index l.subscriptions)))
