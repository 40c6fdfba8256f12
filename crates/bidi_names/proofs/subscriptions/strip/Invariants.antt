use Rattle.std.proofs.Common.{◌≡◌, map, string_bytes}
use Rattle.bidi_sessions.proofs.BeginLemmas.{over}
use Rattle.bidi_names.specs.Subscriptions.{stripped, named_of}
use Rattle.bidi_names.proofs.subscriptions.strip.Given as goal

-- the subscriptions that were looked at have lost the names
abbrev pub invariant-loop-subscription : goal.invariant-loop-subscription
invariant-loop-subscription l =
    map named_of l.subscriptions ≡ over (stripped l.session (map string_bytes l.names) (map string_bytes l.modules)) l.subscription-index (map named_of l.initial.subscriptions)
