use Rattle.std.proofs.Common.{◌∙◌, not, map, ap, rules}
use Rattle.std.specs.Prelude.{◌==◌, ◌&&◌}
use Rattle.std.proofs.lemmas.Fn.{filter_same}
use Rattle.bidi_sessions.specs.Scope.{is_listed}
use Rattle.bidi_sessions.proofs.ListLemmas.{map-filter}
use Rattle.bidi_names.specs.Subscriptions.{Named, named_of}
use Rattle.bidi_names.proofs.subscriptions.cancel.Goals as goal

pub returns : goal.returns
returns c =
    ap (map named_of) (filter_same _ _ _ (λ x b f' k. search rules) _ _ c.retain.ensures.filtered)
    ∙ map-filter named_of (λ (n : Named). not ((n.session == c.args.session) && is_listed c.args.numbers.now n.number)) c.args.subscriptions.now.items
