use Rattle.std.proofs.Common.{◌∙◌, map, ap, rules}
use Rattle.std.proofs.lemmas.Fn.{filter_same}
use Rattle.bidi_sessions.specs.Scope.{is_listed}
use Rattle.bidi_sessions.proofs.ListLemmas.{map-filter}
use Rattle.bidi_names.specs.Subscriptions.{Named, named_of}
use Rattle.bidi_names.proofs.subscriptions.keep_active.Goals as goal

pub returns-clause-kept : goal.returns-clause-kept
returns-clause-kept c =
    ap (map named_of) (filter_same _ _ _ (λ x b f' k. search rules) _ _ c.retain.ensures.filtered)
    ∙ map-filter named_of (λ (n : Named). is_listed c.args.active.now n.session) c.args.subscriptions.now.items
