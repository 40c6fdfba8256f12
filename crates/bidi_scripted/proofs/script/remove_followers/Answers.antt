use Rattle.std.proofs.Common.{◌∙◌, ap, rules}
use Rattle.std.specs.Prelude.{not, map, bytes_eq}
use Rattle.std.proofs.lemmas.Fn.{filter_same}
use Rattle.bidi_scripted.specs.View.{follower_of}
use Rattle.bidi_sessions.proofs.ListLemmas.{map-filter}
use Rattle.bidi_scripted.proofs.script.remove_followers.Goals as goal

pub returns-clause-items : goal.returns-clause-items
returns-clause-items c =
    ap (map follower_of) (filter_same _ _ _ (λ x b f' k. search rules) _ _ c.retain.ensures.filtered)
    ∙ map-filter follower_of (λ f. not (bytes_eq f.method c.args.method.now)) c.args.followers.now.items
