use Rattle.std.proofs.Common.{◌∙◌, not, map, string_bytes, ap, rules}
use Rattle.std.specs.Prelude.{bytes_eq}
use Rattle.std.specs.List.{list_any}
use Rattle.std.proofs.lemmas.Fn.{filter_same}
use Rattle.bidi_sessions.proofs.ListLemmas.{map-filter}
use Rattle.bidi_names.proofs.subscriptions.remove_names.Goals as goal

pub returns : goal.returns
returns c =
    ap (map string_bytes) (filter_same _ _ _ (λ x b f' k. search rules) _ _ c.retain.ensures.filtered)
    ∙ map-filter string_bytes (λ name. not (list_any (bytes_eq name) (map string_bytes c.args.names.now))) c.args.held.now.items
