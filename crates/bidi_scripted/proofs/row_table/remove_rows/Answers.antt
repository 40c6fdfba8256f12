use Rattle.std.proofs.Common.{◌∙◌, ap, rules}
use Rattle.std.specs.Prelude.{not, map, bytes_eq}
use Rattle.std.proofs.lemmas.Fn.{filter_same}
use Rattle.bidi_rows.specs.View.{row_of}
use Rattle.bidi_sessions.proofs.ListLemmas.{map-filter}
use Rattle.bidi_scripted.proofs.row_table.remove_rows.Goals as goal

pub returns : goal.returns
returns c =
    ap (map row_of) (filter_same _ _ _ (λ x b f' k. search rules) _ _ c.retain.ensures.filtered)
    ∙ map-filter row_of (λ r. not (bytes_eq r.method c.args.method.now)) c.args.rows.now.items
