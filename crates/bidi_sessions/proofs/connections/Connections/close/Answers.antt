use Rattle.std.proofs.Common.{◌∙◌, ap, rules}
use Rattle.std.specs.Prelude.{◌==◌, not, map}
use Rattle.std.proofs.lemmas.Fn.{filter_same}
use Rattle.bidi_sessions.specs.ConnectionRows.{row_of}
use Rattle.bidi_sessions.proofs.ListLemmas.{map-filter}
use Rattle.bidi_sessions.proofs.connections.Connections.close.Goals as goal

pub returns : goal.returns
returns c =
    ap (map row_of) (filter_same _ _ _ (λ x b f' k. search rules) _ _ c.retain.ensures.filtered)
    ∙ map-filter row_of (λ row. not (row.0 == c.args.number.value)) c.args.self.now.«open».items
