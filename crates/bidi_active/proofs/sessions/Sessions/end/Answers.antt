use Rattle.std.proofs.Common.{◌∙◌, ap, rules}
use Rattle.std.specs.Prelude.{◌==◌, not, map}
use Rattle.std.proofs.lemmas.Fn.{filter_same}
use Rattle.bidi_active.specs.SessionView.{session_row_of}
use Rattle.bidi_sessions.proofs.ListLemmas.{map-filter}
use Rattle.bidi_active.proofs.sessions.Sessions.end.Goals as goal

pub returns-clause-rows : goal.returns-clause-rows
returns-clause-rows c =
    ap (map session_row_of) (filter_same _ _ _ (λ x b f' k. search rules) _ _ c.retain.ensures.filtered)
    ∙ map-filter session_row_of (λ r. not (r.number == c.args.number)) c.args.self.now.active.items
