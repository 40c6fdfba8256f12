use Rattle.std.proofs.Common.{◌∙◌, option_map, sym, ap}
use Rattle.std.specs.Prelude.{◌==◌, find}
use Rattle.bidi_active.specs.SessionView.{session_row_of}
use Rattle.bidi_sessions.proofs.ListLemmas.{find-seen, map-now}
use Rattle.bidi_active.proofs.sessions.Sessions.find.Goals as goal

pub returns : goal.returns
returns c =
    map-now session_row_of (λ s. s.now) c.find.result
    ∙ (ap (option_map session_row_of) (c.find.ensures ∙ ap (find (λ s. s.number == c.args.number)) c.deref.ensures.value)
    ∙ sym (find-seen session_row_of (λ r. r.number == c.args.number) c.args.self.now.active.items))
