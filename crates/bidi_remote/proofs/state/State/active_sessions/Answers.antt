use Rattle.std.proofs.Common.{◌≡◌, ◌∙◌, map, ap, subst}
use Rattle.std.specs.Prelude.{IfOk}
use Rattle.bidi_remote.specs.Machine.Outcome.{deeds}
use Rattle.bidi_remote.proofs.SubscriptionLemmas.{numbers-session_rows}
use Rattle.bidi_remote.proofs.state.State.active_sessions.Goals as goal

pub returns : goal.returns
returns c = λ h a.
    subst (λ ns. IfOk c.numbers_of.result (λ all. all.items ≡ ns))
    (ap (map (λ r. r.number)) (c.all.ensures ∙ a.sessions) ∙ numbers-session_rows (deeds h)) c.numbers_of.ensures
