use Rattle.std.proofs.Common.{◌≡◌, refl, sym, subst}
use Rattle.bidi_messages.specs.Verdict.{IsVerdict}
use Rattle.bidi_remote.specs.Machine.History.{Input, Heard, IsHeardAs}
use Rattle.bidi_sessions.specs.View.{step_of}
use Rattle.bidi_remote.proofs.StrikeLemmas.{found-so}
use Rattle.bidi_remote.proofs.state.State.is_struck.Goals as goal

pub returns-in-Text-clause-heard : goal.returns-in-Text-clause-heard
returns-in-Text-clause-heard c =
    found-so c.is_struck_text.result _ _
    (λ x judged e. let found = judged e in
    subst (λ s. (i : Input) × IsHeardAs (step_of s) i) (sym c.in-Text.is)
    (Heard c.in-Text.conn.value found.0, (found.0, subst (λ t. IsVerdict t found.0) c.as_str.ensures.value found.1, refl)))
    c.is_struck_text.ensures.judged
