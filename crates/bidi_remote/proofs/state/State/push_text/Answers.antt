use Rattle.std.proofs.Common.{◌≡◌, ◌∙◌, ℕ, ◌++◌, map, ap, subst}
use Rattle.std.specs.Prelude.{IfOk, string_bytes}
use Rattle.bidi_sessions.specs.ConnectionRows.{to_each}
use Rattle.bidi_sessions.specs.View.{sent_of}
use Rattle.bidi_remote.specs.Machine.Outcome.{deeds}
use Rattle.bidi_remote.specs.Machine.Sent.{Text}
use Rattle.bidi_remote.proofs.ConnectionLemmas.{each-past}
use Rattle.bidi_remote.proofs.state.State.push_text.Goals as goal

pub returns : goal.returns
returns c = λ h a.
    let what = λ (n : ℕ). Text n (string_bytes c.args.text.now.value) in
    subst (λ xs. IfOk c.push_text.result (λ _. map sent_of c.push_text.new.sent.items ≡ map sent_of c.args.sent.now.items ++ xs))
    (ap (to_each what c.args.session) a.connections ∙ each-past what (deeds h) c.args.session) c.push_text.ensures
