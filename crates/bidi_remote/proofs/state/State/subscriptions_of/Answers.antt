use Rattle.std.proofs.Common.{◌≡◌, subst}
use Rattle.std.specs.Prelude.{IfOk}
use Rattle.bidi_active.specs.SessionView.{rows_in}
use Rattle.bidi_sessions.specs.SubscriptionView.{row_of}
use Rattle.std.proofs.Common.{map}
use Rattle.bidi_remote.specs.Machine.Outcome.{deeds}
use Rattle.bidi_remote.proofs.AskingLemmas.{held-numbers}
use Rattle.bidi_remote.proofs.state.State.subscriptions_of.Goals as goal

pub returns : goal.returns
returns c = λ h a.
    subst (λ ns. IfOk c.subscription_numbers.result (λ all. all.items ≡ ns))
    (held-numbers (deeds h) c.args.session (rows_in c.args.self.now.sessions) (map row_of c.subscriptions_of.result.now) c.subscriptions_of.ensures a.sessions)
    c.subscription_numbers.ensures
