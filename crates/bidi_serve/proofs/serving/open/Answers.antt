use Rattle.std.proofs.Common.{◌≡◌, ◌∙◌, ◌∷◌, not, false, sym, ap, subst}
use Rattle.std.specs.Prelude.{◌||◌}
use Rattle.bidi_remote.specs.Machine.History.{Open}
use Rattle.bidi_remote.specs.State.Stands.{StandsFor}
use Rattle.bidi_serve.specs.Serving.{is_served}
use Rattle.bidi_serve.proofs.serving.open.Goals as goal

pub returns-then-not-was_open-clause-ok : goal.returns-then-not-was_open-clause-ok
returns-then-not-was_open-clause-ok c = λ h stands.
    let l = c.args.conn.value in
    let ok = c.in_ok-step.ensures.ok in
    let after = Open l c.args.resource.now ∷ h in
    let there = subst (λ i. StandsFor c.step.new.self (i ∷ h)) (ok.1 ∙ ap (Open l) c.in_ok-resource.ensures.ok) (ok.2 h stands).1 in
    let was : is_served h l ≡ false = sym (c.is_open-was_open.ensures h stands) ∙ c.if-not-was_open.true in
    (ap not (c.is_open.ensures after there) ∙ sym (ap (λ b. b || not (is_served after l)) was), there)
