-- Scripts of which nothing but the subscriptions to names has changed.
use Rattle.std.proofs.Common.{◌≡◌, ◌∙◌, ℕ, Bool, true, false, List, refl, sym, ap, subst}
use Rattle.std.specs.Prelude.{if◌then◌else◌}
use Rattle.bidi_names.specs.Subscriptions.{Named}
use Rattle.bidi_scripted.specs.Script.{Script, OnlySubscriptionsChange, without_held}

-- nothing has changed
pub only-same : (script after : Script) → after ≡ script → OnlySubscriptionsChange script after
only-same script after is = subst (OnlySubscriptionsChange script) (sym is) refl

-- what subscriptions have is other
pub only-named : (script mid after : Script) (named : List Named) → mid ≡ script → after ≡ record mid { named = named } → OnlySubscriptionsChange script after
only-named script mid after named same is =
    subst (OnlySubscriptionsChange script) (sym (is ∙ ap (λ (x : Script). record x { named = named }) same)) refl

-- it may be other
pub only-either : (b : Bool) (script mid after : Script) (named : List Named) → mid ≡ script → after ≡ (if b then record mid { named = named } else mid)
    → OnlySubscriptionsChange script after
only-either true script mid after named same is = only-named script mid after named same is
only-either false script mid after named same is = only-same script after (is ∙ same)

-- one more was made
pub only-made : (script after : Script) (named : List Named) (made : ℕ) → after ≡ record script { named = named; made = made } → OnlySubscriptionsChange script after
only-made script after named made is = subst (OnlySubscriptionsChange script) (sym is) refl

-- then a held command is removed
pub only-without : (n : ℕ) (script mid after : Script) → OnlySubscriptionsChange script mid → after ≡ without_held n mid
    → OnlySubscriptionsChange (without_held n script) after
only-without n script mid after only is = subst (OnlySubscriptionsChange (without_held n script)) (sym (is ∙ ap (without_held n) only)) refl
