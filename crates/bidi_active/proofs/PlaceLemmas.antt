-- The places that entries leave.
use Rattle.std.proofs.Common.{◌≡◌, ◌∙◌, Bool, true, false, List, [], ◌∷◌, refl, sym, ap, ap₂}
use Rattle.std.specs.Prelude.{Option, None, Some, if◌then◌else◌}
use Rattle.bidi_contexts.specs.declared.occurrence.Top.{Top}
use Rattle.bidi_active.specs.Written.{Written}
use Rattle.bidi_active.specs.Places.{left, all_left}

-- a place is left where its entry is announced, and only there
pub left-new : (p : Top → Bool) (x : Option Written) (w : Written) → x ≡ Some w → p w.top ≡ true → None ≡ left p x
left-new p x w is new = rw is (ap (λ b. if b then None else Some w) (sym new))

pub left-old : (p : Top → Bool) (x : Option Written) (w : Written) → x ≡ Some w → p w.top ≡ false → x ≡ left p x
left-old p x w is old = is ∙ (ap (λ b. if b then None else Some w) (sym old) ∙ ap (left p) (sym is))

pub left-empty : (p : Top → Bool) (x : Option Written) → x ≡ None → x ≡ left p x
left-empty p x is = is ∙ ap (left p) (sym is)

-- each stays where no entry is announced
pub none-left : (p : Top → Bool) (all : List (Option Written)) → ((top : Top) → p top ≡ false) → all ≡ all_left p all
none-left p [] never = refl
none-left p (None ∷ all) never = ap (λ xs. None ∷ xs) (none-left p all never)
none-left p (Some w ∷ all) never = ap₂ (λ x xs. x ∷ xs) (left-old p (Some w) w refl (never w.top)) (none-left p all never)
