-- Which reason is told of a tree.
use Rattle.std.proofs.Common.{◌≡◌, ◌∙◌, Bool, true, false, ℕ, List, Option, Some, None, ap, refl, sym, subst}
use Rattle.std.specs.Prelude.{if◌then◌else◌}
use Rattle.bidi_tree.specs.Node.{Node}
use Rattle.bidi_shape.specs.Name.{Name}
use Rattle.bidi_shape.specs.Term.{rule}
use Rattle.bidi_blame.specs.Blames.{Blames, Judged}
use Rattle.bidi_blame.specs.Reason.{Reason}
use Rattle.bidi_remarks.specs.Beyond as reason
use Rattle.bidi_remarks.specs.Trimming.{trimmed}
use Rattle.bidi_remarks.specs.Trouble.{HasFaultInRest, HasMisfit, Misfit, of_beyond, of_fault, of_rest, reason_parts}

module _ (n : Name) (id : Option ℕ) (method : Option (List ℕ)) (t : Node) where
  -- in words a reason is beyond the profile as it is itself
  same_beyond : (r : Reason) (m : Misfit) → m ≡ reason_parts id method r → reason.is_beyond r ≡ m.is_beyond
  same_beyond r m e = sym (ap (λ (x : Misfit). x.is_beyond) e)

  -- the first reason is told if it is wrong for the draft
  pub told_first : (r : Reason) (m : Misfit) → m.is_beyond ≡ false → Blames t (rule n) r → m ≡ reason_parts id method r → HasMisfit n id method t m
  told_first r m is_not blamed e = subst (HasMisfit n id method t) (sym e) (of_fault r blamed (same_beyond r m e ∙ is_not))

  -- else one of the rest is told
  pub told_rest : (r : Reason) (m f : Misfit) → m.is_beyond ≡ true → HasFaultInRest n id method t (Some f) → Blames t (rule n) r → m ≡ reason_parts id method r
      → HasMisfit n id method t f
  told_rest r m f is_so rest blamed e = of_rest r f blamed (same_beyond r m e ∙ is_so) rest

  -- or the first for all that
  pub told_beyond : (r : Reason) (m : Misfit) → m.is_beyond ≡ true → HasFaultInRest n id method t None → Blames t (rule n) r → m ≡ reason_parts id method r
      → HasMisfit n id method t m
  told_beyond r m is_so rest blamed e = subst (HasMisfit n id method t) (sym e) (of_beyond r blamed (same_beyond r m e ∙ is_so) rest)

  -- what is found in the rest
  pub found_in_rest : (rest : Node) (r : Reason) (m : Misfit) (o : Option Misfit) → rest ≡ trimmed false t → Judged rest (rule n) (Some r)
      → m ≡ reason_parts id method r → o ≡ (if m.is_beyond then None else Some m) → HasFaultInRest n id method t o
  found_in_rest rest r m o same blamed e is = subst (HasFaultInRest n id method t) (sym is) (go m.is_beyond refl)
    where
      here : Blames (trimmed false t) (rule n) r
      here = subst (λ (x : Node). Blames x (rule n) r) same blamed

      go : (b : Bool) → m.is_beyond ≡ b → HasFaultInRest n id method t (if b then None else Some m)
      go true is_so = (Some r, here, same_beyond r m e ∙ is_so)
      go false is_not = (r, here, same_beyond r m e ∙ is_not, e)

  -- nothing is
  pub fits_in_rest : (rest : Node) → rest ≡ trimmed false t → Judged rest (rule n) None → HasFaultInRest n id method t None
  fits_in_rest rest same fits = (None, subst (λ (x : Node). Judged x (rule n) None) same fits, refl)
