-- Each text has one verdict, and the text of a valid command is accepted as that command.
use Rattle.std.proofs.Common.{◌≡◌, ◌∙◌, ℕ, List, Some, None, Result, Ok, Err, refl, sym, ap, subst}
use Rattle.std.specs.Prelude.{IfOk}
use Rattle.bidi_tree.specs.Node.{Node}
use Rattle.bidi_shape.specs.Name.{command}
use Rattle.bidi_shape.specs.Term.{rule}
use Rattle.bidi_shape.specs.Fits.{Fits}
use Rattle.bidi_shape.specs.Value.{ShapeOf}
use Rattle.bidi_shape.specs.Table.{same_some}
use Rattle.bidi_messages.specs.Verdict.{Verdict, Accepted, IsVerdict, is_command, is_not_json, is_no_command, command_tree}
use Rattle.bidi_messages.specs.declared.command.Command.{Command}

none_some : {A : Type 0} {a : A} → None ≡ Some a → ⊥
none_some e = cc

-- a text has one verdict
pub one_verdict : {s : List ℕ} {v w : Verdict} → IsVerdict s v → IsVerdict s w → v ≡ w
one_verdict (is_command t e f) (is_command u h i) = ap Accepted (same_some (sym e ∙ h))
one_verdict (is_command t e f) (is_not_json h) = absurd (none_some (sym h ∙ e))
one_verdict (is_command t e f) (is_no_command u h misfit) = absurd (misfit (subst (λ x. Fits x (rule command)) (same_some (sym e ∙ h)) f))
one_verdict (is_not_json h) (is_command t e f) = absurd (none_some (sym h ∙ e))
one_verdict (is_not_json h) (is_not_json e) = refl
one_verdict (is_not_json h) (is_no_command t e misfit) = absurd (none_some (sym h ∙ e))
one_verdict (is_no_command t h misfit) (is_command u e f) = absurd (misfit (subst (λ x. Fits x (rule command)) (same_some (sym e ∙ h)) f))
one_verdict (is_no_command t h misfit) (is_not_json e) = absurd (none_some (sym e ∙ h))
one_verdict (is_no_command t h misfit) (is_no_command u e also) = let same = same_some (sym h ∙ e) in rw same refl

module _ (shape : ShapeOf Command) (of : shape.rule ≡ rule command) (s : List ℕ) where
  module _ {n : Node} (seen : command_tree s ≡ Some n) where
    -- a text whose tree is that of a command is accepted as that command
    pub accepted : (c : Command) → shape.tree_of c ≡ n → shape.well c → IsVerdict s (Accepted (shape.tree_of c))
    accepted c is well = is_command (shape.tree_of c) (seen ∙ ap Some (sym is)) (subst (Fits (shape.tree_of c)) of (shape.fits c well))

    pub accepted_as : (d : Command)
        → shape.tree_of d ≡ n → shape.well d → (c : Command) → shape.well c → command_tree s ≡ Some (shape.tree_of c) → shape.same d c
    accepted_as d is well c good also = shape.one_value d c well good (is ∙ same_some (sym seen ∙ also))

    -- a text whose tree fits no command has the tree of none
    pub refused_as : (Fits n (rule command) → ⊥) → (c : Command) → shape.well c → command_tree s ≡ Some (shape.tree_of c) → ⊥
    refused_as misfit c good also =
        misfit (subst (λ t. Fits t (rule command)) (same_some (sym also ∙ seen)) (subst (Fits (shape.tree_of c)) of (shape.fits c good)))

  -- a text without a tree has no other verdict
  pub no_tree_as : command_tree s ≡ None → (c : Command) → shape.well c → command_tree s ≡ Some (shape.tree_of c) → ⊥
  no_tree_as none c good also = none_some (sym none ∙ also)

-- if a verdict is allowed, no other is
pub no_other : {T E : Type 0} (s : List ℕ) (view : T → Verdict) (r : Result T E) → IfOk r (λ v. IsVerdict s (view v))
    → IfOk r (λ v. (w : Verdict) → IsVerdict s w → w ≡ view v)
no_other s view (Ok v) is = λ w other. one_verdict other is
no_other s view (Err e) is = tt
