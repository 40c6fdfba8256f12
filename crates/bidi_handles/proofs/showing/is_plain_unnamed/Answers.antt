use Rattle.std.proofs.Common.{sym, subst}
use Rattle.bidi_values.specs.contracts.remote_value.RemotePlainShape.TheImpl.{ghosts}
use Rattle.bidi_values.specs.declared.remote_value.RemotePlain.TheVariants.{List, Pairs, RegExp, Date, Opaque}
use Rattle.bidi_handles.specs.Showing.{BeginsWithType}
use Rattle.bidi_handles.proofs.ShowingLemmas.{plain-unnamed}
use Rattle.bidi_handles.proofs.showing.is_plain_unnamed.Goals as goal

pub returns-in-List : goal.returns-in-List
returns-in-List c = λ yes. subst (λ p. BeginsWithType (ghosts.shape.tree_of p)) (sym c.in-List.is) (plain-unnamed (List c.in-List.list) (c.are_absent.ensures yes))

pub returns-in-Pairs : goal.returns-in-Pairs
returns-in-Pairs c = λ yes. subst (λ p. BeginsWithType (ghosts.shape.tree_of p)) (sym c.in-Pairs.is) (plain-unnamed (Pairs c.in-Pairs.pairs) (c.are_absent-in-Pairs.ensures yes))

pub returns-in-RegExp : goal.returns-in-RegExp
returns-in-RegExp c = λ yes. subst (λ p. BeginsWithType (ghosts.shape.tree_of p)) (sym c.in-RegExp.is) (plain-unnamed (RegExp c.in-RegExp.reg_exp) (c.are_absent-in-RegExp.ensures yes))

pub returns-in-Date : goal.returns-in-Date
returns-in-Date c = λ yes. subst (λ p. BeginsWithType (ghosts.shape.tree_of p)) (sym c.in-Date.is) (plain-unnamed (Date c.in-Date.date) (c.are_absent-in-Date.ensures yes))

pub returns-in-Opaque : goal.returns-in-Opaque
returns-in-Opaque c = λ yes. subst (λ p. BeginsWithType (ghosts.shape.tree_of p)) (sym c.in-Opaque.is) (plain-unnamed (Opaque c.in-Opaque.opaque) (c.are_absent-in-Opaque.ensures yes))
