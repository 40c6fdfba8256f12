use Rattle.std.proofs.Common.{List, [], ◌∷◌, ◌++◌, sym, subst}
use Rattle.std.specs.List.{AllByRecursion}
use Rattle.bidi_ledger.specs.Steps.{AreWell, IsWell}
use Rattle.test_machine.proofs.link.add.Goals as goal

-- what holds of all, and of one more
all_more : {X : Type 0} (P : X → Type 0) (xs : List X) (x : X) → AllByRecursion P xs → P x → AllByRecursion P (xs ++ x ∷ [])
all_more P [] x all one = (one, tt)
all_more P (y ∷ ys) x all one = (all.0, all_more P ys x all.1 one)

pub returns : goal.returns
returns c = subst AreWell (sym c.in_ok-push.ensures.items) (all_more IsWell c.args.steps.now.items c.args.step c.requires.before c.requires.well)
