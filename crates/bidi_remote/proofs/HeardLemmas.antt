-- Steps, and the inputs that they are heard as.
use Rattle.std.proofs.Common.{◌≡◌, ℕ, Bool, true, false, List, [], ◌∷◌, ◌++◌, length, arith, refl}
use Rattle.std.specs.List.{items_where_true}
use Rattle.bidi_sessions.specs.Step.{Step}
use Rattle.bidi_remote.specs.Machine.History.{Input, IsHeardAs, AreHeardAs}

-- one step more, and its input
pub heard_more : (steps : List Step) (inputs : List Input) (s : Step) (i : Input)
    → AreHeardAs steps inputs → IsHeardAs s i → AreHeardAs (steps ++ s ∷ []) (inputs ++ i ∷ [])
heard_more [] [] s i a h = (h, tt)
heard_more [] (j ∷ inputs) s i a h = absurd a
heard_more (y ∷ ys) [] s i a h = absurd a
heard_more (y ∷ ys) (j ∷ inputs) s i a h = (a.0, heard_more ys inputs s i a.1 h)

-- as many inputs as steps
pub length-heard : (steps : List Step) (inputs : List Input) → AreHeardAs steps inputs → length inputs ≡ length steps
length-heard [] [] a = refl
length-heard [] (j ∷ inputs) a = absurd a
length-heard (y ∷ ys) [] a = absurd a
length-heard (y ∷ ys) (j ∷ inputs) a = let ih = length-heard ys inputs a.1 in omega (arith, ih)

-- of steps and inputs the same places are kept
pub heard-kept : (ks : List Bool) (steps : List Step) (inputs : List Input)
    → AreHeardAs steps inputs → AreHeardAs (items_where_true ks steps) (items_where_true ks inputs)
heard-kept [] steps inputs heard = tt
heard-kept (k ∷ ks) [] [] heard = tt
heard-kept (k ∷ ks) [] (i ∷ inputs) heard = absurd heard
heard-kept (k ∷ ks) (x ∷ steps) [] heard = absurd heard
heard-kept (true ∷ ks) (x ∷ steps) (i ∷ inputs) heard = (heard.0, heard-kept ks steps inputs heard.1)
heard-kept (false ∷ ks) (x ∷ steps) (i ∷ inputs) heard = heard-kept ks steps inputs heard.1
