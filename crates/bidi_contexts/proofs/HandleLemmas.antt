-- Handles: in a realm that is not made yet no value is held, and the next handle's number is above those of all that are held.
use Rattle.std.proofs.Common.{◌≡◌, ◌∙◌, ◌<◌, ◌≤◌, ℕ, suc, Bool, true, false, List, [], ◌∷◌, ◌++◌, All, refl, arith}
use Rattle.std.specs.Prelude.{◌==◌, not, if◌then◌else◌, filter}
use Rattle.std.proofs.lemmas.Bool.Decides.{nat_tests}
use Rattle.std.proofs.lemmas.List.Elements.{All-nil, All-push, All-weaker, All-filter}
use Rattle.bidi_tree.specs.Node.{Node}
use Rattle.bidi_handles.specs.declared.id.IdKind.TheVariants.{Realm, Handle}
use Rattle.bidi_contexts.specs.Acts.{Act, Made, Framed, Moved, Removed, Logged, Tabled, Ran, Disowned, UserMade, UserRemoved, Looked, next_number}
use Rattle.bidi_contexts.specs.Accepted.{AreAccepted}
use Rattle.bidi_handles.specs.Ids.{has_id}
use Rattle.bidi_contexts.specs.Realms.{value_of, handles_of}
use Rattle.bidi_contexts.proofs.AcceptedLemmas.{act-sound}

-- what is given in another realm is not held in this one
other-held : {A : Type 0} (q r : ℕ) (xs ys : List A) → q < r → (if q == r then xs else ys) ≡ ys
other-held q r xs ys less = grind (arith, nat_tests, less)

-- in a realm that is not made yet no value is held
pub handles-unmade : (past : List Act) (r : ℕ) → AreAccepted past → next_number past Realm ≤ r → handles_of past r ≡ []
handles-unmade [] r acc unmade = refl
handles-unmade (Made w u ∷ past) r acc unmade = handles-unmade past r acc.2 (omega arith)
handles-unmade (Framed p url ∷ past) r acc unmade = handles-unmade past r acc.2 (omega arith)
handles-unmade (Moved d move ∷ past) r acc unmade = handles-unmade past r acc.2 (omega arith)
handles-unmade (Removed d ∷ past) r acc unmade = handles-unmade past r acc.2 unmade
handles-unmade (Logged d level text ∷ past) r acc unmade = handles-unmade past r acc.2 unmade
handles-unmade (Tabled text row ∷ past) r acc unmade = handles-unmade past r acc.2 unmade
handles-unmade (Ran q ending true ∷ past) r acc unmade =
    let made : q < next_number past Realm = act-sound past acc.0 (Ran q ending true) acc.1 in
    other-held q r _ (handles_of past r) (omega (arith, made)) ∙ handles-unmade past r acc.2 unmade
handles-unmade (Ran q ending false ∷ past) r acc unmade = handles-unmade past r acc.2 unmade
handles-unmade (Disowned q ids ∷ past) r acc unmade = step (q == r) (handles-unmade past r acc.2 unmade)
  where
    step : (b : Bool) → handles_of past r ≡ [] → (if b then filter (λ held. not (has_id ids held.0)) (handles_of past r) else handles_of past r) ≡ []
    step true none = rw none refl
    step false none = none
handles-unmade (UserMade ∷ past) r acc unmade = handles-unmade past r acc.2 unmade
handles-unmade (UserRemoved u ∷ past) r acc unmade = handles-unmade past r acc.2 unmade
handles-unmade (Looked ∷ past) r acc unmade = handles-unmade past r acc.2 unmade

-- each number is below n
abbrev AreBelow : ℕ → List (ℕ × Node) → Type 0
AreBelow n handles = All (λ held. held.0 < n) handles

-- and below any number that is no lower
below-higher : (m n : ℕ) (handles : List (ℕ × Node)) → m ≤ n → AreBelow m handles → AreBelow n handles
below-higher m n handles le all = All-weaker (λ held. held.0 < m) (λ held. held.0 < n) (λ held below. omega arith) handles all

-- the next handle's number is above those of all that are held in a realm
pub handles-below : (past : List Act) (r : ℕ) → All (λ held. held.0 < next_number past Handle) (handles_of past r)
handles-below [] r = All-nil (λ (held : ℕ × Node). held.0 < next_number [] Handle)
handles-below (Made w u ∷ past) r = handles-below past r
handles-below (Framed p url ∷ past) r = handles-below past r
handles-below (Moved d move ∷ past) r = handles-below past r
handles-below (Removed d ∷ past) r = handles-below past r
handles-below (Logged d level text ∷ past) r = handles-below past r
handles-below (Tabled text row ∷ past) r = handles-below past r
handles-below (Ran q ending true ∷ past) r =
    let n = next_number past Handle in
    step n (q == r) (below-higher n (suc n) (handles_of past r) (omega arith) (handles-below past r))
  where
    step : (n : ℕ) (b : Bool) → AreBelow (suc n) (handles_of past r)
        → AreBelow (suc n) (if b then handles_of past r ++ (n, value_of ending) ∷ [] else handles_of past r)
    step n true older = All-push (λ held. held.0 < suc n) (handles_of past r) (n, value_of ending) older (omega arith)
    step n false older = older
handles-below (Ran q ending false ∷ past) r = handles-below past r
handles-below (Disowned q ids ∷ past) r = step (q == r) (handles-below past r)
  where
    step : (b : Bool) → AreBelow (next_number past Handle) (handles_of past r)
        → AreBelow (next_number past Handle) (if b then filter (λ held. not (has_id ids held.0)) (handles_of past r) else handles_of past r)
    step true all = All-filter (λ held. not (has_id ids held.0)) (λ held. held.0 < next_number past Handle) (handles_of past r) all
    step false all = all
handles-below (UserMade ∷ past) r = handles-below past r
handles-below (UserRemoved u ∷ past) r = handles-below past r
handles-below (Looked ∷ past) r = handles-below past r
