-- Realms: no two contexts share one.
use Rattle.std.proofs.Common.{◌≡◌, ◌<◌, ℕ, Bool, true, false, List, [], ◌∷◌, arith}
use Rattle.std.specs.Prelude.{if◌then◌else◌}
use Rattle.std.specs.Prelude.{find, map, bytes_eq, Option, Some, None, Result, Ok, Err}
use Rattle.std.proofs.lemmas.Bool.Decides.{nat_tests}
use Rattle.bidi_params.specs.declared.error_code.ErrorCode.{ErrorCode}
use Rattle.bidi_params.specs.declared.error_code.ErrorCode.TheVariants.{NoSuchFrame, UnsupportedOperation}
use Rattle.bidi_handles.specs.Ids.{id_of}
use Rattle.bidi_contexts.specs.Actions.{Target, ContextTarget, RealmTarget}
use Rattle.bidi_handles.specs.Checks.{◌>>=◌, need, found}
use Rattle.bidi_contexts.specs.Contexts.{contexts}
use Rattle.bidi_contexts.specs.Outcome.{context_named, realm_targeted}
use Rattle.bidi_handles.specs.declared.id.IdKind.TheVariants.{Context, Realm}
use Rattle.bidi_contexts.specs.Acts.{Act, Made, Framed, Moved, Removed, Logged, Tabled, Ran, Disowned, UserMade, UserRemoved, Looked, next_number}
use Rattle.bidi_contexts.specs.Realms.{realm_of, realms}

-- each realm is one that was made
pub realm-made : (past : List Act) (c : ℕ) → realm_of past c < next_number past Realm
realm-made [] c = omega arith
realm-made (Made w u ∷ past) c = let ih = realm-made past c in grind (arith, nat_tests, ih)
realm-made (Framed p url ∷ past) c = let ih = realm-made past c in grind (arith, nat_tests, ih)
realm-made (Moved d move ∷ past) c = let ih = realm-made past c in grind (arith, nat_tests, ih)
realm-made (Removed d ∷ past) c = realm-made past c
realm-made (Logged d level text ∷ past) c = realm-made past c
realm-made (Tabled text row ∷ past) c = realm-made past c
realm-made (Ran r ending held ∷ past) c = realm-made past c
realm-made (Disowned r ids ∷ past) c = realm-made past c
realm-made (UserMade ∷ past) c = realm-made past c
realm-made (UserRemoved u ∷ past) c = realm-made past c
realm-made (Looked ∷ past) c = realm-made past c

-- contexts that were born and share a realm are one
pub realm-one : (past : List Act) (c d : ℕ)
    → 0 < c → c < next_number past Context → 0 < d → d < next_number past Context → realm_of past c ≡ realm_of past d → c ≡ d
realm-one [] c d a b e f same = omega arith
realm-one (Made w u ∷ past) c d a b e f same =
    let ih = realm-one past c d in
    let left = realm-made past c in
    let right = realm-made past d in
    grind (arith, nat_tests, ih, left, right)
realm-one (Framed p url ∷ past) c d a b e f same =
    let ih = realm-one past c d in
    let left = realm-made past c in
    let right = realm-made past d in
    grind (arith, nat_tests, ih, left, right)
realm-one (Moved g move ∷ past) c d a b e f same =
    let ih = realm-one past c d in
    let left = realm-made past c in
    let right = realm-made past d in
    grind (arith, nat_tests, ih, left, right)
realm-one (Removed g ∷ past) c d a b e f same = realm-one past c d a b e f same
realm-one (Logged g level text ∷ past) c d a b e f same = realm-one past c d a b e f same
realm-one (Tabled text row ∷ past) c d a b e f same = realm-one past c d a b e f same
realm-one (Ran r ending held ∷ past) c d a b e f same = realm-one past c d a b e f same
realm-one (Disowned r ids ∷ past) c d a b e f same = realm-one past c d a b e f same
realm-one (UserMade ∷ past) c d a b e f same = realm-one past c d a b e f same
realm-one (UserRemoved u ∷ past) c d a b e f same = realm-one past c d a b e f same
realm-one (Looked ∷ past) c d a b e f same = realm-one past c d a b e f same

-- what is found among what f gives is given
found-given : {B : Type 0} (f : ℕ → B) (p : B → Bool) (xs : List ℕ) (y : B) → find p (map f xs) ≡ Some y → (x : ℕ) × (y ≡ f x)
found-given f p [] y e = absurd (cc)
found-given f p (x ∷ xs) y e = by (found-given f p xs y) (p (f x)) e
  where
    by : (find p (map f xs) ≡ Some y → (x : ℕ) × (y ≡ f x)) → (b : Bool) → (if b then Some (f x) else find p (map f xs)) ≡ Some y → (x : ℕ) × (y ≡ f x)
    by rest true e = (x, cc)
    by rest false e = rest e

-- the realm of a target is one that was made
pub target-made : (past : List Act) (target : Target) (r : ℕ) → realm_targeted past target ≡ Ok r → r < next_number past Realm
target-made past (ContextTarget id sandbox) r e = by (context_named past id) (bytes_eq sandbox []) e
  where
    by : (o : Result ℕ ErrorCode) (b : Bool) → (o >>= (λ c. need b UnsupportedOperation >>= (λ u. Ok (realm_of past c)))) ≡ Ok r → r < next_number past Realm
    by (Ok c) true e = let same : realm_of past c ≡ r = cc in let made = realm-made past c in omega (arith, same, made)
    by (Ok c) false e = absurd (cc)
    by (Err code) b e = absurd (cc)
target-made past (RealmTarget id) r e =
    let given = found-given (realm_of past) (λ q. bytes_eq id (id_of Realm q)) (contexts past) r
    (of-found (find (λ q. bytes_eq id (id_of Realm q)) (realms past)) e) in
    let same = given.1 in
    let made = realm-made past given.0 in
    omega (arith, same, made)
  where
    of-found : (o : Option ℕ) → found o NoSuchFrame ≡ Ok r → o ≡ Some r
    of-found None e = absurd (cc)
    of-found (Some q) e = cc
