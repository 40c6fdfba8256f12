-- What holds in every past that can be.
use Rattle.std.proofs.Common.{◌≡◌, ◌∙◌, ap, ◌≤◌, ◌<◌, ℕ, zero, suc, Bool, true, false, List, [], ◌∷◌, refl, sym, subst, arith}
use Rattle.std.specs.Prelude.{◌==◌, not, ◌&&◌, ◌||◌, nat_lt, if◌then◌else◌, bytes_eq, codes, filter, find, Option, Some, None, is_none, Result, Ok, Err}
use Rattle.std.proofs.lemmas.Bool.Decides.{nat_tests, Decides-eqb, Decides-ltb}
use Rattle.bidi_params.specs.declared.error_code.ErrorCode.{ErrorCode}
use Rattle.bidi_params.specs.declared.error_code.ErrorCode.TheVariants.{InvalidArgument, NoSuchFrame, NoSuchUserContext, UnknownError, UnsupportedOperation}
use Rattle.bidi_handles.specs.declared.id.IdKind.TheVariants.{Context, Realm, UserContext}
use Rattle.bidi_handles.specs.Ids.{id_of}
use Rattle.bidi_contexts.specs.Urls.{parsed}
use Rattle.bidi_contexts.specs.Acts.{Act, Made, Framed, Removed, Moved, Ran, UserRemoved, Looked, To, Again, Across, given, next_number, Ending}
use Rattle.bidi_contexts.specs.Contexts.{parent_of, level_of, is_under, user_of, is_born, is_gone, is_alive, up_to}
use Rattle.bidi_contexts.specs.Users.{others, users, user_id, is_removed}
use Rattle.bidi_contexts.proofs.MemberLemmas as members
use Rattle.bidi_contexts.proofs.MemberLemmas.{has, has-filter, any-up-to}
use Rattle.bidi_contexts.specs.Actions.{Action, Activate, Close, Create, GetTree, Navigate, Reload, TraverseHistory}
use Rattle.bidi_contexts.specs.Actions.{Evaluate, CallFunction, Disown, GetRealms, CreateUserContext, GetUserContexts, RemoveUserContext}
use Rattle.bidi_contexts.specs.Actions.{Frame, Unframe, Log, TableRow}
use Rattle.bidi_handles.specs.Checks.{◌>>=◌, need, found}
use Rattle.bidi_contexts.specs.Outcome.{context_named, top_named, user_checked, looked, looked_at, has_room, realm_targeted, this_resolved, ending_of, ending_outcome, outcome}
use Rattle.bidi_contexts.specs.Accepted.{AreAccepted}
use Rattle.bidi_contexts.specs.Realms.{row_of, held_value}
use Rattle.bidi_handles.specs.Values.{arguments}
use Rattle.bidi_contexts.proofs.RealmLemmas.{target-made}

-- ---- checks in order

-- where a check and what follows it end well, the check does, and so does what follows
then-ok : {A B : Type 0} (r : Result A ErrorCode) (next : A → Result B ErrorCode) (y : B) → (r >>= next) ≡ Ok y → (x : A) × (r ≡ Ok x) × (next x ≡ Ok y)
then-ok (Ok x) next y e = (x, refl, e)
then-ok (Err code) next y e = absurd (cc)

-- what had to be so is so
need-ok : (b : Bool) (code : ErrorCode) (u : Unit {0}) → need b code ≡ Ok u → b ≡ true
need-ok true code u e = refl
need-ok false code u e = absurd (cc)

-- what had to be there is there
found-ok : {A : Type 0} (o : Option A) (code : ErrorCode) (x : A) → found o code ≡ Ok x → o ≡ Some x
found-ok None code x e = absurd (cc)
found-ok (Some y) code x e = cc

-- ---- what acts are of

-- what a look-up finds among those that pass a test passes it
pub find-passes : (f p : ℕ → Bool) (xs : List ℕ) (c : ℕ) → find f (filter p xs) ≡ Some c → p c ≡ true
find-passes f p [] c e = absurd (cc)
find-passes f p (x ∷ xs) c e = let ih = find-passes f p xs c in grind (arith, ih)

-- a context that is named is alive
pub named-alive : (past : List Act) (id : List ℕ) (c : ℕ) → context_named past id ≡ Ok c → is_alive past c ≡ true
named-alive past id c e = find-passes (λ d. bytes_eq id (id_of Context d)) (is_alive past) (up_to (given past Context)) c (found-ok _ NoSuchFrame c e)

-- so it is of two contexts that are one
alive-same : (past : List Act) (c d : ℕ) → c ≡ d → is_alive past c ≡ true → is_alive past d ≡ true
alive-same past c d same alive = subst (λ e. is_alive past e ≡ true) same alive

-- a top-level context that is named is alive
top-alive : (past : List Act) (id : List ℕ) (c : ℕ) → top_named past id ≡ Ok c → is_alive past c ≡ true
top-alive past id c e =
    let named = then-ok (context_named past id) _ c e in
    let child = then-ok (need (is_none (parent_of past named.0)) InvalidArgument) _ c named.2 in
    let end = child.2 in
    alive-same past named.0 c (cc) (named-alive past id named.0 named.1)

-- the parent of a frame is alive, and stands above level 16
pub record IsChecked (past : List Act) (p : ℕ) : Type 0 where
  pub alive : is_alive past p ≡ true
  pub high : level_of past p < 16

-- a user context was made, and is not `default`
pub record IsMade (past : List Act) (u : ℕ) : Type 0 where
  pub above : 0 < u
  pub below : u < next_number past UserContext

-- what an accepted act is of is alive; a frame's parent stands above level 16, a script ran in a realm that was made, and `default` stays
abbrev pub IsSound : List Act → Act → Type 0
IsSound past (Framed p url) = IsChecked past p
IsSound past (Removed a) = is_alive past a ≡ true
IsSound past (Moved a move) = is_alive past a ≡ true
IsSound past (Ran r ending held) = r < next_number past Realm
IsSound past (UserRemoved u) = IsMade past u
IsSound past act = Unit {0}

-- the act of an action is so, where there is one
EndsSound : List Act → Result Act ErrorCode → Type 0
EndsSound past r = (act : Act) → r ≡ Ok act → IsSound past act

-- an act that is so ends so
sound-ok : (past : List Act) (act : Act) → IsSound past act → EndsSound past (Ok act)
unfolding EndsSound
sound-ok past act sound other e = let same : act ≡ other = cc in subst (IsSound past) same sound

-- where a check fails, there is no act
sound-err : (past : List Act) (code : ErrorCode) → EndsSound past (Err code)
unfolding EndsSound
sound-err past code act e = absurd (cc)

-- a check and what follows it end so where that does after the check ended well
sound-then : {A : Type 0} (past : List Act) (r : Result A ErrorCode) (next : A → Result Act ErrorCode)
    → ((x : A) → r ≡ Ok x → EndsSound past (next x)) → EndsSound past (r >>= next)
sound-then past (Ok x) next sound = sound x refl
sound-then past (Err code) next sound = sound-err past code

-- a look does
sound-looked : {A : Type 0} (past : List Act) (r : Result A ErrorCode) → EndsSound past (looked r)
sound-looked past (Ok x) = sound-ok past Looked tt
sound-looked past (Err code) = sound-err past code

-- also where an id may be given
sound-at : (past : List Act) (id : Option (List ℕ)) → EndsSound past (looked_at past id)
sound-at past None = sound-ok past Looked tt
sound-at past (Some id) = sound-looked past (context_named past id)

-- a script does
sound-ending : (past : List Act) (r : ℕ) (owned : Bool) (ending : Ending) → r < next_number past Realm → EndsSound past (ending_outcome past r owned ending)
sound-ending past r owned ending made = sound-then past _ _ (λ u e. sound-ok past (Ran r ending _) made)

-- what is alive and high is checked
checked : (past : List Act) (c : ℕ) (u : Unit {0}) → is_alive past c ≡ true → need (nat_lt (level_of past c) 16) UnknownError ≡ Ok u → IsChecked past c
checked past c u alive high = record { alive = alive; high = (Decides-ltb (level_of past c) 16).0 (need-ok _ UnknownError u high) }

clash : (b : Bool) → b ≡ true → not b ≡ true → ⊥
clash true is other = absurd (cc)
clash false is other = absurd (cc)

-- a live user context of another id than `default` was made
user-made : (past : List Act) (id : List ℕ) (u : ℕ) → not (bytes_eq id (codes "default")) ≡ true → user_checked past id ≡ Ok u → IsMade past u
user-made past id u other e =
    let is = members.find-passes (λ v. bytes_eq id (user_id v)) (users past) u (found-ok _ NoSuchUserContext u e) in
    by u is.0 is.1
  where
    by : (u : ℕ) → bytes_eq id (user_id u) ≡ true → has (users past) u ≡ true → IsMade past u
    by zero same listed = absurd (clash (bytes_eq id (codes "default")) same other)
    by (suc n) same listed =
        let there : has (others past) (suc n) ≡ true = grind (arith, nat_tests, listed) in
        let among = sym (has-filter (suc n) (λ v. not (is_removed past v)) (up_to (given past UserContext))) ∙ there in
        let up = any-up-to (suc n) (given past UserContext) in
        record { above = omega arith; below = grind (arith, nat_tests, among, up) }

-- each action does
ends-sound : (past : List Act) (action : Action) → EndsSound past (outcome past action)
ends-sound past (Activate id) = sound-looked past (top_named past id)
ends-sound past (Close id) = sound-then past (top_named past id) _ (λ c e. sound-ok past (Removed c) (top-alive past id c e))
ends-sound past (Create type reference user) = search (sound-then, sound-ok)
ends-sound past (GetTree depth root) = sound-at past root
ends-sound past (Navigate id address wait) =
    sound-then past (context_named past id) _ (λ c e. sound-then past _ _ (λ url f. sound-ok past (Moved c (To url)) (named-alive past id c e)))
ends-sound past (Reload id wait) = sound-then past (context_named past id) _ (λ c e. sound-ok past (Moved c Again) (named-alive past id c e))
ends-sound past (TraverseHistory id delta) =
    sound-then past (top_named past id) _ (λ c e. sound-then past _ _ (λ place f. sound-ok past (Moved c (Across place)) (top-alive past id c e)))
ends-sound past (Evaluate expression target owned depth) =
    sound-then past (realm_targeted past target) _ (λ r e. sound-then past (found (row_of past expression) UnsupportedOperation) _
    (λ row f. sound-ending past r owned (ending_of row []) (target-made past target r e)))
ends-sound past (CallFunction declaration target values this owned depth) =
    sound-then past (realm_targeted past target) _
    (λ r e. sound-then past (arguments (held_value past r) values) _ (λ resolved f. sound-then past (this_resolved past r this) _
    (λ self g. sound-then past (found (row_of past declaration) UnsupportedOperation) _
    (λ row h. sound-ending past r owned (ending_of row resolved) (target-made past target r e)))))
ends-sound past (Disown ids target) = search (sound-then, sound-ok)
ends-sound past (GetRealms context type) = sound-at past context
ends-sound past CreateUserContext = search (sound-then, sound-ok)
ends-sound past GetUserContexts = sound-ok past Looked tt
ends-sound past (RemoveUserContext id) =
    sound-then past (need (not (bytes_eq id (codes "default"))) InvalidArgument) _
    (λ other e. sound-then past (user_checked past id) _ (λ u f. sound-ok past (UserRemoved u) (user-made past id u (need-ok _ InvalidArgument other e) f)))
ends-sound past (Frame id address) =
    sound-then past (context_named past id) _
    (λ c e. sound-then past (found (parsed address) InvalidArgument) _ (λ url f. sound-then past (need (has_room past) UnknownError) _ (λ room g.
    sound-then past _ _ (λ high h. sound-ok past (Framed c url) (checked past c high (named-alive past id c e) h)))))
ends-sound past (Unframe id) =
    sound-then past (context_named past id) _ (λ c e. sound-then past _ _ (λ child f. sound-ok past (Removed c) (named-alive past id c e)))
ends-sound past (Log id level line) = search (sound-then, sound-ok)
ends-sound past (TableRow row) = search (sound-then, sound-ok)

-- what an accepted act is of is alive
pub act-sound : (past : List Act) (action : Action) (act : Act) → outcome past action ≡ Ok act → IsSound past act
unfolding EndsSound
act-sound past action act e = ends-sound past action act e

-- ---- levels

-- a new context stands one level below a high one
level-step : (b : Bool) (x y : ℕ) → x < 16 → y ≤ 16 → (if b then suc x else y) ≤ 16
level-step true x y high low = high
level-step false x y high low = low

-- no context stands below level 16
pub levels-accepted : (past : List Act) → AreAccepted past → (c : ℕ) → level_of past c ≤ 16
levels-accepted [] acc c = omega arith
levels-accepted (Framed p url ∷ past) acc c =
    level-step (c == next_number past Context) (level_of past p) (level_of past c) (act-sound past acc.0 (Framed p url) acc.1).high
    (levels-accepted past acc.2 c)
levels-accepted (act ∷ past) acc c = levels-accepted past acc.2 c

-- ---- parents

-- what is alive has a number
pub alive-above : (c n : ℕ) (g : Bool) → ((nat_lt 0 c && nat_lt c n) && not g) ≡ true → 0 < c
alive-above c n g e = grind (arith, nat_tests)

-- that was given out
pub alive-below : (c n : ℕ) (g : Bool) → ((nat_lt 0 c && nat_lt c n) && not g) ≡ true → c < n
alive-below c n g e = grind (arith, nat_tests)

-- and did not go
pub alive-stays : (b g : Bool) → (b && not g) ≡ true → g ≡ false
alive-stays true true e = absurd (cc)
alive-stays true false e = refl
alive-stays false g e = absurd (cc)

-- and what has such a number and did not go is alive
alive-from : (c n : ℕ) (g : Bool) → 0 < c → c < n → g ≡ false → ((nat_lt 0 c && nat_lt c n) && not g) ≡ true
alive-from c n g above below stays = grind (arith, nat_tests)

-- a parent's number and its child's: the first is smaller, and both were given out
pub record AreBorn (p c n : ℕ) : Type 0 where
  pub above : 0 < p
  pub smaller : p < c
  pub below : c < n

-- so they are where one more child was born
born-step : (b : Bool) (c n p q : ℕ) (o : Option ℕ)
    → (b ≡ true → c ≡ n) → 0 < q → q < n → (o ≡ Some p → AreBorn p c n) → (if b then Some q else o) ≡ Some p → AreBorn p c (suc n)
born-step true c n p q o here above below ih e =
    let same : q ≡ p = cc in
    let new : c ≡ n = here refl in
    record { above = omega arith; smaller = omega arith; below = omega arith }
born-step false c n p q o here above below ih e = let old = ih e in record { above = old.above; smaller = old.smaller; below = omega arith }

-- a parent has a smaller number than its child
pub parent-born : (past : List Act) → AreAccepted past → (c p : ℕ) → parent_of past c ≡ Some p → AreBorn p c (next_number past Context)
parent-born [] acc c p e = absurd (cc)
parent-born (Framed q url ∷ past) acc c p e =
    let alive = (act-sound past acc.0 (Framed q url) acc.1).alive in
    born-step (c == next_number past Context) c (next_number past Context) p q (parent_of past c) (Decides-eqb c (next_number past Context)).0
    (alive-above q (next_number past Context) (is_gone past q) alive) (alive-below q (next_number past Context) (is_gone past q) alive)
    (parent-born past acc.2 c p) e
parent-born (Made w u ∷ past) acc c p e = let old = parent-born past acc.2 c p e in record { above = old.above; smaller = old.smaller; below = omega arith }
parent-born (act ∷ past) acc c p e = parent-born past acc.2 c p e

-- a number on the chain of a context, where one more was born
le-step : (b s uq uc : Bool) (a c n q : ℕ) → (b ≡ true → c ≡ n)
    → (s ≡ true → a ≡ c) → q < n → (uq ≡ true → a ≤ q) → (uc ≡ true → a ≤ c) → (if b then s || uq else uc) ≡ true → a ≤ c
le-step true true uq uc a c n q here same below ihq ihc e = let eq = same refl in omega arith
le-step true false uq uc a c n q here same below ihq ihc e = let eq = here refl in let le = ihq e in omega arith
le-step false s uq uc a c n q here same below ihq ihc e = ihc e

-- the new child stands one level below its parent, and so did each child before
child-step : (b d : Bool) (l : ℕ → ℕ) (c p q n : ℕ) (o : Option ℕ)
    → (d ≡ true → p ≡ n) → AreBorn p c (suc n) → (o ≡ Some p → l c ≡ suc (l p)) → (if b then Some q else o) ≡ Some p
    → (if b then suc (l q) else l c) ≡ suc (if d then suc (l q) else l p)
child-step b true l c p q n o there born ih e = let new = there refl in let less = born.smaller in let under = born.below in absurd (omega arith)
child-step true false l c p q n o there born ih e = let same : q ≡ p = cc in ap (λ x. suc (l x)) same
child-step false false l c p q n o there born ih e = ih e

-- a child stands one level below its parent
pub level-child : (past : List Act) (c p : ℕ) → AreAccepted past → parent_of past c ≡ Some p → level_of past c ≡ suc (level_of past p)
level-child [] c p acc e = absurd (cc)
level-child (Framed q url ∷ past) c p acc e =
    child-step (c == next_number past Context) (p == next_number past Context) (level_of past) c p q (next_number past Context) (parent_of past c)
    (Decides-eqb p (next_number past Context)).0 (parent-born (Framed q url ∷ past) acc c p e) (level-child past c p acc.2) e
level-child (act ∷ past) c p acc e = level-child past c p acc.2 e

-- what stands on the chain of a context has no greater number
pub under-le : (past : List Act) → AreAccepted past → (a c : ℕ) → is_under past a c ≡ true → a ≤ c
under-le [] acc a c e = let same = (Decides-eqb a c).0 e in omega arith
under-le (Framed q url ∷ past) acc a c e =
    let alive = (act-sound past acc.0 (Framed q url) acc.1).alive in
    le-step (c == next_number past Context) (a == c) (is_under past a q) (is_under past a c) a c (next_number past Context) q
    (Decides-eqb c (next_number past Context)).0 (Decides-eqb a c).0 (alive-below q (next_number past Context) (is_gone past q) alive)
    (under-le past acc.2 a q) (under-le past acc.2 a c) e
under-le (act ∷ past) acc a c e = under-le past acc.2 a c e

-- the second of two is enough
true-or : (s u : Bool) → u ≡ true → (s || u) ≡ true
true-or true u e = refl
true-or false u e = e

-- what stands on the chain of a parent, where one more context was born
under-step : (u : ℕ → Bool) (b d s t : Bool) (c p q n : ℕ) (o : Option ℕ)
    → (b ≡ true → c ≡ n) → (d ≡ true → p ≡ n) → q < n → (o ≡ Some p → AreBorn p c n) → (u p ≡ true → o ≡ Some p → u c ≡ true)
    → (if d then s || u q else u p) ≡ true → (if b then Some q else o) ≡ Some p → (if b then t || u q else u c) ≡ true
under-step u true true s t c p q n o here there below born ih up e =
    let same : q ≡ p = cc in
    let new = there refl in
    absurd (omega arith)
under-step u false true s t c p q n o here there below born ih up e =
    let new = there refl in
    let old = born e in
    absurd (omega arith)
under-step u true false s t c p q n o here there below born ih up e =
    let same : q ≡ p = cc in
    true-or t (u q) (cc)
under-step u false false s t c p q n o here there below born ih up e = ih up e

-- what stands on the chain of a parent stands on that of its child
pub under-parent : (past : List Act) → AreAccepted past → (a c p : ℕ) → is_under past a p ≡ true → parent_of past c ≡ Some p → is_under past a c ≡ true
under-parent [] acc a c p up e = absurd (cc)
under-parent (Framed q url ∷ past) acc a c p up e =
    let alive = (act-sound past acc.0 (Framed q url) acc.1).alive in
    under-step (is_under past a) (c == next_number past Context) (p == next_number past Context) (a == p) (a == c) c p q
    (next_number past Context) (parent_of past c)
    (Decides-eqb c (next_number past Context)).0 (Decides-eqb p (next_number past Context)).0 (alive-below q (next_number past Context) (is_gone past q) alive)
    (parent-born past acc.2 c p) (under-parent past acc.2 a c p) up e
under-parent (act ∷ past) acc a c p up e = under-parent past acc.2 a c p up e

-- what went, where one more context was born
gone-framed : (g : ℕ → Bool) (b : Bool) (c p q : ℕ) (o : Option ℕ)
    → g q ≡ false → (g p ≡ true → o ≡ Some p → g c ≡ true) → g p ≡ true → (if b then Some q else o) ≡ Some p → g c ≡ true
gone-framed g true c p q o stays ih gone e =
    let same : q ≡ p = cc in
    absurd (cc)
gone-framed g false c p q o stays ih gone e = ih gone e

-- and where a context was removed
gone-removed : (up uc gp gc : Bool) → (up ≡ true → uc ≡ true) → (gp ≡ true → gc ≡ true) → (up || gp) ≡ true → (uc || gc) ≡ true
gone-removed true uc gp gc under ih e = let h = under refl in rw h refl
gone-removed false uc gp gc under ih e = true-or uc gc (ih e)

-- a navigation takes what stands below a context, and a child does not stand above its parent
below-step : (up uc : Bool) (a p c : ℕ) → p < c → (up ≡ true → a ≤ p) → (up ≡ true → uc ≡ true) → (up && not (a == p)) ≡ true → (uc && not (a == c)) ≡ true
below-step up uc a p c smaller le under e = grind (arith, nat_tests)

-- the user context of a context, where one more top-level one was made
user-made-step : (b d : Bool) (u x y : ℕ) → (b ≡ true → ⊥) → (d ≡ true → ⊥) → x ≡ y → (if b then u else x) ≡ (if d then u else y)
user-made-step true d u x y old older same = absurd (old refl)
user-made-step false true u x y old older same = absurd (older refl)
user-made-step false false u x y old older same = same

-- and where one more child was born
user-step : (b d : Bool) (f : ℕ → ℕ) (c p q n : ℕ) (o : Option ℕ)
    → (d ≡ true → p ≡ n) → AreBorn p c (suc n) → (o ≡ Some p → f c ≡ f p) → (if b then Some q else o) ≡ Some p
    → (if b then f q else f c) ≡ (if d then f q else f p)
user-step b true f c p q n o there born ih e = let new = there refl in let less = born.smaller in let under = born.below in absurd (omega arith)
user-step true false f c p q n o there born ih e = let same : q ≡ p = cc in ap f same
user-step false false f c p q n o there born ih e = ih e

-- a child has the user context of its parent
pub user-child : (past : List Act) (c p : ℕ) → AreAccepted past → parent_of past c ≡ Some p → user_of past c ≡ user_of past p
user-child [] c p acc e = absurd (cc)
user-child (Framed q url ∷ past) c p acc e =
    user-step (c == next_number past Context) (p == next_number past Context) (user_of past) c p q (next_number past Context) (parent_of past c)
    (Decides-eqb p (next_number past Context)).0 (parent-born (Framed q url ∷ past) acc c p e) (user-child past c p acc.2) e
user-child (Made w u ∷ past) c p acc e =
    let born = parent-born past acc.2 c p e in
    let less = born.smaller in
    let below = born.below in
    user-made-step (c == next_number past Context) (p == next_number past Context) u (user_of past c) (user_of past p)
    (λ same. let new = (Decides-eqb c (next_number past Context)).0 same in absurd (omega (arith, new, below)))
    (λ same. let new = (Decides-eqb p (next_number past Context)).0 same in absurd (omega (arith, new, less, below)))
    (user-child past c p acc.2 e)
user-child (act ∷ past) c p acc e = user-child past c p acc.2 e

-- what goes takes its children along
gone-parent : (past : List Act) → AreAccepted past → (c p : ℕ) → is_gone past p ≡ true → parent_of past c ≡ Some p → is_gone past c ≡ true
gone-parent [] acc c p gone e = absurd (cc)
gone-parent (Framed q url ∷ past) acc c p gone e =
    let alive = (act-sound past acc.0 (Framed q url) acc.1).alive in
    gone-framed (is_gone past) (c == next_number past Context) c p q (parent_of past c) (alive-stays (is_born past q) (is_gone past q) alive)
    (gone-parent past acc.2 c p) gone e
gone-parent (Removed a ∷ past) acc c p gone e =
    gone-removed (is_under past a p) (is_under past a c) (is_gone past p) (is_gone past c) (λ up. under-parent past acc.2 a c p up e)
    (λ old. gone-parent past acc.2 c p old e) gone
gone-parent (Moved a move ∷ past) acc c p gone e =
    gone-removed (is_under past a p && not (a == p)) (is_under past a c && not (a == c)) (is_gone past p) (is_gone past c)
    (below-step (is_under past a p) (is_under past a c) a p c (parent-born past acc.2 c p e).smaller (under-le past acc.2 a p)
    (λ up. under-parent past acc.2 a c p up e))
    (λ old. gone-parent past acc.2 c p old e) gone
gone-parent (UserRemoved u ∷ past) acc c p gone e =
    gone-removed (user_of past p == u) (user_of past c == u) (is_gone past p) (is_gone past c)
    (λ same. ap (λ v. v == u) (user-child past c p acc.2 e) ∙ same) (λ old. gone-parent past acc.2 c p old e) gone
gone-parent (act ∷ past) acc c p gone e = gone-parent past acc.2 c p gone e

-- what takes every child along stays where a child stays
gone-back : (g h : Bool) → (g ≡ true → h ≡ true) → h ≡ false → g ≡ false
gone-back true h along stays = let gone = along refl in absurd (cc)
gone-back false h along stays = refl

-- the parent of a live context is alive
pub parents-alive : (past : List Act) → AreAccepted past → (c p : ℕ) → is_alive past c ≡ true → parent_of past c ≡ Some p → is_alive past p ≡ true
parents-alive past acc c p alive e =
    let born = parent-born past acc c p e in
    alive-from p (next_number past Context) (is_gone past p) born.above (omega arith)
    (gone-back (is_gone past p) (is_gone past c) (λ gone. gone-parent past acc c p gone e) (alive-stays (is_born past c) (is_gone past c) alive))
