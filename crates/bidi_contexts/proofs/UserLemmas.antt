-- User contexts: what each act makes of those that live.
use Rattle.std.proofs.Common.{◌≡◌, ◌∙◌, ◌≤◌, ◌<◌, ◌^◌, ℕ, zero, suc, Bool, true, false, List, [], ◌∷◌, ◌++◌, map, cond, refl, sym, ap, arith}
use Rattle.std.specs.Prelude.{◌==◌, ◌&&◌, ◌||◌, not, filter, find, bytes_eq, codes, Option, Some, IfSome, option_map, option_and_then}
use Rattle.std.proofs.lemmas.Bool.Decides.{nat_tests}
use Rattle.std.proofs.lemmas.List.Elements.{filter-append}
use Rattle.bidi_tree.specs.Node.{levels, items_levels}
use Rattle.bidi_tree.specs.View.{items_of}
use Rattle.bidi_handles.specs.declared.id.IdKind.TheVariants.{Context, UserContext}
use Rattle.bidi_contexts.specs.Acts.{Act, Made, Framed, UserMade, UserRemoved, gives, given, next_number}
use Rattle.bidi_contexts.specs.Accepted.{AreAccepted}
use Rattle.bidi_contexts.specs.Contexts.{up_to}
use Rattle.bidi_handles.specs.Ids.{id_of}
use Rattle.bidi_handles.proofs.ListLemmas.{find-map}
use Rattle.bidi_handles.proofs.NumberedLemmas.{named-by}
use Rattle.bidi_contexts.specs.declared.users.User.{User}
use Rattle.bidi_contexts.specs.declared.users.Users.{Users}
use Rattle.bidi_contexts.specs.Tables.{AreUsersOf}
use Rattle.bidi_contexts.specs.Users.{is_removed, others, user_id, user_info, user_named}
use Rattle.bidi_contexts.proofs.AcceptedLemmas.{act-sound}
use Rattle.bidi_contexts.proofs.MemberLemmas.{has, has-filter, any-up-to, first, find-first, filter-in, filter-both}

-- what is not made yet is not removed
removed-unmade : (past : List Act) (v : ℕ) → AreAccepted past → next_number past UserContext ≤ v → is_removed past v ≡ false
removed-unmade [] v acc unmade = refl
removed-unmade (UserMade ∷ past) v acc unmade = removed-unmade past v acc.2 (omega arith)
removed-unmade (UserRemoved u ∷ past) v acc unmade =
    let below = (act-sound past acc.0 (UserRemoved u) acc.1).below in
    let ih = removed-unmade past v acc.2 unmade in
    grind (arith, nat_tests, below, ih)
removed-unmade (act ∷ past) v acc unmade = removed-unmade past v acc.2 unmade

-- one more
pub others-made : (past : List Act) → AreAccepted past → others (UserMade ∷ past) ≡ others past ++ next_number past UserContext ∷ []
others-made past acc =
    let n = given past UserContext in
    filter-append (λ u. not (is_removed past u)) (up_to n) (suc n ∷ [])
    ∙ ap (λ b. others past ++ cond (not b) (suc n ∷ []) []) (removed-unmade past (suc n) acc (omega arith))

step : (s r : Bool) → not (s || r) ≡ (not r && not s)
step true true = refl
step true false = refl
step false true = refl
step false false = refl

-- and one fewer
pub others-removed : (past : List Act) (u : ℕ) → others (UserRemoved u ∷ past) ≡ filter (λ v. not (v == u)) (others past)
others-removed past u =
    let xs = up_to (given past UserContext) in
    filter-in (λ v. not (v == u || is_removed past v)) (λ v. not (is_removed past v) && not (v == u)) xs (λ v listed. step (v == u) (is_removed past v))
    ∙ sym (filter-both (λ v. not (v == u)) (λ v. not (is_removed past v)) xs)

-- a birth of a context leaves them
pub users_born : (users : Users) (past : List Act) (act : Act) → gives Context act ≡ true → AreUsersOf users past → AreUsersOf users (act ∷ past)
users_born users past (Made w u) born s = record { live = s.live; next = s.next }
users_born users past (Framed p url) born s = record { live = s.live; next = s.next }
users_born users past act born s = absurd (cc)

-- ---- by their ids

-- a number that was given to one is not 0
other-id : (past : List Act) (id : List ℕ) (u : ℕ) → has (others past) u ≡ true → bytes_eq id (user_id u) ≡ bytes_eq id (id_of UserContext u)
other-id past id zero listed =
    let among = sym (has-filter zero (λ v. not (is_removed past v)) (up_to (given past UserContext))) ∙ listed in
    let up = any-up-to zero (given past UserContext) in
    absurd (wrong (has (up_to (given past UserContext)) zero) (not (is_removed past zero)) among up)
  where
    wrong : (b p : Bool) → (p && b) ≡ true → b ≡ false → ⊥
    wrong true true is none = absurd (cc)
    wrong true false is none = absurd (cc)
    wrong false true is none = absurd (cc)
    wrong false false is none = absurd (cc)
other-id past id (suc n) listed = refl

-- the live one of an id, where that is not `default`: the first in hand of the number that the id has
pub named-user : (past : List Act) (id : List ℕ) (r : Option ℕ) (users : List User) → map (λ u. u.number) users ≡ others past
    → bytes_eq id (codes "default") ≡ false → IfSome r (λ n. (n < 2 ^ 48) × (bytes_eq id (id_of UserContext n) ≡ true))
    → ((n : ℕ) → n < 2 ^ 48 → bytes_eq id (id_of UserContext n) ≡ true → r ≡ Some n)
    → option_map (λ u. u.number) (option_and_then (λ n. find (λ u. u.number == n) users) r) ≡ user_named past id
named-user past id r users live other some every =
    let by = λ (u : ℕ). bytes_eq id (user_id u) in
    let numbered = λ (u : ℕ). bytes_eq id (id_of UserContext u) in
    ap (option_map (λ u. u.number)) (sym (named-by (λ (u : User). u.number) numbered r (λ u. u.number_fits) some every users))
    ∙ (find-map (λ (u : User). u.number) numbered users
    ∙ (ap (find numbered) live
    ∙ (find-first numbered (others past)
    ∙ (ap first (sym (filter-in by numbered (others past) (other-id past id)))
    ∙ (sym (find-first by (others past))
    ∙ sym (ap (λ b. cond b (Some 0) (find by (others past))) other))))))

-- ---- what is told of them

-- what is told of one has one level
user-flat : (u : ℕ) → levels (user_info u) ≡ 1
user-flat u = refl

pub users-flat : (us : List ℕ) → items_levels (items_of (map user_info us)) ≤ 1
users-flat [] = omega arith
users-flat (u ∷ us) = let flat = user-flat u in let rest = users-flat us in omega (arith, flat, rest)
