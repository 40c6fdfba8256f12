-- Looking up, removing and adding in the table, in terms of the pending commands.
use Rattle.std.proofs.Common.{◌≡◌, ◌≤◌, ◌+◌, ℕ, suc, Bool, true, false, cond, not, List, [], ◌∷◌, ◌++◌, filter, find}
use Rattle.std.proofs.Common.{map, Option, Some, None, option_map, is_some, nat_eq, true≢false, refl, ap, sym, arith}
use Rattle.std.specs.List.{AllByRecursion}
use Rattle.std.proofs.lemmas.Bool.{ne_eqb}
use Rattle.indexmap.specs.IndexMap.{insert_entry}
use Rattle.std.specs.Map.{lookup, remove_entry}

module _ {K X : Type 0} (test : K → Bool) where
  looked_up : (b : Bool) (e : K × X) (rest : Option X) (found : Option (K × X)) → rest ≡ option_map (λ w. w.1) found
      → cond b (Some e.1) rest ≡ option_map (λ w. w.1) (cond b (Some e) found)
  looked_up true e rest found is = refl
  looked_up false e rest found is = is

  -- a look-up is the value of the first entry that passes
  pub lookup-find : (es : List (K × X)) → lookup test es ≡ option_map (λ w. w.1) (find (λ w. test w.0) es)
  lookup-find [] = refl
  lookup-find (e ∷ es) = looked_up (test e.0) e (lookup test es) (find (λ w. test w.0) es) (lookup-find es)

  later : (b : Bool) (x : X) (rest : Option X) → cond b (Some x) rest ≡ None → rest ≡ None
  later true x rest none = absurd (true≢false (ap is_some none))
  later false x rest none = none

  stays : (b : Bool) (e : K × X) (rest : Option X) (es left : List (K × X)) → cond b (Some e.1) rest ≡ None → left ≡ es → cond (not b) (e ∷ left) left ≡ e ∷ es
  stays true e rest es left none is = absurd (true≢false (ap is_some none))
  stays false e rest es left none is = ap (λ l. e ∷ l) is

  -- if no entry passes, all are left
  all_left : (es : List (K × X)) → lookup test es ≡ None → filter (λ w. not (test w.0)) es ≡ es
  all_left [] none = refl
  all_left (e ∷ es) none =
      stays (test e.0) e (lookup test es) es (filter (λ w. not (test w.0)) es) none (all_left es (later (test e.0) e.1 (lookup test es) none))

  first_goes : (b : Bool) (e : K × X) (es rest left : List (K × X)) → (lookup test es ≡ None → left ≡ es) → (lookup test rest ≡ None → rest ≡ left)
      → lookup test (cond b es (e ∷ rest)) ≡ None → cond b es (e ∷ rest) ≡ cond (not b) (e ∷ left) left
  first_goes true e es rest left here below none = sym (here none)
  first_goes false e es rest left here below none = ap (λ l. e ∷ l) (below (later (test e.0) e.1 (lookup test rest) none))

  -- a removal that leaves no entry that passes leaves all others
  pub remove_entry-filter : (es : List (K × X)) → lookup test (remove_entry test es) ≡ None → remove_entry test es ≡ filter (λ w. not (test w.0)) es
  remove_entry-filter [] none = refl
  remove_entry-filter (e ∷ es) none =
      first_goes (test e.0) e es (remove_entry test es) (filter (λ w. not (test w.0)) es) (all_left es) (remove_entry-filter es) none

-- a fact about all pending commands holds of those that are left
left_holds : {A : Type 0} (P : A → Type 0) (b : Bool) (x : A) (left : List A) → P x → AllByRecursion P left → AllByRecursion P (cond b (x ∷ left) left)
left_holds P true x left one rest = (one, rest)
left_holds P false x left one rest = rest

pub AllByRecursion-filter : {A : Type 0} (P : A → Type 0) (test : A → Bool) (xs : List A) → AllByRecursion P xs → AllByRecursion P (filter test xs)
AllByRecursion-filter P test [] all = tt
AllByRecursion-filter P test (x ∷ xs) all = left_holds P (test x) x (filter test xs) all.0 (AllByRecursion-filter P test xs all.1)

-- a fact about the ids of all entries holds of all ids
pub AllByRecursion-ids : {X : Type 0} (P : ℕ → Type 0) (es : List (ℕ × X)) → AllByRecursion (λ w. P w.0) es → AllByRecursion P (map (λ w. w.0) es)
AllByRecursion-ids P [] all = tt
AllByRecursion-ids P (e ∷ es) all = (all.0, AllByRecursion-ids P es all.1)

-- ---- one more command

is_new : {X : Type 0} (b : Bool) (e : ℕ × X) (changed es rest : List (ℕ × X)) → b ≡ false → es ≡ rest → cond b changed (e ∷ es) ≡ e ∷ rest
is_new true e changed es rest differ is = absurd (true≢false differ)
is_new false e changed es rest differ is = ap (λ l. e ∷ l) is

-- the next id goes last
pub insert_entry-next : {X : Type 0} (n : ℕ) (v : X) (es : List (ℕ × X))
    → AllByRecursion (λ w. w.0 ≤ n) es → insert_entry nat_eq es (n + 1) v ≡ es ++ (suc n, v) ∷ []
insert_entry-next n v [] all = ap (λ k. (k, v) ∷ []) (omega arith)
insert_entry-next n v (e ∷ es) all =
    is_new (nat_eq (n + 1) e.0) e ((e.0, v) ∷ es) (insert_entry nat_eq es (n + 1) v) (es ++ (suc n, v) ∷ [])
    (ne_eqb (n + 1) e.0 (λ is. omega (arith, all.0, is))) (insert_entry-next n v es all.1)

-- if no entry is found, it is neither the first nor in the rest
differs : {X : Type 0} (b : Bool) (e : ℕ × X) (found : Option (ℕ × X))
    → is_some (option_map (λ w. w.1) (cond b (Some e) found)) ≡ false → (b ≡ false) × (is_some (option_map (λ w. w.1) found) ≡ false)
differs true e found none = absurd (true≢false none)
differs false e found none = (refl, none)

-- so does an id under which none waits
pub insert_entry-absent : {X : Type 0} (n : ℕ) (v : X) (es : List (ℕ × X))
    → is_some (option_map (λ w. w.1) (find (λ w. nat_eq n w.0) es)) ≡ false → insert_entry nat_eq es n v ≡ es ++ (n, v) ∷ []
insert_entry-absent n v [] none = refl
insert_entry-absent n v (e ∷ es) none =
    let apart = differs (nat_eq n e.0) e (find (λ w. nat_eq n w.0) es) none in
    is_new (nat_eq n e.0) e ((e.0, v) ∷ es) (insert_entry nat_eq es n v) (es ++ (n, v) ∷ []) apart.0 (insert_entry-absent n v es apart.1)

-- no id is above the last one
pub AllByRecursion-last : {X : Type 0} (n last k : ℕ) (v : X) (es : List (ℕ × X))
    → n ≤ last → k ≤ last → AllByRecursion (λ w. w.0 ≤ n) es → AllByRecursion (λ w. w.0 ≤ last) (es ++ (k, v) ∷ [])
AllByRecursion-last n last k v [] before this all = (this, tt)
AllByRecursion-last n last k v (e ∷ es) before this all = (omega (arith, all.0, before), AllByRecursion-last n last k v es before this all.1)
