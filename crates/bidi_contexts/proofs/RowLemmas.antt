-- What the table of rows tells is what the past tells.
use Rattle.std.proofs.Common.{◌≡◌, ◌∙◌, ◌≤◌, ◌+◌, ℕ, Bool, true, false, List, [], ◌∷◌, ◌++◌, map, take, drop, length, cond, refl, sym, ap, ap₂, arith}
use Rattle.std.specs.Prelude.{◌==◌, nat_eq, nat_lt, ◌||◌, if◌then◌else◌, filter, flat_map, find, not, Option, Some, None, is_none, unwrap_or, option_map}
use Rattle.std.specs.Option.{option_eq}
use Rattle.std.specs.List.{list_any, position, position_or_len}
use Rattle.std.proofs.lemmas.Bool.Decides.{nat_tests}
use Rattle.std.proofs.lemmas.List.{map-append, take-map, drop-map, length-map}
use Rattle.std.proofs.lemmas.List.Sums.{prefix_len-le-length}
use Rattle.std.proofs.lemmas.Simd.{map-map}
use Rattle.bidi_contexts.specs.declared.context.Context.{Context}
use Rattle.bidi_contexts.specs.Acts.{Act}
use Rattle.bidi_contexts.specs.Accepted.{AreAccepted}
use Rattle.bidi_contexts.specs.Contexts.{contexts, tops, children_of, subtree_within, subtree_of, tree_order, is_alive, parent_of, level_of, window_of}
use Rattle.bidi_contexts.specs.Realms.{realm_of, realms}
use Rattle.bidi_contexts.specs.Occurrences.{context_created, realm_created, realm_destroyed}
use Rattle.bidi_contexts.specs.Outcome.{oldest_window}
use Rattle.bidi_contexts.specs.ContextRows.{ContextRow, row_of, row_at, rows, created_in, realm_created_in, realm_destroyed_in}
use Rattle.bidi_handles.proofs.ListLemmas.{find-map, find-same}
use Rattle.bidi_contexts.proofs.MemberLemmas.{has, has-first, has-cases, find-one, find-first, first}
use Rattle.bidi_contexts.proofs.RemovalLemmas.{any-contexts}
use Rattle.bidi_contexts.proofs.TreeLemmas.{order-has, top-of}

-- ---- lists

-- how many stand before the first that passes, by what f gives
pub first-map : {A B : Type 0} (f : A → B) (p : B → Bool) (xs : List A) → position_or_len (λ x. p (f x)) xs ≡ position_or_len p (map f xs)
first-map f p [] = refl
first-map f p (x ∷ xs) = let ih = first-map f p xs in grind (arith, ih)

-- no more than there are
pub position-le : {A : Type 0} (p : A → Bool) (xs : List A) → position_or_len p xs ≤ length xs
position-le p xs = prefix_len-le-length (λ x. not (p x)) xs

-- that many, where the end of the list stands for none
pub position-or : {A : Type 0} (p : A → Bool) (xs : List A) → unwrap_or (position p xs) (length xs) ≡ position_or_len p xs
position-or p xs = step (nat_lt (position_or_len p xs) (length xs)) refl
  where
    end : (n m : ℕ) → nat_lt n m ≡ false → n ≤ m → m ≡ n
    end n m less le = grind (arith, nat_tests, less, le)

    step : (b : Bool) → nat_lt (position_or_len p xs) (length xs) ≡ b → unwrap_or (cond b (Some (position_or_len p xs)) None) (length xs) ≡ position_or_len p xs
    step true less = refl
    step false less = end (position_or_len p xs) (length xs) less (position-le p xs)

-- a place, by what f gives
pub position-map : {A B : Type 0} (f : A → B) (p : B → Bool) (xs : List A) → position (λ x. p (f x)) xs ≡ position p (map f xs)
position-map f p xs = ap₂ (λ n m. cond (nat_lt n m) (Some n) None) (first-map f p xs) (sym (length-map xs f))

-- a place in a list that stands behind so many others
pub position-behind : {A : Type 0} (p : A → Bool) (xs ys : List A) (k : ℕ) → length xs ≡ k + length ys → position_or_len p xs ≡ k + position_or_len p ys
    → position p xs ≡ option_map (λ i. k + i) (position p ys)
position-behind p xs ys k lengths places =
    ap₂ (λ n m. cond (nat_lt n m) (Some n) None) places lengths ∙ step (position_or_len p ys) (length ys) (nat_lt (position_or_len p ys) (length ys)) refl
  where
    same : (n m : ℕ) → nat_lt (k + n) (k + m) ≡ nat_lt n m
    same n m = grind (arith, nat_tests)

    step : (n m : ℕ) (b : Bool) → nat_lt n m ≡ b → cond (nat_lt (k + n) (k + m)) (Some (k + n)) None ≡ option_map (λ i. k + i) (cond (nat_lt n m) (Some n) None)
    step n m true is = rw (same n m, is) refl
    step n m false is = rw (same n m, is) refl

-- a list without a range, by what is seen of it
pub map-cut : {A B C : Type 0} (f : A → C) (g : B → C) (xs : List A) (ys : List B) (i e : ℕ) → map f xs ≡ map g ys
    → map f (take i xs ++ drop e xs) ≡ map g (take i ys ++ drop e ys)
map-cut f g xs ys i e same =
    map-append f (take i xs) (drop e xs)
    ∙ (ap₂ (λ us vs. us ++ vs) (sym (take-map f i xs) ∙ (ap (take i) same ∙ take-map g i ys)) (sym (drop-map f e xs) ∙ (ap (drop e) same ∙ drop-map g e ys))
    ∙ sym (map-append g (take i ys) (drop e ys)))

-- ---- numbers

-- each as it is
map-self : (cs : List ℕ) → map (λ c. c) cs ≡ cs
map-self [] = refl
map-self (c ∷ cs) = ap (λ ds. c ∷ ds) (map-self cs)

-- contexts in hand have the numbers of their rows
numbers-of : (past : List Act) (items : List Context) (cs : List ℕ) → map row_of items ≡ map (row_at past) cs → map (λ x. x.number) items ≡ cs
numbers-of past items cs same =
    sym (map-map (λ (r : ContextRow). r.number) row_of items) ∙ (ap (map (λ (r : ContextRow). r.number)) same
    ∙ (map-map (λ (r : ContextRow). r.number) (row_at past) cs ∙ map-self cs))

-- and their levels
pub levels-rows : (past : List Act) (items : List Context) (cs : List ℕ) → map row_of items ≡ map (row_at past) cs → map (λ x. x.details.value.level) items ≡ map (level_of past) cs
levels-rows past items cs same =
    sym (map-map (λ (r : ContextRow). r.level) row_of items) ∙ (ap (map (λ (r : ContextRow). r.level)) same
    ∙ map-map (λ (r : ContextRow). r.level) (row_at past) cs)

-- a context stands where its number does
pub place-of : (past : List Act) (items : List Context) (cs : List ℕ) (c : ℕ) → map row_of items ≡ map (row_at past) cs
    → position (λ x. x.number == c) items ≡ position (λ d. d == c) cs
place-of past items cs c same =
    position-map (λ (x : Context). x.number) (λ d. d == c) items ∙ ap (position (λ d. d == c)) (numbers-of past items cs same)

pub place-stands : (past : List Act) (items : List Context) (c : ℕ) → map row_of items ≡ rows past
    → position (λ x. x.number == c) items ≡ position (λ d. d == c) (tree_order past)
place-stands past items c same = place-of past items (tree_order past) c same

-- a test of the contexts in hand, by the numbers
any-numbers : (p : ℕ → Bool) (items : List Context) → list_any (λ x. p x.number) items ≡ list_any p (map (λ x. x.number) items)
any-numbers p [] = refl
any-numbers p (x ∷ items) = ap (λ b. p x.number || b) (any-numbers p items)

-- the table has the contexts that are alive
pub any-stands : (past : List Act) (items : List Context) (c : ℕ) → map row_of items ≡ rows past → AreAccepted past
    → list_any (λ x. x.number == c) items ≡ is_alive past c
any-stands past items c same acc =
    any-numbers (λ d. d == c) items ∙ (ap (list_any (λ d. d == c)) (numbers-of past items (tree_order past) same) ∙ order-has past acc c)

-- the context in hand that a number stands for
pub record InHand (past : List Act) (c : ℕ) : Type 0 where
  pub item : Context
  pub is : row_of item ≡ row_at past c

in-hand : (past : List Act) (items : List Context) (cs : List ℕ) (c : ℕ) → map row_of items ≡ map (row_at past) cs → has cs c ≡ true → InHand past c
in-hand past items [] c same there = absurd (cc)
in-hand past [] (d ∷ cs) c same there = absurd (cc)
in-hand past (x ∷ items) (d ∷ cs) c same there =
    let head : row_of x ≡ row_at past d = cc in
    let rest : map row_of items ≡ map (row_at past) cs = cc in
    has-cases d c cs there (λ is. record { item = x; is = head ∙ ap (row_at past) is }) (λ later. in-hand past items cs c rest later)

-- the live context of a number
pub live-in-hand : (past : List Act) (items : List Context) (c : ℕ) → map row_of items ≡ rows past → AreAccepted past → is_alive past c ≡ true → InHand past c
live-in-hand past items c same acc alive = in-hand past items (tree_order past) c same (order-has past acc c ∙ alive)

-- ---- what is looked up

-- a look-up by what its row tells finds the row of the live context, where no other passes
find-row : (past : List Act) (items : List Context) (p : ContextRow → Bool) → map row_of items ≡ rows past → AreAccepted past
    → ((c d : ℕ) → is_alive past c ≡ true → is_alive past d ≡ true → p (row_at past c) ≡ true → p (row_at past d) ≡ true → c ≡ d)
    → option_map row_of (find (λ x. p (row_of x)) items) ≡ option_map (row_at past) (find (λ c. p (row_at past c)) (contexts past))
find-row past items p same acc one =
    find-map row_of p items ∙ (ap (find p) same ∙ (sym (find-map (row_at past) p (tree_order past))
    ∙ ap (option_map (row_at past)) (find-one (λ c. p (row_at past c)) (tree_order past) (contexts past)
    (λ c. order-has past acc c ∙ sym (any-contexts past c))
    (λ c d there too. one c d (sym (order-has past acc c) ∙ there) (sym (order-has past acc d) ∙ too)))))

-- a look-up by number finds the row of the live context
pub find-stands : (past : List Act) (items : List Context) (p : ℕ → Bool) → map row_of items ≡ rows past → AreAccepted past
    → ((c d : ℕ) → is_alive past c ≡ true → is_alive past d ≡ true → p c ≡ true → p d ≡ true → c ≡ d)
    → option_map row_of (find (λ x. p x.number) items) ≡ option_map (row_at past) (find p (contexts past))
find-stands past items p same acc one = find-row past items (λ r. p r.number) same acc one

-- so does a look-up by realm
pub realm-stands : (past : List Act) (items : List Context) (p : ℕ → Bool) → map row_of items ≡ rows past → AreAccepted past
    → ((c d : ℕ) → is_alive past c ≡ true → is_alive past d ≡ true → p (realm_of past c) ≡ true → p (realm_of past d) ≡ true → c ≡ d)
    → option_map row_of (find (λ x. p x.details.value.realm) items) ≡ option_map (row_at past) (find (λ c. p (realm_of past c)) (contexts past))
realm-stands past items p same acc one = find-row past items (λ r. p r.realm) same acc one

-- the realm that is found is that of the context that is found
pub realm-found : (past : List Act) (p : ℕ → Bool) → find p (realms past) ≡ option_map (realm_of past) (find (λ c. p (realm_of past c)) (contexts past))
realm-found past p = sym (find-map (realm_of past) p (contexts past))

-- one number is read at most
pub one-read : (r : Option ℕ) (n m : ℕ) → r ≡ Some n → r ≡ Some m → n ≡ m
one-read r n m is too = cc

-- no parent
parentless : (o : Option ℕ) → option_eq nat_eq o None ≡ is_none o
parentless None = refl
parentless (Some p) = refl

-- the first top-level context in tree order is the first top-level context
first-top : (past : List Act) (ts : List ℕ) → ((d : ℕ) → has ts d ≡ true → parent_of past d ≡ None)
    → find (λ c. is_none (parent_of past c)) (flat_map (subtree_of past) ts) ≡ first ts
first-top past [] each = refl
first-top past (t ∷ ts) each =
    let rest = flat_map (subtree_within 15 past) (children_of past t) ++ flat_map (subtree_of past) ts in
    ap (λ o. if is_none o then Some t else find (λ c. is_none (parent_of past c)) rest) (each t (has-first t ts))

-- the oldest top-level context
pub oldest-stands : (past : List Act) (items : List Context) → map row_of items ≡ rows past
    → option_map row_of (find (λ x. option_eq nat_eq x.details.value.parent None) items) ≡ option_map (row_at past) (find (λ c. is_none (parent_of past c)) (contexts past))
oldest-stands past items same =
    find-map row_of (λ r. option_eq nat_eq r.parent None) items
    ∙ (ap (find (λ (r : ContextRow). option_eq nat_eq r.parent None)) same
    ∙ (sym (find-map (row_at past) (λ r. option_eq nat_eq r.parent None) (tree_order past))
    ∙ ap (option_map (row_at past)) (find-same (λ c. option_eq nat_eq (parent_of past c) None) (λ c. is_none (parent_of past c))
    (tree_order past) (λ c. parentless (parent_of past c))
    ∙ (first-top past (tops past) (λ d listed. (top-of past d listed).0) ∙ sym (find-first (λ c. is_none (parent_of past c)) (contexts past))))))

-- a context that passes is the first, before those that follow
first-step : (past : List Act) (b : Bool) (c : ℕ) (ds : List ℕ) (o : Option ℕ) → oldest_window past ds ≡ option_map (window_of past) o
    → oldest_window past (if b then c ∷ ds else ds) ≡ option_map (window_of past) (if b then Some c else o)
first-step past true c ds o ih = refl
first-step past false c ds o ih = ih

-- the window of the first that passes a test
first-window : (past : List Act) (p : ℕ → Bool) (cs : List ℕ) → oldest_window past (filter p cs) ≡ option_map (window_of past) (find p cs)
first-window past p [] = refl
first-window past p (c ∷ cs) = first-step past (p c) c (filter p cs) (find p cs) (first-window past p cs)

-- the window of the oldest is that of the first top-level context
pub oldest-window : (past : List Act) → oldest_window past (tops past) ≡ option_map (window_of past) (find (λ c. is_none (parent_of past c)) (contexts past))
oldest-window past = first-window past (λ c. is_none (parent_of past c)) (contexts past)

-- ---- what is told of several contexts

-- their contexts came
pub created-stand : (past : List Act) (cs : List ℕ) → map created_in (map (row_at past) cs) ≡ map (context_created past) cs
created-stand past cs = map-map created_in (row_at past) cs

-- their realms came
pub realms-stand : (past : List Act) (cs : List ℕ) → map realm_created_in (map (row_at past) cs) ≡ map (realm_created past) cs
realms-stand past cs = map-map realm_created_in (row_at past) cs

-- their realms go
pub realms_gone-stand : (past : List Act) (cs : List ℕ) → map realm_destroyed_in (map (row_at past) cs) ≡ map (realm_destroyed past) cs
realms_gone-stand past cs = map-map realm_destroyed_in (row_at past) cs
