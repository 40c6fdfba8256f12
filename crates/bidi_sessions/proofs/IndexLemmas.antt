-- The index of subscriptions by event follows the rows of the table, and answers as they do.
use Rattle.std.proofs.Common.{◌≡◌, ◌∙◌, ◌<◌, ◌≤◌, ℕ, suc, Bool, true, false, not, ◌&&◌, ◌||◌, List, [], ◌∷◌, ◌++◌}
use Rattle.std.proofs.Common.{◌+◌, length, map, get_or, set, subst, nat_lt, append-nil, Result, Ok, Err, is_ok, refl, sym, ap, ap₂, arith}
use Rattle.std.specs.Prelude.{◌==◌, filter, flat_map, vec_len, vec_capacity}
use Rattle.std.specs.List.{list_any, list_all}
use Rattle.std.specs.List.Sorted.{IsNonDecreasingBy, IsSearchInRange, IsBinarySearchResult}
use Rattle.std.specs.Ordering.{nat_cmp, ordering_index}
use Rattle.std.proofs.lemmas.Bool.Decides.{nat_tests}
use Rattle.std.proofs.lemmas.Cmp.{ranked}
use Rattle.std.proofs.lemmas.List.{map-append, map-set, length-map, length-set, get_or-set_same, get_or-set_other}
use Rattle.std.proofs.Math.Seq.{map-set_same}
use Rattle.std.proofs.lemmas.List.Elements.{filter-append}
use Rattle.std.proofs.lemmas.List.Folds.{list_any-append, list_any_at}
use Rattle.std.proofs.lemmas.List.Sorted.{IsPermutation-map, length_permutation, list_any-IsPermutation}
use Rattle.std.proofs.lemmas.Grind.{flat_map-append}
use Rattle.std.proofs.Math.ListN.{get_or-map}
use Rattle.std.proofs.Math.Bool.{and-true, and-false}
use Rattle.bidi_methods.specs.declared.event_data.EventName.{EventName}
use Rattle.bidi_methods.specs.EventName.{events as all_events}
use Rattle.bidi_methods.specs.declared.event_data.EventName.TheVariants.{ContextCreated, ContextDestroyed, NavigationStarted}
use Rattle.bidi_methods.specs.declared.event_data.EventName.TheVariants.{DomContentLoaded, Load, RealmCreated, RealmDestroyed, EntryAdded}
use Rattle.bidi_contexts.specs.declared.occurrence.Top.{Top}
use Rattle.bidi_contexts.specs.Occurrences.{event_place, is_among}
use Rattle.bidi_sessions.specs.Scope.{Scope, All, Below, Within}
use Rattle.bidi_sessions.specs.Scope.{is_global, is_listed}
use Rattle.bidi_sessions.specs.SubscriptionRows.{SubscriptionRow, row_covers, any_covers, row_holds, any_global, without, loses_all, stripped, dismissed}
use Rattle.bidi_sessions.specs.IndexRows.{Pair, pairs_at, global_numbers, scoped_pairs, IndexRow, index_row, index}
use Rattle.bidi_sessions.specs.IndexRows.{tops_of, users_of, named_in, AreInOrder, is_held, hears, global_of, with_row, without_numbers, without_global}
use Rattle.bidi_sessions.specs.IndexView.{index_row_of, HasRoomFor}
use Rattle.bidi_sessions.specs.declared.event_index.EventIndex.{EventIndex}
use Rattle.bidi_sessions.proofs.BeginLemmas.{over, over-all, over-next}
use Rattle.bidi_sessions.proofs.ListLemmas.{any-map, filter-none, map-twice}
use Rattle.bidi_sessions.proofs.EventLemmas.{same_event, is_among-filter}

-- ---- pairs in order of context

-- no item passes
any-none : {X : Type 0} (p : X → Bool) (xs : List X) → ((k : ℕ) (d : X) → k < length xs → p (get_or xs k d) ≡ false) → list_any p xs ≡ false
any-none p [] fails = refl
any-none p (x ∷ xs) fails = rw (fails 0 x (omega arith)) (any-none p xs (λ k d within. fails (suc k) d (omega arith)))

-- what is below or above a number is another
apart : (x n k i : ℕ) → (k < i → x < n) → (i ≤ k → n < x) → (x == n) ≡ false
apart x n k i before after = grind (arith, nat_tests, before, after)

module _ (pairs : List Pair) (up : IsNonDecreasingBy (λ p. p.0) pairs) (top : ℕ) where
  -- the comparisons with a context do not fall
  rise : IsNonDecreasingBy (λ p. ordering_index (nat_cmp p.0 top)) pairs
  rise i j d le within = let a = up i j d le within in grind (arith, nat_tests, a)

  -- a search tells whether there is one
  pub found-any : (r : Result ℕ ℕ) → IsSearchInRange r (length pairs) → IsBinarySearchResult (λ p. nat_cmp p.0 top) pairs r
      → is_ok r ≡ list_any (λ p. p.0 == top) pairs
  found-any (Ok i) within at =
      let here = ranked _ top _ (sym (at (0, 0))) in
      sym (list_any_at (λ p. p.0 == top) pairs i (0, 0) within (grind (arith, nat_tests, here)))
  found-any (Err i) within parted =
      sym (any-none (λ p. p.0 == top) pairs (λ k d inside.
      let before : k < i → (get_or pairs k d).0 < top = λ lower. ranked _ top _ (sym ((parted rise).0 k d (omega arith) lower)) in
      let after : i ≤ k → top < (get_or pairs k d).0 = λ higher. ranked _ top _ (sym ((parted rise).1 k d higher inside)) in
      apart (get_or pairs k d).0 top k i before after))

-- ---- lists and tests

-- one test after another
any-filter : {X : Type 0} (f t : X → Bool) (xs : List X) → list_any t (filter f xs) ≡ list_any (λ x. f x && t x) xs
any-filter f t [] = refl
any-filter f t (x ∷ xs) = let ih = any-filter f t xs in grind (arith, nat_tests, ih)

-- either of two tests
any-either : {X : Type 0} (p q : X → Bool) (xs : List X) → list_any (λ x. p x || q x) xs ≡ (list_any p xs || list_any q xs)
any-either p q [] = refl
any-either p q (x ∷ xs) = let ih = any-either p q xs in grind (arith, nat_tests, ih)

-- some item passes
any-length : {X Y : Type 0} (p : X → Bool) (f : X → Y) (xs : List X) → not (length (map f (filter p xs)) == 0) ≡ list_any p xs
any-length p f [] = refl
any-length p f (x ∷ xs) = let ih = any-length p f xs in grind (arith, nat_tests, ih)

-- ---- one more subscription

-- its number, where it has the event
global_numbers-one : (e : EventName) (r : SubscriptionRow) → is_among r.events e ≡ true → global_numbers e (r ∷ []) ≡ global_of r
global_numbers-one e r has = by (is_global r.scope) refl
  where
    by : (b : Bool) → is_global r.scope ≡ b → global_numbers e (r ∷ []) ≡ global_of r
    by true is = rw (is, has) refl
    by false is = rw is refl

-- and where it has not
global_numbers-none : (e : EventName) (r : SubscriptionRow) → is_among r.events e ≡ false → global_numbers e (r ∷ []) ≡ []
global_numbers-none e r has = by (is_global r.scope) refl
  where
    by : (b : Bool) → is_global r.scope ≡ b → global_numbers e (r ∷ []) ≡ []
    by true is = rw (is, has) refl
    by false is = rw is refl

global_numbers-more : (e : EventName) (rows : List SubscriptionRow) (r : SubscriptionRow)
    → global_numbers e (rows ++ r ∷ []) ≡ global_numbers e rows ++ global_numbers e (r ∷ [])
global_numbers-more e rows r =
    ap (map (λ x. x.number)) (filter-append (row_holds e) rows (r ∷ [])) ∙ map-append (λ x. x.number) (filter (row_holds e) rows) (filter (row_holds e) (r ∷ []))

or-false : (b : Bool) → (b || false) ≡ b
or-false true = refl
or-false false = refl

-- its pairs by what its scope names, where it has the event and where it has not
module _ (named : Scope → List ℕ) (e : EventName) (rows : List SubscriptionRow) (r : SubscriptionRow) (t : Pair → Bool) where
  scoped_pairs-more : list_any t (scoped_pairs named e (rows ++ r ∷ [])) ≡ (list_any t (scoped_pairs named e rows) || list_any t (scoped_pairs named e (r ∷ [])))
  scoped_pairs-more =
      let has = λ (x : SubscriptionRow). is_among x.events e in
      let pairs = λ (x : SubscriptionRow). pairs_at x.number (named x.scope) in
      ap (λ xs. list_any t (flat_map pairs xs)) (filter-append has rows (r ∷ []))
      ∙ (ap (list_any t) (flat_map-append pairs (filter has rows) (filter has (r ∷ [])))
      ∙ list_any-append t (scoped_pairs named e rows) (scoped_pairs named e (r ∷ [])))

  pairs-one : is_among r.events e ≡ true
      → list_any t (scoped_pairs named e (rows ++ r ∷ [])) ≡ (list_any t (scoped_pairs named e rows) || list_any t (pairs_at r.number (named r.scope)))
  pairs-one has =
      let one : scoped_pairs named e (r ∷ []) ≡ pairs_at r.number (named r.scope) = rw has (append-nil (pairs_at r.number (named r.scope))) in
      scoped_pairs-more ∙ ap (λ ps. list_any t (scoped_pairs named e rows) || list_any t ps) one

  pairs-none : is_among r.events e ≡ false → list_any t (scoped_pairs named e (rows ++ r ∷ [])) ≡ list_any t (scoped_pairs named e rows)
  pairs-none has =
      let one : scoped_pairs named e (r ∷ []) ≡ [] = rw has refl in
      scoped_pairs-more ∙ (ap (λ ps. list_any t (scoped_pairs named e rows) || list_any t ps) one ∙ or-false (list_any t (scoped_pairs named e rows)))

-- its row has one subscription more
index_row-more : (rows : List SubscriptionRow) (r : SubscriptionRow) (e : EventName) → index_row (rows ++ r ∷ []) e ≡ with_row r (index_row rows e)
index_row-more rows r e = by (is_among r.events e) refl
  where
    by : (b : Bool) → is_among r.events e ≡ b → index_row (rows ++ r ∷ []) e ≡ with_row r (index_row rows e)
    by true has =
        let numbers = global_numbers-more e rows r ∙ ap (λ ns. global_numbers e rows ++ ns) (global_numbers-one e r has) in
        (λ i. record {
          event = e;
          global = numbers i;
          any_below = λ t. pairs-one tops_of e rows r t has i;
          any_within = λ t. pairs-one users_of e rows r t has i;
        }) ∙ rw has refl
    by false has =
        let numbers = global_numbers-more e rows r ∙ (ap (λ ns. global_numbers e rows ++ ns) (global_numbers-none e r has) ∙ append-nil (global_numbers e rows)) in
        (λ i. record {
          event = e;
          global = numbers i;
          any_below = λ t. pairs-none tops_of e rows r t has i;
          any_within = λ t. pairs-none users_of e rows r t has i;
        }) ∙ rw has refl

-- ---- some that go

-- the pairs of a subscription stay together
pairs-kept : (q : ℕ → Bool) (t : Pair → Bool) (n : ℕ) (tops : List ℕ)
    → list_any (λ p. q p.1 && t p) (pairs_at n tops) ≡ (q n && list_any t (pairs_at n tops))
pairs-kept q t n [] = grind arith
pairs-kept q t n (top ∷ tops) = let ih = pairs-kept q t n tops in grind (arith, nat_tests, ih)

global_numbers-without : (e : EventName) (q : ℕ → Bool) (rows : List SubscriptionRow)
    → global_numbers e (filter (λ r. q r.number) rows) ≡ filter q (global_numbers e rows)
global_numbers-without e q [] = refl
global_numbers-without e q (r ∷ rows) = let ih = global_numbers-without e q rows in grind (arith, nat_tests, ih)

-- by what its pairs are, for any pairs
any-scoped : (has : SubscriptionRow → Bool) (pairs : SubscriptionRow → List Pair) (t : Pair → Bool) (rows : List SubscriptionRow)
    → list_any t (flat_map pairs (filter has rows)) ≡ list_any (λ r. has r && list_any t (pairs r)) rows
any-scoped has pairs t [] = refl
any-scoped has pairs t (r ∷ rows) = by (has r) refl (any-scoped has pairs t rows)
  where
    by : (b : Bool) → has r ≡ b → list_any t (flat_map pairs (filter has rows)) ≡ list_any (λ x. has x && list_any t (pairs x)) rows
        → list_any t (flat_map pairs (filter has (r ∷ rows))) ≡ list_any (λ x. has x && list_any t (pairs x)) (r ∷ rows)
    by true is rest = rw is (list_any-append t (pairs r) (flat_map pairs (filter has rows)) ∙ ap (λ b. list_any t (pairs r) || b) rest)
    by false is rest = rw is rest

scoped_pairs-without : (named : Scope → List ℕ) (e : EventName) (q : ℕ → Bool) (rows : List SubscriptionRow) (t : Pair → Bool)
    → list_any t (scoped_pairs named e (filter (λ r. q r.number) rows)) ≡ list_any (λ p. q p.1 && t p) (scoped_pairs named e rows)
scoped_pairs-without named e q rows t =
    let has = λ (x : SubscriptionRow). is_among x.events e in
    let pairs = λ (x : SubscriptionRow). pairs_at x.number (named x.scope) in
    any-scoped has pairs t (filter (λ r. q r.number) rows)
    ∙ (any-filter (λ r. q r.number) (λ r. has r && list_any t (pairs r)) rows
    ∙ ((λ i. list_any (λ r. swap (q r.number) (has r) (list_any t (pairs r)) (pairs-kept q t r.number (named r.scope)) i) rows)
    ∙ sym (any-scoped has pairs (λ p. q p.1 && t p) rows)))
  where
    swap : (q has some : Bool) {kept : Bool} → kept ≡ (q && some) → (q && (has && some)) ≡ (has && kept)
    swap q has some is = grind (arith, is)

-- its row is without those of these numbers
index_row-without : (ns : List ℕ) (rows : List SubscriptionRow) (e : EventName) → index_row (without ns rows) e ≡ without_numbers ns (index_row rows e)
index_row-without ns rows e =
    let q = λ (n : ℕ). not (is_listed ns n) in
    λ i. record {
      event = e;
      global = global_numbers-without e q rows i;
      any_below = λ t. scoped_pairs-without tops_of e q rows t i;
      any_within = λ t. scoped_pairs-without users_of e q rows t i;
    }

-- ---- events that global subscriptions lose

-- an event that is not among some is not among others that all are
among-all : (es fs : List EventName) (e : EventName) → is_among es e ≡ false → list_all (is_among es) fs ≡ true → is_among fs e ≡ false
among-all es [] e out all = refl
among-all es (f ∷ fs) e out all =
    let ih = among-all es fs e out in
    let same = same_event f e in
    grind (arith, nat_tests, ih, same, out, all)

-- a subscription that goes has none of the others
loses-none : (es : List EventName) (r : SubscriptionRow) (e : EventName) → loses_all es r ≡ true → is_among es e ≡ false → row_holds e r ≡ false
loses-none es r e goes out =
    by (is_global r.scope) (length r.events == 0) (list_all (is_among es) r.events) (is_among r.events e) goes (among-all es r.events e out)
  where
    by : (g empty all has : Bool) → (g && (not empty && all)) ≡ true → (all ≡ true → has ≡ false) → (g && has) ≡ false
    by g empty all has goes none = grind (arith, goes, none)

-- what a global one still holds for
holds-stripped : (es : List EventName) (r : SubscriptionRow) (e : EventName) → row_holds e (stripped es r) ≡ (row_holds e r && not (is_among es e))
holds-stripped es r e = by (is_global r.scope) refl
  where
    by : (b : Bool) → is_global r.scope ≡ b → row_holds e (stripped es r) ≡ (row_holds e r && not (is_among es e))
    by true is = rw is (ap (λ g. g && is_among (filter (λ f. not (is_among es f)) r.events) e) is ∙ is_among-filter (λ f. not (is_among es f)) r.events e)
    by false is = rw is (ap (λ g. g && is_among r.events e) is)

number-stripped : (es : List EventName) (r : SubscriptionRow) → (stripped es r).number ≡ r.number
number-stripped es r = by (is_global r.scope) refl
  where
    by : (b : Bool) → is_global r.scope ≡ b → (stripped es r).number ≡ r.number
    by true is = rw is refl
    by false is = rw is refl

-- what stays and holds for an event is what held for it, unless it was one of these
holds-kept : (es : List EventName) (r : SubscriptionRow) (e : EventName)
    → (not (loses_all es r) && row_holds e (stripped es r)) ≡ (row_holds e r && not (is_among es e))
holds-kept es r e = ap (λ b. not (loses_all es r) && b) (holds-stripped es r e) ∙ by (loses_all es r) (row_holds e r) (is_among es e) (loses-none es r e)
  where
    by : (l h a : Bool) → (l ≡ true → a ≡ false → h ≡ false) → (not l && (h && not a)) ≡ (h && not a)
    by l h a none = grind (arith, none)

-- the numbers of those that stay and pass, where f keeps the number
numbers-kept : (f : SubscriptionRow → SubscriptionRow) (keep p : SubscriptionRow → Bool) (rows : List SubscriptionRow)
    → ((r : SubscriptionRow) → (f r).number ≡ r.number)
    → map (λ r. r.number) (filter p (map f (filter keep rows))) ≡ map (λ r. r.number) (filter (λ r. keep r && p (f r)) rows)
numbers-kept f keep p [] same = refl
numbers-kept f keep p (r ∷ rows) same =
    let ih = numbers-kept f keep p rows same in
    let one = same r in
    grind (arith, nat_tests, ih, one)

global_numbers-dismissed : (es : List EventName) (rows : List SubscriptionRow) (e : EventName)
    → global_numbers e (dismissed es rows) ≡ map (λ r. r.number) (filter (λ r. row_holds e r && not (is_among es e)) rows)
global_numbers-dismissed es rows e =
    numbers-kept (stripped es) (λ r. not (loses_all es r)) (row_holds e) rows (number-stripped es)
    ∙ (λ i. map (λ r. r.number) (filter (λ r. holds-kept es r e i) rows))

-- a scoped one is as it was, and a global one, which names nothing, has no pairs
scoped-kept : (named : Scope → List ℕ) → named All ≡ [] → (es : List EventName) (t : Pair → Bool) (n : ℕ) (fs : List EventName) (scope : Scope) (e : EventName)
    → (let r : SubscriptionRow = record { number = n; events = fs; scope = scope } in
    (not (loses_all es r) && (is_among (stripped es r).events e && list_any t (pairs_at (stripped es r).number (named (stripped es r).scope))))
    ≡ (is_among fs e && list_any t (pairs_at n (named scope))))
scoped-kept named none es t n fs All e =
    let empty : list_any t (pairs_at n (named All)) ≡ false = ap (λ xs. list_any t (pairs_at n xs)) none in
    by (not (loses_all es (record { number = n; events = fs; scope = All }))) (is_among (filter (λ f. not (is_among es f)) fs) e) (is_among fs e)
    (list_any t (pairs_at n (named All))) empty
  where
    by : (a b c d : Bool) → d ≡ false → (a && (b && d)) ≡ (c && d)
    by a b c d empty = grind (arith, empty)
scoped-kept named none es t n fs (Below tops) e = refl
scoped-kept named none es t n fs (Within users) e = refl

scoped_pairs-dismissed : (named : Scope → List ℕ) → named All ≡ [] → (es : List EventName) (rows : List SubscriptionRow) (e : EventName) (t : Pair → Bool)
    → list_any t (scoped_pairs named e (dismissed es rows)) ≡ list_any t (scoped_pairs named e rows)
scoped_pairs-dismissed named none es rows e t =
    let has = λ (x : SubscriptionRow). is_among x.events e in
    let pairs = λ (x : SubscriptionRow). pairs_at x.number (named x.scope) in
    let keep = λ (x : SubscriptionRow). not (loses_all es x) in
    any-scoped has pairs t (dismissed es rows)
    ∙ (any-map (stripped es) (λ r. has r && list_any t (pairs r)) (filter keep rows)
    ∙ (any-filter keep (λ r. has (stripped es r) && list_any t (pairs (stripped es r))) rows
    ∙ ((λ i. list_any (λ r. scoped-kept named none es t r.number r.events r.scope e i) rows) ∙ sym (any-scoped has pairs t rows))))

-- its row has no global one, where it is one of these
index_row-dismissed : (es : List EventName) (rows : List SubscriptionRow) (e : EventName)
    → index_row (dismissed es rows) e ≡ without_global es (index_row rows e)
index_row-dismissed es rows e = by (is_among es e) refl
  where
    by : (b : Bool) → is_among es e ≡ b → index_row (dismissed es rows) e ≡ without_global es (index_row rows e)
    by true is =
        let numbers = global_numbers-dismissed es rows e ∙ (ap (λ b. map (λ r. r.number) (filter (λ r. row_holds e r && not b) rows)) is
        ∙ ap (map (λ r. r.number)) (filter-none (λ r. row_holds e r && false) rows (λ r. and-false (row_holds e r)))) in
        (λ i. record {
          event = e;
          global = numbers i;
          any_below = λ t. scoped_pairs-dismissed tops_of refl es rows e t i;
          any_within = λ t. scoped_pairs-dismissed users_of refl es rows e t i;
        }) ∙ rw is refl
    by false is =
        let numbers = global_numbers-dismissed es rows e ∙ (ap (λ b. map (λ r. r.number) (filter (λ r. row_holds e r && not b) rows)) is
        ∙ (λ i. map (λ r. r.number) (filter (λ r. and-true (row_holds e r) i) rows))) in
        (λ i. record {
          event = e;
          global = numbers i;
          any_below = λ t. scoped_pairs-dismissed tops_of refl es rows e t i;
          any_within = λ t. scoped_pairs-dismissed users_of refl es rows e t i;
        }) ∙ rw is refl

-- ---- what the index answers

-- whether a global subscription holds for an event
pub is_held-global : (rows : List SubscriptionRow) (e : EventName) → is_held (index_row rows e) ≡ any_global rows e
is_held-global rows e = any-length (row_holds e) (λ r. r.number) rows

-- a subscription covers an event by its being global, or by a pair
covers-parts : (n : ℕ) (fs : List EventName) (scope : Scope) (e : EventName) (top : Top)
    → (let r : SubscriptionRow = record { number = n; events = fs; scope = scope } in
    row_covers e top r
    ≡ (row_holds e r || ((is_among fs e && list_any (λ p. p.0 == top.number) (pairs_at n (tops_of scope)))
    || (is_among fs e && list_any (λ p. p.0 == top.user) (pairs_at n (users_of scope))))))
covers-parts n fs All e top = by (is_among fs e)
  where
    by : (a : Bool) → (a && true) ≡ ((true && a) || ((a && false) || (a && false)))
    by a = grind arith
covers-parts n fs (Below tops) e top =
    by (is_among fs e) (list_any (λ t. t == top.number) tops) _ (sym (any-map (λ t. (t, n)) (λ p. p.0 == top.number) tops))
  where
    by : (a b c : Bool) → b ≡ c → (a && b) ≡ ((false && a) || ((a && c) || (a && false)))
    by a b c same = grind (arith, same)
covers-parts n fs (Within users) e top =
    by (is_among fs e) (list_any (λ u. u == top.user) users) _ (sym (any-map (λ u. (u, n)) (λ p. p.0 == top.user) users))
  where
    by : (a b c : Bool) → b ≡ c → (a && b) ≡ ((false && a) || ((a && false) || (a && c)))
    by a b c same = grind (arith, same)

-- whether some subscription covers it below a context
pub hears-covers : (rows : List SubscriptionRow) (e : EventName) (top : Top) → hears top (index_row rows e) ≡ any_covers rows e top
hears-covers rows e top =
    let has = λ (x : SubscriptionRow). is_among x.events e in
    let below = λ (x : SubscriptionRow). has x && list_any (λ p. p.0 == top.number) (pairs_at x.number (tops_of x.scope)) in
    let within = λ (x : SubscriptionRow). has x && list_any (λ p. p.0 == top.user) (pairs_at x.number (users_of x.scope)) in
    ap₂ (λ a b. a || b) (is_held-global rows e)
    (ap₂ (λ a b. a || b) (any-scoped has (λ x. pairs_at x.number (tops_of x.scope)) (λ p. p.0 == top.number) rows)
    (any-scoped has (λ x. pairs_at x.number (users_of x.scope)) (λ p. p.0 == top.user) rows)
    ∙ sym (any-either below within rows))
    ∙ (sym (any-either (row_holds e) (λ r. below r || within r) rows)
    ∙ sym (λ i. list_any (λ r. covers-parts r.number r.events r.scope e top i) rows))

-- a search of the pairs tells whether one has a number
pub names-any : (pairs items : List Pair) (number : ℕ) (found : Bool) → pairs ≡ items → IsNonDecreasingBy (λ p. p.0) items
    → (IsNonDecreasingBy (λ p. p.0) pairs → found ≡ list_any (λ p. p.0 == number) pairs) → found ≡ list_any (λ p. p.0 == number) items
names-any pairs items number found same up tells =
    subst (λ (ps : List Pair). IsNonDecreasingBy (λ p. p.0) ps → found ≡ list_any (λ p. p.0 == number) ps) same tells up

-- the last of three answers decides, where the others let it
pub last-decides : (held below within : Bool) {found : Bool} → held ≡ false → below ≡ false → found ≡ within → found ≡ (held || (below || within))
last-decides held below within none nothing is = rw (none, nothing) is

-- ---- the eight rows

row-at : (rows : List SubscriptionRow) (e : EventName) (x : IndexRow) → get_or (index rows) (event_place e) x ≡ index_row rows e
row-at rows ContextCreated x = refl
row-at rows ContextDestroyed x = refl
row-at rows NavigationStarted x = refl
row-at rows DomContentLoaded x = refl
row-at rows Load x = refl
row-at rows RealmCreated x = refl
row-at rows RealmDestroyed x = refl
row-at rows EntryAdded x = refl

-- that of an event stands at its place
pub index-at : (xs : List EventIndex) (rows : List SubscriptionRow) (e : EventName) (x : EventIndex)
    → map index_row_of xs ≡ index rows → x ≡ get_or xs (event_place e) x → index_row_of x ≡ index_row rows e
index-at xs rows e x same at =
    ap index_row_of at ∙ (sym (get_or-map index_row_of xs (event_place e) x)
    ∙ (ap (λ ys. get_or ys (event_place e) (index_row_of x)) same ∙ row-at rows e (index_row_of x)))

-- all move with the rows
moved : (f : IndexRow → IndexRow) (xs ys : List EventIndex) (rows next : List SubscriptionRow) → ((e : EventName) → index_row next e ≡ f (index_row rows e))
    → map index_row_of ys ≡ map f (map index_row_of xs) → map index_row_of xs ≡ index rows → map index_row_of ys ≡ index next
moved f xs ys rows next each changed same =
    changed ∙ (ap (map f) same ∙ (map-twice f (index_row rows) all_events ∙ sym (λ i. map (λ e. each e i) all_events)))

pub index-more : (xs ys : List EventIndex) (rows : List SubscriptionRow) (r : SubscriptionRow)
    → map index_row_of ys ≡ map (with_row r) (map index_row_of xs) → map index_row_of xs ≡ index rows → map index_row_of ys ≡ index (rows ++ r ∷ [])
index-more xs ys rows r = moved (with_row r) xs ys rows (rows ++ r ∷ []) (index_row-more rows r)

pub index-without : (xs ys : List EventIndex) (rows : List SubscriptionRow) (ns : List ℕ)
    → map index_row_of ys ≡ map (without_numbers ns) (map index_row_of xs) → map index_row_of xs ≡ index rows → map index_row_of ys ≡ index (without ns rows)
index-without xs ys rows ns = moved (without_numbers ns) xs ys rows (without ns rows) (index_row-without ns rows)

pub index-dismissed : (xs ys : List EventIndex) (rows : List SubscriptionRow) (es : List EventName)
    → map index_row_of ys ≡ map (without_global es) (map index_row_of xs) → map index_row_of xs ≡ index rows → map index_row_of ys ≡ index (dismissed es rows)
index-dismissed xs ys rows es = moved (without_global es) xs ys rows (dismissed es rows) (index_row-dismissed es rows)

-- ---- a row in hand

-- its lists without those numbers
pub row-cancelled : (ns : List ℕ) (e : EventName) (numbers left : List ℕ) (below below_left within within_left : List Pair)
    → left ≡ filter (λ n. not (is_listed ns n)) numbers
    → below_left ≡ filter (λ p. not (is_listed ns p.1)) below → within_left ≡ filter (λ p. not (is_listed ns p.1)) within
    → (let new : IndexRow = record { event = e; global = left; any_below = λ t. list_any t below_left; any_within = λ t. list_any t within_left } in
    new ≡ without_numbers ns (record { event = e; global = numbers; any_below = λ t. list_any t below; any_within = λ t. list_any t within }))
row-cancelled ns e numbers left below below_left within within_left is kept stayed =
    λ i. record {
      event = e;
      global = is i;
      any_below = λ t. (ap (list_any t) kept ∙ any-filter (λ p. not (is_listed ns p.1)) t below) i;
      any_within = λ t. (ap (list_any t) stayed ∙ any-filter (λ p. not (is_listed ns p.1)) t within) i;
    }

-- the pairs of what a scope names are the same in order
any-ordered : (t : Pair → Bool) (n : ℕ) (scope : Scope) (named : List ℕ) → AreInOrder scope named
    → list_any t (pairs_at n named) ≡ list_any t (pairs_at n (named_in scope))
any-ordered t n scope named so =
    sym (list_any-IsPermutation t (pairs_at n (named_in scope)) (pairs_at n named) (IsPermutation-map (λ m. (m, n)) (named_in scope) named so.moved))

-- where there is room for a scope, there is for what it names in order
pub room-below : (es : List EventName) (scope : Scope) (x : EventIndex) (ts named : List ℕ) → scope ≡ Below ts → AreInOrder scope named
    → is_among es x.event ≡ true → HasRoomFor es scope x → vec_len x.below + length named ≤ vec_capacity x.below
room-below es scope x ts named is so has room =
    let free = subst (λ (s : Scope). HasRoomFor es s x) is room has in
    let all = ap (λ (s : Scope). length (named_in s)) is in
    let long = length_permutation (named_in scope) named so.moved in
    omega (arith, free, all, long)

pub room-within : (es : List EventName) (scope : Scope) (x : EventIndex) (us named : List ℕ) → scope ≡ Within us → AreInOrder scope named
    → is_among es x.event ≡ true → HasRoomFor es scope x → vec_len x.within + length named ≤ vec_capacity x.within
room-within es scope x us named is so has room =
    let free = subst (λ (s : Scope). HasRoomFor es s x) is room has in
    let all = ap (λ (s : Scope). length (named_in s)) is in
    let long = length_permutation (named_in scope) named so.moved in
    omega (arith, free, all, long)

-- its row has a subscription more that names top-level contexts
pub row-below : (r : SubscriptionRow) (e : EventName) (global : List ℕ) (was now within : List Pair) (ts named : List ℕ)
    → is_among r.events e ≡ true → r.scope ≡ Below ts → AreInOrder r.scope named
    → ((t : Pair → Bool) → list_any t now ≡ (list_any t was || list_any t (pairs_at r.number named)))
    → (let new : IndexRow = record { event = e; global = global; any_below = λ t. list_any t now; any_within = λ t. list_any t within } in
    new ≡ with_row r (record { event = e; global = global; any_below = λ t. list_any t was; any_within = λ t. list_any t within }))
row-below r e global was now within ts named has is so added =
    let pairs = λ (t : Pair → Bool). added t ∙ ap (λ b. list_any t was || b) (any-ordered t r.number r.scope named so
    ∙ ap (λ (s : Scope). list_any t (pairs_at r.number (named_in s))) is) in
    rw (has, is) (λ i. record {
      event = e;
      global = sym (append-nil global) i;
      any_below = λ t. pairs t i;
      any_within = λ t. sym (or-false (list_any t within)) i;
    })

-- or user contexts
pub row-within : (r : SubscriptionRow) (e : EventName) (global : List ℕ) (was now below : List Pair) (us named : List ℕ)
    → is_among r.events e ≡ true → r.scope ≡ Within us → AreInOrder r.scope named
    → ((t : Pair → Bool) → list_any t now ≡ (list_any t was || list_any t (pairs_at r.number named)))
    → (let new : IndexRow = record { event = e; global = global; any_below = λ t. list_any t below; any_within = λ t. list_any t now } in
    new ≡ with_row r (record { event = e; global = global; any_below = λ t. list_any t below; any_within = λ t. list_any t was }))
row-within r e global was now below us named has is so added =
    let pairs = λ (t : Pair → Bool). added t ∙ ap (λ b. list_any t was || b) (any-ordered t r.number r.scope named so
    ∙ ap (λ (s : Scope). list_any t (pairs_at r.number (named_in s))) is) in
    rw (has, is) (λ i. record {
      event = e;
      global = sym (append-nil global) i;
      any_below = λ t. sym (or-false (list_any t below)) i;
      any_within = λ t. pairs t i;
    })

-- ---- a loop over the eight

-- the next one was changed
pub rows-next : (f : IndexRow → IndexRow) (was items : List EventIndex) (i : ℕ) (x y : EventIndex) → i < length was
    → map index_row_of items ≡ over f i (map index_row_of was) → x ≡ get_or items i x → index_row_of y ≡ f (index_row_of (get_or items i x))
    → map index_row_of (set items i y) ≡ over f (i + 1) (map index_row_of was)
rows-next f was items i x y less same at is =
    let rows = map index_row_of was in
    let long = length-map was index_row_of in
    let here = get_or-map index_row_of items i x ∙ ap index_row_of (sym at) in
    map-set index_row_of items i y ∙ (ap (set (map index_row_of items) i) (is ∙ ap (λ z. f (index_row_of z)) (sym at))
    ∙ sym (over-next f i rows (map index_row_of items) (index_row_of x) (omega (arith, less, long)) same here))

-- all were
pub rows-all : (f : IndexRow → IndexRow) (was items : List EventIndex) (i : ℕ) → length was ≤ i
    → map index_row_of items ≡ over f i (map index_row_of was) → map index_row_of items ≡ map f (map index_row_of was)
rows-all f was items i all same = same ∙ over-all f i (map index_row_of was) (let long = length-map was index_row_of in omega (arith, all, long))

-- what is so of those that are left stays so
pub later-stays : (P : EventIndex → Type 0) (items : List EventIndex) (i : ℕ) (y : EventIndex)
    → ((k : ℕ) (d : EventIndex) → i ≤ k → k < length items → P (get_or items k d))
    → (k : ℕ) (d : EventIndex) → i + 1 ≤ k → k < length (set items i y) → P (get_or (set items i y) k d)
later-stays P items i y all k d behind within =
    let long = length-set items i y in
    let apart : k ≡ i → ⊥ = λ e. absurd (omega (arith, e, behind)) in
    subst P (sym (get_or-set_other items i k y d apart)) (all k d (omega (arith, behind)) (omega (arith, within, long)))

-- one is put again whose row is as it was
pub row-again : (items : List EventIndex) (i : ℕ) (x y : EventIndex) → x ≡ get_or items i x → index_row_of y ≡ index_row_of (get_or items i x)
    → map index_row_of (set items i y) ≡ map index_row_of items
row-again items i x y at is = map-set_same index_row_of items i y x is

-- what is so of the first ones is so of one more
pub earlier-more : (P : EventIndex → Type 0) (items : List EventIndex) (i : ℕ) (y : EventIndex) → i < length items
    → ((k : ℕ) (d : EventIndex) → k < i → P (get_or items k d)) → P y
    → (k : ℕ) (d : EventIndex) → k < i + 1 → P (get_or (set items i y) k d)
earlier-more P items i y less all here k d within = by (nat_lt k i) refl
  where
    by : (b : Bool) → nat_lt k i ≡ b → P (get_or (set items i y) k d)
    by true is =
        let lower : k < i = grind (arith, nat_tests, is) in
        subst P (sym (get_or-set_other items i k y d (λ e. absurd (omega (arith, e, lower))))) (all k d lower)
    by false is =
        let same : k ≡ i = grind (arith, nat_tests, is, within) in
        subst P (sym (ap (λ j. get_or (set items i y) j d) same ∙ get_or-set_same items i y d less)) here
