-- Pairs that are put among others in order, from behind.
use Rattle.std.proofs.Common.{◌≡◌, ◌∙◌, ◌<◌, ◌≤◌, ℕ, suc, zero, Bool, ◌||◌, List, [], ◌∷◌, ◌++◌, ◌+◌, ◌-◌, length, get_or, set, take, drop, subst, sym, ap, arith}
use Rattle.std.specs.List.{list_any, All}
use Rattle.std.specs.List.Sorted.{IsNonDecreasing, IsNonDecreasingBy}
use Rattle.std.proofs.lemmas.List.{get_or-take, get_or_default, length-take-le, take-append-drop, take-take, take-set-le, drop-set}
use Rattle.std.proofs.lemmas.List.Sorted.{IsNonDecreasingBy-take}
use Rattle.std.proofs.lemmas.List.Elements.{All-cons, All-nil}
use Rattle.std.proofs.lemmas.List.Folds.{list_any-append}
use Rattle.std.proofs.Math.Seq.{drop-cons}
use Rattle.std.proofs.Math.ListN.{drop_of_length-le}
use Rattle.bidi_sessions.specs.IndexRows.{Pair, pairs_at}

-- by context
abbrev pub context : Pair → ℕ
context p = p.0

-- What stands behind once all but the first `left` of the pairs and all but the first `right` of the contexts were
-- put there: these pairs, in order, and none before a pair or a context that is left.
pub record IsMerged (held : List Pair) (tops : List ℕ) (n left right : ℕ) (done : List Pair) : Type 0 where
  pub some : (t : Pair → Bool) → list_any t done ≡ (list_any t (drop left held) || list_any t (pairs_at n (drop right tops)))
  pub up : IsNonDecreasing tops → IsNonDecreasingBy context held → IsNonDecreasingBy context done
  pub pairs : IsNonDecreasing tops → IsNonDecreasingBy context held → (i : ℕ) (d : Pair) → i < left → All (λ p. (get_or held i d).0 ≤ p.0) done
  pub contexts : IsNonDecreasing tops → IsNonDecreasingBy context held → (i d : ℕ) → i < right → All (λ p. get_or tops i d ≤ p.0) done

-- a pair before those that are not below it
up-cons : (x : Pair) (ps : List Pair) → IsNonDecreasingBy context ps → All (λ p. x.0 ≤ p.0) ps → IsNonDecreasingBy context (x ∷ ps)
up-cons x ps up least zero zero d le within = omega arith
up-cons x ps up least zero (suc j) d le within = least j d (omega (arith, within))
up-cons x ps up least (suc i) zero d le within = absurd (omega (arith, le))
up-cons x ps up least (suc i) (suc j) d le within = up i j d (omega (arith, le)) (omega (arith, within))

-- lists in order, one before the other
up-append : (ps qs : List Pair) → IsNonDecreasingBy context ps → IsNonDecreasingBy context qs
    → ((i : ℕ) (d : Pair) → i < length ps → All (λ p. (get_or ps i d).0 ≤ p.0) qs) → IsNonDecreasingBy context (ps ++ qs)
up-append [] qs up rest before = rest
up-append (p ∷ ps) qs up rest before =
    up-cons p (ps ++ qs)
    (up-append ps qs (λ i j d le within. up (suc i) (suc j) d (omega (arith, le)) (omega (arith, within))) rest (λ i d within. before (suc i) d (omega (arith, within))))
    (each ps (λ j d within. up 0 (suc j) d (omega arith) (omega (arith, within))) (before 0 p (omega arith)))
  where
    each : (xs : List Pair) → All (λ x. p.0 ≤ x.0) xs → All (λ x. p.0 ≤ x.0) qs → All (λ x. p.0 ≤ x.0) (xs ++ qs)
    each [] all more = more
    each (x ∷ xs) all more = All-cons (λ y. p.0 ≤ y.0) x (xs ++ qs) (all 0 x (omega arith)) (each xs (λ j d within. all (suc j) d (omega (arith, within))) more)

-- nothing was put there yet
pub merged-none : (held : List Pair) (tops : List ℕ) (n left right : ℕ) → length held ≤ left → length tops ≤ right → IsMerged held tops n left right []
merged-none held tops n left right all every =
    record {
      some = λ t. sym (ap (λ ps. list_any t ps || list_any t (pairs_at n (drop right tops))) (drop_of_length-le held all)
          ∙ ap (λ ts. list_any t (pairs_at n ts)) (drop_of_length-le tops every));
      up = λ tops-up held-up i j d le within. absurd (omega (arith, within));
      pairs = λ tops-up held-up i d less. All-nil (λ p. (get_or held i d).0 ≤ p.0);
      contexts = λ tops-up held-up i d less. All-nil (λ p. get_or tops i d ≤ p.0);
    }

module _ (held : List Pair) (tops : List ℕ) (n left right : ℕ) (done : List Pair) where
  -- the last pair that is left, which has a greater context than the last that is left
  pub merged-pair : (d : Pair) → 0 < left → left ≤ length held → 0 < right → right ≤ length tops → get_or tops (right - 1) 0 < (get_or held (left - 1) d).0
      → IsMerged held tops n left right done → IsMerged held tops n (left - 1) right (get_or held (left - 1) d ∷ done)
  merged-pair d some within more inside above so =
      let x = get_or held (left - 1) d in
      let next : suc (left - 1) ≡ left = omega arith in
      let at : drop (left - 1) held ≡ x ∷ drop left held = drop-cons held (left - 1) d (omega arith) ∙ ap (λ k. x ∷ drop k held) next in
      record {
        some = λ t. ap (λ b. t x || b) (so.some t)
            ∙ (first (t x) (list_any t (drop left held)) (list_any t (pairs_at n (drop right tops)))
            ∙ ap (λ ps. list_any t ps || list_any t (pairs_at n (drop right tops))) (sym at));
        up = λ tops-up held-up. up-cons x done (so.up tops-up held-up) (so.pairs tops-up held-up (left - 1) d (omega arith));
        pairs = λ tops-up held-up i e less. All-cons (λ p. (get_or held i e).0 ≤ p.0) x done
            (subst (λ (y : Pair). (get_or held i e).0 ≤ y.0) (get_or_default held (left - 1) e d (omega arith)) (held-up i (left - 1) e (omega arith) (omega arith)))
            (so.pairs tops-up held-up i e (omega arith));
        contexts = λ tops-up held-up i e less. All-cons (λ p. get_or tops i e ≤ p.0) x done
            (let a = tops-up i (right - 1) e (omega arith) (omega arith) in
            let b = get_or_default tops (right - 1) e 0 (omega arith) in omega (arith, a, b, above))
            (so.contexts tops-up held-up i e less);
      }
    where
      first : (a b c : Bool) → (a || (b || c)) ≡ ((a || b) || c)
      first a b c = grind arith

  -- or the last context
  pub merged-context : left ≤ length held → 0 < right → right ≤ length tops
      → ((d : Pair) → 0 < left → (get_or held (left - 1) d).0 ≤ get_or tops (right - 1) 0)
      → IsMerged held tops n left right done → IsMerged held tops n left (right - 1) ((get_or tops (right - 1) 0, n) ∷ done)
  merged-context within more inside below so =
      let top = get_or tops (right - 1) 0 in
      let x : Pair = (top, n) in
      let next : suc (right - 1) ≡ right = omega arith in
      let at : drop (right - 1) tops ≡ top ∷ drop right tops = drop-cons tops (right - 1) 0 (omega arith) ∙ ap (λ k. top ∷ drop k tops) next in
      record {
        some = λ t. ap (λ b. t x || b) (so.some t)
            ∙ (last (t x) (list_any t (drop left held)) (list_any t (pairs_at n (drop right tops)))
            ∙ ap (λ ts. list_any t (drop left held) || list_any t (pairs_at n ts)) (sym at));
        up = λ tops-up held-up. up-cons x done (so.up tops-up held-up) (so.contexts tops-up held-up (right - 1) 0 (omega arith));
        pairs = λ tops-up held-up i e less. All-cons (λ p. (get_or held i e).0 ≤ p.0) x done
            (let a = held-up i (left - 1) e (omega arith) (omega arith) in let b = below e (omega arith) in omega (arith, a, b))
            (so.pairs tops-up held-up i e less);
        contexts = λ tops-up held-up i e less. All-cons (λ p. get_or tops i e ≤ p.0) x done
            (let a = tops-up i (right - 1) e (omega arith) (omega arith) in
            let b = get_or_default tops (right - 1) e 0 (omega arith) in omega (arith, a, b))
            (so.contexts tops-up held-up i e (omega arith));
      }
    where
      last : (a b c : Bool) → (a || (b || c)) ≡ (b || (a || c))
      last a b c = grind arith

-- ---- a loop that puts them there

module _ (held : List Pair) (tops : List ℕ) (n left right : ℕ) (now : List Pair) (front : take left now ≡ take left held)
    (so : IsMerged held tops n left right (drop (left + right) now)) where
  -- fewer stand where they stood, whatever is put behind them
  fewer : (k i : ℕ) (x : Pair) → k ≤ left → k ≤ i → take k (set now i x) ≡ take k held
  fewer k i x less behind =
      take-set-le k now i x behind
      ∙ (sym (take-take k left now less) ∙ (ap (take k) front ∙ take-take k left held less))

  -- what was put there comes first
  put : (i : ℕ) (x : Pair) → i < length now → i + 1 ≡ left + right → drop i (set now i x) ≡ x ∷ drop (left + right) now
  put i x within next = drop-set now i x within ∙ ap (λ k. x ∷ drop k now) next

  -- a pair is put there
  pub put-pair : 0 < left → left ≤ length held → 0 < right → right ≤ length tops → left + right ≤ length now
      → get_or tops (right - 1) 0 < (get_or now (left - 1) (0, 0)).0
      → (let next = set now (left - 1 + right) (get_or now (left - 1) (0, 0)) in
      (take (left - 1) next ≡ take (left - 1) held) × IsMerged held tops n (left - 1) right (drop (left - 1 + right) next))
  put-pair some within more inside fits above =
      let d : Pair = (0, 0) in
      let x = get_or now (left - 1) d in
      let i = left - 1 + right in
      let less : left - 1 < left = omega arith in
      let same : x ≡ get_or held (left - 1) d = sym (get_or-take left now (left - 1) d less) ∙ (ap (λ ps. get_or ps (left - 1) d) front ∙ get_or-take left held (left - 1) d less) in
      let number : x.0 ≡ (get_or held (left - 1) d).0 = ap (λ (p : Pair). p.0) same in
      let whole = put i x (omega arith) (omega arith) ∙ ap (λ y. y ∷ drop (left + right) now) same in (
        fewer (left - 1) i x (omega arith) (omega arith),
        subst (IsMerged held tops n (left - 1) right) (sym whole) (merged-pair held tops n left right (drop (left + right) now) d some within more inside (omega (arith, above, number)) so),
      )

  -- a context is put there
  pub put-context : left ≤ length held → 0 < right → right ≤ length tops → left + right ≤ length now
      → ((d : Pair) → 0 < left → (get_or now (left - 1) d).0 ≤ get_or tops (right - 1) 0)
      → (let next = set now (left + (right - 1)) (get_or tops (right - 1) 0, n) in
      (take left next ≡ take left held) × IsMerged held tops n left (right - 1) (drop (left + (right - 1)) next))
  put-context within more inside fits below =
      let x : Pair = (get_or tops (right - 1) 0, n) in
      let i = left + (right - 1) in
      let least : (d : Pair) → 0 < left → (get_or held (left - 1) d).0 ≤ get_or tops (right - 1) 0 = λ d some.
      let less : left - 1 < left = omega arith in
      let same = sym (get_or-take left now (left - 1) d less) ∙ (ap (λ ps. get_or ps (left - 1) d) front ∙ get_or-take left held (left - 1) d less) in
      subst (λ (p : Pair). p.0 ≤ get_or tops (right - 1) 0) same (below d some) in (
        fewer left i x (omega arith) (omega arith),
        subst (IsMerged held tops n left (right - 1)) (sym (put i x (omega arith) (omega arith)))
            (merged-context held tops n left right (drop (left + right) now) within more inside least so),
      )

  -- all contexts were
  pub merged-some : right ≤ 0 → (t : Pair → Bool) → list_any t now ≡ (list_any t held || list_any t (pairs_at n tops))
  merged-some none t =
      let start : right ≡ 0 = omega arith in
      let behind : left + right ≡ left = omega arith in
      ap (list_any t) (sym (take-append-drop left now)) ∙ (list_any-append t (take left now) (drop left now)
      ∙ ((λ i. list_any t (front i) || list_any t (drop (sym behind i) now))
      ∙ (ap (λ b. list_any t (take left held) || b) (so.some t)
      ∙ (first (list_any t (take left held)) (list_any t (drop left held)) (list_any t (pairs_at n (drop right tops)))
      ∙ (λ i. (sym (list_any-append t (take left held) (drop left held)) ∙ ap (list_any t) (take-append-drop left held)) i || list_any t (pairs_at n (drop (start i) tops)))))))
    where
      first : (a b c : Bool) → (a || (b || c)) ≡ ((a || b) || c)
      first a b c = grind arith

  pub merged-up : right ≤ 0 → left ≤ length held → IsNonDecreasing tops → IsNonDecreasingBy context held → IsNonDecreasingBy context now
  merged-up none within tops-up held-up =
      let rest = drop (left + right) now in
      let behind : left + right ≡ left = omega arith in
      let whole : take left held ++ rest ≡ now = (λ i. sym front i ++ drop (behind i) now) ∙ take-append-drop left now in
      subst (IsNonDecreasingBy context) whole
      (up-append (take left held) rest (IsNonDecreasingBy-take context left held held-up) (so.up tops-up held-up)
      (λ i d less. let short = length-take-le left held within in
      let here : i < left = omega (arith, short, less) in
      subst (λ (y : Pair). All (λ p. y.0 ≤ p.0) rest) (sym (get_or-take left held i d here)) (so.pairs tops-up held-up i d here)))
