-- The answer to a command that subscribes, and the id that it gives.
use Rattle.std.proofs.Common.{◌≡◌, ◌∙◌, ◌<◌, ◌^◌, ℕ, zero, suc, Bool, true, false, true≢false, ◌&&◌, ◌||◌, not, Option, Some, None, IfSome, List, [], ◌∷◌, ◌++◌, append-nil, inl, length, refl, sym, ap, arith}
use Rattle.std.specs.Prelude.{◌==◌, nat_lt, bytes_eq, codes, option_to_list}
use Rattle.std.specs.List.{list_any}
use Rattle.std.proofs.lemmas.Bool.Decides.{Decides-eqb, nat_tests}
use Rattle.std.proofs.lemmas.Slice.Eq.{bytes_eq-Decides}
use Rattle.bidi_sessions.specs.Scope.{is_listed}
use Rattle.bidi_sessions.proofs.ListLemmas.{some-same}
use Rattle.std.specs.Str.{IsAscii}
use Rattle.uuid.specs.Text.{lower}
use Rattle.uuid.proofs.TextLemmas.{by_index_length, hyphenated_ascii}
use Rattle.bidi_handles.specs.declared.id.IdKind.{IdKind}
use Rattle.bidi_handles.specs.Ids.{id_bytes, id_text}

pub not-off : (b : Bool) → not b ≡ false → b ≡ true
not-off true e = refl
not-off false e = cc

pub not-on : (b : Bool) → not b ≡ true → b ≡ false
not-on true e = cc
not-on false e = refl

-- an id has 36 bytes, all of them ASCII
pub id-long : (kind : IdKind) (session n : ℕ) → length (id_text kind session n) ≡ 36
id-long kind session n = by_index_length 36 _

pub id-ascii : (kind : IdKind) (session n : ℕ) → IsAscii (id_text kind session n)
id-ascii kind session n = hyphenated_ascii lower (id_bytes kind session n) (inl refl)

pub none_some : {X : Type 0} (x : X) → None ≡ Some x → ⊥
none_some x e = cc

-- ---- numbers of ids

and-false : (b : Bool) → (b && false) ≡ false
and-false true = refl
and-false false = refl

or-false : (b : Bool) → (b || false) ≡ b
or-false true = refl
or-false false = refl

or-assoc : (a b d : Bool) → (a || (b || d)) ≡ ((a || b) || d)
or-assoc true b d = refl
or-assoc false b d = refl

listed-push : (ns : List ℕ) (k n : ℕ) → is_listed (ns ++ k ∷ []) n ≡ (is_listed ns n || (k == n))
listed-push [] k n = or-false (k == n)
listed-push (m ∷ ns) k n = ap (λ b. (m == n) || b) (listed-push ns k n) ∙ or-assoc (m == n) (is_listed ns n) (k == n)

less-true : (m n : ℕ) → m < n → nat_lt m n ≡ true
less-true m n less = grind (arith, nat_tests, less)

true-less : (m n : ℕ) → nat_lt m n ≡ true → m < n
true-less m n is = grind (arith, nat_tests, is)

module _ (name : ℕ → List ℕ) (id : List ℕ) where
  -- the number of an id is that of any thing that has it
  same-number : (k n : ℕ) → bytes_eq id (name k) ≡ true → ((m : ℕ) → m < 2 ^ 48 → bytes_eq id (name m) ≡ true → Some k ≡ Some m) → n < 2 ^ 48
      → (k == n) ≡ bytes_eq id (name n)
  same-number k n some every less = by (k == n) (bytes_eq id (name n)) refl refl
    where
      by : (b d : Bool) → (k == n) ≡ b → bytes_eq id (name n) ≡ d → b ≡ d
      by true true e f = refl
      by false false e f = refl
      by true false e f = absurd (true≢false (sym some ∙ (ap (λ m. bytes_eq id (name m)) ((Decides-eqb k n).0 e) ∙ f)))
      by false true e f = absurd (true≢false (sym ((Decides-eqb k n).1 (some-same k n (every n less f))) ∙ e))

  -- an id without a number is that of no thing
  no-number : (n : ℕ) → ((m : ℕ) → m < 2 ^ 48 → bytes_eq id (name m) ≡ true → None ≡ Some m) → n < 2 ^ 48 → bytes_eq id (name n) ≡ false
  no-number n every less = by (bytes_eq id (name n)) refl
    where
      by : (d : Bool) → bytes_eq id (name n) ≡ d → d ≡ false
      by false f = refl
      by true f = absurd (none_some n (every n less f))

  -- a number is the one that was found exactly if the id is its id
  same-found : (k n : ℕ) → k < 2 ^ 48 → bytes_eq id (name k) ≡ true → ((m : ℕ) → m < 2 ^ 48 → bytes_eq id (name m) ≡ true → Some k ≡ Some m)
      → (n == k) ≡ (nat_lt n (2 ^ 48) && bytes_eq id (name n))
  same-found k n small some every = by (n == k) (nat_lt n (2 ^ 48)) (bytes_eq id (name n)) refl refl refl
    where
      by : (b l d : Bool) → (n == k) ≡ b → nat_lt n (2 ^ 48) ≡ l → bytes_eq id (name n) ≡ d → b ≡ (l && d)
      by true true true e g f = refl
      by false false d e g f = refl
      by false true false e g f = refl
      by true false d e g f = let same = (Decides-eqb n k).0 e in absurd (true≢false (sym (ap (λ m. nat_lt m (2 ^ 48)) same ∙ less-true k (2 ^ 48) small) ∙ g))
      by true true false e g f = absurd (true≢false (sym some ∙ (ap (λ m. bytes_eq id (name m)) (sym ((Decides-eqb n k).0 e)) ∙ f)))
      by false true true e g f = absurd (true≢false (sym ((Decides-eqb n k).1 (sym (some-same k n (every n (true-less n (2 ^ 48) g) f)))) ∙ e))

  -- the number of an id is among some exactly if the id is that of one of them
  pub is_id-found : (ns : List ℕ) (k : ℕ) → k < 2 ^ 48 → bytes_eq id (name k) ≡ true → ((m : ℕ) → m < 2 ^ 48 → bytes_eq id (name m) ≡ true → Some k ≡ Some m)
      → is_listed ns k ≡ list_any (λ n. nat_lt n (2 ^ 48) && bytes_eq id (name n)) ns
  is_id-found [] k small some every = refl
  is_id-found (n ∷ ns) k small some every = λ i. same-found k n small some every i || is_id-found ns k small some every i

  -- an id without a number is that of none
  pub is_id-none : (ns : List ℕ) → ((m : ℕ) → m < 2 ^ 48 → bytes_eq id (name m) ≡ true → None ≡ Some m)
      → false ≡ list_any (λ n. nat_lt n (2 ^ 48) && bytes_eq id (name n)) ns
  is_id-none [] every = refl
  is_id-none (n ∷ ns) every = λ i. none-here (nat_lt n (2 ^ 48)) refl i || is_id-none ns every i
    where
      none-here : (l : Bool) → nat_lt n (2 ^ 48) ≡ l → false ≡ (nat_lt n (2 ^ 48) && bytes_eq id (name n))
      none-here true g = sym (ap (λ d. nat_lt n (2 ^ 48) && d) (no-number n every (true-less n (2 ^ 48) g)) ∙ and-false (nat_lt n (2 ^ 48)))
      none-here false g = sym (ap (λ l. l && bytes_eq id (name n)) g)

  module _ (ns : List ℕ) (n : ℕ) (rest : List (List ℕ)) where
    found-more : (k : ℕ) (all : Bool) → (k == n) ≡ bytes_eq id (name n)
        → (is_listed ns n || list_any (λ i. bytes_eq i (name n)) (id ∷ rest)) ≡ all
        → (is_listed (ns ++ k ∷ []) n || list_any (λ i. bytes_eq i (name n)) rest) ≡ all
    found-more k all e is =
        ap (λ b. b || list_any (λ i. bytes_eq i (name n)) rest) (listed-push ns k n ∙ ap (λ b. is_listed ns n || b) e)
        ∙ (sym (or-assoc (is_listed ns n) (bytes_eq id (name n)) (list_any (λ i. bytes_eq i (name n)) rest)) ∙ is)

    found-none : (all : Bool) → bytes_eq id (name n) ≡ false → (is_listed ns n || list_any (λ i. bytes_eq i (name n)) (id ∷ rest)) ≡ all
        → (is_listed (ns ++ []) n || list_any (λ i. bytes_eq i (name n)) rest) ≡ all
    found-none all e is =
        ap (λ ms. is_listed ms n || list_any (λ i. bytes_eq i (name n)) rest) (append-nil ns)
        ∙ (ap (λ b. is_listed ns n || (b || list_any (λ i. bytes_eq i (name n)) rest)) (sym e) ∙ is)

    -- what is found for one more id
    pub found-next : (o : Option ℕ) (all : Bool) → IfSome o (λ k. (k < 2 ^ 48) × (bytes_eq id (name k) ≡ true))
        → ((m : ℕ) → m < 2 ^ 48 → bytes_eq id (name m) ≡ true → o ≡ Some m) → n < 2 ^ 48
        → (is_listed ns n || list_any (λ i. bytes_eq i (name n)) (id ∷ rest)) ≡ all
        → (is_listed (ns ++ option_to_list o) n || list_any (λ i. bytes_eq i (name n)) rest) ≡ all
    found-next None all some every less is = found-none all (no-number n every less) is
    found-next (Some k) all some every less is = found-more k all (same-number k n some.1 every less) is
