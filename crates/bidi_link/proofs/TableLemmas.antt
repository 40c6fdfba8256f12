-- The table of links after one link changes or a new one is added.
use Rattle.std.proofs.Common.{◌≡◌, ◌∙◌, ℕ, Bool, true, false, cond, nat_eq, List, [], ◌∷◌, ◌++◌, Some, None}
use Rattle.std.proofs.Common.{Result, Ok, Err, refl, sym, ap, subst, append-nil, append_assoc, rules}
use Rattle.std.specs.Prelude.{◌==◌, ◌||◌, is_some, OnOk}
use Rattle.std.specs.List.{AllByRecursion, IsDistinct, list_any}
use Rattle.std.specs.Map.{lookup, set_value}
use Rattle.bidi_remote.specs.Machine.Sent.{Sent, Text, text_on, texts_on}
use Rattle.bidi_sessions.proofs.ListLemmas.{all-append}
use Rattle.bidi_remote.proofs.RouteLemmas.{texts_on-append}
use Rattle.bidi_link.specs.declared.link_end.LinkEnd.{LinkEnd}
use Rattle.bidi_ledger.specs.Link.{Link}
use Rattle.bidi_link.specs.Rows.{Agrees, with_texts}
use Rattle.bidi_link.specs.Stands.{RowsAgree, numbers}
use Rattle.bidi_link.proofs.PastLemmas.{same, other}

one : (l k : ℕ) → nat_eq l k ≡ true → l ≡ k
one l k e = search (rules, e)

-- equal states agree with the same links
pub rows-same : (f g : ℕ → Link) → ((l : ℕ) → f l ≡ g l) → (rows : List (ℕ × LinkEnd)) → RowsAgree rows f → RowsAgree rows g
rows-same f g same [] agree = tt
rows-same f g same (row ∷ rows) agree = (subst (Agrees row.1 row.0) (same row.0) agree.0, rows-same f g same rows agree.1)

-- ---- one link

-- the link of a number agrees with the state that is given for it
pub row-found : (l : ℕ) (w : LinkEnd) (f : ℕ → Link) (rows : List (ℕ × LinkEnd)) → lookup (nat_eq l) rows ≡ Some w → RowsAgree rows f → Agrees w l (f l)
row-found l w f [] found agree = cc found
row-found l w f (row ∷ rows) found agree = at (nat_eq l row.0) refl found (λ is. row-found l w f rows is agree.1)
  where
    at : (b : Bool) → nat_eq l row.0 ≡ b
        → cond b (Some row.1) (lookup (nat_eq l) rows) ≡ Some w → (lookup (nat_eq l) rows ≡ Some w → Agrees w l (f l)) → Agrees w l (f l)
    at true e is later =
        let n = one l row.0 e in
        let same : row.1 ≡ w = cc is in
        subst (λ x. Agrees x l (f l)) same (subst (λ k. Agrees row.1 k (f k)) (sym n) agree.0)
    at false e is later = later is

-- a change of the state of a number without a link keeps the agreement
pub rows-none : (l : ℕ) (f g : ℕ → Link) → ((k : ℕ) → nat_eq l k ≡ false → g k ≡ f k)
    → (rows : List (ℕ × LinkEnd)) → lookup (nat_eq l) rows ≡ None → RowsAgree rows f → RowsAgree rows g
rows-none l f g same [] none agree = tt
rows-none l f g same (row ∷ rows) none agree = at (nat_eq l row.0) refl none (λ is. rows-none l f g same rows is agree.1)
  where
    at : (b : Bool) → nat_eq l row.0 ≡ b → cond b (Some row.1) (lookup (nat_eq l) rows) ≡ None
        → (lookup (nat_eq l) rows ≡ None → RowsAgree rows g) → RowsAgree (row ∷ rows) g
    at true e is later = cc is
    at false e is later = (subst (Agrees row.1 row.0) (sym (same row.0 e)) agree.0, later is)

-- a change of the state of a number that is not among the links keeps the agreement
rows-others : (l : ℕ) (f g : ℕ → Link) → ((k : ℕ) → nat_eq l k ≡ false → g k ≡ f k)
    → (rows : List (ℕ × LinkEnd)) → AllByRecursion (λ k. nat_eq l k ≡ false) (numbers rows) → RowsAgree rows f → RowsAgree rows g
rows-others l f g same [] others agree = tt
rows-others l f g same (row ∷ rows) others agree =
    (subst (Agrees row.1 row.0) (sym (same row.0 others.0)) agree.0, rows-others l f g same rows others.1 agree.1)

-- it is written, and each other stays
pub rows-written : (l : ℕ) (w : LinkEnd) (f g : ℕ → Link) → Agrees w l (g l)
    → ((k : ℕ) → nat_eq l k ≡ false → g k ≡ f k) → (rows : List (ℕ × LinkEnd)) → IsDistinct nat_eq (numbers rows) → RowsAgree rows f
    → RowsAgree (set_value (nat_eq l) rows w) g
unfolding IsDistinct
rows-written l w f g own same [] distinct agree = tt
rows-written l w f g own same (row ∷ rows) distinct agree = at (nat_eq l row.0) refl (rows-written l w f g own same rows distinct.1 agree.1)
  where
    at : (b : Bool) → nat_eq l row.0 ≡ b
        → RowsAgree (set_value (nat_eq l) rows w) g → RowsAgree (cond b ((row.0, w) ∷ rows) (row ∷ set_value (nat_eq l) rows w)) g
    at true e rest =
        let n = one l row.0 e in (
          subst (λ k. Agrees w k (g k)) n own,
          rows-others l f g same rows (subst (λ k. AllByRecursion (λ j. nat_eq k j ≡ false) (numbers rows)) (sym n) distinct.0) agree.1,
        )
    at false e rest = (subst (Agrees row.1 row.0) (sym (same row.0 e)) agree.0, rest)

-- one more comes last
pub rows-added : (l : ℕ) (w : LinkEnd) (f : ℕ → Link) (rows : List (ℕ × LinkEnd)) → RowsAgree rows f → Agrees w l (f l) → RowsAgree (rows ++ (l, w) ∷ []) f
rows-added l w f rows agree own = all-append (λ row. Agrees row.1 row.0 (f row.0)) rows ((l, w) ∷ []) agree (own, tt)

pub numbers-added : (l : ℕ) (w : LinkEnd) (rows : List (ℕ × LinkEnd)) → numbers (rows ++ (l, w) ∷ []) ≡ numbers rows ++ l ∷ []
numbers-added l w [] = refl
numbers-added l w (row ∷ rows) = ap (λ ns. row.0 ∷ ns) (numbers-added l w rows)

-- a number has a link if it is among the numbers
pub found-numbers : (l : ℕ) (rows : List (ℕ × LinkEnd)) → is_some (lookup (nat_eq l) rows) ≡ list_any (λ k. l == k) (numbers rows)
found-numbers l [] = refl
found-numbers l (row ∷ rows) = at (nat_eq l row.0) (found-numbers l rows)
  where
    at : (b : Bool) → is_some (lookup (nat_eq l) rows) ≡ list_any (λ k. l == k) (numbers rows)
        → is_some (cond b (Some row.1) (lookup (nat_eq l) rows)) ≡ (b || list_any (λ k. l == k) (numbers rows))
    at true e = refl
    at false e = e

-- ---- texts

pub with_texts-none : (v : Link) → with_texts v [] ≡ v
with_texts-none v = ap (λ ts. record v { texts = ts }) (append-nil v.texts)

pub with_texts-more : (v : Link) (ts us : List (List ℕ)) → with_texts (with_texts v ts) us ≡ with_texts v (ts ++ us)
with_texts-more v ts us = ap (λ xs. record v { texts = xs }) (append_assoc v.texts ts us)

-- ---- delivering texts

-- to the link of that number
pub delivered-some : {E : Type 0} (r : Result (Unit {0}) E) (l : ℕ) (s : List ℕ) (sent : Sent) (w x : LinkEnd) (rows new : List (ℕ × LinkEnd))
    → sent ≡ Text l s → Some x ≡ lookup (nat_eq l) rows → new ≡ set_value (nat_eq l) rows w
    → IsDistinct nat_eq (numbers rows) → ((n : ℕ) (v : Link) → Agrees x n v → OnOk r (Agrees w n (with_texts v (s ∷ []))))
    → (f : ℕ → Link) → RowsAgree rows f → OnOk r (RowsAgree new (λ k. with_texts (f k) (text_on k sent)))
delivered-some (Err e) l s sent w x rows new is found written distinct pushed f agree = tt
delivered-some (Ok u) l s sent w x rows new is found written distinct pushed f agree =
    subst (λ rs. RowsAgree rs (λ k. with_texts (f k) (text_on k sent))) (sym written)
    (subst (λ y. RowsAgree (set_value (nat_eq l) rows w) (λ k. with_texts (f k) (text_on k y))) (sym is)
    (rows-written l w f (λ k. with_texts (f k) (text_on k (Text l s))) (rw (same l) (pushed l (f l) (row-found l x f rows (sym found) agree)))
    (λ k e. others k (other l k e)) rows distinct agree))
  where
    others : (k : ℕ) → (k == l) ≡ false → with_texts (f k) (text_on k (Text l s)) ≡ f k
    others k e = rw e (with_texts-none (f k))

-- to no link
pub delivered-none : (l : ℕ) (s : List ℕ) (sent : Sent) (rows new : List (ℕ × LinkEnd))
    → sent ≡ Text l s → None ≡ lookup (nat_eq l) rows → new ≡ rows → (f : ℕ → Link) → RowsAgree rows f
    → RowsAgree new (λ k. with_texts (f k) (text_on k sent))
delivered-none l s sent rows new is none stay f agree =
    subst (λ rs. RowsAgree rs (λ k. with_texts (f k) (text_on k sent))) (sym stay)
    (subst (λ y. RowsAgree rows (λ k. with_texts (f k) (text_on k y))) (sym is)
    (rows-none l f (λ k. with_texts (f k) (text_on k (Text l s))) (λ k e. others k (other l k e)) rows (sym none) agree))
  where
    others : (k : ℕ) → (k == l) ≡ false → with_texts (f k) (text_on k (Text l s)) ≡ f k
    others k e = rw e (with_texts-none (f k))

-- nothing for any link
pub delivered-nothing : (rows : List (ℕ × LinkEnd)) (f : ℕ → Link) → RowsAgree rows f → RowsAgree rows (λ k. with_texts (f k) [])
delivered-nothing rows f agree = rows-same f (λ k. with_texts (f k) []) (λ k. sym (with_texts-none (f k))) rows agree

-- one thing after others
pub delivered-more : (rows : List (ℕ × LinkEnd)) (f : ℕ → Link) (all : List Sent) (x : Sent)
    → RowsAgree rows (λ k. with_texts (with_texts (f k) (texts_on k all)) (text_on k x))
    → RowsAgree rows (λ k. with_texts (f k) (texts_on k (all ++ x ∷ [])))
delivered-more rows f all x agree =
    rows-same (λ k. with_texts (with_texts (f k) (texts_on k all)) (text_on k x)) (λ k. with_texts (f k) (texts_on k (all ++ x ∷ [])))
    (λ k. with_texts-more (f k) (texts_on k all) (text_on k x)
    ∙ ap (with_texts (f k)) (sym (texts_on-append k all (x ∷ []) ∙ ap (λ ts. texts_on k all ++ ts) (append-nil (text_on k x))))) rows agree
