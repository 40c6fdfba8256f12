-- Judging ends with one answer.
use Rattle.std.proofs.Common.{◌≡◌, ◌∙◌, ◌+◌, ◌⊎◌, ℕ, suc, List, [], ◌∷◌, Bool, true, false, Option, Some, None, refl, inl, inr, sym, ap, ap₂, subst, true≢false}
use Rattle.json.specs.Json as json
use Rattle.json.specs.Json.{Json, Items, no_items, Members, no_members}
use Rattle.json.specs.Find.{get}
use Rattle.bidi_grammar.specs.Term.{Need, required, optional, Row, row, names_of, Term, list_of, tuple_of, map_of, either, rule, Grammar, term_at}
use Rattle.bidi_grammar.specs.Fits.{takes, is_plain, without}
use Rattle.bidi_grammar.specs.Reason as step
use Rattle.bidi_grammar.specs.Reason.{PathStep, Reason, here, missing, unknown, tags_with}
use Rattle.bidi_grammar.specs.Judges.{Answer, yes_left, no_left, gave_up, stops, through, after_first, by_rule}
use Rattle.bidi_grammar.specs.Judges.{Judges, no_look, not_taken, taken, in_list, in_tuple, in_map, in_first, out_in_first, in_second, of_rule}
use Rattle.bidi_grammar.specs.Judges.{ItemsJudge, all_asked, at_item, next_item, PartsJudge, parts_asked, at_part, next_part}
use Rattle.bidi_grammar.specs.Judges.{RowsJudge, is_missing, at_row, row_met, is_absent, rows_met, OthersJudge, others_asked, is_unknown, at_other, next_other}

some_same : {X : Type 0} (x y : X) → Some x ≡ Some y → x ≡ y
some_same x y e = cc

-- an answer that stops is no yes
no_yes : {X : Type 0} (a : Answer) (j : ℕ) → stops a ≡ true → a ≡ yes_left j → X
no_yes a j e is = absurd (true≢false (sym e ∙ ap stops is))

abbrev left_of : Answer → ℕ
left_of (yes_left k) = k
left_of (no_left k r) = k
left_of gave_up = 0

abbrev reason_in : Answer → Reason
reason_in (yes_left k) = here 0 json.null
reason_in (no_left k r) = r
reason_in gave_up = here 0 json.null

abbrev is_yes : Answer → Bool
is_yes (yes_left k) = true
is_yes (no_left k r) = false
is_yes gave_up = false

abbrev is_no : Answer → Bool
is_no (yes_left k) = false
is_no (no_left k r) = true
is_no gave_up = false

not_yes_no : {X : Type 0} {j k : ℕ} {r : Reason} → yes_left j ≡ no_left k r → X
not_yes_no e = absurd (true≢false (ap is_yes e))

not_yes_over : {X : Type 0} {j : ℕ} → yes_left j ≡ gave_up → X
not_yes_over e = absurd (true≢false (ap is_yes e))

not_no_over : {X : Type 0} {k : ℕ} {r : Reason} → no_left k r ≡ gave_up → X
not_no_over e = absurd (true≢false (ap is_no e))

none_some : {X Y : Type 0} {u : Y} → None ≡ Some u → X
none_some e = absurd (cc)

abbrev is_required : Need → Bool
is_required required = true
is_required optional = false

module _ {g : Grammar} where
  -- a value that the term does not take has one answer
  untaken : {k n : ℕ} {t : Json} {τ : Term} {a : Answer} → Judges g (suc k) t n τ a → takes t τ ≡ false → a ≡ no_left k (here n t)
  untaken (not_taken k t n τ e) f = refl
  untaken (taken k t n τ p e) f = absurd (true≢false (sym e ∙ f))
  untaken (in_list k ts n least m a e j) f = absurd (true≢false (sym e ∙ f))
  untaken (in_tuple k ts n ns a e j) f = absurd (true≢false (sym e ∙ f))
  untaken (in_map k ms n rows rest a j) f = absurd (true≢false f)
  untaken (in_first k t n l m j p) f = absurd (true≢false f)
  untaken (out_in_first k t n l m p) f = absurd (true≢false f)
  untaken (in_second k t n l m j r a p q) f = absurd (true≢false f)
  untaken (of_rule k t n m name a p) f = absurd (true≢false f)

  no_looks : {n : ℕ} {t : Json} {τ : Term} {a : Answer} → Judges g 0 t n τ a → a ≡ gave_up
  no_looks (no_look t n τ) = refl

  plain : {k n : ℕ} {t : Json} {τ : Term} {a : Answer} → Judges g (suc k) t n τ a → is_plain τ ≡ true → takes t τ ≡ true → a ≡ yes_left k
  plain (not_taken k t n τ e) p f = absurd (true≢false (sym f ∙ e))
  plain (taken k t n τ q e) p f = refl
  plain (in_list k ts n least m a e j) p f = absurd (true≢false (sym p))
  plain (in_tuple k ts n ns a e j) p f = absurd (true≢false (sym p))
  plain (in_map k ms n rows rest a j) p f = absurd (true≢false (sym p))
  plain (in_first k t n l m j q) p f = absurd (true≢false (sym p))
  plain (out_in_first k t n l m q) p f = absurd (true≢false (sym p))
  plain (in_second k t n l m j r a q h) p f = absurd (true≢false (sym p))
  plain (of_rule k t n m name a q) p f = absurd (true≢false (sym p))

  items_in : {k n least m : ℕ} {ts : Items} {a : Answer} → Judges g (suc k) (json.array ts) n (list_of least m) a → takes (json.array ts) (list_of least m) ≡ true → ItemsJudge g k 0 ts m a
  items_in (not_taken k t n τ e) f = absurd (true≢false (sym f ∙ e))
  items_in (taken k t n τ p e) f = absurd (true≢false (sym p))
  items_in (in_list k ts n least m a e j) f = j

  parts_in : {k n : ℕ} {ns : List ℕ} {ts : Items} {a : Answer} → Judges g (suc k) (json.array ts) n (tuple_of ns) a → takes (json.array ts) (tuple_of ns) ≡ true → PartsJudge g k 0 ts ns a
  parts_in (not_taken k t n τ e) f = absurd (true≢false (sym f ∙ e))
  parts_in (taken k t n τ p e) f = absurd (true≢false (sym p))
  parts_in (in_tuple k ts n ns a e j) f = j

  rows_in : {k n : ℕ} {rows : List Row} {rest : Option ℕ} {ms : Members} {a : Answer} → Judges g (suc k) (json.object ms) n (map_of rows rest) a
      → RowsJudge g k rest (without (names_of rows) ms) 0 (json.object ms) rows a
  rows_in (not_taken k t n τ e) = absurd (true≢false e)
  rows_in (taken k t n τ p e) = absurd (true≢false (sym p))
  rows_in (in_map k ms n rows rest a j) = j

  -- what a choice says, by what its first alternative does
  chosen : {k n l m : ℕ} {t : Json} {b : Answer} → Judges g (suc k) t n (either l m) b
      → ((j : ℕ) × ((b ≡ yes_left j) × Judges g k t l (term_at g l) (yes_left j)))
      ⊎ (((b ≡ gave_up) × Judges g k t l (term_at g l) gave_up)
      ⊎ ((j : ℕ) × ((r : Reason) × ((a : Answer) × ((b ≡ after_first t n r a) × (Judges g k t l (term_at g l) (no_left j r) × Judges g j t m (term_at g m) a))))))
  chosen (not_taken k t n τ e) = absurd (true≢false e)
  chosen (taken k t n τ p e) = absurd (true≢false (sym p))
  chosen (in_first k t n l m j p) = inl (j, (refl, p))
  chosen (out_in_first k t n l m p) = inr (inl (refl, p))
  chosen (in_second k t n l m j r a p q) = inr (inr (j, (r, (a, (refl, (p, q))))))

  ruled : {k n m : ℕ} {name : List ℕ} {t : Json} {b : Answer} → Judges g (suc k) t n (rule name m) b
      → (a : Answer) × ((b ≡ by_rule n a) × Judges g k t m (term_at g m) a)
  ruled (not_taken k t n τ e) = absurd (true≢false e)
  ruled (taken k t n τ p e) = absurd (true≢false (sym p))
  ruled (of_rule k t n m name a p) = (a, (refl, p))

  no_item_in : {k i n : ℕ} {b : Answer} → ItemsJudge g k i no_items n b → b ≡ yes_left k
  no_item_in (all_asked k i n) = refl

  item_in : {k i n : ℕ} {t : Json} {ts : Items} {b : Answer} → ItemsJudge g k i (json.item t ts) n b
      → ((a : Answer) × ((b ≡ through 0 (step.item i) a) × (Judges g k t n (term_at g n) a × (stops a ≡ true))))
      ⊎ ((j : ℕ) × (Judges g k t n (term_at g n) (yes_left j) × ItemsJudge g j (i + 1) ts n b))
  item_in (at_item k i t ts n a p e) = inl (a, (refl, (p, e)))
  item_in (next_item k i t ts n j a p q) = inr (j, (p, q))

  no_part_in : {k i : ℕ} {b : Answer} → PartsJudge g k i no_items [] b → b ≡ yes_left k
  no_part_in (parts_asked k i) = refl

  part_in : {k i n : ℕ} {ns : List ℕ} {t : Json} {ts : Items} {b : Answer} → PartsJudge g k i (json.item t ts) (n ∷ ns) b
      → ((a : Answer) × ((b ≡ through 0 (step.item i) a) × (Judges g k t n (term_at g n) a × (stops a ≡ true))))
      ⊎ ((j : ℕ) × (Judges g k t n (term_at g n) (yes_left j) × PartsJudge g j (i + 1) ts ns b))
  part_in (at_part k i t ts n ns a p e) = inl (a, (refl, (p, e)))
  part_in (next_part k i t ts n ns j a p q) = inr (j, (p, q))

  no_row_in : {k tags : ℕ} {rest : Option ℕ} {others : Members} {t : Json} {b : Answer} → RowsJudge g k rest others tags t [] b → OthersJudge g k rest tags others b
  no_row_in (rows_met k rest others tags t a q) = q

  row_in : {k tags n : ℕ} {rest : Option ℕ} {others : Members} {t : Json} {name : List ℕ} {need : Need} {rows : List Row} {b : Answer}
      → RowsJudge g k rest others tags t ((row name need n) ∷ rows) b
      → ((get name t ≡ None) × ((is_required need ≡ true) × (b ≡ no_left k (missing tags name n))))
      ⊎ (((u : Json) × ((a : Answer) × ((get name t ≡ Some u) × ((b ≡ through tags (step.member name) a) × (Judges g k u n (term_at g n) a × (stops a ≡ true))))))
      ⊎ (((u : Json) × ((j : ℕ) × ((get name t ≡ Some u) × (Judges g k u n (term_at g n) (yes_left j) × RowsJudge g j rest others (tags_with tags name) t rows b))))
      ⊎ ((get name t ≡ None) × ((is_required need ≡ false) × RowsJudge g k rest others tags t rows b))))
  row_in (is_missing k rest others tags t name n rows e) = inl (e, (refl, refl))
  row_in (at_row k rest others tags t name need n rows u a is p e) = inr (inl (u, (a, (is, (refl, (p, e))))))
  row_in (row_met k rest others tags t name need n rows u j a is p q) = inr (inr (inl (u, (j, (is, (p, q))))))
  row_in (is_absent k rest others tags t name n rows a e q) = inr (inr (inr (e, (refl, q))))

  no_other_in : {k tags : ℕ} {rest : Option ℕ} {b : Answer} → OthersJudge g k rest tags no_members b → b ≡ yes_left k
  no_other_in (others_asked k rest tags) = refl

  unknown_in : {k tags : ℕ} {name : List ℕ} {t : Json} {ms : Members} {b : Answer} → OthersJudge g k None tags (json.member name t ms) b → b ≡ no_left k (unknown tags name t)
  unknown_in (is_unknown k tags name t ms) = refl

  other_in : {k tags n : ℕ} {name : List ℕ} {t : Json} {ms : Members} {b : Answer} → OthersJudge g k (Some n) tags (json.member name t ms) b
      → ((a : Answer) × ((b ≡ through tags (step.member name) a) × (Judges g k t n (term_at g n) a × (stops a ≡ true))))
      ⊎ ((j : ℕ) × (Judges g k t n (term_at g n) (yes_left j) × OthersJudge g j (Some n) tags ms b))
  other_in (at_other k n tags name t ms a p e) = inl (a, (refl, (p, e)))
  other_in (next_other k n tags name t ms j a p q) = inr (j, (p, q))

  mutual
    -- with so many looks, judging ends with one answer
    pub one : {k n : ℕ} {t : Json} {τ : Term} {a b : Answer} → Judges g k t n τ a → Judges g k t n τ b → a ≡ b
    one (no_look t n τ) q = sym (no_looks q)
    one (not_taken k t n τ e) q = sym (untaken q e)
    one (taken k t n τ p e) q = sym (plain q p e)
    one (in_list k ts n least m a e j) q = items_one j (items_in q e)
    one (in_tuple k ts n ns a e j) q = parts_one j (parts_in q e)
    one (in_map k ms n rows rest a j) q = rows_one j (rows_in q)
    one (in_first k t n l m j p) q = elim (chosen q) [
      | inl h ↦ one p h.1.1 ∙ sym h.1.0
      | inr (inl h) ↦ not_yes_over (one p h.1)
      | inr (inr h) ↦ not_yes_no (one p h.1.1.1.1.0)
    ]
    one (out_in_first k t n l m p) q = elim (chosen q) [
      | inl h ↦ not_yes_over (sym (one p h.1.1))
      | inr (inl h) ↦ sym h.0
      | inr (inr h) ↦ not_no_over (sym (one p h.1.1.1.1.0))
    ]
    one (in_second k t n l m j r a p s) q = elim (chosen q) [
      | inl h ↦ not_yes_no (sym (one p h.1.1))
      | inr (inl h) ↦ not_no_over (one p h.1)
      | inr (inr h) ↦
          let e = one p h.1.1.1.1.0 in
          let same = one s (subst (λ i. Judges g i t m (term_at g m) h.1.1.0) (sym (ap left_of e)) h.1.1.1.1.1) in
          ap₂ (λ x y. after_first t n x y) (ap reason_in e) same ∙ sym h.1.1.1.0
    ]
    one (of_rule k t n m name a p) q = let h = ruled q in ap (by_rule n) (one p h.1.1) ∙ sym h.1.0

    items_one : {k i n : ℕ} {ts : Items} {a b : Answer} → ItemsJudge g k i ts n a → ItemsJudge g k i ts n b → a ≡ b
    items_one (all_asked k i n) q = sym (no_item_in q)
    items_one (at_item k i t ts n a p e) q = elim (item_in q) [
      | inl h ↦ ap (through 0 (step.item i)) (one p h.1.1.0) ∙ sym h.1.0
      | inr h ↦ no_yes a h.0 e (one p h.1.0)
    ]
    items_one {b = b} (next_item k i t ts n j a p s) q = elim (item_in q) [
      | inl h ↦ no_yes h.0 j h.1.1.1 (sym (one p h.1.1.0))
      | inr h ↦ items_one s (subst (λ x. ItemsJudge g x (i + 1) ts n b) (sym (ap left_of (one p h.1.0))) h.1.1)
    ]

    parts_one : {k i : ℕ} {ts : Items} {ns : List ℕ} {a b : Answer} → PartsJudge g k i ts ns a → PartsJudge g k i ts ns b → a ≡ b
    parts_one (parts_asked k i) q = sym (no_part_in q)
    parts_one (at_part k i t ts n ns a p e) q = elim (part_in q) [
      | inl h ↦ ap (through 0 (step.item i)) (one p h.1.1.0) ∙ sym h.1.0
      | inr h ↦ no_yes a h.0 e (one p h.1.0)
    ]
    parts_one {b = b} (next_part k i t ts n ns j a p s) q = elim (part_in q) [
      | inl h ↦ no_yes h.0 j h.1.1.1 (sym (one p h.1.1.0))
      | inr h ↦ parts_one s (subst (λ x. PartsJudge g x (i + 1) ts ns b) (sym (ap left_of (one p h.1.0))) h.1.1)
    ]

    rows_one : {k tags : ℕ} {rest : Option ℕ} {others : Members} {t : Json} {rows : List Row} {a b : Answer}
        → RowsJudge g k rest others tags t rows a → RowsJudge g k rest others tags t rows b → a ≡ b
    rows_one (is_missing k rest others tags t name n rows e) q = elim (row_in q) [
      | inl h ↦ sym h.1.1
      | inr (inl h) ↦ none_some (sym e ∙ h.1.1.0)
      | inr (inr (inl h)) ↦ none_some (sym e ∙ h.1.1.0)
      | inr (inr (inr h)) ↦ absurd (true≢false h.1.0)
    ]
    rows_one (at_row k rest others tags t name need n rows u a is p e) q = elim (row_in q) [
      | inl h ↦ none_some (sym h.0 ∙ is)
      | inr (inl h) ↦
          let same = some_same h.0 u (sym h.1.1.0 ∙ is) in
          ap (through tags (step.member name)) (one p (subst (λ v. Judges g k v n (term_at g n) h.1.0) same h.1.1.1.1.0)) ∙ sym h.1.1.1.0
      | inr (inr (inl h)) ↦
          let same = some_same h.0 u (sym h.1.1.0 ∙ is) in
          no_yes a h.1.0 e (one p (subst (λ v. Judges g k v n (term_at g n) (yes_left h.1.0)) same h.1.1.1.0))
      | inr (inr (inr h)) ↦ none_some (sym h.0 ∙ is)
    ]
    rows_one {b = b} (row_met k rest others tags t name need n rows u j a is p s) q = elim (row_in q) [
      | inl h ↦ none_some (sym h.0 ∙ is)
      | inr (inl h) ↦
          let same = some_same h.0 u (sym h.1.1.0 ∙ is) in
          no_yes h.1.0 j h.1.1.1.1.1 (sym (one p (subst (λ v. Judges g k v n (term_at g n) h.1.0) same h.1.1.1.1.0)))
      | inr (inr (inl h)) ↦
          let same = some_same h.0 u (sym h.1.1.0 ∙ is) in
          let e = one p (subst (λ v. Judges g k v n (term_at g n) (yes_left h.1.0)) same h.1.1.1.0) in
          rows_one s (subst (λ x. RowsJudge g x rest others (tags_with tags name) t rows b) (sym (ap left_of e)) h.1.1.1.1)
      | inr (inr (inr h)) ↦ none_some (sym h.0 ∙ is)
    ]
    rows_one (is_absent k rest others tags t name n rows a e s) q = elim (row_in q) [
      | inl h ↦ absurd (true≢false (sym h.1.0))
      | inr (inl h) ↦ none_some (sym e ∙ h.1.1.0)
      | inr (inr (inl h)) ↦ none_some (sym e ∙ h.1.1.0)
      | inr (inr (inr h)) ↦ rows_one s h.1.1
    ]
    rows_one (rows_met k rest others tags t a s) q = others_one s (no_row_in q)

    others_one : {k tags : ℕ} {rest : Option ℕ} {others : Members} {a b : Answer} → OthersJudge g k rest tags others a → OthersJudge g k rest tags others b → a ≡ b
    others_one (others_asked k rest tags) q = sym (no_other_in q)
    others_one (is_unknown k tags name t ms) q = sym (unknown_in q)
    others_one (at_other k n tags name t ms a p e) q = elim (other_in q) [
      | inl h ↦ ap (through tags (step.member name)) (one p h.1.1.0) ∙ sym h.1.0
      | inr h ↦ no_yes a h.0 e (one p h.1.0)
    ]
    others_one {b = b} (next_other k n tags name t ms j a p s) q = elim (other_in q) [
      | inl h ↦ no_yes h.0 j h.1.1.1 (sym (one p h.1.1.0))
      | inr h ↦ others_one s (subst (λ x. OthersJudge g x (Some n) tags ms b) (sym (ap left_of (one p h.1.0))) h.1.1)
    ]
