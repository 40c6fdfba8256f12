-- A table that comes from rules says of each value what the rules say.
use Rattle.std.proofs.Common.{◌≡◌, ◌⊎◌, ℕ, List, [], ◌∷◌, Option, Some, None, refl, inl, inr, sym, subst, ap, ◌∙◌}
use Rattle.std.specs.Prelude.{◌↔◌, ℤ, Bool}
use Rattle.json.specs.Json as json
use Rattle.json.specs.Json.{Json, Items, no_items, item, Members, no_members, member}
use Rattle.json.specs.Find.{get}
use Rattle.bidi_grammar.specs.Term as term
use Rattle.bidi_grammar.specs.Term.{Need, optional, Bound, is_between, Row, row, names_of, Term, Grammar, term_at}
use Rattle.bidi_grammar.specs.Fits.{without, Fits, fits_exactly, fits_text, fits_bool, fits_truth, fits_null, fits_whole, fits_number, fits_any, fits_list, fits_tuple, fits_map, fits_first, fits_second, fits_rule}
use Rattle.bidi_grammar.specs.Fits.{AllFit, no_item, an_item, EachFits, no_part, a_part, RowsFit, no_row, there, absent, OthersFit, no_other, an_other}
use Rattle.bidi_grammar.specs.Source.{Written, exactly, text, bool, truth, null, whole, number, any, list_of, Parts, no_parts, part, tuple_of, map_of, either, name, Group, Entry, at_name, others, Rules, Lists, entry_names, further_in}
use Rattle.bidi_grammar.specs.Source.{FitsWritten, w_exactly, w_text, w_bool, w_truth, w_null, w_whole, w_number, w_any, w_list, w_tuple, w_map, w_first, w_second, w_name}
use Rattle.bidi_grammar.specs.Source.{AllFitWritten, w_no_item, w_item, PartsFitWritten, w_no_part, w_part, EntriesFit, w_no_entry, w_there, w_absent, w_others, OthersFitWritten, w_no_other, w_other}
use Rattle.bidi_grammar.specs.Source.{Source, of_type, of_lists, IsOne, PartsAre, no_place, a_place, RowsAre, no_rows, a_row, no_row_for, RestIs, a_rest}
use Rattle.bidi_grammar.specs.Source.{Made, made_exactly, made_text, made_bool, made_truth, made_null, made_whole, made_number, made_any, made_list, made_tuple, made_either, made_name, made_map, made_maps}
use Rattle.bidi_grammar.proofs.ListsLemmas.{among, picked, some_is}
use Rattle.bidi_grammar.specs.Source.{Comes, comes, by_group, IsMade, Means}

-- ---- of what a term is made

module _ {ρ : Rules} {g : Grammar} {o : ℕ → Source} where
  exactly_of : {u : List ℕ} {s : Source} → Made ρ g o (term.exactly u) s → s ≡ of_type (exactly u)
  exactly_of (made_exactly u) = refl

  text_of : {s : Source} → Made ρ g o term.text s → s ≡ of_type text
  text_of made_text = refl

  bool_of : {s : Source} → Made ρ g o term.bool s → s ≡ of_type bool
  bool_of made_bool = refl

  truth_of : {b : Bool} {s : Source} → Made ρ g o (term.truth b) s → s ≡ of_type (truth b)
  truth_of (made_truth b) = refl

  null_of : {s : Source} → Made ρ g o term.null s → s ≡ of_type null
  null_of made_null = refl

  whole_of : {a b : ℤ} {s : Source} → Made ρ g o (term.whole a b) s → s ≡ of_type (whole a b)
  whole_of (made_whole a b) = refl

  number_of : {a b : Bound} {s : Source} → Made ρ g o (term.number a b) s → s ≡ of_type (number a b)
  number_of (made_number a b) = refl

  any_of : {s : Source} → Made ρ g o term.any s → s ≡ of_type any
  any_of made_any = refl

  list_of_is : {least n : ℕ} {s : Source} → Made ρ g o (term.list_of least n) s → (σ : Written) × ((s ≡ of_type (list_of least σ)) × (o n ≡ of_type σ))
  list_of_is (made_list least n σ e) = (σ, (refl, e))

  tuple_of_is : {ns : List ℕ} {s : Source} → Made ρ g o (term.tuple_of ns) s → (σs : Parts) × ((s ≡ of_type (tuple_of σs)) × PartsAre o ns σs)
  tuple_of_is (made_tuple ns σs p) = (σs, (refl, p))

  rule_of_is : {k : List ℕ} {n : ℕ} {s : Source} → Made ρ g o (term.rule k n) s
      → (σ : Written) × ((s ≡ of_type (name k)) × ((ρ.type_of k ≡ Some σ) × (o n ≡ of_type σ)))
  rule_of_is (made_name k n σ e f) = (σ, (refl, (e, f)))

  map_of_is : {rows : List Row} {rest : Option ℕ} {s : Source} → Made ρ g o (term.map_of rows rest) s
      → (xs : List Entry) × ((s ≡ of_lists (xs ∷ [])) × (RowsAre o rows xs × RestIs o rest (further_in xs)))
  map_of_is (made_map rows rest xs r q) = (xs, (refl, (r, q)))

module _ {o : ℕ → Source} where
  rest_some : {n : ℕ} {w : Option Written} → RestIs o (Some n) w → (σ : Written) × ((w ≡ Some σ) × (o n ≡ of_type σ))
  rest_some (a_rest n σ e) = (σ, (refl, e))

  some_rest : {rest : Option ℕ} {σ : Written} → RestIs o rest (Some σ) → (n : ℕ) × ((rest ≡ Some n) × (o n ≡ of_type σ))
  some_rest (a_rest n σ e) = (n, (refl, e))

  names_same : {rows : List Row} {xs : List Entry} → RowsAre o rows xs → names_of rows ≡ entry_names xs
  names_same no_rows = refl
  names_same (a_row k need n σ rows xs e r) = ap (λ ks. k ∷ ks) (names_same r)
  names_same (no_row_for σ rows xs r) = names_same r

  rows_empty : {rows : List Row} → RowsAre o rows [] → rows ≡ []
  rows_empty no_rows = refl

  rows_at_name : {rows : List Row} {k : List ℕ} {need : Need} {σ : Written} {xs : List Entry} → RowsAre o rows (at_name k need σ ∷ xs)
      → (n : ℕ) × ((left : List Row) × ((rows ≡ (row k need n) ∷ left) × ((o n ≡ of_type σ) × RowsAre o left xs)))
  rows_at_name (a_row k need n σ left xs e r) = (n, (left, (refl, (e, r))))

  rows_others : {rows : List Row} {σ : Written} {xs : List Entry} → RowsAre o rows (others σ ∷ xs) → RowsAre o rows xs
  rows_others (no_row_for σ rows xs r) = r

  places_none : {ns : List ℕ} → PartsAre o ns no_parts → ns ≡ []
  places_none no_place = refl

  places_some : {ns : List ℕ} {σ : Written} {σs : Parts} → PartsAre o ns (part σ σs)
      → (n : ℕ) × ((left : List ℕ) × ((ns ≡ n ∷ left) × ((o n ≡ of_type σ) × PartsAre o left σs)))
  places_some (a_place n left σ σs e p) = (n, (left, (refl, (e, p))))

  none_placed : {σs : Parts} → PartsAre o [] σs → σs ≡ no_parts
  none_placed no_place = refl

  some_placed : {n : ℕ} {ns : List ℕ} {σs : Parts} → PartsAre o (n ∷ ns) σs
      → (σ : Written) × ((left : Parts) × ((σs ≡ part σ left) × ((o n ≡ of_type σ) × PartsAre o ns left)))
  some_placed (a_place n ns σ left e p) = (σ, (left, (refl, (e, p))))

-- ---- from the table to the rules

module _ (ρ : Rules) (g : Grammar) (o : ℕ → Source) (all : IsMade ρ g o) where
  -- the tree is what a source says, of whatever source the term is made
  abbrev Says : Json → Term → Type 0
  Says t τ = (s : Source) → Made ρ g o τ s → Means ρ t s

  close : (t : Json) {τ : Term} {s : Source} → Says t τ → Comes ρ g o τ s → Means ρ t s
  close t h (comes τ s m) = h s m
  close t h (by_group τ A xss iff m) =
      let p = h (of_lists xss) m in
      subst (λ u. FitsWritten ρ u (map_of A)) (sym p.1.0) (w_map p.0 A p.1.1.0 (picked iff p.1.1.0 p.1.1.1.0) p.1.1.1.1.0 p.1.1.1.1.1)

  place : (t : Json) (n : ℕ) (σ : Written) → o n ≡ of_type σ → Says t (term_at g n) → FitsWritten ρ t σ
  place t n σ e h = subst (λ s. Means ρ t s) e (close t h (all n))

  -- rows whose members are what the sources say
  data RowsMean : Json → List Row → Type 0 where
    mean_none : (t : Json) → RowsMean t []
    mean_there : (t : Json) (k : List ℕ) (need : Need) (n : ℕ) (rows : List Row) (u : Json) → get k t ≡ Some u → Says u (term_at g n)
        → RowsMean t rows → RowsMean t ((row k need n) ∷ rows)
    mean_absent : (t : Json) (k : List ℕ) (n : ℕ) (rows : List Row) → get k t ≡ None → RowsMean t rows → RowsMean t ((row k optional n) ∷ rows)

  entry_there : {t : Json} {k : List ℕ} {need : Need} {n : ℕ} {rows : List Row} → RowsMean t ((row k need n) ∷ rows) → (σ : Written) (xs : List Entry)
      → o n ≡ of_type σ → EntriesFit ρ t xs → EntriesFit ρ t (at_name k need σ ∷ xs)
  entry_there (mean_there t k need n rows u e h more) σ xs is f = w_there t k need σ xs u e (place u n σ is h) f
  entry_there (mean_absent t k n rows e more) σ xs is f = w_absent t k σ xs e f

  rows_more : {t : Json} {k : List ℕ} {need : Need} {n : ℕ} {rows : List Row} → RowsMean t ((row k need n) ∷ rows) → RowsMean t rows
  rows_more (mean_there t k need n rows u e h more) = more
  rows_more (mean_absent t k n rows e more) = more

  entries : (t : Json) {rows : List Row} {xs : List Entry} → RowsAre o rows xs → RowsMean t rows → EntriesFit ρ t xs
  entries t no_rows m = w_no_entry t
  entries t (a_row k need n σ rows xs e r) m = entry_there m σ xs e (entries t r (rows_more m))
  entries t (no_row_for σ rows xs r) m = w_others t σ xs (entries t r m)

  -- what one of two alternatives says, the choice says
  first_of : (t : Json) {m n : ℕ} {s : Source} → Made ρ g o (term.either m n) s → Says t (term_at g m) → Means ρ t s
  first_of t (made_either m n σ τ e f) h = w_first t σ τ (place t m σ e h)
  first_of t (made_maps m n rows rest xs xss e r q f) h =
      let p : Means ρ t (of_lists (xs ∷ [])) = h (of_lists (xs ∷ [])) (subst (λ τ. Made ρ g o τ (of_lists (xs ∷ []))) (sym e) (made_map rows rest xs r q)) in
      (p.0, (p.1.0, (p.1.1.0, (in_front p.1.1.0 xs xss p.1.1.1.0, p.1.1.1.1))))
    where
      in_front : (ys xs : List Entry) (xss : List (List Entry)) → IsOne ys (xs ∷ []) → IsOne ys (xs ∷ xss)
      in_front ys xs xss (inl e) = inl e
      in_front ys xs xss (inr h) = absurd h

  second_of : (t : Json) {m n : ℕ} {s : Source} → Made ρ g o (term.either m n) s → Says t (term_at g n) → Means ρ t s
  second_of t (made_either m n σ τ e f) h = w_second t σ τ (place t n τ f h)
  second_of t (made_maps m n rows rest xs xss e r q f) h =
      let p : Means ρ t (of_lists xss) = subst (λ s. Means ρ t s) f (close t h (all n)) in
      (p.0, (p.1.0, (p.1.1.0, (inr p.1.1.1.0, p.1.1.1.1))))

  mutual
    to : {t : Json} {τ : Term} → Fits g t τ → (s : Source) → Made ρ g o τ s → Means ρ t s
    to (fits_exactly u) s m = subst (λ x. Means ρ (json.string u) x) (sym (exactly_of m)) (w_exactly u)
    to (fits_text u) s m = subst (λ x. Means ρ (json.string u) x) (sym (text_of m)) (w_text u)
    to (fits_bool b) s m = subst (λ x. Means ρ (json.boolean b) x) (sym (bool_of m)) (w_bool b)
    to (fits_truth b) s m = subst (λ x. Means ρ (json.boolean b) x) (sym (truth_of m)) (w_truth b)
    to fits_null s m = subst (λ x. Means ρ json.null x) (sym (null_of m)) w_null
    to (fits_whole u z a b e h k) s m = subst (λ x. Means ρ (json.number u) x) (sym (whole_of m)) (w_whole u z a b e h k)
    to (fits_number u a b e) s m = subst (λ x. Means ρ (json.number u) x) (sym (number_of m)) (w_number u a b e)
    to (fits_any t) s m = subst (λ x. Means ρ t x) (sym (any_of m)) (w_any t)
    to (fits_list ts least n h f) s m =
        let p = list_of_is m in
        subst (λ x. Means ρ (json.array ts) x) (sym p.1.0) (w_list ts least p.0 h (to_items f p.0 p.1.1))
    to (fits_tuple ts ns f) s m =
        let p = tuple_of_is m in
        subst (λ x. Means ρ (json.array ts) x) (sym p.1.0) (w_tuple ts p.0 (to_parts f p.0 p.1.1))
    to (fits_map ms rows rest f h) s m =
        let p = map_of_is m in
        subst (λ x. Means ρ (json.object ms) x) (sym p.1.0) (
          ms,
          (
            refl,
            (
              p.0,
              (
                inl refl,
                (
                  entries (json.object ms) p.1.1.0 (to_rows f),
                  subst (λ ns. OthersFitWritten ρ (further_in p.0) (without ns ms)) (names_same p.1.1.0) (to_others h (further_in p.0) p.1.1.1),
                ),
              ),
            ),
          ),
        )
    to (fits_first t m n f) s k = first_of t k (λ r c. to f r c)
    to (fits_second t m n f) s k = second_of t k (λ r c. to f r c)
    to (fits_rule t k n f) s m =
        let p = rule_of_is m in
        subst (λ x. Means ρ t x) (sym p.1.0) (w_name t k p.0 p.1.1.0 (place t n p.0 p.1.1.1 (λ r c. to f r c)))

    to_items : {ts : Items} {n : ℕ} → AllFit g ts n → (σ : Written) → o n ≡ of_type σ → AllFitWritten ρ ts σ
    to_items (no_item n) σ e = w_no_item σ
    to_items (an_item t ts n f fs) σ e = w_item t ts σ (place t n σ e (λ r c. to f r c)) (to_items fs σ e)

    to_parts : {ts : Items} {ns : List ℕ} → EachFits g ts ns → (σs : Parts) → PartsAre o ns σs → PartsFitWritten ρ ts σs
    to_parts no_part σs p = subst (λ x. PartsFitWritten ρ no_items x) (sym (none_placed p)) w_no_part
    to_parts (a_part t ts n ns f fs) σs p =
        let q = some_placed p in
        subst (λ x. PartsFitWritten ρ (item t ts) x) (sym q.1.1.0)
        (w_part t ts q.0 q.1.0 (place t n q.0 q.1.1.1.0 (λ r c. to f r c)) (to_parts fs q.1.0 q.1.1.1.1))

    to_rows : {t : Json} {rows : List Row} → RowsFit g t rows → RowsMean t rows
    to_rows (no_row t) = mean_none t
    to_rows (there t k need n rows u e f more) = mean_there t k need n rows u e (λ r c. to f r c) (to_rows more)
    to_rows (absent t k n rows e more) = mean_absent t k n rows e (to_rows more)

    to_others : {rest : Option ℕ} {ms : Members} → OthersFit g rest ms → (w : Option Written) → RestIs o rest w → OthersFitWritten ρ w ms
    to_others (no_other rest) w r = w_no_other w
    to_others (an_other n k t ms f more) w r =
        let p = rest_some r in
        subst (λ x. OthersFitWritten ρ x (member k t ms)) (sym p.1.0)
        (w_other p.0 k t ms (place t n p.0 p.1.1 (λ r c. to f r c)) (subst (λ x. OthersFitWritten ρ x ms) p.1.0 (to_others more w r)))

-- ---- what comes from a type

module _ {ρ : Rules} {g : Grammar} {o : ℕ → Source} where
  exactly_made : {τ : Term} {u : List ℕ} → Made ρ g o τ (of_type (exactly u)) → τ ≡ term.exactly u
  exactly_made (made_exactly u) = refl

  text_made : {τ : Term} → Made ρ g o τ (of_type text) → τ ≡ term.text
  text_made made_text = refl

  bool_made : {τ : Term} → Made ρ g o τ (of_type bool) → τ ≡ term.bool
  bool_made made_bool = refl

  truth_made : {τ : Term} {b : Bool} → Made ρ g o τ (of_type (truth b)) → τ ≡ term.truth b
  truth_made (made_truth b) = refl

  null_made : {τ : Term} → Made ρ g o τ (of_type null) → τ ≡ term.null
  null_made made_null = refl

  whole_made : {τ : Term} {a b : ℤ} → Made ρ g o τ (of_type (whole a b)) → τ ≡ term.whole a b
  whole_made (made_whole a b) = refl

  number_made : {τ : Term} {a b : Bound} → Made ρ g o τ (of_type (number a b)) → τ ≡ term.number a b
  number_made (made_number a b) = refl

  any_made : {τ : Term} → Made ρ g o τ (of_type any) → τ ≡ term.any
  any_made made_any = refl

  list_made : {τ : Term} {least : ℕ} {σ : Written} → Made ρ g o τ (of_type (list_of least σ)) → (n : ℕ) × ((τ ≡ term.list_of least n) × (o n ≡ of_type σ))
  list_made (made_list least n σ e) = (n, (refl, e))

  tuple_made : {τ : Term} {σs : Parts} → Made ρ g o τ (of_type (tuple_of σs)) → (ns : List ℕ) × ((τ ≡ term.tuple_of ns) × PartsAre o ns σs)
  tuple_made (made_tuple ns σs p) = (ns, (refl, p))

  either_made : {υ : Term} {σ τ : Written} → Made ρ g o υ (of_type (either σ τ))
      → (m : ℕ) × ((n : ℕ) × ((υ ≡ term.either m n) × ((o m ≡ of_type σ) × (o n ≡ of_type τ))))
  either_made (made_either m n σ τ e f) = (m, (n, (refl, (e, f))))

  name_made : {τ : Term} {k : List ℕ} → Made ρ g o τ (of_type (name k)) → (n : ℕ) × ((σ : Written) × ((τ ≡ term.rule k n) × ((ρ.type_of k ≡ Some σ) × (o n ≡ of_type σ))))
  name_made (made_name k n σ e f) = (n, (σ, (refl, (e, f))))

  group_made : {τ : Term} {A : Group} → Made ρ g o τ (of_type (map_of A)) → ⊥
  group_made m = elim m [ ]

  lists_is : {τ : Term} {ys : List Entry} {yss : List (List Entry)} → Made ρ g o τ (of_lists (ys ∷ yss))
      → ((rows : List Row) × ((rest : Option ℕ) × ((τ ≡ term.map_of rows rest) × ((yss ≡ []) × (RowsAre o rows ys × RestIs o rest (further_in ys))))))
      ⊎ ((m : ℕ) × ((n : ℕ) × ((rows : List Row) × ((rest : Option ℕ) × ((τ ≡ term.either m n) × ((term_at g m ≡ term.map_of rows rest)
      × ((RowsAre o rows ys × RestIs o rest (further_in ys)) × (o n ≡ of_lists yss))))))))
  lists_is (made_map rows rest xs r q) = inl (rows, (rest, (refl, (refl, (r, q)))))
  lists_is (made_maps m n rows rest xs xss e r q f) = inr (m, (n, (rows, (rest, (refl, (e, ((r, q), f)))))))

module _ {ρ : Rules} {g : Grammar} {o : ℕ → Source} where
  from_exactly : {τ : Term} {u : List ℕ} → Comes ρ g o τ (of_type (exactly u)) → τ ≡ term.exactly u
  from_exactly (comes τ s m) = exactly_made m

  from_text : {τ : Term} → Comes ρ g o τ (of_type text) → τ ≡ term.text
  from_text (comes τ s m) = text_made m

  from_bool : {τ : Term} → Comes ρ g o τ (of_type bool) → τ ≡ term.bool
  from_bool (comes τ s m) = bool_made m

  from_truth : {τ : Term} {b : Bool} → Comes ρ g o τ (of_type (truth b)) → τ ≡ term.truth b
  from_truth (comes τ s m) = truth_made m

  from_null : {τ : Term} → Comes ρ g o τ (of_type null) → τ ≡ term.null
  from_null (comes τ s m) = null_made m

  from_whole : {τ : Term} {a b : ℤ} → Comes ρ g o τ (of_type (whole a b)) → τ ≡ term.whole a b
  from_whole (comes τ s m) = whole_made m

  from_number : {τ : Term} {a b : Bound} → Comes ρ g o τ (of_type (number a b)) → τ ≡ term.number a b
  from_number (comes τ s m) = number_made m

  from_any : {τ : Term} → Comes ρ g o τ (of_type any) → τ ≡ term.any
  from_any (comes τ s m) = any_made m

  from_list : {τ : Term} {least : ℕ} {σ : Written} → Comes ρ g o τ (of_type (list_of least σ)) → (n : ℕ) × ((τ ≡ term.list_of least n) × (o n ≡ of_type σ))
  from_list (comes τ s m) = list_made m

  from_tuple : {τ : Term} {σs : Parts} → Comes ρ g o τ (of_type (tuple_of σs)) → (ns : List ℕ) × ((τ ≡ term.tuple_of ns) × PartsAre o ns σs)
  from_tuple (comes τ s m) = tuple_made m

  from_either : {υ : Term} {σ τ : Written} → Comes ρ g o υ (of_type (either σ τ))
      → (m : ℕ) × ((n : ℕ) × ((υ ≡ term.either m n) × ((o m ≡ of_type σ) × (o n ≡ of_type τ))))
  from_either (comes υ s m) = either_made m

  from_name : {τ : Term} {k : List ℕ} → Comes ρ g o τ (of_type (name k))
      → (n : ℕ) × ((σ : Written) × ((τ ≡ term.rule k n) × ((ρ.type_of k ≡ Some σ) × (o n ≡ of_type σ))))
  from_name (comes τ s m) = name_made m

  from_group : {τ : Term} {A : Group} → Comes ρ g o τ (of_type (map_of A))
      → (xss : List (List Entry)) × (Lists ρ A xss × Made ρ g o τ (of_lists xss))
  from_group (comes τ s m) = absurd (group_made m)
  from_group (by_group τ A xss iff c) = (xss, (iff, c))

  lists_made : {τ : Term} {xss : List (List Entry)} → Comes ρ g o τ (of_lists xss) → Made ρ g o τ (of_lists xss)
  lists_made (comes τ s m) = m

-- ---- from the rules to the table

module _ (ρ : Rules) (g : Grammar) (o : ℕ → Source) (all : IsMade ρ g o) where
  here : (n : ℕ) (s : Source) → o n ≡ s → Comes ρ g o (term_at g n) s
  here n s e = subst (λ x. Comes ρ g o (term_at g n) x) e (all n)

  only_one : {xs ys : List Entry} {yss : List (List Entry)} → IsOne xs (ys ∷ yss) → yss ≡ [] → xs ≡ ys
  only_one (inl e) z = e
  only_one {xs} (inr k) z = absurd (subst (λ zss. IsOne xs zss) z k)

  -- what a map of one alternative takes, a chain of alternatives takes
  chain : (ms : Members) (xs : List Entry)
      → ((rows : List Row) (rest : Option ℕ) → RowsAre o rows xs → RestIs o rest (further_in xs) → Fits g (json.object ms) (term.map_of rows rest))
      → (xss : List (List Entry)) (τ : Term) → Made ρ g o τ (of_lists xss) → IsOne xs xss → Fits g (json.object ms) τ
  chain ms xs h [] τ m one = absurd one
  chain ms xs h (ys ∷ yss) τ m one = elim (lists_is m) [
    | inl p ↦
        let is : xs ≡ ys = only_one one p.1.1.1.0 in
        subst (λ υ. Fits g (json.object ms) υ) (sym p.1.1.0)
        (h p.0 p.1.0 (subst (λ zs. RowsAre o p.0 zs) (sym is) p.1.1.1.1.0) (subst (λ zs. RestIs o p.1.0 (further_in zs)) (sym is) p.1.1.1.1.1))
    | inr p ↦ subst (λ υ. Fits g (json.object ms) υ) (sym p.1.1.1.1.0) (elim one [
      | inl is ↦ fits_first (json.object ms) p.0 p.1.0 (subst (λ υ. Fits g (json.object ms) υ) (sym p.1.1.1.1.1.0)
          (h p.1.1.0 p.1.1.1.0 (subst (λ zs. RowsAre o p.1.1.0 zs) (sym is) p.1.1.1.1.1.1.0.0) (subst (λ zs. RestIs o p.1.1.1.0 (further_in zs)) (sym is) p.1.1.1.1.1.1.0.1)))
      | inr k ↦ fits_second (json.object ms) p.0 p.1.0 (chain ms xs h yss (term_at g p.1.0) (lists_made (here p.1.0 (of_lists yss) p.1.1.1.1.1.1.1)) k)
    ])
  ]

  mutual
    from : {t : Json} {σ : Written} → FitsWritten ρ t σ → (τ : Term) → Comes ρ g o τ (of_type σ) → Fits g t τ
    from (w_exactly u) τ c = subst (λ x. Fits g (json.string u) x) (sym (from_exactly c)) (fits_exactly u)
    from (w_text u) τ c = subst (λ x. Fits g (json.string u) x) (sym (from_text c)) (fits_text u)
    from (w_bool b) τ c = subst (λ x. Fits g (json.boolean b) x) (sym (from_bool c)) (fits_bool b)
    from (w_truth b) τ c = subst (λ x. Fits g (json.boolean b) x) (sym (from_truth c)) (fits_truth b)
    from w_null τ c = subst (λ x. Fits g json.null x) (sym (from_null c)) fits_null
    from (w_whole u z a b e h k) τ c = subst (λ x. Fits g (json.number u) x) (sym (from_whole c)) (fits_whole u z a b e h k)
    from (w_number u a b e) τ c = subst (λ x. Fits g (json.number u) x) (sym (from_number c)) (fits_number u a b e)
    from (w_any t) τ c = subst (λ x. Fits g t x) (sym (from_any c)) (fits_any t)
    from (w_list ts least σ h f) τ c =
        let p = from_list c in
        subst (λ x. Fits g (json.array ts) x) (sym p.1.0) (fits_list ts least p.0 h (from_items f p.0 p.1.1))
    from (w_tuple ts σs f) τ c =
        let p = from_tuple c in
        subst (λ x. Fits g (json.array ts) x) (sym p.1.0) (fits_tuple ts p.0 (from_parts f p.0 p.1.1))
    from (w_map ms A xs k f h) τ c =
        let p = from_group c in
        chain ms xs (λ rows rest r q. fits_map ms rows rest (from_rows f rows r)
        (subst (λ ns. OthersFit g rest (without ns ms)) (sym (names_same r)) (from_others h rest q)))
        p.0 τ p.1.1 (among k p.1.0)
    from (w_first t σ τ f) υ c =
        let p = from_either c in
        subst (λ x. Fits g t x) (sym p.1.1.0) (fits_first t p.0 p.1.0 (from f (term_at g p.0) (here p.0 (of_type σ) p.1.1.1.0)))
    from (w_second t σ τ f) υ c =
        let p = from_either c in
        subst (λ x. Fits g t x) (sym p.1.1.0) (fits_second t p.0 p.1.0 (from f (term_at g p.1.0) (here p.1.0 (of_type τ) p.1.1.1.1)))
    from (w_name t k σ e f) τ c =
        let p = from_name c in
        let same : p.1.0 ≡ σ = some_is p.1.0 σ (sym p.1.1.1.0 ∙ e) in
        subst (λ x. Fits g t x) (sym p.1.1.0)
        (fits_rule t k p.0 (from f (term_at g p.0) (here p.0 (of_type σ) (p.1.1.1.1 ∙ ap of_type same))))

    from_items : {ts : Items} {σ : Written} → AllFitWritten ρ ts σ → (n : ℕ) → o n ≡ of_type σ → AllFit g ts n
    from_items (w_no_item σ) n e = no_item n
    from_items (w_item t ts σ f fs) n e = an_item t ts n (from f (term_at g n) (here n (of_type σ) e)) (from_items fs n e)

    from_parts : {ts : Items} {σs : Parts} → PartsFitWritten ρ ts σs → (ns : List ℕ) → PartsAre o ns σs → EachFits g ts ns
    from_parts w_no_part ns p = subst (λ x. EachFits g no_items x) (sym (places_none p)) no_part
    from_parts (w_part t ts σ σs f fs) ns p =
        let q = places_some p in
        subst (λ x. EachFits g (item t ts) x) (sym q.1.1.0)
        (a_part t ts q.0 q.1.0 (from f (term_at g q.0) (here q.0 (of_type σ) q.1.1.1.0)) (from_parts fs q.1.0 q.1.1.1.1))

    from_rows : {t : Json} {xs : List Entry} → EntriesFit ρ t xs → (rows : List Row) → RowsAre o rows xs → RowsFit g t rows
    from_rows (w_no_entry t) rows r = subst (λ rs. RowsFit g t rs) (sym (rows_empty r)) (no_row t)
    from_rows (w_there t k need σ xs u e f more) rows r =
        let p = rows_at_name r in
        subst (λ rs. RowsFit g t rs) (sym p.1.1.0)
        (there t k need p.0 p.1.0 u e (from f (term_at g p.0) (here p.0 (of_type σ) p.1.1.1.0)) (from_rows more p.1.0 p.1.1.1.1))
    from_rows (w_absent t k σ xs e more) rows r =
        let p = rows_at_name r in
        subst (λ rs. RowsFit g t rs) (sym p.1.1.0) (absent t k p.0 p.1.0 e (from_rows more p.1.0 p.1.1.1.1))
    from_rows (w_others t σ xs more) rows r = from_rows more rows (rows_others r)

    from_others : {w : Option Written} {ms : Members} → OthersFitWritten ρ w ms → (rest : Option ℕ) → RestIs o rest w → OthersFit g rest ms
    from_others (w_no_other w) rest r = no_other rest
    from_others (w_other σ k t ms f more) rest r =
        let p = some_rest r in
        subst (λ x. OthersFit g x (member k t ms)) (sym p.1.0)
        (an_other p.0 k t ms (from f (term_at g p.0) (here p.0 (of_type σ) p.1.1)) (subst (λ x. OthersFit g x ms) p.1.0 (from_others more rest r)))

pub same : (ρ : Rules) (g : Grammar) (o : ℕ → Source) → IsMade ρ g o → (n : ℕ) (σ : Written) → o n ≡ of_type σ → (t : Json)
    → Fits g t (term_at g n) ↔ FitsWritten ρ t σ
same ρ g o all n σ e t = (
  λ f. place ρ g o all t n σ e (λ s m. to ρ g o all f s m),
  λ f. from ρ g o all f (term_at g n) (here ρ g o all n (of_type σ) e),
)
