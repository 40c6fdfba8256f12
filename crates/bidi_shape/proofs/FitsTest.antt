-- A test, by a number of steps, of whether a tree fits a term, and the proof that its answers are right. The facts of the profile are computed by
-- it.
use Rattle.std.proofs.Common.{◌≡◌, ◌⊎◌, ℕ, zero, suc, pos, List, Bool, true, false, not, nat_lt, nat_le, Option, Some}
use Rattle.std.proofs.Common.{None, bytes_eq, refl, inl, inr, subst, sym, leb-true, le-leb, ltb-true, lt-ltb}
use Rattle.std.proofs.lemmas.Bool.{and_parts, and_from, not-true, not_from_false, true≢false}
use Rattle.std.proofs.lemmas.Slice.Eq.{bytes_eq-Decides}
use Rattle.std.specs.Prelude.{◌^◌}
use Rattle.bidi_tree.specs.Number.{is_js_int}
use Rattle.bidi_tree.specs.Node as node
use Rattle.bidi_tree.specs.Node.{Node, Items, no_items, item, Members, no_members, member, get_member, levels, has_odd}
use Rattle.bidi_tree.specs.Node.{members_levels, members_have_odd, is_whole, members_are_whole, IsWhole, MembersAreWhole}
use Rattle.bidi_shape.specs.Term.{Need, required, optional, Openness, extensible, closed, Term, exactly, text, bool, null, js_uint}
use Rattle.bidi_shape.specs.Term.{js_int, any, list_of, pair_of, map_of, either, rule, capped, Rows, no_more, row, names_of}
use Rattle.bidi_shape.specs.Profile.{term_of}
use Rattle.bidi_shape.specs.Fits.{count, without, OthersFit, Fits, fits_exactly, fits_text, fits_bool, fits_null}
use Rattle.bidi_shape.specs.Fits.{fits_js_uint, fits_js_int, fits_any, fits_list, fits_pair, fits_map, fits_first}
use Rattle.bidi_shape.specs.Fits.{fits_second, fits_rule, fits_capped, AllFit, no_item, an_item, RowsFit, no_row}
use Rattle.bidi_shape.proofs.FitsLemmas.{exactly_kind, text_kind, bool_kind, null_kind, js_uint_kind, js_int_kind, list_kind, pair_kind}
use Rattle.bidi_shape.proofs.FitsLemmas.{map_kind, exactly_inside, js_uint_inside, js_int_inside, any_inside, list_inside, item_inside}
use Rattle.bidi_shape.proofs.FitsLemmas.{pair_inside, map_inside, RowFits, row_inside, row_fits, either_inside, rule_inside, capped_inside}

-- the answers of the test
pub data Answer : Type 0 where
  fit : Answer
  misfit : Answer
  -- the steps were used up
  not_known : Answer

-- the answer is right of a fact
pub data IsRight (P : Type 0) : Answer → Type 0 where
  holds : P → IsRight P fit
  fails : (P → ⊥) → IsRight P misfit
  open_still : IsRight P not_known

-- ---- answers joined

abbrev pub of_test : Bool → Answer
of_test true = fit
of_test false = misfit

-- the second test is made only if the first finds a fit
abbrev pub also : Answer → (Unit {0} → Answer) → Answer
also fit f = f tt
also misfit f = misfit
also not_known f = not_known

-- the second test is made only if the first finds no fit
abbrev pub or_else : Answer → (Unit {0} → Answer) → Answer
or_else fit f = fit
or_else misfit f = f tt
or_else not_known f = not_known

right-of_test : {P : Type 0} (b : Bool) → (b ≡ true → P) → (P → b ≡ true) → IsRight P (of_test b)
right-of_test true to from = holds (to refl)
right-of_test false to from = fails (λ p. true≢false (sym (from p)))

right-iff : {P Q : Type 0} {a : Answer} → (P → Q) → (Q → P) → IsRight P a → IsRight Q a
right-iff to from (holds p) = holds (to p)
right-iff to from (fails n) = fails (λ q. n (from q))
right-iff to from open_still = open_still

right-also : {P Q : Type 0} {a : Answer} (f : Unit {0} → Answer) → IsRight P a → IsRight Q (f tt) → IsRight (P × Q) (also a f)
right-also f (holds p) r = right-iff (λ q. (p, q)) (λ b. b.1) r
right-also f (fails n) r = fails (λ b. n b.0)
right-also f open_still r = open_still

right-or_else : {P Q : Type 0} {a : Answer} (f : Unit {0} → Answer) → IsRight P a → IsRight Q (f tt) → IsRight (P ⊎ Q) (or_else a f)
right-or_else f (holds p) r = holds (inl p)
right-or_else f (fails n) r = right-iff inr (λ b. elim b [ inl p ↦ absurd (n p) | inr q ↦ q ]) r
right-or_else f open_still r = open_still

-- ---- the test

abbrev test_exactly : List ℕ → Node → Answer
test_exactly u (node.text s) = of_test (bytes_eq s u)
test_exactly u t = misfit

abbrev test_text : Node → Answer
test_text (node.text s) = fit
test_text t = misfit

abbrev test_bool : Node → Answer
test_bool (node.boolean b) = fit
test_bool t = misfit

abbrev test_null : Node → Answer
test_null node.null = fit
test_null t = misfit

abbrev test_js_uint : Node → Answer
test_js_uint (node.whole (pos n)) = of_test (nat_lt n (2 ^ 53))
test_js_uint t = misfit

abbrev test_js_int : Node → Answer
test_js_int (node.whole z) = of_test (is_js_int z)
test_js_int t = misfit

abbrev test_items : (Node → Answer) → Items → Answer
test_items f no_items = fit
test_items f (item t ts) = also (f t) (λ u. test_items f ts)

abbrev test_list : (Node → Answer) → ℕ → Node → Answer
test_list f least (node.list ts) = also (of_test (nat_le least (count ts))) (λ u. test_items f ts)
test_list f least t = misfit

abbrev test_pair : (Node → Answer) → (Node → Answer) → Node → Answer
test_pair f g (node.list (item t (item u no_items))) = also (f t) (λ x. g u)
test_pair f g t = misfit

abbrev test_row : (Node → Answer) → Need → Option Node → Answer
test_row f need (Some t) = f t
test_row f required None = misfit
test_row f optional None = fit

abbrev test_rows : (Node → Term → Answer) → Members → Rows → Answer
test_rows f ms no_more = fit
test_rows f ms (row k need τ rows) = also (test_row (λ t. f t τ) need (get_member k ms)) (λ u. test_rows f ms rows)

abbrev test_others : Openness → Members → Answer
test_others extensible ms = of_test (members_are_whole ms 60)
test_others closed no_members = fit
test_others closed (member k t ms) = misfit

abbrev test_map : (Node → Term → Answer) → Rows → Openness → Node → Answer
test_map f rows o (node.map ms) = also (test_rows f ms rows) (λ u. test_others o (without (names_of rows) ms))
test_map f rows o t = misfit

abbrev pub test : ℕ → Node → Term → Answer
test zero t τ = not_known
test (suc n) t (exactly s) = test_exactly s t
test (suc n) t text = test_text t
test (suc n) t bool = test_bool t
test (suc n) t null = test_null t
test (suc n) t js_uint = test_js_uint t
test (suc n) t js_int = test_js_int t
test (suc n) t any = of_test (is_whole t 60)
test (suc n) t (list_of least τ) = test_list (λ u. test n u τ) least t
test (suc n) t (pair_of σ τ) = test_pair (λ u. test n u σ) (λ u. test n u τ) t
test (suc n) t (map_of rows o) = test_map (test n) rows o t
test (suc n) t (either σ τ) = or_else (test n t σ) (λ u. test n t τ)
test (suc n) t (rule name) = test n t (term_of name)
test (suc n) t (capped τ) = also (of_test (nat_le (levels t) 60)) (λ u. test n t τ)

-- ---- it answers right

right-exactly : (u : List ℕ) (t : Node) → IsRight (Fits t (exactly u)) (test_exactly u t)
right-exactly u (node.text s) =
    right-of_test (bytes_eq s u) (λ e. subst (λ x. Fits (node.text s) (exactly x)) ((bytes_eq-Decides s u).0 e) (fits_exactly s))
    (λ f. (bytes_eq-Decides s u).1 (exactly_inside f))
right-exactly u t = fails (λ x. let e : t ≡ node.text u = exactly_kind x in cc)

right-text : (t : Node) → IsRight (Fits t text) (test_text t)
right-text (node.text s) = holds (fits_text s)
right-text t = fails (λ x. let p = text_kind x in let e : t ≡ node.text p.0 = p.1 in cc)

right-bool : (t : Node) → IsRight (Fits t bool) (test_bool t)
right-bool (node.boolean b) = holds (fits_bool b)
right-bool t = fails (λ x. let p = bool_kind x in let e : t ≡ node.boolean p.0 = p.1 in cc)

right-null : (t : Node) → IsRight (Fits t null) (test_null t)
right-null node.null = holds fits_null
right-null t = fails (λ x. let e : t ≡ node.null = null_kind x in cc)

right-js_uint : (t : Node) → IsRight (Fits t js_uint) (test_js_uint t)
right-js_uint (node.whole (pos n)) = right-of_test (nat_lt n (2 ^ 53)) (λ e. fits_js_uint n (ltb-true n (2 ^ 53) e)) (λ f. lt-ltb n (2 ^ 53) (js_uint_inside f))
right-js_uint t = fails (λ x. let p = js_uint_kind x in let e : t ≡ node.whole (pos p.0) = p.1 in cc)

right-js_int : (t : Node) → IsRight (Fits t js_int) (test_js_int t)
right-js_int (node.whole z) = right-of_test (is_js_int z) (λ e. fits_js_int z (ltb-true _ (2 ^ 53) e)) (λ f. lt-ltb _ (2 ^ 53) (js_int_inside f))
right-js_int t = fails (λ x. let p = js_int_kind x in let e : t ≡ node.whole p.0 = p.1 in cc)

right-any : (t : Node) → IsRight (Fits t any) (of_test (is_whole t 60))
right-any t = right-of_test (is_whole t 60)
    (λ e. let p = and_parts (not (has_odd t)) (nat_le (levels t) 60) e in fits_any t (not-true (has_odd t) p.0, leb-true (levels t) 60 p.1))
    (λ f. let w = any_inside f in and_from (not (has_odd t)) (nat_le (levels t) 60) (not_from_false (has_odd t) w.0) (le-leb (levels t) 60 w.1))

right-items : (f : Node → Answer) (τ : Term) → ((t : Node) → IsRight (Fits t τ) (f t)) → (ts : Items) → IsRight (AllFit ts τ) (test_items f ts)
right-items f τ r no_items = holds (no_item τ)
right-items f τ r (item t ts) = right-iff (λ p. an_item t ts τ p.0 p.1) (λ a. item_inside a) (right-also (λ u. test_items f ts) (r t) (right-items f τ r ts))

right-list : (f : Node → Answer) (least : ℕ) (τ : Term)
    → ((t : Node) → IsRight (Fits t τ) (f t)) → (t : Node) → IsRight (Fits t (list_of least τ)) (test_list f least t)
right-list f least τ r (node.list ts) =
    right-iff (λ p. fits_list ts least τ p.0 p.1) (λ a. list_inside a)
    (right-also (λ u. test_items f ts) (right-of_test (nat_le least (count ts)) (leb-true least (count ts)) (le-leb least (count ts))) (right-items f τ r ts))
right-list f least τ r t = fails (λ x. let p = list_kind x in let e : t ≡ node.list p.0 = p.1 in cc)

right-pair : (f g : Node → Answer) (σ τ : Term) → ((t : Node) → IsRight (Fits t σ) (f t))
    → ((t : Node) → IsRight (Fits t τ) (g t)) → (t : Node) → IsRight (Fits t (pair_of σ τ)) (test_pair f g t)
right-pair f g σ τ r s (node.list (item t (item u no_items))) =
    right-iff (λ p. fits_pair t u σ τ p.0 p.1) (λ a. pair_inside a) (right-also (λ x. g u) (r t) (s u))
right-pair f g σ τ r s t = fails (λ x. let p = pair_kind x in let e : t ≡ node.list (item p.0 (item p.1.0 no_items)) = p.1.1 in cc)

right-row : (f : Node → Answer) (need : Need) (τ : Term)
    → ((t : Node) → IsRight (Fits t τ) (f t)) → (o : Option Node) → IsRight (RowFits need τ o) (test_row f need o)
right-row f need τ r (Some t) = r t
right-row f required τ r None = fails (λ x. x)
right-row f optional τ r None = holds tt

right-rows : (f : Node → Term → Answer)
    → ((t : Node) (τ : Term) → IsRight (Fits t τ) (f t τ)) → (ms : Members) (rows : Rows) → IsRight (RowsFit ms rows) (test_rows f ms rows)
right-rows f r ms no_more = holds (no_row ms)
right-rows f r ms (row k need τ rows) =
    right-iff (λ p. row_fits ms k need τ rows p.0 p.1) (λ a. row_inside a)
    (right-also (λ u. test_rows f ms rows) (right-row (λ t. f t τ) need τ (λ t. r t τ) (get_member k ms)) (right-rows f r ms rows))

right-others : (o : Openness) (ms : Members) → IsRight (OthersFit o ms) (test_others o ms)
right-others extensible ms = right-of_test (members_are_whole ms 60)
    (λ e. let p = and_parts (not (members_have_odd ms)) (nat_le (members_levels ms) 60) e in
    (not-true (members_have_odd ms) p.0, leb-true (members_levels ms) 60 p.1))
    (λ w. and_from (not (members_have_odd ms)) (nat_le (members_levels ms) 60) (not_from_false (members_have_odd ms) w.0) (le-leb (members_levels ms) 60 w.1))
right-others closed no_members = holds refl
right-others closed (member k t ms) = fails (λ e. cc)

right-map : (f : Node → Term → Answer) → ((t : Node) (τ : Term) → IsRight (Fits t τ) (f t τ))
    → (rows : Rows) (o : Openness) (t : Node) → IsRight (Fits t (map_of rows o)) (test_map f rows o t)
right-map f r rows o (node.map ms) =
    right-iff (λ p. fits_map ms rows o p.0 p.1) (λ a. map_inside a)
    (right-also (λ u. test_others o (without (names_of rows) ms)) (right-rows f r ms rows) (right-others o (without (names_of rows) ms)))
right-map f r rows o t = fails (λ x. let p = map_kind x in let e : t ≡ node.map p.0 = p.1 in cc)

right-choice : (t : Node) (σ τ : Term) (a b : Answer) → IsRight (Fits t σ) a → IsRight (Fits t τ) b → IsRight (Fits t (either σ τ)) (or_else a (λ u. b))
right-choice t σ τ a b r s =
    right-iff (λ p. elim p [ inl f ↦ fits_first t σ τ f | inr f ↦ fits_second t σ τ f ]) (λ f. either_inside f) (right-or_else (λ u. b) r s)

-- the answer is right, whatever the number of steps
pub right-test : (n : ℕ) (t : Node) (τ : Term) → IsRight (Fits t τ) (test n t τ)
right-test zero t τ = open_still
right-test (suc n) t (exactly s) = right-exactly s t
right-test (suc n) t text = right-text t
right-test (suc n) t bool = right-bool t
right-test (suc n) t null = right-null t
right-test (suc n) t js_uint = right-js_uint t
right-test (suc n) t js_int = right-js_int t
right-test (suc n) t any = right-any t
right-test (suc n) t (list_of least τ) = right-list (λ u. test n u τ) least τ (λ u. right-test n u τ) t
right-test (suc n) t (pair_of σ τ) = right-pair (λ u. test n u σ) (λ u. test n u τ) σ τ (λ u. right-test n u σ) (λ u. right-test n u τ) t
right-test (suc n) t (map_of rows o) = right-map (test n) (right-test n) rows o t
right-test (suc n) t (either σ τ) = right-choice t σ τ (test n t σ) (test n t τ) (right-test n t σ) (right-test n t τ)
right-test (suc n) t (rule name) = right-iff (λ f. fits_rule t name f) (λ f. rule_inside f) (right-test n t (term_of name))
right-test (suc n) t (capped τ) =
    right-iff (λ p. fits_capped t τ p.0 p.1) (λ f. capped_inside f)
    (right-also (λ u. test n t τ) (right-of_test (nat_le (levels t) 60) (leb-true (levels t) 60) (le-leb (levels t) 60)) (right-test n t τ))

holding : {P : Type 0} {a : Answer} → IsRight P a → a ≡ fit → P
holding (holds p) e = p
holding (fails n) e = cc
holding open_still e = cc

failing : {P : Type 0} {a : Answer} → IsRight P a → a ≡ misfit → P → ⊥
failing (holds p) e q = cc
failing (fails n) e q = n q
failing open_still e q = cc

-- a tree that the test takes fits
pub fits_by : {t : Node} {τ : Term} (n : ℕ) → test n t τ ≡ fit → Fits t τ
fits_by {t} {τ} n e = holding (right-test n t τ) e

-- one that it refuses does not
pub misfits_by : {t : Node} {τ : Term} (n : ℕ) → test n t τ ≡ misfit → Fits t τ → ⊥
misfits_by {t} {τ} n e = failing (right-test n t τ) e
