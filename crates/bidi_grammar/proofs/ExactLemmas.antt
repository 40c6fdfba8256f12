-- An answer is right: with a yes the value fits, with a reason it does not.
use Rattle.std.proofs.Common.{◌≡◌, ◌∙◌, ◌⊎◌, ℕ, suc, List, [], ◌∷◌, length, Bool, true, false, Option, Some, None, refl, inl, inr, sym, ap, subst, true≢false, leb-true, le-leb}
use Rattle.std.proofs.lemmas.Bool.{and_parts, and_from, eq-eqb}
use Rattle.std.proofs.lemmas.Slice.Eq.{bytes_eq-Decides}
use Rattle.std.specs.Prelude.{⊤, ℤ, int_le, T, ◌&&◌}
use Rattle.std.specs.Option.{option_map_or}
use lib.Signed.{le_z_yes}
use Rattle.json.specs.Json as json
use Rattle.json.specs.Json.{Json, Items, no_items, item, Members, no_members, member}
use Rattle.json.specs.Find.{get}
use Rattle.bidi_grammar.specs.Number.{whole_in}
use Rattle.bidi_grammar.specs.Term.{Need, required, optional, Bound, Row, row, names_of, Term, exactly, text, bool, truth, null, whole, number, any, list_of, tuple_of, map_of, either, rule, nothing, Grammar, term_at}
use Rattle.bidi_grammar.specs.Fits.{count, without, takes, is_plain, Fits, fits_exactly, fits_text, fits_bool, fits_truth, fits_null, fits_whole, fits_number, fits_any, fits_list, fits_tuple, fits_map, fits_first, fits_second, fits_rule}
use Rattle.bidi_grammar.specs.Fits.{AllFit, no_item, an_item, EachFits, no_part, a_part, RowsFit, no_row, there, absent, OthersFit, no_other, an_other}
use Rattle.bidi_grammar.specs.Reason.{PathStep, Reason}
use Rattle.bidi_grammar.specs.Judges.{Answer, yes_left, no_left, gave_up, stops, through, after_first, by_rule}
use Rattle.bidi_grammar.specs.Judges.{Judges, no_look, not_taken, taken, in_list, in_tuple, in_map, in_first, out_in_first, in_second, of_rule}
use Rattle.bidi_grammar.specs.Judges.{ItemsJudge, all_asked, at_item, next_item, PartsJudge, parts_asked, at_part, next_part}
use Rattle.bidi_grammar.specs.Judges.{RowsJudge, is_missing, at_row, row_met, is_absent, rows_met, OthersJudge, others_asked, is_unknown, at_other, next_other}

-- ---- what fits is taken, and what a plain term takes fits

passed : (b : Bool) → b ≡ true → T b
passed true e = tt
passed false e = absurd (true≢false (sym e))

pass : (b : Bool) → T b → b ≡ true
pass true h = refl
pass false h = absurd h

each_counted : {g : Grammar} {ts : Items} {ns : List ℕ} → EachFits g ts ns → count ts ≡ length ns
each_counted no_part = refl
each_counted (a_part t ts n ns f more) = ap suc (each_counted more)

taken_of : {g : Grammar} {t : Json} {τ : Term} → Fits g t τ → takes t τ ≡ true
taken_of (fits_exactly s) = (bytes_eq-Decides s s).1 refl
taken_of (fits_text s) = refl
taken_of (fits_bool b) = refl
taken_of (fits_truth true) = refl
taken_of (fits_truth false) = refl
taken_of fits_null = refl
taken_of (fits_whole s z a b e h k) = rw e (and_from (int_le a z) (int_le z b) (pass (int_le a z) h.le) (pass (int_le z b) k.le))
taken_of (fits_number s a b e) = e
taken_of (fits_any t) = refl
taken_of (fits_list ts least n h f) = le-leb least (count ts) h
taken_of (fits_tuple ts ns f) = eq-eqb (count ts) (length ns) (each_counted f)
taken_of (fits_map ms rows rest f h) = refl
taken_of (fits_first t m n f) = refl
taken_of (fits_second t m n f) = refl
taken_of (fits_rule t k n f) = refl

exactly_taken : (g : Grammar) (t : Json) (u : List ℕ) → takes t (exactly u) ≡ true → Fits g t (exactly u)
exactly_taken g (json.string s) u e = subst (λ x. Fits g (json.string s) (exactly x)) ((bytes_eq-Decides s u).0 e) (fits_exactly s)
exactly_taken g t u e = absurd (cc)

text_taken : (g : Grammar) (t : Json) → takes t text ≡ true → Fits g t text
text_taken g (json.string s) e = fits_text s
text_taken g t e = absurd (cc)

bool_taken : (g : Grammar) (t : Json) → takes t bool ≡ true → Fits g t bool
bool_taken g (json.boolean b) e = fits_bool b
bool_taken g t e = absurd (cc)

truth_taken : (g : Grammar) (t : Json) (b : Bool) → takes t (truth b) ≡ true → Fits g t (truth b)
truth_taken g (json.boolean true) true e = fits_truth true
truth_taken g (json.boolean false) false e = fits_truth false
truth_taken g t b e = absurd (cc)

null_taken : (g : Grammar) (t : Json) → takes t null ≡ true → Fits g t null
null_taken g json.null e = fits_null
null_taken g t e = absurd (cc)

whole_at : (g : Grammar) (s : List ℕ) (a b : ℤ) (o : Option ℤ) → whole_in s ≡ o → option_map_or (λ z. int_le a z && int_le z b) o false ≡ true
    → Fits g (json.number s) (whole a b)
whole_at g s a b None is e = absurd (cc)
whole_at g s a b (Some z) is e =
    let p = and_parts (int_le a z) (int_le z b) e in
    fits_whole s z a b is (le_z_yes (passed (int_le a z) p.0)) (le_z_yes (passed (int_le z b) p.1))

whole_taken : (g : Grammar) (t : Json) (a b : ℤ) → takes t (whole a b) ≡ true → Fits g t (whole a b)
whole_taken g (json.number s) a b e = whole_at g s a b (whole_in s) refl e
whole_taken g t a b e = absurd (cc)

number_taken : (g : Grammar) (t : Json) (a b : Bound) → takes t (number a b) ≡ true → Fits g t (number a b)
number_taken g (json.number s) a b e = fits_number s a b e
number_taken g t a b e = absurd (cc)

plain_fits : (g : Grammar) (t : Json) (τ : Term) → is_plain τ ≡ true → takes t τ ≡ true → Fits g t τ
plain_fits g t (exactly s) p e = exactly_taken g t s e
plain_fits g t text p e = text_taken g t e
plain_fits g t bool p e = bool_taken g t e
plain_fits g t (truth b) p e = truth_taken g t b e
plain_fits g t null p e = null_taken g t e
plain_fits g t (whole a b) p e = whole_taken g t a b e
plain_fits g t (number a b) p e = number_taken g t a b e
plain_fits g t any p e = fits_any t
plain_fits g t nothing p e = absurd (true≢false (sym e))
plain_fits g t τ p e = absurd (cc)

-- ---- what is inside of what fits

list_inside : {g : Grammar} {ts : Items} {least n : ℕ} → Fits g (json.array ts) (list_of least n) → AllFit g ts n
list_inside (fits_list ts least n h f) = f

tuple_inside : {g : Grammar} {ts : Items} {ns : List ℕ} → Fits g (json.array ts) (tuple_of ns) → EachFits g ts ns
tuple_inside (fits_tuple ts ns f) = f

map_inside : {g : Grammar} {ms : Members} {rows : List Row} {rest : Option ℕ} → Fits g (json.object ms) (map_of rows rest)
    → RowsFit g (json.object ms) rows × OthersFit g rest (without (names_of rows) ms)
map_inside (fits_map ms rows rest f h) = (f, h)

either_inside : {g : Grammar} {t : Json} {m n : ℕ} → Fits g t (either m n) → Fits g t (term_at g m) ⊎ Fits g t (term_at g n)
either_inside (fits_first t m n f) = inl f
either_inside (fits_second t m n f) = inr f

rule_inside : {g : Grammar} {t : Json} {k : List ℕ} {n : ℕ} → Fits g t (rule k n) → Fits g t (term_at g n)
rule_inside (fits_rule t k n f) = f

item_inside : {g : Grammar} {t : Json} {ts : Items} {n : ℕ} → AllFit g (item t ts) n → Fits g t (term_at g n) × AllFit g ts n
item_inside (an_item t ts n f fs) = (f, fs)

part_inside : {g : Grammar} {t : Json} {ts : Items} {n : ℕ} {ns : List ℕ} → EachFits g (item t ts) (n ∷ ns) → Fits g t (term_at g n) × EachFits g ts ns
part_inside (a_part t ts n ns f fs) = (f, fs)

some_same : {X : Type 0} (x y : X) → Some x ≡ Some y → x ≡ y
some_same x y e = cc

row_there : {g : Grammar} {t : Json} {k : List ℕ} {need : Need} {n : ℕ} {rows : List Row} → RowsFit g t ((row k need n) ∷ rows)
    → (u : Json) → get k t ≡ Some u → Fits g u (term_at g n)
row_there {g} (there t k need n rows v e f more) u is = subst (λ w. Fits g w (term_at g n)) (some_same v u (sym e ∙ is)) f
row_there (absent t k n rows e more) u is = absurd (cc)

rows_left : {g : Grammar} {t : Json} {k : List ℕ} {need : Need} {n : ℕ} {rows : List Row} → RowsFit g t ((row k need n) ∷ rows) → RowsFit g t rows
rows_left (there t k need n rows u e f more) = more
rows_left (absent t k n rows e more) = more

row_required : {g : Grammar} {t : Json} {k : List ℕ} {n : ℕ} {rows : List Row} → RowsFit g t ((row k required n) ∷ rows) → get k t ≡ None → ⊥
row_required (there t k need n rows u e f more) is = absurd (cc)

other_inside : {g : Grammar} {n : ℕ} {k : List ℕ} {t : Json} {ms : Members} → OthersFit g (Some n) (member k t ms) → Fits g t (term_at g n) × OthersFit g (Some n) ms
other_inside (an_other n k t ms f more) = (f, more)

none_other : {g : Grammar} {k : List ℕ} {t : Json} {ms : Members} → OthersFit g None (member k t ms) → ⊥
none_other f = elim f [ ]

-- ---- what an answer says

-- of a fact that the answer decides
abbrev pub Says : Type 0 → Answer → Type 0
Says P (yes_left k) = P
Says P (no_left k r) = P → ⊥
Says P gave_up = ⊤

-- what is said of a part that stops is said of the whole
stopped : (P Q : Type 0) (tags : ℕ) (s : PathStep) (a : Answer) → (Q → P) → stops a ≡ true → Says P a → Says Q (through tags s a)
stopped P Q tags s (yes_left k) f e h = absurd (true≢false (sym e))
stopped P Q tags s (no_left k r) f e h = λ q. h (f q)
stopped P Q tags s gave_up f e h = tt

-- what is said of one fact is said of another that holds exactly if the first does
same : (P Q : Type 0) (a : Answer) → (P → Q) → (Q → P) → Says P a → Says Q a
same P Q (yes_left k) f h s = f s
same P Q (no_left k r) f h s = λ q. s (h q)
same P Q gave_up f h s = tt

named : (P Q : Type 0) (n : ℕ) (a : Answer) → (P → Q) → (Q → P) → Says P a → Says Q (by_rule n a)
named P Q n (yes_left k) f h s = f s
named P Q n (no_left k r) f h s = λ q. s (h q)
named P Q n gave_up f h s = tt

second : (P Q : Type 0) (t : Json) (n : ℕ) (r : Reason) (a : Answer) → (P → Q) → (Q → P) → Says P a → Says Q (after_first t n r a)
second P Q t n r (yes_left k) f h s = f s
second P Q t n r (no_left k b) f h s = λ q. s (h q)
second P Q t n r gave_up f h s = tt

module _ {g : Grammar} where
  mutual
    -- an answer is right
    pub says : {k n : ℕ} {t : Json} {τ : Term} {a : Answer} → Judges g k t n τ a → Says (Fits g t τ) a
    says (no_look t n τ) = tt
    says (not_taken k t n τ e) = λ f. true≢false (sym (taken_of f) ∙ e)
    says (taken k t n τ p e) = plain_fits g t τ p e
    says (in_list k ts n least m a e j) =
        same (AllFit g ts m) (Fits g (json.array ts) (list_of least m)) a (λ f. fits_list ts least m (leb-true least (count ts) e) f) (λ f. list_inside f) (items_say j)
    says (in_tuple k ts n ns a e j) =
        same (EachFits g ts ns) (Fits g (json.array ts) (tuple_of ns)) a (λ f. fits_tuple ts ns f) (λ f. tuple_inside f) (parts_say j)
    says (in_map k ms n rows rest a j) =
        same (RowsFit g (json.object ms) rows × OthersFit g rest (without (names_of rows) ms)) (Fits g (json.object ms) (map_of rows rest)) a
        (λ f. fits_map ms rows rest f.0 f.1) (λ f. map_inside f) (rows_say j)
    says (in_first k t n l m j p) = fits_first t l m (says p)
    says (out_in_first k t n l m p) = tt
    says (in_second k t n l m j r a p q) =
        second (Fits g t (term_at g m)) (Fits g t (either l m)) t n r a (λ f. fits_second t l m f)
        (λ f. elim (either_inside f) [ inl h ↦ absurd (says p h) | inr h ↦ h ]) (says q)
    says (of_rule k t n m name a p) = named (Fits g t (term_at g m)) (Fits g t (rule name m)) n a (λ f. fits_rule t name m f) (λ f. rule_inside f) (says p)

    items_say : {k i n : ℕ} {ts : Items} {a : Answer} → ItemsJudge g k i ts n a → Says (AllFit g ts n) a
    items_say (all_asked k i n) = no_item n
    items_say (at_item k i t ts n a p e) = stopped (Fits g t (term_at g n)) (AllFit g (item t ts) n) 0 (PathStep.item i) a (λ f. (item_inside f).0) e (says p)
    items_say (next_item k i t ts n j a p q) =
        same (AllFit g ts n) (AllFit g (item t ts) n) a (λ f. an_item t ts n (says p) f) (λ f. (item_inside f).1) (items_say q)

    parts_say : {k i : ℕ} {ts : Items} {ns : List ℕ} {a : Answer} → PartsJudge g k i ts ns a → Says (EachFits g ts ns) a
    parts_say (parts_asked k i) = no_part
    parts_say (at_part k i t ts n ns a p e) =
        stopped (Fits g t (term_at g n)) (EachFits g (item t ts) (n ∷ ns)) 0 (PathStep.item i) a (λ f. (part_inside f).0) e (says p)
    parts_say (next_part k i t ts n ns j a p q) =
        same (EachFits g ts ns) (EachFits g (item t ts) (n ∷ ns)) a (λ f. a_part t ts n ns (says p) f) (λ f. (part_inside f).1) (parts_say q)

    rows_say : {k tags : ℕ} {rest : Option ℕ} {others : Members} {t : Json} {rows : List Row} {a : Answer} → RowsJudge g k rest others tags t rows a
        → Says (RowsFit g t rows × OthersFit g rest others) a
    rows_say (is_missing k rest others tags t name n rows e) = λ f. row_required f.0 e
    rows_say (at_row k rest others tags t name need n rows u a is p e) =
        stopped (Fits g u (term_at g n)) (RowsFit g t ((row name need n) ∷ rows) × OthersFit g rest others) tags (PathStep.member name) a
        (λ f. row_there f.0 u is) e (says p)
    rows_say (row_met k rest others tags t name need n rows u j a is p q) =
        same (RowsFit g t rows × OthersFit g rest others) (RowsFit g t ((row name need n) ∷ rows) × OthersFit g rest others) a
        (λ f. (there t name need n rows u is (says p) f.0, f.1)) (λ f. (rows_left f.0, f.1)) (rows_say q)
    rows_say (is_absent k rest others tags t name n rows a e q) =
        same (RowsFit g t rows × OthersFit g rest others) (RowsFit g t ((row name optional n) ∷ rows) × OthersFit g rest others) a
        (λ f. (absent t name n rows e f.0, f.1)) (λ f. (rows_left f.0, f.1)) (rows_say q)
    rows_say (rows_met k rest others tags t a q) =
        same (OthersFit g rest others) (RowsFit g t [] × OthersFit g rest others) a (λ f. (no_row t, f)) (λ f. f.1) (others_say q)

    others_say : {k tags : ℕ} {rest : Option ℕ} {others : Members} {a : Answer} → OthersJudge g k rest tags others a → Says (OthersFit g rest others) a
    others_say (others_asked k rest tags) = no_other rest
    others_say (is_unknown k tags name t ms) = λ f. none_other f
    others_say (at_other k n tags name t ms a p e) =
        stopped (Fits g t (term_at g n)) (OthersFit g (Some n) (member name t ms)) tags (PathStep.member name) a (λ f. (other_inside f).0) e (says p)
    others_say (next_other k n tags name t ms j a p q) =
        same (OthersFit g (Some n) ms) (OthersFit g (Some n) (member name t ms)) a (λ f. an_other n name t ms (says p) f) (λ f. (other_inside f).1) (others_say q)
