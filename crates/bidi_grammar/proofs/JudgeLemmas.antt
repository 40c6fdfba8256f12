-- What judging a value ends with, by what judging its parts does.
use Rattle.std.proofs.Common.{◌≡◌, ◌∙◌, ◌≤◌, ◌<◌, ◌+◌, ◌-◌, ℕ, zero, suc, List, [], ◌∷◌, Bool, true, false, Option, Some, None, refl, ap, subst, sym, arith, length, map, get_or, drop, ltb-true}
use Rattle.std.proofs.Math.Seq.{drop-cons}
use Rattle.std.proofs.lemmas.Bool.{and_parts}
use Rattle.std.proofs.lemmas.Bool.{eqb-true}
use Rattle.std.specs.Option.{option_map_or}
use Rattle.std.specs.Prelude.{nat_lt, ◌==◌, if◌then◌else◌}
use Rattle.std.specs.Borrow.{Bor}
use Rattle.std.specs.List.{list_any}
use Rattle.std.specs.Str.{bytes_eq}
use Rattle.json.specs.Json as json
use Rattle.json.specs.Json.{Json, Items, item, no_items, Members, member}
use Rattle.json.specs.Find.{get, as_array, as_object}
use Rattle.json.specs.Value.{value_view, items_view, members_view}
use Rattle.json.specs.declared.value.Value.{Value}
use Rattle.bidi_grammar.specs.Term.{Need, required, Row, row, names_of, Term, list_of, tuple_of, map_of, Grammar}
use Rattle.bidi_grammar.specs.Fits.{count, is_plain, takes, without}
use Rattle.bidi_grammar.specs.Judges.{Answer, yes_left, no_left, Judges, taken, in_list, in_tuple, in_map, ItemsJudge, PartsJudge, RowsJudge, is_missing}
use Rattle.bidi_grammar.specs.Reason.{is_tag, missing, tags_with}
use Rattle.bidi_grammar.specs.View.{row_of, rows_are_within, are_within}
use Rattle.bidi_grammar.specs.declared.term.Row as code_row
use Rattle.bidi_grammar.proofs.LevelLemmas.{array_of, object_of}

-- the rest of a list begins with the element at its place
pub nth : {X : Type 0} (xs : List X) (i : ℕ) (x : X) → i < length xs → x ≡ get_or xs i x → drop i xs ≡ x ∷ drop (i + 1) xs
nth xs i x few at =
    let next : suc i ≡ i + 1 = omega arith in
    drop-cons xs i x few ∙ ap (λ y. y ∷ drop (suc i) xs) (sym at) ∙ ap (λ j. x ∷ drop j xs) next

-- a list of items as it is read on
pub item_here : {A : Type 0} (xs : List (Value A)) (i : ℕ) (x : Value A) → i < length xs → x ≡ get_or xs i x
    → items_view (drop i xs) ≡ item (value_view x) (items_view (drop (i + 1) xs))
item_here xs i x few at = ap items_view (nth xs i x few at)

-- ---- rows of the code, read on one by one

pub row_at : (rows : List code_row.Row) (i : ℕ) (r : code_row.Row) → i < length rows → r ≡ get_or rows i r → map row_of (drop i rows) ≡ row_of r ∷ map row_of (drop (i + 1) rows)
row_at rows i r few at = ap (map row_of) (nth rows i r few at)

pub rows_within_at : (size : ℕ) (rows : List code_row.Row) (i : ℕ) (r : code_row.Row) → i < length rows → r ≡ get_or rows i r
    → rows_are_within size (map row_of (drop i rows)) ≡ true → (r.term < size) × (rows_are_within size (map row_of (drop (i + 1) rows)) ≡ true)
rows_within_at size rows i r few at h =
    let p = and_parts (nat_lt r.term size) (rows_are_within size (map row_of (drop (i + 1) rows))) (ap (rows_are_within size) (sym (row_at rows i r few at)) ∙ h) in
    (ltb-true r.term size p.0, p.1)

-- the number at a place, and those after it
pub number_at : (ns : List ℕ) (i : ℕ) → i < length ns → drop i ns ≡ get_or ns i 0 ∷ drop (i + 1) ns
number_at ns i few = let next : suc i ≡ i + 1 = omega arith in drop-cons ns i 0 few ∙ ap (λ j. get_or ns i 0 ∷ drop j ns) next

-- one of some places of the table is a place of the table
pub within_at : (size : ℕ) (ns : List ℕ) (i : ℕ) → i < length ns → are_within size ns ≡ true → get_or ns i 0 < size
within_at size [] i few h = absurd (omega (arith, few))
within_at size (m ∷ ns) zero few h = let p = and_parts (nat_lt m size) (are_within size ns) h in ltb-true m size p.0
within_at size (m ∷ ns) (suc i) few h = let p = and_parts (nat_lt m size) (are_within size ns) h in within_at size ns i (omega (arith, few)) p.1

-- ---- further members

-- a member that a row names is passed over; another stays
named_out : (names : List (List ℕ)) (k : List ℕ) (t : Json) (ms : Members) → list_any (bytes_eq k) names ≡ true → without names (member k t ms) ≡ without names ms
named_out names k t ms e = rw e refl

other_in : (names : List (List ℕ)) (k : List ℕ) (t : Json) (ms : Members) → list_any (bytes_eq k) names ≡ false
    → without names (member k t ms) ≡ member k t (without names ms)
other_in names k t ms e = rw e refl

pub other_kept : {A : Type 0} (names : List (List ℕ)) (ms : List (Bor (List ℕ) × Value A)) (i : ℕ) (m : Bor (List ℕ) × Value A) → i < length ms → m ≡ get_or ms i m
    → list_any (bytes_eq m.0.now) names ≡ false
    → without names (members_view (drop i ms)) ≡ member m.0.now (value_view m.1) (without names (members_view (drop (i + 1) ms)))
other_kept names ms i m few at other =
    ap (λ es. without names (members_view es)) (nth ms i m few at) ∙ other_in names m.0.now (value_view m.1) (members_view (drop (i + 1) ms)) other

pub other_gone : {A : Type 0} (names : List (List ℕ)) (ms : List (Bor (List ℕ) × Value A)) (i : ℕ) (m : Bor (List ℕ) × Value A) → i < length ms → m ≡ get_or ms i m
    → list_any (bytes_eq m.0.now) names ≡ true
    → without names (members_view (drop i ms)) ≡ without names (members_view (drop (i + 1) ms))
other_gone names ms i m few at other =
    ap (λ es. without names (members_view es)) (nth ms i m few at) ∙ named_out names m.0.now (value_view m.1) (members_view (drop (i + 1) ms)) other

-- ---- tags

more_if : (b : Bool) (n : ℕ) → (if b then suc n else n) ≤ n + 1
more_if true n = omega arith
more_if false n = omega arith

-- a tag more is one more at most
pub more_tags : (n : ℕ) (k : List ℕ) → tags_with n k ≤ n + 1
more_tags n k = more_if (is_tag k) n

-- ---- whole values

pub plain_judged : (g : Grammar) (k : ℕ) (t : Json) (n : ℕ) (σ τ : Term) → σ ≡ τ → is_plain τ ≡ true → takes t σ ≡ true → Judges g (suc k) t n σ (yes_left k)
plain_judged g k t n σ τ e p h = taken k t n σ (subst (λ x. is_plain x ≡ true) (sym e) p) h

pub list_judged : (g : Grammar) (k : ℕ) (t : Json) (n : ℕ) (σ : Term) (least m : ℕ) (ts : Items) (a : Answer) → σ ≡ list_of least m → Some ts ≡ as_array t → takes t σ ≡ true
    → ItemsJudge g k 0 ts m a → Judges g (suc k) t n σ a
list_judged g k t n σ least m ts a e is h j =
    let same = array_of t ts is in
    let here : takes (json.array ts) (list_of least m) ≡ true = subst (λ x. takes (json.array ts) x ≡ true) e (subst (λ u. takes u σ ≡ true) same h) in
    subst (λ x. Judges g (suc k) t n x a) (sym e) (subst (λ u. Judges g (suc k) u n (list_of least m) a) (sym same) (in_list k ts n least m a here j))

pub tuple_judged : (g : Grammar) (k : ℕ) (t : Json) (n : ℕ) (σ : Term) (ns : List ℕ) (ts : Items) (a : Answer) → σ ≡ tuple_of ns → Some ts ≡ as_array t → takes t σ ≡ true
    → PartsJudge g k 0 ts ns a → Judges g (suc k) t n σ a
tuple_judged g k t n σ ns ts a e is h j =
    let same = array_of t ts is in
    let here : takes (json.array ts) (tuple_of ns) ≡ true = subst (λ x. takes (json.array ts) x ≡ true) e (subst (λ u. takes u σ ≡ true) same h) in
    subst (λ x. Judges g (suc k) t n x a) (sym e) (subst (λ u. Judges g (suc k) u n (tuple_of ns) a) (sym same) (in_tuple k ts n ns a here j))

pub map_judged : (g : Grammar) (k : ℕ) (t : Json) (n : ℕ) (σ : Term) (rows : List Row) (rest : Option ℕ) (ms : Members) (a : Answer) → σ ≡ map_of rows rest → Some ms ≡ as_object t
    → RowsJudge g k rest (without (names_of rows) ms) 0 t rows a → Judges g (suc k) t n σ a
map_judged g k t n σ rows rest ms a e is j =
    let same = object_of t ms is in
    let here = subst (λ u. RowsJudge g k rest (without (names_of rows) ms) 0 u rows a) same j in
    subst (λ x. Judges g (suc k) t n x a) (sym e) (subst (λ u. Judges g (suc k) u n (map_of rows rest) a) (sym same) (in_map k ms n rows rest a here))

-- a row that is required and not met
pub row_missing : (g : Grammar) (k : ℕ) (rest : Option ℕ) (others : Members) (tags : ℕ) (t : Json) (name : List ℕ) (need : Need) (n : ℕ) (rows : List Row) → need ≡ required
    → get name t ≡ None → RowsJudge g k rest others tags t ((row name need n) ∷ rows) (no_left k (missing tags name n))
row_missing g k rest others tags t name need n rows is e =
    subst (λ x. RowsJudge g k rest others tags t ((row name x n) ∷ rows) (no_left k (missing tags name n))) (sym is) (is_missing k rest others tags t name n rows e)

-- an array has as many items as the code's
pub count-items_view : {A : Type 0} (xs : List (Value A)) → count (items_view xs) ≡ length xs
count-items_view [] = refl
count-items_view (x ∷ xs) = ap suc (count-items_view xs)

pub same_long : {A : Type 0} (t : Json) (ns : List ℕ) (xs : List (Value A)) → takes t (tuple_of ns) ≡ true → Some (items_view xs) ≡ as_array t → length xs ≡ length ns
same_long t ns xs h is =
    let same : takes t (tuple_of ns) ≡ (count (items_view xs) == length ns) = ap (λ o. option_map_or (λ ts. count ts == length ns) o false) (sym is) in
    sym (count-items_view xs) ∙ eqb-true (count (items_view xs)) (length ns) (sym same ∙ h)

-- one look less
pub one_less : (k : ℕ) → (k ≡ 0 → ⊥) → suc (k - 1) ≡ k
one_less zero f = absurd (f refl)
one_less (suc k) f = omega arith
