-- The form of a tree that fits a term, and the terms that its parts fit.
use Rattle.std.proofs.Common.{◌≡◌, ◌≤◌, ◌⊎◌, ℕ, max, ℤ, pos, List, Bool, Option, Some, None, refl, inl, inr, arith}
use Rattle.std.proofs.lemmas.Bool.{or_parts, or_from}
use Rattle.bidi_tree.specs.Number.{IsJsUint, IsJsInt}
use Rattle.bidi_tree.specs.Node as node
use Rattle.bidi_tree.specs.Node.{Node, Items, no_items, item, Members, no_members, member, get_member}
use Rattle.bidi_tree.specs.Node.{levels, members_levels, has_odd, members_have_odd, IsWhole}
use Rattle.bidi_shape.specs.Name.{Name}
use Rattle.bidi_shape.specs.Term.{Need, required, optional, Openness, extensible, Term, exactly, text, bool, null, js_uint}
use Rattle.bidi_shape.specs.Term.{js_int, any, list_of, pair_of, map_of, either, rule, capped, Rows, row, names_of}
use Rattle.bidi_shape.specs.Profile.{term_of}
use Rattle.bidi_shape.specs.Fits.{count, without, OthersFit, Fits, fits_exactly, fits_text, fits_bool, fits_null}
use Rattle.bidi_shape.specs.Fits.{fits_js_uint, fits_js_int, fits_any, fits_list, fits_pair, fits_map, fits_first}
use Rattle.bidi_shape.specs.Fits.{fits_second, fits_rule, fits_capped, AllFit, an_item, RowsFit, there, absent}

-- ---- the kind of tree that fits

-- a tree that fits one exact string is that string
pub exactly_kind : {t : Node} {s : List ℕ} → Fits t (exactly s) → t ≡ node.text s
exactly_kind (fits_exactly s) = refl

-- a tree that fits text is a string
pub text_kind : {t : Node} → Fits t text → (s : List ℕ) × (t ≡ node.text s)
text_kind (fits_text s) = (s, refl)

-- a tree that fits bool is a Boolean
pub bool_kind : {t : Node} → Fits t bool → (b : Bool) × (t ≡ node.boolean b)
bool_kind (fits_bool b) = (b, refl)

-- a tree that fits null is null
pub null_kind : {t : Node} → Fits t null → t ≡ node.null
null_kind fits_null = refl

-- a tree that fits js-uint is a whole number that is not negative
pub js_uint_kind : {t : Node} → Fits t js_uint → (n : ℕ) × (t ≡ node.whole (pos n))
js_uint_kind (fits_js_uint n h) = (n, refl)

-- a tree that fits js-int is a whole number
pub js_int_kind : {t : Node} → Fits t js_int → (z : ℤ) × (t ≡ node.whole z)
js_int_kind (fits_js_int z h) = (z, refl)

-- a tree that fits an array of a term is an array
pub list_kind : {t : Node} {least : ℕ} {τ : Term} → Fits t (list_of least τ) → (ts : Items) × (t ≡ node.list ts)
list_kind (fits_list ts least τ h f) = (ts, refl)

-- a tree that fits a pair is an array of two items
pub pair_kind : {t : Node} {σ τ : Term} → Fits t (pair_of σ τ) → (u : Node) × ((v : Node) × (t ≡ node.list (item u (item v no_items))))
pair_kind (fits_pair u v σ τ f g) = (u, (v, refl))

-- a tree that fits the rule of an object is an object
pub map_kind : {t : Node} {rows : Rows} {o : Openness} → Fits t (map_of rows o) → (ms : Members) × (t ≡ node.map ms)
map_kind (fits_map ms rows o f h) = (ms, refl)

-- ---- numbers, texts and any

-- a text that fits one exact text is that text
pub exactly_inside : {s u : List ℕ} → Fits (node.text s) (exactly u) → s ≡ u
exactly_inside (fits_exactly s) = refl

-- a number that fits js-uint is in its range
pub js_uint_inside : {n : ℕ} → Fits (node.whole (pos n)) js_uint → IsJsUint n
js_uint_inside (fits_js_uint n h) = h

pub js_int_inside : {z : ℤ} → Fits (node.whole z) js_int → IsJsInt z
js_int_inside (fits_js_int z h) = h

-- a tree that fits any is whole within 60 levels
pub any_inside : {t : Node} → Fits t any → IsWhole t 60
any_inside (fits_any t h) = h

-- ---- lists and pairs

-- a list that fits has items enough, and each fits
pub list_inside : {ts : Items} {least : ℕ} {τ : Term} → Fits (node.list ts) (list_of least τ) → (least ≤ count ts) × AllFit ts τ
list_inside (fits_list ts least τ h f) = (h, f)

-- if the items of an array fit, the first item fits and so do the others
pub item_inside : {t : Node} {ts : Items} {τ : Term} → AllFit (item t ts) τ → Fits t τ × AllFit ts τ
item_inside (an_item t ts τ f fs) = (f, fs)

-- in a list that fits a pair, both items fit
pub pair_inside : {t u : Node} {σ τ : Term} → Fits (node.list (item t (item u no_items))) (pair_of σ τ) → Fits t σ × Fits u τ
pair_inside (fits_pair t u σ τ f g) = (f, g)

-- ---- maps

-- if an object fits, its rows fit and so do its other members
pub map_inside : {ms : Members} {rows : Rows} {o : Openness} → Fits (node.map ms) (map_of rows o) → RowsFit ms rows × OthersFit o (without (names_of rows) ms)
map_inside (fits_map ms rows o f h) = (f, h)

-- the condition of a row on the member of its name
abbrev pub RowFits : Need → Term → Option Node → Type 0
RowFits need τ (Some t) = Fits t τ
RowFits required τ None = ⊥
RowFits optional τ None = Unit {0}

RowFits-Some : (need : Need) (τ : Term) (o : Option Node) (t : Node) → o ≡ Some t → Fits t τ → RowFits need τ o
RowFits-Some need τ (Some u) t e f = let same : u ≡ t = cc in rw same f
RowFits-Some need τ None t e f = cc

RowFits-None : (τ : Term) (o : Option Node) → o ≡ None → RowFits optional τ o
RowFits-None τ (Some u) e = cc
RowFits-None τ None e = tt

-- if the rows fit, the first row does and so do the others
pub row_inside : {ms : Members} {k : List ℕ} {need : Need} {τ : Term} {rows : Rows}
    → RowsFit ms (row k need τ rows) → RowFits need τ (get_member k ms) × RowsFit ms rows
row_inside (there ms k need τ rows t e f more) = (RowFits-Some need τ (get_member k ms) t e f, more)
row_inside (absent ms k τ rows e more) = (RowFits-None τ (get_member k ms) e, more)

-- a row that fits may be added in front of rows that fit
pub row_fits : (ms : Members) (k : List ℕ) (need : Need) (τ : Term) (rows : Rows)
    → RowFits need τ (get_member k ms) → RowsFit ms rows → RowsFit ms (row k need τ rows)
row_fits ms k need τ rows f more = go need (get_member k ms) refl f
  where
    go : (n : Need) (o : Option Node) → get_member k ms ≡ o → RowFits n τ o → RowsFit ms (row k n τ rows)
    go n (Some t) e f = there ms k n τ rows t e f more
    go required None e f = absurd f
    go optional None e f = absent ms k τ rows e more

-- if the other members of an extensible object fit any, the first does and so do the others
pub others_inside : (k : List ℕ) (t : Node) (ms : Members) → OthersFit extensible (member k t ms) → Fits t any × OthersFit extensible ms
others_inside k t ms h =
    let whole = or_parts (has_odd t) (members_have_odd ms) h.0 in
    let deep : max (levels t) (members_levels ms) ≤ 60 = h.1 in
    (fits_any t (whole.0, omega arith), (whole.1, omega arith))

-- a member that fits any may be added in front of others that do
pub others_fit : (k : List ℕ) (t : Node) (ms : Members) → Fits t any → OthersFit extensible ms → OthersFit extensible (member k t ms)
others_fit k t ms f h =
    let w = any_inside f in
    let here : levels t ≤ 60 = w.1 in
    let more : members_levels ms ≤ 60 = h.1 in
    (or_from (has_odd t) (members_have_odd ms) w.0 h.0, omega arith)

-- ---- choices, rules and caps

-- a tree that fits a choice fits one of the two
pub either_inside : {t : Node} {σ τ : Term} → Fits t (either σ τ) → Fits t σ ⊎ Fits t τ
either_inside (fits_first t σ τ f) = inl f
either_inside (fits_second t σ τ f) = inr f

-- a tree that fits a rule fits its term
pub rule_inside : {t : Node} {n : Name} → Fits t (rule n) → Fits t (term_of n)
rule_inside (fits_rule t n f) = f

-- a tree that fits under a cap has at most 60 levels and fits
pub capped_inside : {t : Node} {τ : Term} → Fits t (capped τ) → (levels t ≤ 60) × Fits t τ
capped_inside (fits_capped t τ h f) = (h, f)
