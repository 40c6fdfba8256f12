-- What is said of a tree and its parts, by the form of the term.
use Rattle.std.proofs.Common.{◌≡◌, ◌∙◌, ℕ, suc, ◌+◌, List, [], ◌∷◌, length, map, get_or, Bool, true, false, not, Option, Some, None, bytes_eq, refl, sym, ap, subst, drop, ◌==◌, nat_le, leb-true, true≢false, arith}
use Rattle.std.proofs.lemmas.Bool.{and_parts, or_from, eqb-true}
use Rattle.std.specs.Prelude.{◌≤◌, ◌<◌, if◌then◌else◌}
use Rattle.std.specs.Option.{option_map_or}
use Rattle.std.specs.List.{list_any}
use Rattle.bidi_tree.specs.Node as node
use Rattle.bidi_tree.specs.Node.{Node, Items, no_items, item, Members, no_members, member, get_member, levels, items_levels, members_levels, has_odd, items_have_odd}
use Rattle.bidi_tree.specs.Kind.{list_in, map_in}
use Rattle.bidi_tree.specs.Outline.{outline_node, named_outlines}
use Rattle.bidi_tree.specs.View.{items_of}
use Rattle.bidi_tree.proofs.OutlineLemmas.{OutlineMember, nth}
use Rattle.bidi_shape.specs.Name.{Name}
use Rattle.bidi_shape.specs.Term.{Need, required, Openness, extensible, Term, any, list_of, pair_of, map_of, rule, capped, Rows, row, names_of}
use Rattle.bidi_shape.specs.Profile.{term_of}
use Rattle.bidi_shape.specs.Fits.{count, without, OthersFit, Fits, fits_any, fits_list, fits_pair, fits_map, fits_first, fits_rule, fits_capped}
use Rattle.bidi_shape.specs.Fits.{AllFit, RowsFit}
use Rattle.bidi_shape.proofs.FitsLemmas.{any_inside, item_inside}
use Rattle.bidi_rules.specs.Grammar.{one_of}
use Rattle.bidi_blame.specs.Reason as step
use Rattle.bidi_blame.specs.Reason.{Reason, missing, under, by, is_tag, tags_with}
use Rattle.bidi_blame.specs.Blames.{takes, is_odd, Judged, ItemsJudged, RowsJudged, OthersJudged, Blames, in_any_list, in_any_map, in_list, in_first, in_second, in_map, of_rule, of_capped}
use Rattle.bidi_blame.specs.Blames.{RowsBlame, is_missing}
use Rattle.bidi_blame.specs.Blames.{OthersBlame}

-- ---- choices

-- what fits the first of some terms fits one of them
pub first_of : (t : Node) (σ : Term) (τs : List Term) → Fits t σ → Fits t (one_of σ τs)
first_of t σ [] f = f
first_of t σ (τ ∷ τs) f = fits_first t σ (one_of τ τs) f

-- ---- names and caps

pub judged_rule : (t : Node) (n : Name) (τ : Term) → τ ≡ term_of n → Fits t τ → Fits t (rule n)
judged_rule t n τ e f = fits_rule t n (subst (λ x. Fits t x) e f)

pub blames_rule : (t : Node) (n : Name) (τ : Term) (r : Reason) → τ ≡ term_of n → Blames t τ r → Blames t (rule n) (by n r)
blames_rule t n τ r e b = of_rule t n r (subst (λ x. Blames t x r) e b)

-- of a tree of few levels the cap says nothing
pub judged_capped : (t : Node) (τ : Term) (o : Option Reason) → takes t (capped τ) ≡ true → Judged t τ o → Judged t (capped τ) o
judged_capped t τ None e f = fits_capped t τ (leb-true (levels t) 60 e) f
judged_capped t τ (Some r) e b = of_capped t τ r e b

-- ---- others

-- a member that no row names stays
without_other : (names : List (List ℕ)) (k : List ℕ) (t : Node) (ms : Members) → list_any (bytes_eq k) names ≡ false
    → without names (member k t ms) ≡ member k t (without names ms)
without_other names k t ms e = rw e refl

-- of the members from one on, that one stays
pub other_here : (names : List (List ℕ)) (ms : List OutlineMember) (i : ℕ) (m : OutlineMember) → i < length ms → m ≡ get_or ms i m
    → list_any (bytes_eq m.0.now) names ≡ false
    → without names (named_outlines (drop i ms)) ≡ member m.0.now (outline_node m.1) (without names (named_outlines (drop (i + 1) ms)))
other_here names ms i m few at other =
    ap (λ es. without names (named_outlines es)) (nth ms i m few at)
    ∙ without_other names m.0.now (outline_node m.1) (named_outlines (drop (i + 1) ms)) other

-- where nothing is named, all stay
pub without_none : (ms : Members) → without [] ms ≡ ms
without_none no_members = refl
without_none (member k t ms) = ap (member k t) (without_none ms)

-- ---- lists

-- a list has as many items as the code's
pub count-items_of : {X : Type 0} (tree_of : X → Node) (xs : List X) → count (items_of (map tree_of xs)) ≡ length xs
count-items_of tree_of [] = refl
count-items_of tree_of (x ∷ xs) = ap suc (count-items_of tree_of xs)

-- the items of a list of two
two_items : {X : Type 0} (tree_of : X → Node) (xs : List X) (d e : X) → length xs ≡ 2
    → items_of (map tree_of xs) ≡ item (tree_of (get_or xs 0 d)) (item (tree_of (get_or xs 1 e)) no_items)
two_items tree_of (x ∷ y ∷ []) d e h = refl
two_items tree_of [] d e h = absurd (cc)
two_items tree_of (x ∷ []) d e h = absurd (cc)
two_items tree_of (x ∷ y ∷ z ∷ xs) d e h = absurd (cc)

-- ---- any

no_odd_items : (ts : Items) → AllFit ts any → items_have_odd ts ≡ false
no_odd_items no_items f = refl
no_odd_items (item t ts) f = let p = item_inside f in or_from (has_odd t) (items_have_odd ts) (any_inside p.0).0 (no_odd_items ts p.1)

few_levels : (t : Node) → takes t any ≡ true → levels t ≤ 60
few_levels t e = leb-true (levels t) 60 (and_parts (not (is_odd t)) (nat_le (levels t) 60) e).1

list_of_items : (t : Node) (ts : Items) → Some ts ≡ list_in t → t ≡ node.list ts
list_of_items (node.list us) ts e = cc
list_of_items t ts e = absurd (cc)

map_of_members : (t : Node) (ms : Members) → Some ms ≡ map_in t → t ≡ node.map ms
map_of_members (node.map ns) ms e = cc
map_of_members t ms e = absurd (cc)

any_items : (ts : Items) (o : Option Reason) → takes (node.list ts) any ≡ true → ItemsJudged ts any o → Judged (node.list ts) any o
any_items ts None e f = fits_any (node.list ts) (no_odd_items ts f, few_levels (node.list ts) e)
any_items ts (Some r) e b = in_any_list ts r e b

any_members : (ms : Members) (o : Option Reason) → takes (node.map ms) any ≡ true → OthersJudged extensible 0 ms o → Judged (node.map ms) any o
any_members ms None e f = fits_any (node.map ms) (f.0, few_levels (node.map ms) e)
any_members ms (Some r) e b = in_any_map ms r e b

pub judged_any_list : (t : Node) (ts : Items) (o : Option Reason) → takes t any ≡ true → Some ts ≡ list_in t → ItemsJudged ts any o → Judged t any o
judged_any_list t ts o e is j =
    let same = list_of_items t ts is in
    subst (λ u. Judged u any o) (sym same) (any_items ts o (subst (λ u. takes u any ≡ true) same e) j)

pub judged_any_map : (t : Node) (ms : Members) (o : Option Reason) → takes t any ≡ true → Some ms ≡ map_in t → OthersJudged extensible 0 (without [] ms) o
    → Judged t any o
judged_any_map t ms o e is j =
    let same = map_of_members t ms is in
    subst (λ u. Judged u any o) (sym same)
    (any_members ms o (subst (λ u. takes u any ≡ true) same e) (subst (λ us. OthersJudged extensible 0 us o) (without_none ms) j))

pub any_plain : (t : Node) → takes t any ≡ true → list_in t ≡ None → map_in t ≡ None → Fits t any
any_plain node.null e l m = fits_any node.null (refl, few_levels node.null e)
any_plain (node.boolean b) e l m = fits_any (node.boolean b) (refl, few_levels (node.boolean b) e)
any_plain (node.whole z) e l m = fits_any (node.whole z) (refl, few_levels (node.whole z) e)
any_plain node.odd e l m = absurd (true≢false (sym e))
any_plain (node.text s) e l m = fits_any (node.text s) (refl, few_levels (node.text s) e)
any_plain (node.list ts) e l m = absurd (cc)
any_plain (node.map ms) e l m = absurd (cc)

-- ---- lists, pairs and maps

pub judged_list : (t : Node) (least : ℕ) (τ : Term) (ts : Items) (o : Option Reason) → takes t (list_of least τ) ≡ true → Some ts ≡ list_in t
    → ItemsJudged ts τ o → Judged t (list_of least τ) o
judged_list t least τ ts o e is j = let same = list_of_items t ts is in subst (λ u. Judged u (list_of least τ) o) (sym same) (go o (subst (λ u. takes u (list_of least τ) ≡ true) same e) j)
  where
    go : (o : Option Reason) → takes (node.list ts) (list_of least τ) ≡ true → ItemsJudged ts τ o → Judged (node.list ts) (list_of least τ) o
    go None e f = fits_list ts least τ (leb-true least (count ts) e) f
    go (Some r) e b = in_list ts least τ r b

pub judged_map : (t : Node) (rows : Rows) (op : Openness) (ms : Members) (o : Option Reason) → Some ms ≡ map_in t → RowsJudged ms rows op o → Judged t (map_of rows op) o
judged_map t rows op ms o is j = subst (λ u. Judged u (map_of rows op) o) (sym (map_of_members t ms is)) (go o j)
  where
    go : (o : Option Reason) → RowsJudged ms rows op o → Judged (node.map ms) (map_of rows op) o
    go None f = fits_map ms rows op f.0 f.1
    go (Some r) b = in_map ms rows op r b

pub list_levels : (t : Node) (ts : Items) → Some ts ≡ list_in t → levels t ≡ suc (items_levels ts)
list_levels t ts is = ap levels (list_of_items t ts is)

pub map_levels : (t : Node) (ms : Members) → Some ms ≡ map_in t → levels t ≡ suc (members_levels ms)
map_levels t ms is = ap levels (map_of_members t ms is)

-- ---- pairs

pub first_blamed : (t : Node) (u v : Node) (σ τ : Term) (r : Reason) → t ≡ node.list (item u (item v no_items)) → Blames u σ r → Blames t (pair_of σ τ) (under 0 (step.item 0) r)
first_blamed t u v σ τ r e b = subst (λ x. Blames x (pair_of σ τ) (under 0 (step.item 0) r)) (sym e) (in_first u v σ τ r b)

pub second_blamed : (t : Node) (u v : Node) (σ τ : Term) (r : Reason) → t ≡ node.list (item u (item v no_items)) → Fits u σ → Blames v τ r
    → Blames t (pair_of σ τ) (under 0 (step.item 1) r)
second_blamed t u v σ τ r e f b = subst (λ x. Blames x (pair_of σ τ) (under 0 (step.item 1) r)) (sym e) (in_second u v σ τ r f b)

pub pair_fits : (t : Node) (u v : Node) (σ τ : Term) → t ≡ node.list (item u (item v no_items)) → Fits u σ → Fits v τ → Fits t (pair_of σ τ)
pair_fits t u v σ τ e f g = subst (λ x. Fits x (pair_of σ τ)) (sym e) (fits_pair u v σ τ f g)

-- a list that a pair takes has two items
pub two_long : {X : Type 0} (tree_of : X → Node) (t : Node) (σ τ : Term) (xs : List X) → takes t (pair_of σ τ) ≡ true
    → Some (items_of (map tree_of xs)) ≡ list_in t → length xs ≡ 2
two_long tree_of t σ τ xs e is =
    let same : takes t (pair_of σ τ) ≡ (count (items_of (map tree_of xs)) == 2) = ap (λ o. option_map_or (λ ts. count ts == 2) o false) (sym is) in
    sym (count-items_of tree_of xs) ∙ eqb-true _ 2 (sym same ∙ e)

-- a list of items as it is read on
pub item_here : {X : Type 0} (tree_of : X → Node) (xs : List X) (i : ℕ) (x : X) → drop i xs ≡ x ∷ drop (i + 1) xs
    → items_of (map tree_of (drop i xs)) ≡ item (tree_of x) (items_of (map tree_of (drop (i + 1) xs)))
item_here tree_of xs i x e = ap (λ ys. items_of (map tree_of ys)) e

-- ---- rows

pub row_missing : (o : Openness) (others : Members) (n : ℕ) (ms : Members) (k : List ℕ) (need : Need) (τ : Term) (rows : Rows) → need ≡ required → get_member k ms ≡ None
    → RowsBlame o others n ms (row k need τ rows) (missing n k τ)
row_missing o others n ms k need τ rows is e =
    subst (λ x. RowsBlame o others n ms (row k x τ rows) (missing n k τ)) (sym is) (is_missing o others n ms k τ rows e)

-- rows and others are judged together
pub rows_judged : (ms : Members) (rows : Rows) (op : Openness) (n : ℕ) (o : Option Reason)
    → (OthersFit op (without (names_of rows) ms) → RowsFit ms rows × OthersFit op (without (names_of rows) ms))
    → ((r : Reason) → OthersBlame op n (without (names_of rows) ms) r → RowsBlame op (without (names_of rows) ms) 0 ms rows r)
    → OthersJudged op n (without (names_of rows) ms) o → RowsJudged ms rows op o
rows_judged ms rows op n None fits blames j = fits j
rows_judged ms rows op n (Some r) fits blames j = blames r j

-- a tag more is one more at most
more_if : (b : Bool) (n : ℕ) → (if b then suc n else n) ≤ n + 1
more_if true n = omega arith
more_if false n = omega arith

pub more_tags : (n : ℕ) (k : List ℕ) → tags_with n k ≤ n + 1
more_tags n k = more_if (is_tag k) n

-- the list of two items, by what was read of them
pub list_of_two : {X : Type 0} (tree_of : X → Node) (xs : List X) (x y : X) → length xs ≡ 2 → x ≡ get_or xs 0 x → y ≡ get_or xs 1 y
    → node.list (items_of (map tree_of xs)) ≡ node.list (item (tree_of x) (item (tree_of y) no_items))
list_of_two tree_of xs x y long at beside =
    ap node.list (two_items tree_of xs x y long ∙ ap (λ u. item (tree_of u) (item (tree_of (get_or xs 1 y)) no_items)) (sym at)
    ∙ ap (λ u. item (tree_of x) (item (tree_of u) no_items)) (sym beside))

pub list_of_first : {X : Type 0} (tree_of : X → Node) (xs : List X) (x : X) → length xs ≡ 2 → x ≡ get_or xs 0 x
    → node.list (items_of (map tree_of xs)) ≡ node.list (item (tree_of x) (item (tree_of (get_or xs 1 x)) no_items))
list_of_first tree_of xs x long at =
    ap node.list (two_items tree_of xs x x long ∙ ap (λ u. item (tree_of u) (item (tree_of (get_or xs 1 x)) no_items)) (sym at))
