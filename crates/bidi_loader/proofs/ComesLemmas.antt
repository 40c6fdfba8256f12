-- Terms that come from nodes.
use Rattle.std.proofs.Common.{◌≡◌, ◌<◌, ◌≤◌, ◌+◌, Option, None, ℕ, zero, suc, List, [], ◌∷◌, length, get_or, drop, take, map, refl, sym, ap, subst, ◌∙◌, arith, inl, inr}
use Rattle.std.specs.List.{AllZip}
use Rattle.std.specs.Global.{Vec}
use Rattle.std.proofs.lemmas.Bool.{cases_lt}
use Rattle.std.proofs.lemmas.List.{get_or_past, length-map, drop-map, drop_more, drop_all, nil_from_length}
use Rattle.bidi_grammar.specs.Term as term
use Rattle.bidi_grammar.specs.Term.{Term, Grammar, term_at}
use Rattle.bidi_grammar.specs.View.{table, term_of, row_of}
use Rattle.bidi_grammar.specs.declared.term.Row as code_row
use Rattle.bidi_grammar.specs.declared.term.Term as code_term
use Rattle.bidi_grammar.specs.Source as source
use Rattle.bidi_grammar.specs.Source.{Written, Entry, Rules, Source, of_type, of_lists, never, Lists, Made, made_map, made_maps, made_never, Comes, comes, by_group, IsMade, RowsAre, no_rows, RestIs, no_rest, further_in, PartsAre, no_place, a_place}
use Rattle.bidi_cddl.specs.declared.written.Node.TheVariants as node
use Rattle.bidi_cddl.specs.declared.written.Written as code
use Rattle.bidi_grammar.proofs.TableLemmas.{term_past}
use Rattle.bidi_loader.specs.declared.draft.Origin.{Origin}
use Rattle.bidi_loader.specs.declared.reading.Reading.{Reading}
use Rattle.bidi_loader.specs.Meaning.{Tree, type_at, group_at, items_at, array_type, entries_at, parts_at, rules_of, written_trees}
use Rattle.bidi_loader.specs.Readings.{IsNode, IsReading, IsMapOf, ListsOf, lists_view, lists_at, source_of, source_at}
use Rattle.bidi_loader.proofs.NodeLemmas.{map-is, array-is, either-is}
use Rattle.bidi_loader.proofs.ReadingLemmas.{lists-here}

-- an element of the second list at the place of one of the first
pub both_found : {A B : Type 0} (R : A → B → Type 0) (xs : List A) (ys : List B) (k : ℕ) (x : A) → AllZip R xs ys → k < length xs
    → x ≡ get_or xs k x → (y : B) × ((k < length ys) × ((y ≡ get_or ys k y) × R x y))
both_found R [] ys k x h l e = absurd (omega (arith, l))
both_found R (v ∷ xs) [] k x h l e = absurd h
both_found R (v ∷ xs) (z ∷ ys) zero x h l e = (z, (omega arith, (refl, subst (λ a. R a z) (sym e) h.0)))
both_found R (v ∷ xs) (z ∷ ys) (suc k) x h l e =
    let r = both_found R xs ys k x h.1 (omega (arith, l)) e in
    (r.0, (omega (arith, r.1.0), (r.1.1.0, r.1.1.1)))

-- the lists of a map are those of its group
lists_are : (w : code.Written) (reading : Reading) (k i : ℕ) → IsReading w reading → IsNode w k (node.Map i)
    → Lists (rules_of w) (group_at (written_trees w) i) (lists_at w reading k)
lists_are w reading k i r here =
    let y = both_found (ListsOf w) w.nodes.items reading.lists.items k (node.Map i) r.lists here.0 here.1 in
    subst (λ xss. Lists (rules_of w) (group_at (written_trees w) i) xss) (sym (lists-here w reading k y.0 y.1.0 y.1.1.0)) y.1.1.1

-- a term that was made of the lists of a map
pub map_comes : (w : code.Written) (reading : Reading) (g : Grammar) (o : ℕ → Source) (k i : ℕ) (τ : Term) → IsReading w reading → IsNode w k (node.Map i) → i < k
    → Made (rules_of w) g o τ (of_lists (lists_at w reading k)) → Comes (rules_of w) g o τ (of_type (type_at (written_trees w) k))
map_comes w reading g o k i τ r here l m =
    subst (λ σ. Comes (rules_of w) g o τ (of_type σ)) (sym (map-is w k i here l))
    (by_group τ (group_at (written_trees w) i) (lists_at w reading k) (lists_are w reading k i r here) m)

-- a term that was made of an array
pub array_comes : (w : code.Written) (ρ : Rules) (g : Grammar) (o : ℕ → Source) (k i : ℕ) (τ : Term) → IsNode w k (node.Array i) → i < k
    → Made ρ g o τ (of_type (array_type (items_at (written_trees w) i))) → Comes ρ g o τ (of_type (type_at (written_trees w) k))
array_comes w ρ g o k i τ here l m =
    subst (λ σ. Comes ρ g o τ (of_type σ)) (sym (array-is w k i here l)) (comes τ (of_type (array_type (items_at (written_trees w) i))) m)

-- a term that was made of a choice
pub either_comes : (w : code.Written) (ρ : Rules) (g : Grammar) (o : ℕ → Source) (k i j : ℕ) (τ : Term) → IsNode w k (node.Either i j) → i < k → j < k
    → Made ρ g o τ (of_type (source.either (type_at (written_trees w) i) (type_at (written_trees w) j))) → Comes ρ g o τ (of_type (type_at (written_trees w) k))
either_comes w ρ g o k i j τ here l m h =
    subst (λ σ. Comes ρ g o τ (of_type σ)) (sym (either-is w k i j here l m))
    (comes τ (of_type (source.either (type_at (written_trees w) i) (type_at (written_trees w) j))) h)

-- a map of one list of entries
pub map_made : (ρ : Rules) (g : Grammar) (o : ℕ → Source) (τ : Term) (xs : List Entry) → IsMapOf o τ xs → Made ρ g o τ (of_lists (xs ∷ []))
map_made ρ g o (term.map_of rows rest) xs h = made_map rows rest xs h.0 h.1
map_made ρ g o τ xs h = absurd h

-- a choice of a map and of the maps of further lists
pub maps_made : (ρ : Rules) (g : Grammar) (o : ℕ → Source) (m n : ℕ) (τ : Term) (xs : List Entry) (xss : List (List Entry)) → term_at g m ≡ τ → IsMapOf o τ xs
    → o n ≡ of_lists xss → Made ρ g o (term.either m n) (of_lists (xs ∷ xss))
maps_made ρ g o m n (term.map_of rows rest) xs xss e h f = made_maps m n rows rest xs xss e h.0 h.1 f
maps_made ρ g o m n τ xs xss e h f = absurd h

-- the lists from a place on: the list at that place, and those behind it
pub lists_from : (trees : List Tree) (lists : Vec (Vec ℕ)) (from : ℕ) (x : Vec ℕ) → from < length lists.items → x ≡ get_or lists.items from x
    → drop from (lists_view trees lists) ≡ entries_at trees x.items ∷ drop (from + 1) (lists_view trees lists)
lists_from trees lists from x l e =
    let f : Vec ℕ → List Entry = λ (list : Vec ℕ). entries_at trees list.items in
    drop-map f from lists.items
    ∙ ap (map f) (drop_more lists.items from x l)
    ∙ ap (λ (v : Vec ℕ). f v ∷ map f (drop (from + 1) lists.items)) (sym e)
    ∙ ap (λ (xss : List (List Entry)). f x ∷ xss) (sym (drop-map f (from + 1) lists.items))

-- past the end of a table there is nothing
past_comes : (ρ : Rules) (g : Grammar) (o : ℕ → Source) (n : ℕ) → length g ≤ n → o n ≡ never → Comes ρ g o (term_at g n) (o n)
past_comes ρ g o n l e =
    subst (λ τ. Comes ρ g o τ (o n)) (sym (term_past g n l)) (subst (λ s. Comes ρ g o term.nothing s) (sym e) (comes term.nothing never made_never))

-- each place of the table, and nothing past its end
pub all_made : (w : code.Written) (reading : Reading) (ρ : Rules) (terms : List code_term.Term) (origins : List Origin) (n : ℕ) → length terms ≡ length origins → length terms ≤ n
    → ((k : ℕ) → k < n → Comes ρ (table terms) (source_at w reading origins) (term_at (table terms) k) (source_at w reading origins k))
    → IsMade ρ (table terms) (source_at w reading origins)
all_made w reading ρ terms origins n e l h k =
    elim (cases_lt k n) [
      | inl few ↦ h k few
      | inr more ↦ past_comes ρ (table terms) (source_at w reading origins) k (omega (arith, length-map terms term_of, l, more))
          (get_or_past (map (source_of w reading) origins) k never (omega (arith, length-map origins (source_of w reading), e, l, more)))
    ]

-- one place more, and the node that it was made of
pub parts_step : (o : ℕ → Source) (trees : List Tree) (places nodes : List ℕ) (i : ℕ) → i < length places → i < length nodes
    → o (get_or places i 0) ≡ of_type (type_at trees (get_or nodes i 0)) → PartsAre o (drop (i + 1) places) (parts_at trees (drop (i + 1) nodes))
    → PartsAre o (drop i places) (parts_at trees (drop i nodes))
parts_step o trees places nodes i l m e h =
    subst (λ ps. PartsAre o ps (parts_at trees (drop i nodes))) (sym (drop_more places i 0 l))
    (subst (λ ns. PartsAre o (get_or places i 0 ∷ drop (i + 1) places) (parts_at trees ns)) (sym (drop_more nodes i 0 m))
    (a_place (get_or places i 0) (drop (i + 1) places) (type_at trees (get_or nodes i 0)) (parts_at trees (drop (i + 1) nodes)) e h))

-- no place is left, and no node
pub parts_end : (o : ℕ → Source) (trees : List Tree) (places nodes : List ℕ) (i : ℕ) → length places ≤ i → length nodes ≤ i
    → PartsAre o (drop i places) (parts_at trees (drop i nodes))
parts_end o trees places nodes i l m =
    subst (λ ps. PartsAre o ps (parts_at trees (drop i nodes))) (sym (drop_all i places l))
    (subst (λ ns. PartsAre o [] (parts_at trees ns)) (sym (drop_all i nodes m)) no_place)

-- there are no further members
pub rest_end : (o : ℕ → Source) (rest : Option ℕ) (trees : List Tree) (list : List ℕ) (i : ℕ) → rest ≡ None → length list ≤ i
    → further_in (entries_at trees (drop i list)) ≡ further_in (entries_at trees list) → RestIs o rest (further_in (entries_at trees list))
rest_end o rest trees list i e l h =
    let none : further_in (entries_at trees list) ≡ None = sym h ∙ ap (λ (ns : List ℕ). further_in (entries_at trees ns)) (drop_all i list l) in
    subst (λ r. RestIs o r (further_in (entries_at trees list))) (sym e) (subst (λ σ. RestIs o None σ) (sym none) no_rest)

-- a term that was made of one list of entries
pub list_made : (w : code.Written) (reading : Reading) (ρ : Rules) (g : Grammar) (o : ℕ → Source) (k i : ℕ) (τ : Term) (lists : Vec (Vec ℕ)) (list : Vec ℕ)
    → k < length reading.lists.items → lists ≡ get_or reading.lists.items k lists → i < length lists.items → list ≡ get_or lists.items i list
    → IsMapOf o τ (entries_at (written_trees w) list.items) → Made ρ g o τ (of_lists (take 1 (drop i (lists_at w reading k))))
list_made w reading ρ g o k i τ lists list l e m f h =
    let trees = written_trees w in
    subst (λ xss. Made ρ g o τ (of_lists (take 1 (drop i xss)))) (sym (lists-here w reading k lists l e))
    (subst (λ xss. Made ρ g o τ (of_lists (take 1 xss))) (sym (lists_from trees lists i list m f)) (map_made ρ g o τ (entries_at trees list.items) h))

-- a term that was made of the last list of entries
pub last_made : (w : code.Written) (reading : Reading) (ρ : Rules) (g : Grammar) (o : ℕ → Source) (k i : ℕ) (τ : Term) (lists : Vec (Vec ℕ)) (list : Vec ℕ)
    → k < length reading.lists.items → lists ≡ get_or reading.lists.items k lists → i < length lists.items → list ≡ get_or lists.items i list → length lists.items ≤ i + 1
    → IsMapOf o τ (entries_at (written_trees w) list.items) → Made ρ g o τ (of_lists (drop i (lists_at w reading k)))
last_made w reading ρ g o k i τ lists list l e m f n h =
    let trees = written_trees w in
    let none : drop (i + 1) (lists_view trees lists) ≡ [] = drop_all (i + 1) (lists_view trees lists) (omega (arith, length-map lists.items (λ (v : Vec ℕ). entries_at trees v.items), n)) in
    subst (λ xss. Made ρ g o τ (of_lists (drop i xss))) (sym (lists-here w reading k lists l e))
    (subst (λ xss. Made ρ g o τ (of_lists xss)) (sym (lists_from trees lists i list m f))
    (subst (λ xss. Made ρ g o τ (of_lists (entries_at trees list.items ∷ xss))) (sym none) (map_made ρ g o τ (entries_at trees list.items) h)))

-- a choice that was made of a list of entries and of those behind it
pub more_made : (w : code.Written) (reading : Reading) (ρ : Rules) (g : Grammar) (o : ℕ → Source) (k i m n : ℕ) (τ : Term) (lists : Vec (Vec ℕ)) (list : Vec ℕ)
    → k < length reading.lists.items → lists ≡ get_or reading.lists.items k lists → i < length lists.items → list ≡ get_or lists.items i list
    → term_at g m ≡ τ → IsMapOf o τ (entries_at (written_trees w) list.items) → o n ≡ of_lists (drop (i + 1) (lists_at w reading k))
    → Made ρ g o (term.either m n) (of_lists (drop i (lists_at w reading k)))
more_made w reading ρ g o k i m n τ lists list l e q f a h b =
    let trees = written_trees w in
    let behind : o n ≡ of_lists (drop (i + 1) (lists_view trees lists)) =
    b ∙ ap (λ (xss : List (List Entry)). of_lists (drop (i + 1) xss)) (lists-here w reading k lists l e) in
    subst (λ xss. Made ρ g o (term.either m n) (of_lists (drop i xss))) (sym (lists-here w reading k lists l e))
    (subst (λ xss. Made ρ g o (term.either m n) (of_lists xss)) (sym (lists_from trees lists i list q f))
    (maps_made ρ g o m n τ (entries_at trees list.items) (drop (i + 1) (lists_view trees lists)) a h behind))

-- no row is left, and no entry
pub rows_end : (o : ℕ → Source) (trees : List Tree) (left : List code_row.Row) (list : List ℕ) (i : ℕ) → length left ≡ 0 → length list ≤ i
    → RowsAre o (map row_of left) (entries_at trees (drop i list))
rows_end o trees left list i e l =
    subst (λ rs. RowsAre o (map row_of rs) (entries_at trees (drop i list))) (sym (nil_from_length left e))
    (subst (λ ns. RowsAre o [] (entries_at trees ns)) (sym (drop_all i list l)) no_rows)
