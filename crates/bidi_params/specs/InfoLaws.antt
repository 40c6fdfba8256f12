-- Infos: their trees, when they are well and the same, and their laws. After WebDriver BiDi, "The browsingContext.Info Type".
use Rattle.std.proofs.Common.{◌≡◌, ◌≤◌, ◌<◌, ℕ, List, [], ◌∷◌, codes, true, false, Option, Some, None, refl, sym, subst, arith}
use Rattle.std.proofs.lemmas.Bool.{or_from}
use Rattle.bidi_tree.specs.Node as node
use Rattle.bidi_tree.specs.Node.{Node, Items, no_items, item, Members, put, levels, items_levels, members_levels, has_odd, items_have_odd, members_have_odd}
use Rattle.bidi_tree.proofs.MemberLemmas.{get_member-put}
use Rattle.bidi_shape.specs.Name.{info}
use Rattle.bidi_shape.specs.Term.{required, Term, null, list_of, map_of, either, rule, capped, Rows, row, names_of}
use Rattle.bidi_shape.specs.Profile.{term_of}
use Rattle.bidi_shape.specs.Fits.{Fits, AllFit, no_item, an_item, fits_null, fits_list, fits_first, fits_second, fits_rule, fits_capped}
use Rattle.bidi_shape.specs.Parts.{joined, distinct}
use Rattle.bidi_shape.specs.Value.{ShapeOf}
use Rattle.bidi_shape.specs.MapLaws.{map_fits, map_one, Aligned, Aligned-PartsFit}
use Rattle.bidi_shape.specs.WholeLaws.{no_odd-put, no_odd-joined, others_whole}
use Rattle.bidi_shape.specs.Table.{Table, TableWell, same_head, same_tail, same_some}
use Rattle.bidi_shape.proofs.FitsLemmas.{rule_inside, capped_inside}
use Rattle.bidi_shape.specs.InnerLaws.{member_levels, same_items, first_item, other_items}
use Rattle.bidi_params.specs.InfoContent.{Content, told, Children, left_out, listed, Contents, no_more, next}
use Rattle.bidi_shape.specs.Limits.{most_levels}

-- the names of the members beside `children`
abbrev pub names : List (List ℕ)
names = codes "clientWindow" ∷ codes "context" ∷ codes "originalOpener" ∷ codes "url" ∷ codes "userContext" ∷ codes "parent" ∷ []

-- a row for `children`, a list or null, and then the rows of the other members
abbrev pub rows_with : {F : Type 0} → Table F → Term → Rows
rows_with t τ = row (codes "children") required (either (list_of 0 τ) null) (t.rows names [])

-- the map of these children and the members beside them
abbrev pub info_map : {F : Type 0} → Table F → F → Node → Node
info_map t f c = node.map (put (codes "children") c (joined (t.rows names []) (t.parts [] f) (t.others f)))

-- the list of the children, or null if they are left out
abbrev pub children_node : Option Items → Node
children_node None = node.null
children_node (Some ts) = node.list ts

-- the table of the members beside `children`, and that the rule of an Info is made of it
pub record InfoOf (F : Type 0) : Type 1 where
  pub table : Table F
  pub is_info : term_of info ≡ capped (map_of (rows_with table (rule info)) table.openness)
  pub once : distinct (names_of (rows_with table (rule info))) ≡ true

-- ---- trees

abbrev mutual
  -- the tree of an Info
  pub info_tree : {F : Type 0} → InfoOf F → Content F → Node
  info_tree n (told f c) = info_map n.table f (children_tree n c)

  -- the tree of the children: a list, or null if they are left out
  pub children_tree : {F : Type 0} → InfoOf F → Children F → Node
  children_tree n left_out = node.null
  children_tree n (listed is) = node.list (infos_tree n is)

  -- the trees of a list of Infos
  pub infos_tree : {F : Type 0} → InfoOf F → Contents F → Items
  infos_tree n no_more = no_items
  infos_tree n (next i is) = item (info_tree n i) (infos_tree n is)

-- the members beside `children` are well-formed, and no further member has a known name
abbrev pub OwnMembersAreWell : {F : Type 0} → InfoOf F → F → Type 0
OwnMembersAreWell n f = n.table.well f × TableWell (rows_with n.table (rule info)) n.table.openness (n.table.others f)

abbrev mutual
  -- the members of an Info and of all Infos below it are well-formed; its levels are not counted
  pub PartsAreWell : {F : Type 0} → InfoOf F → Content F → Type 0
  PartsAreWell n (told f c) = OwnMembersAreWell n f × ChildrenAreWell n c

  -- the parts of each child are well-formed
  pub ChildrenAreWell : {F : Type 0} → InfoOf F → Children F → Type 0
  ChildrenAreWell n left_out = Unit {0}
  ChildrenAreWell n (listed is) = InfosAreWell n is

  -- the parts of each Info of a list are well-formed
  pub InfosAreWell : {F : Type 0} → InfoOf F → Contents F → Type 0
  InfosAreWell n no_more = Unit {0}
  InfosAreWell n (next i is) = PartsAreWell n i × InfosAreWell n is

abbrev mutual
  -- both Infos have equal members and equal children
  pub Same : {F : Type 0} → InfoOf F → Content F → Content F → Type 0
  Same n (told f c) (told g d) = n.table.same f g × SameChildren n c d

  -- both children are left out, or list equal Infos
  pub SameChildren : {F : Type 0} → InfoOf F → Children F → Children F → Type 0
  SameChildren n left_out left_out = Unit {0}
  SameChildren n (listed is) (listed js) = SameInfos n is js
  SameChildren n c d = ⊥

  -- both lists have equal Infos in the same order
  pub SameInfos : {F : Type 0} → InfoOf F → Contents F → Contents F → Type 0
  SameInfos n no_more no_more = Unit {0}
  SameInfos n (next i is) (next j js) = Same n i j × SameInfos n is js
  SameInfos n is js = ⊥

-- an Info is well-formed: each part is, and its tree has at most 60 levels
-- example: 30 Infos within each other, the innermost with an empty list and no further members, have 60 levels; 31 have 62
pub record IsWell {F : Type 0} (n : InfoOf F) (i : Content F) : Type 0 where
  pub parts : PartsAreWell n i
  pub cap : levels (info_tree n i) ≤ most_levels

-- ---- laws

children_null : {ts : Items} → node.null ≡ node.list ts → ⊥
children_null e = cc

module _ {F : Type 0} (n : InfoOf F) where
  -- a tree that fits the rule of Infos is a map with these rows
  pub info_inside : (t : Node) → Fits t (rule info) → Fits t (map_of (rows_with n.table (rule info)) n.table.openness)
  info_inside t f = (capped_inside (subst (Fits t) n.is_info (rule_inside f))).1

  -- the children have fewer levels than the map
  pub children_levels : (f : F) (c : Node) → levels c < levels (info_map n.table f c)
  children_levels f c =
      let ms = joined (n.table.rows names []) (n.table.parts [] f) (n.table.others f) in
      let inside = member_levels (codes "children") c (put (codes "children") c ms) (get_member-put (codes "children") c ms) in
      omega (arith, inside)

  one_map : (f : F) (c : Node) → OwnMembersAreWell n f
      → levels (info_map n.table f c) ≤ most_levels → Fits c (either (list_of 0 (rule info)) null) → Fits (info_map n.table f c) (rule info)
  one_map f c w h x =
      fits_rule (info_map n.table f c) info (subst (Fits (info_map n.table f c)) (sym n.is_info)
      (fits_capped (info_map n.table f c) (map_of (rows_with n.table (rule info)) n.table.openness) h
      (map_fits (rows_with n.table (rule info)) n.table.openness (Some c ∷ n.table.parts [] f) (n.table.others f) n.once
      (x, n.table.parts_fit names [] f w.0) w.1.no_known w.1.may)))

  mutual
    -- the tree of an Info with well-formed parts fits the rule, if it has at most 60 levels
    pub info_fits : (i : Content F) → PartsAreWell n i → levels (info_tree n i) ≤ most_levels → Fits (info_tree n i) (rule info)
    info_fits (told f c) w h =
        let below = children_levels f (children_tree n c) in
        one_map f (children_tree n c) w.0 h (children_fit c w.1 (omega (arith, below, h)))

    -- the tree of the children fits a list of Infos, or null
    pub children_fit : (c : Children F) → ChildrenAreWell n c → levels (children_tree n c) ≤ most_levels → Fits (children_tree n c) (either (list_of 0 (rule info)) null)
    children_fit left_out w h = fits_second node.null (list_of 0 (rule info)) null fits_null
    children_fit (listed is) w h =
        fits_first (node.list (infos_tree n is)) (list_of 0 (rule info)) null
        (fits_list (infos_tree n is) 0 (rule info) (omega arith) (infos_fit is w (omega (arith, h))))

    -- the tree of each Info of a list fits the rule
    pub infos_fit : (is : Contents F) → InfosAreWell n is → items_levels (infos_tree n is) ≤ most_levels → AllFit (infos_tree n is) (rule info)
    infos_fit no_more w h = no_item (rule info)
    infos_fit (next i is) w h = an_item (info_tree n i) (infos_tree n is) (rule info) (info_fits i w.0 (omega arith)) (infos_fit is w.1 (omega arith))

  mutual
    -- two Infos with the same tree are equal
    pub info_one : (i j : Content F) → PartsAreWell n i → PartsAreWell n j → info_tree n i ≡ info_tree n j → Same n i j
    info_one (told f c) (told g d) a b e =
        let rows = rows_with n.table (rule info) in
        let p = map_one rows (Some (children_tree n c) ∷ n.table.parts [] f) (Some (children_tree n d) ∷ n.table.parts [] g)
        (n.table.others f) (n.table.others g) n.once
        (aligned f a.0) (aligned g b.0) a.0.1.no_known b.0.1.no_known e in
        (n.table.one [] f g a.0.0 b.0.0 (same_tail p.0) p.1, children_one c d a.1 b.1 (same_some (same_head p.0)))
      where
        aligned : (x : F) → OwnMembersAreWell n x → Aligned (n.table.rows names []) (n.table.parts [] x)
        aligned x w = Aligned-PartsFit (n.table.rows names []) (n.table.parts [] x) (n.table.parts_fit names [] x w.0)

    -- children with the same tree are equal
    pub children_one : (c d : Children F) → ChildrenAreWell n c → ChildrenAreWell n d → children_tree n c ≡ children_tree n d → SameChildren n c d
    children_one left_out left_out a b e = tt
    children_one left_out (listed js) a b e = children_null e
    children_one (listed is) left_out a b e = children_null (sym e)
    children_one (listed is) (listed js) a b e = infos_one is js a b (same_items e)

    -- two lists of Infos with the same trees are equal
    pub infos_one : (is js : Contents F) → InfosAreWell n is → InfosAreWell n js → infos_tree n is ≡ infos_tree n js → SameInfos n is js
    infos_one no_more no_more a b e = tt
    infos_one no_more (next j js) a b e = cc
    infos_one (next i is) no_more a b e = cc
    infos_one (next i is) (next j js) a b e = (info_one i j a.0 b.0 (first_item e), infos_one is js a.1 b.1 (other_items e))

  -- ---- no Odd stands in a tree

  map_no_odd : (f : F) (c : Node) → OwnMembersAreWell n f → has_odd c ≡ false → has_odd (info_map n.table f c) ≡ false
  map_no_odd f c w e =
      let rows = n.table.rows names [] in
      let others = others_whole n.table.openness (n.table.others f) w.1.may in
      no_odd-put (codes "children") c (joined rows (n.table.parts [] f) (n.table.others f)) e
      (no_odd-joined rows (n.table.parts [] f) (n.table.others f) n.table.deepest (n.table.whole [] f w.0) others.0)

  mutual
    -- the tree of an Info has no Odd in it
    pub info_no_odd : (i : Content F) → PartsAreWell n i → has_odd (info_tree n i) ≡ false
    info_no_odd (told f c) w = map_no_odd f (children_tree n c) w.0 (children_no_odd c w.1)

    -- the tree of the children has no Odd in it
    pub children_no_odd : (c : Children F) → ChildrenAreWell n c → has_odd (children_tree n c) ≡ false
    children_no_odd left_out w = refl
    children_no_odd (listed is) w = infos_no_odd is w

    -- the trees of a list of Infos have no Odd in them
    pub infos_no_odd : (is : Contents F) → InfosAreWell n is → items_have_odd (infos_tree n is) ≡ false
    infos_no_odd no_more w = refl
    infos_no_odd (next i is) w = or_from (has_odd (info_tree n i)) (items_have_odd (infos_tree n is)) (info_no_odd i w.0) (infos_no_odd is w.1)

  -- the shape of a type whose values have such a content: its rule, trees, well-formed values and laws
  abbrev pub info_shape : {V : Type 0} → (V → Content F) → ShapeOf V
  info_shape content = record {
    rule = rule info;
    tree_of = λ v. info_tree n (content v);
    well = λ v. IsWell n (content v);
    same = λ v w. Same n (content v) (content w);
    fits = λ v w. info_fits (content v) w.parts w.cap;
    one_value = λ v w a b e. info_one (content v) (content w) a.parts b.parts e;
    deepest = most_levels;
    whole = λ v w. (info_no_odd (content v) w.parts, w.cap);
  }
