-- What readers and writers of Infos answer.
use Rattle.std.proofs.Common.{◌≡◌, ◌≤◌, ◌<◌, ◌+◌, List, [], ◌∷◌, codes, map, Option, Some, None, option_map, Result, Ok}
use Rattle.std.proofs.Common.{Err, IfOk, IfSome, Vec, Global, Bor, ◌⊎◌, inl, inr, refl, sym, ap, ◌∙◌, subst, arith}
use Rattle.std.specs.List.{AllByRecursion}
use Rattle.std.specs.declared.alloc.AllocError.{AllocError}
use Rattle.bidi_tree.specs.Node as kind
use Rattle.bidi_tree.specs.Node.{Node, Items, item, Members, get_member, put, levels, items_levels}
use Rattle.bidi_tree.specs.View.{items_of}
use Rattle.bidi_tree.specs.Outline.{outline_node}
use Rattle.bidi_tree.specs.declared.outline.Outline.{Outline, List as OutlineList}
use Rattle.bidi_tree.proofs.OutlineLemmas.{outline_node-List}
use Rattle.bidi_tree.proofs.MemberLemmas.{get_member-put}
use Rattle.bidi_shape.specs.Name.{info}
use Rattle.bidi_shape.specs.Term.{required, Term, null, list_of, map_of, either, rule, names_of}
use Rattle.bidi_shape.specs.Fits.{Fits, AllFit, RowsFit, OthersFit, without}
use Rattle.bidi_shape.specs.Parts.{joined, PartFits}
use Rattle.bidi_shape.specs.MapLaws.{map_inside}
use Rattle.bidi_shape.proofs.FitsLemmas.{null_kind, list_inside, either_inside}
use Rattle.bidi_shape.specs.InnerLaws.{RowsFit-first, RowsFit-more}
use Rattle.bidi_params.specs.InfoContent.{told, contents_of}
use Rattle.bidi_params.specs.InfoLaws.{InfoOf, names, rows_with, info_map, children_node, info_tree, infos_tree, PartsAreWell}
use Rattle.bidi_params.specs.InfoLaws.{ChildrenAreWell, InfosAreWell, OwnMembersAreWell, IsWell, info_inside, children_levels}
use Rattle.bidi_params.specs.InfoView.{OwnMembers, content, content-told, children_content, beside_of, tree_of_info, tree_of_children, InfoIsWell}
use Rattle.bidi_params.specs.declared.browsing_context.info.Info.{Info, out-Info}

module _ (n : InfoOf OwnMembers) (t : Node) (ms : Members) where
  inside : (τ : Term) → kind.map ms ≡ t → Fits t (map_of (rows_with n.table τ) n.table.openness)
      → RowsFit ms (rows_with n.table τ) × OthersFit n.table.openness (without (names_of (rows_with n.table τ)) ms)
  inside τ is f = map_inside (subst (λ x. Fits x (map_of (rows_with n.table τ) n.table.openness)) (sym is) f)

  -- a map whose members beside the children do not fit
  pub beside_misfit : kind.map ms ≡ t
      → (RowsFit ms (n.table.rows names []) → OthersFit n.table.openness (without (codes "children" ∷ names) ms) → ⊥)
      → names_of (n.table.rows names []) ≡ names
      → (τ : Term) → Fits t (map_of (rows_with n.table τ) n.table.openness) → ⊥
  beside_misfit is bad named τ f =
      let p = inside τ is f in
      bad (RowsFit-more p.0) (subst (λ ks. OthersFit n.table.openness (without (codes "children" ∷ ks) ms)) named p.1)

  -- and one whose children are neither a list nor null
  pub children_misfit : kind.map ms ≡ t → ((τ : Term) → PartFits required (either (list_of 0 τ) null) (get_member (codes "children") ms) → ⊥)
      → (τ : Term) → Fits t (map_of (rows_with n.table τ) n.table.openness) → ⊥
  children_misfit is bad τ f = bad τ (RowsFit-first (inside τ is f).0)

-- ---- children

items_fit : {ts : Items} → Fits (kind.list ts) (either (list_of 0 (rule info)) null) → AllFit ts (rule info)
items_fit f = of_either (either_inside f)
  where
    of_either : {ts : Items} → Fits (kind.list ts) (list_of 0 (rule info)) ⊎ Fits (kind.list ts) null → AllFit ts (rule info)
    of_either (inl f) = (list_inside f).1
    of_either (inr f) = let e = null_kind f in cc

module _ (n : InfoOf OwnMembers) where
  infos_tree-of : (is : List Info) → infos_tree n (contents_of (map content is)) ≡ items_of (map (tree_of_info n) is)
  infos_tree-of [] = refl
  infos_tree-of (i ∷ is) = ap (item (tree_of_info n i)) (infos_tree-of is)

  infos_well-of : (is : List Info) → AllByRecursion (InfoIsWell n) is → InfosAreWell n (contents_of (map content is))
  infos_well-of [] w = tt
  infos_well-of (i ∷ is) w = (w.0, infos_well-of is w.1)

  -- ---- the constructor

  children_well : (c : Option (Vec Info Global)) → IfSome c (λ v. AllByRecursion (λ i. IsWell n (content i)) v.items) → ChildrenAreWell n (children_content c)
  children_well None w = tt
  children_well (Some v) w = infos_well-of v.items (each_part v.items w)
    where
      each_part : (is : List Info) → AllByRecursion (λ i. IsWell n (content i)) is → AllByRecursion (InfoIsWell n) is
      each_part [] w = tt
      each_part (i ∷ is) w = (w.0.parts, each_part is w.1)

  -- an Info of well parts within the cap
  pub info_made : (i : Info) (f : OwnMembers) (c : Option (Vec Info Global)) → content i ≡ told f (children_content c) → OwnMembersAreWell n f
      → IfSome c (λ v. AllByRecursion (λ i. IsWell n (content i)) v.items) → levels (tree_of_info n i) ≤ 60 → IsWell n (content i)
  info_made i f c made w ws h = record { parts = subst (PartsAreWell n) (sym made) (w, children_well c ws); cap = h }

  -- ---- readers

  -- the children that were found
  pub found : {X : Type 0} (tree : X → Node) (f : OwnMembers) (t : Node) (p : Option (Bor (List X))) (items : Bor (List X))
      → p ≡ Some items → info_map n.table f (children_node (option_map (λ x. items_of (map tree x.now)) p)) ≡ t
      → info_map n.table f (children_node (Some (items_of (map tree items.now)))) ≡ t
  found tree f t p items is e = ap (λ x. info_map n.table f (children_node (option_map (λ y. items_of (map tree y.now)) x))) (sym is) ∙ e

  pub info_read : (i : Info) (f : OwnMembers) (t : Node)
      → content i ≡ told f (children_content None) → info_map n.table f (children_node None) ≡ t → OwnMembersAreWell n f
      → (tree_of_info n i ≡ t) × InfoIsWell n i
  info_read i f t made is w = (ap (info_tree n) made ∙ is, subst (PartsAreWell n) (sym made) (w, tt))

  pub info_with_children : {X : Type 0} (tree : X → Node) (i : Info) (f : OwnMembers) (v : Vec Info Global) (items : List X) (t : Node)
      → content i ≡ told f (children_content (Some v))
      → info_map n.table f (children_node (Some (items_of (map tree items)))) ≡ t → OwnMembersAreWell n f
      → map (tree_of_info n) v.items ≡ map tree items → AllByRecursion (InfoIsWell n) v.items → (tree_of_info n i ≡ t) × InfoIsWell n i
  info_with_children tree i f v items t made is w e ws = (
    ap (info_tree n) made ∙ ap (λ x. info_map n.table f (kind.list x)) (infos_tree-of v.items ∙ ap items_of e) ∙ is,
    subst (PartsAreWell n) (sym made) (w, infos_well-of v.items ws),
  )

  pub infos_misfit : (f : OwnMembers) (items : Items) (t : Node)
      → info_map n.table f (children_node (Some items)) ≡ t → (AllFit items (rule info) → ⊥) → Fits t (rule info) → ⊥
  infos_misfit f items t is bad x =
      let ms = put (codes "children") (kind.list items) (joined (n.table.rows names []) (n.table.parts [] f) (n.table.others f)) in
      let rows = (map_inside (subst (λ y. Fits y (map_of (rows_with n.table (rule info)) n.table.openness)) (sym is) (info_inside n t x))).0 in
      bad (items_fit (subst (PartFits required (either (list_of 0 (rule info)) null)) (get_member-put (codes "children") (kind.list items)
      (joined (n.table.rows names []) (n.table.parts [] f) (n.table.others f))) (RowsFit-first rows)))

  -- what is none
  pub no_info : (t : Node) → ((τ : Term) → Fits t (map_of (rows_with n.table τ) n.table.openness) → ⊥) → Fits t (rule info) → ⊥
  no_info t bad f = bad (rule info) (info_inside n t f)

  pub list_levels : (f : OwnMembers) (items : Items) (t : Node) → info_map n.table f (children_node (Some items)) ≡ t → items_levels items + 1 < levels t
  list_levels f items t is = subst (λ x. items_levels items + 1 < levels x) is (let below = children_levels n f (kind.list items) in omega (arith, below))

  -- ---- writers

  written : (i : Info) (c : Option (Vec Info Global))
      → (out-Info i).children ≡ c → info_map n.table (beside_of (out-Info i)) (tree_of_children n c) ≡ tree_of_info n i
  written i c is = ap (λ x. info_map n.table (beside_of (out-Info i)) (tree_of_children n x)) (sym is) ∙ sym (ap (info_tree n) (content-told i))

  pub children_outlined : (r : Result Outline AllocError) (i : Info) (v : Vec Info Global) (outlines : Vec Outline Global)
      → (out-Info i).children ≡ Some v → map outline_node outlines.items ≡ map (tree_of_info n) v.items
      → IfOk r (λ d. outline_node d ≡ info_map n.table (beside_of (out-Info i)) (outline_node (OutlineList outlines))) → IfOk r (λ d. outline_node d ≡ tree_of_info n i)
  children_outlined (Ok t) i v outlines is e p =
      p ∙ ap (info_map n.table (beside_of (out-Info i))) (outline_node-List outlines ∙ ap kind.list (ap items_of e ∙ sym (infos_tree-of v.items)))
      ∙ written i (Some v) is
  children_outlined (Err x) i v outlines is e p = tt

  pub none_outlined : (r : Result Outline AllocError) (i : Info) → (out-Info i).children ≡ None
      → IfOk r (λ d. outline_node d ≡ info_map n.table (beside_of (out-Info i)) kind.null) → IfOk r (λ d. outline_node d ≡ tree_of_info n i)
  none_outlined (Ok t) i is p = p ∙ written i None is
  none_outlined (Err x) i is p = tt
