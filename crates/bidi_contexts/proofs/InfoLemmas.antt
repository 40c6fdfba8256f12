-- Infos in hand: what their trees are, and that they are well.
use Rattle.std.proofs.Common.{◌≡◌, ◌∙◌, ◌≤◌, ◌+◌, ℕ, List, [], ◌∷◌, map, Option, Some, None, String, Vec, Global, refl, sym, ap, subst, arith}
use Rattle.std.specs.Prelude.{string_bytes, option_map, max, IfSome}
use Rattle.std.specs.List.{AllByRecursion}
use Rattle.bidi_tree.specs.Node as tree
use Rattle.bidi_tree.specs.Node.{Node, Members, item, no_members, levels, items_levels}
use Rattle.bidi_tree.specs.View.{items_of}
use Rattle.bidi_shape.specs.Term.{Rows, extensible}
use Rattle.bidi_shape.specs.Fits.{OthersFit}
use Rattle.bidi_shape.specs.Table.{TableWell}
use Rattle.bidi_shape.specs.ValueLaws.{others_of}
use Rattle.bidi_shape.specs.declared.ext.Ext.{Ext}
use Rattle.bidi_shape.proofs.PartLemmas.{some_well}
use Rattle.bidi_params.proofs.PartLemmas.{text_or_null}
use Rattle.bidi_params.specs.InfoContent.{told, contents_of}
use Rattle.bidi_params.specs.InfoLaws.{info_tree, infos_tree, info_map, OwnMembersAreWell}
use Rattle.bidi_params.specs.InfoParts.{info_parts}
use Rattle.bidi_params.specs.InfoView.{OwnMembers, content, children_content, tree_of_children}
use Rattle.bidi_params.specs.contracts.browsing_context.info.InfoShape.TheImpl.{ghosts}
use Rattle.bidi_params.specs.declared.browsing_context.info.Info.{Info}
use Rattle.bidi_params.proofs.InfoLemmas.{info_made}
use Rattle.bidi_handles.specs.declared.id.IdKind.TheVariants.{Context, Window}
use Rattle.bidi_handles.specs.Ids.{id_of}
use Rattle.bidi_contexts.specs.Urls.{url_text}
use Rattle.bidi_contexts.specs.Users.{user_id}
use Rattle.bidi_contexts.specs.ContextRows.{ContextRow, url_in, shown_info}
use Rattle.bidi_contexts.specs.InfosInHand.{children_node, parent_node, IsWithin, AreWithin, AreWithinIfTold}

-- the tree of an Info in hand
abbrev tree_of : Info → Node
tree_of i = ghosts.shape.tree_of i

-- the trees of some
infos-listed : (is : List Info) → infos_tree info_parts (contents_of (map content is)) ≡ items_of (map tree_of is)
infos-listed [] = refl
infos-listed (i ∷ is) = ap (item (tree_of i)) (infos-listed is)

-- the tree of the children
children-told : (c : Option (Vec Info Global)) → tree_of_children info_parts c ≡ children_node tree_of c
children-told None = refl
children-told (Some v) = ap tree.list (infos-listed v.items)

-- the tree of an Info is that of what stands beside its children, and of these
pub info-told : (i : Info) (f : OwnMembers) (c : Option (Vec Info Global)) (whole : Node → Node)
    → content i ≡ told f (children_content c) → ((x : Node) → info_map info_parts.table f x ≡ whole x)
    → tree_of i ≡ whole (children_node tree_of c)
info-told i f c whole made same = ap (info_tree info_parts) made ∙ (same (tree_of_children info_parts c) ∙ ap whole (children-told c))

-- what stands beside the children
pub beside-told : (window number url user : String Global) (parent : Option (Option (String Global))) (ext : Ext) (row : ContextRow) (x : Node)
    → string_bytes window ≡ id_of Window row.window → string_bytes number ≡ id_of Context row.number
    → string_bytes url ≡ url_text (url_in row) → string_bytes user ≡ user_id row.user → others_of ext ≡ no_members
    → info_map info_parts.table (window, (number, (None, (url, (user, (parent, ext)))))) x ≡ shown_info (option_map parent_node parent) row x
beside-told window number url user None ext row x w n u d e = rw (w, n, u, d, e) refl
beside-told window number url user (Some None) ext row x w n u d e = rw (w, n, u, d, e) refl
beside-told window number url user (Some (Some id)) ext row x w n u d e = rw (w, n, u, d, e) refl

-- no further member stands in a map, so none has a known name
pub none-further : (rs : Rows) (others : Members) → others ≡ no_members → TableWell rs extensible others
none-further rs others e = record { no_known = rw e refl; may = subst (λ ms. OthersFit extensible ms) (sym e) (refl, omega arith) }

-- it is well
pub beside-well : (window number url user : String Global) (parent : Option (Option (String Global))) (ext : Ext)
    → others_of ext ≡ no_members → OwnMembersAreWell info_parts (window, (number, (None, (url, (user, (parent, ext))))))
beside-well window number url user parent ext e = (
  (tt, (tt, (text_or_null None, (tt, (tt, (some_well text_or_null parent, tt)))))),
  none-further _ (others_of ext) e,
)

-- ---- levels

-- the greater of two is not above what neither is above
max-below : (a b n : ℕ) → a ≤ n → b ≤ n → max a b ≤ n
max-below a b n le more = omega (arith, le, more)

-- a list of Infos has one level more than the deepest
items-below : (n : ℕ) (is : List Info) → AreWithin ghosts.shape n is → items_levels (items_of (map tree_of is)) ≤ n
items-below n [] within = omega arith
items-below n (i ∷ is) within = max-below (levels (tree_of i)) (items_levels (items_of (map tree_of is))) n within.0.1 (items-below n is within.1)

children-below : (n : ℕ) (c : Option (Vec Info Global)) → AreWithinIfTold ghosts.shape n c → levels (children_node tree_of c) ≤ n + 1
children-below n None within = omega arith
children-below n (Some v) within = let below = items-below n v.items within in omega (arith, below)

-- the id of a parent has no level
parent-flat : (p : Option (String Global)) → levels (parent_node p) ≡ 0
parent-flat None = refl
parent-flat (Some id) = refl

-- an Info has one level more than its children
shown-below : (n : ℕ) (p : Option (Option (String Global))) (row : ContextRow) (children : Node)
    → levels children ≤ n → levels (shown_info (option_map parent_node p) row children) ≤ n + 1
shown-below n None row children below = omega (arith, below)
shown-below n (Some p) row children below = let flat = parent-flat p in omega (arith, below, flat)

-- each is well
all-well : (n : ℕ) (is : List Info) → AreWithin ghosts.shape n is → AllByRecursion (λ i. ghosts.shape.well i) is
all-well n [] within = tt
all-well n (i ∷ is) within = (within.0.0, all-well n is within.1)

children-well : (n : ℕ) (c : Option (Vec Info Global)) → AreWithinIfTold ghosts.shape n c → IfSome c (λ v. AllByRecursion (λ i. ghosts.shape.well i) v.items)
children-well n None within = tt
children-well n (Some v) within = all-well n v.items within

-- an Info is well, and has two levels more than its children
pub info-within : (n : ℕ) (i : Info) (f : OwnMembers) (c : Option (Vec Info Global)) (p : Option (Option (String Global))) (row : ContextRow)
    → content i ≡ told f (children_content c) → OwnMembersAreWell info_parts f
    → tree_of i ≡ shown_info (option_map parent_node p) row (children_node tree_of c)
    → AreWithinIfTold ghosts.shape n c → n ≤ 58 → IsWithin ghosts.shape (n + 2) i
info-within n i f c p row made beside is within few =
    let deep = shown-below (n + 1) p row (children_node tree_of c) (children-below n c within) in
    let below : levels (tree_of i) ≤ n + 2 = subst (λ t. levels t ≤ n + 2) (sym is) (omega (arith, deep)) in
    (info_made info_parts i f c made beside (children-well n c within) (omega (arith, below)), below)
