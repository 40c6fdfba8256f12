-- Infos of Rust by what they hold.
use Rattle.std.specs.Prelude.{Option, Some, None}
use Rattle.std.proofs.Common.{◌≡◌, String, Vec, Global, map, rules}
use Rattle.bidi_tree.specs.Node.{Node}
use Rattle.bidi_shape.specs.declared.ext.Ext.{Ext}
use Rattle.bidi_shape.specs.declared.fields.Required.{Required}
use Rattle.bidi_shape.specs.declared.fields.Optional.{Optional}
use Rattle.bidi_params.specs.InfoContent.{Content, told, Children, left_out, listed, contents_of}
use Rattle.bidi_params.specs.InfoLaws.{InfoOf, info_tree, children_tree, PartsAreWell}
use Rattle.bidi_params.specs.declared.browsing_context.info.Info.{Info, Info-F, fold-Info, out-Info, the_lemmas}

-- the members beside `children`
abbrev pub OwnMembers : Type 0
OwnMembers =
    Required (String Global) (Required (String Global)
    (Required (Option (String Global)) (Required (String Global) (Required (String Global) (Optional (Option (String Global)) Ext)))))

-- the members beside the children of an Info of the code
abbrev pub beside_of : {A : Type 0} → Info-F A → OwnMembers
beside_of i = (i.client_window, (i.context, (i.original_opener, (i.url, (i.user_context, (i.parent, i.ext))))))

-- the children of an Info, from the contents of the Infos in them
abbrev pub children_step : Option (Vec (Content OwnMembers) Global) → Children OwnMembers
children_step None = left_out
children_step (Some v) = listed (contents_of v.items)

-- the content of an Info, from the contents of its children
abbrev pub info_step : Info-F (Content OwnMembers) → Content OwnMembers
info_step i = told (beside_of i) (children_step i.children)

-- the content of an Info of the code
abbrev pub content : Info → Content OwnMembers
content = fold-Info (Content OwnMembers) info_step

-- the content of the children of an Info of the code
abbrev pub children_content : Option (Vec Info Global) → Children OwnMembers
children_content None = left_out
children_content (Some v) = listed (contents_of (map content v.items))

-- the content of an Info has the members beside its children, and the contents of these
pub content-told : (i : Info) → content i ≡ told (beside_of (out-Info i)) (children_content (out-Info i).children)
content-told i = search (rules, the_lemmas)

-- the tree of an Info of the code
abbrev pub tree_of_info : InfoOf OwnMembers → Info → Node
tree_of_info n i = info_tree n (content i)

-- the tree of the children of an Info of the code
abbrev pub tree_of_children : InfoOf OwnMembers → Option (Vec Info Global) → Node
tree_of_children n c = children_tree n (children_content c)

-- the parts of an Info of the code are well-formed
abbrev pub InfoIsWell : InfoOf OwnMembers → Info → Type 0
InfoIsWell n i = PartsAreWell n (content i)
