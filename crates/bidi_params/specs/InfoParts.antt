-- How an Info is made of its children and of the members beside them. After WebDriver BiDi, "The browsingContext.Info Type".
use Rattle.std.specs.Prelude.{[], ◌∷◌, Option, Some, option_map, String, refl}
use Rattle.std.proofs.Common.{Vec, Global}
use Rattle.bidi_tree.specs.Node.{Node, Members}
use Rattle.bidi_shape.specs.Name.{info}
use Rattle.bidi_shape.specs.Term.{rule}
use Rattle.bidi_shape.specs.ChoiceLaws.{nullable_shape}
use Rattle.bidi_shape.specs.ScalarShapes.{string_shape}
use Rattle.bidi_shape.specs.FieldTables.{required_table, optional_table, ext_table}
use Rattle.bidi_shape.specs.Table.{table_tree}
use Rattle.bidi_params.specs.InfoLaws.{InfoOf, rows_with}
use Rattle.bidi_params.specs.InfoView.{OwnMembers, tree_of_children}
use Rattle.bidi_params.specs.declared.browsing_context.info.Info.{Info}

-- the members beside `children`: clientWindow, context, originalOpener, url, userContext, ? parent, and further members
abbrev pub info_parts : InfoOf OwnMembers
info_parts = record {
  table = required_table string_shape (required_table string_shape (required_table (nullable_shape string_shape)
      (required_table string_shape (required_table string_shape (optional_table (nullable_shape string_shape) ext_table)))));
  is_info = refl;
  once = refl;
}

-- the map of children, the members beside them, and further members
abbrev pub map_of_parts : Option (Vec Info Global) → String Global
    → String Global → Option (String Global) → String Global → String Global → Option (Option (String Global)) → Members → Node
map_of_parts children client_window context original_opener url user_context parent ext =
    let text = string_shape.tree_of in
    let text_or_null = (nullable_shape string_shape).tree_of in
    table_tree (rows_with info_parts.table (rule info))
    (Some (tree_of_children info_parts children) ∷ Some (text client_window) ∷ Some (text context)
    ∷ Some (text_or_null original_opener) ∷ Some (text url) ∷ Some (text user_context) ∷ option_map text_or_null parent ∷ [])
    ext
