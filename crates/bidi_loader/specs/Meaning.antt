-- What the nodes of a text and its rules mean. After RFC 8610: 2 and 3.
use Rattle.std.specs.Prelude.{ℕ, List, [], ◌∷◌, ◌++◌, map, Bool, true, false, Option, Some, None, option_and_then, is_some, unwrap_or, slice_index_or, ◌==◌, if◌then◌else◌}
use Rattle.std.specs.List.{find}
use Rattle.std.specs.Str.{bytes_eq}
use Rattle.bidi_grammar.specs.Term.{required, optional}
use Rattle.bidi_grammar.specs.Source as source
use Rattle.bidi_grammar.specs.Source.{Written, Parts, no_parts, part, Group, Entry, at_name, others, Rules}
use Rattle.bidi_cddl.specs.declared.written.Occurs.{Occurs}
use Rattle.bidi_cddl.specs.declared.written.Occurs.TheVariants.{Once, Optional, AtLeast}
use Rattle.bidi_cddl.specs.declared.written.Node.{Node}
use Rattle.bidi_cddl.specs.declared.written.Node.TheVariants as node
use Rattle.bidi_cddl.specs.declared.written.Body.{Body}
use Rattle.bidi_cddl.specs.declared.written.Body.TheVariants as body
use Rattle.bidi_cddl.specs.declared.written.Rule.{Rule}
use Rattle.bidi_cddl.specs.declared.written.Written as code
use Rattle.bidi_loader.specs.Plain.{unescaped, range, bounded, prelude}

-- ---- what a node can mean

-- the items of an array: exactly these, or at least so many of one type; or the loader leaves such an array out
pub data Items : Type 0 where
  these : Parts → Items
  many : ℕ → Written → Items
  left_out : Items

-- a type, or a group with the items that an array of it has
pub data Tree : Type 0 where
  a_type : Written → Tree
  a_group : Group → Items → Tree

-- the type that a tree is; a group is none, and stands for `null`
abbrev pub as_type : Tree → Written
as_type (a_type σ) = σ
as_type (a_group A items) = source.null

-- the group that a tree is; a type is none, and stands for the empty group
abbrev pub as_group : Tree → Group
as_group (a_type σ) = source.empty
as_group (a_group A items) = A

-- the items that an array of a tree has
abbrev pub as_items : Tree → Items
as_items (a_type σ) = left_out
as_items (a_group A items) = items

-- the tree at a place; past the end stands `null`
abbrev pub tree_at : List Tree → ℕ → Tree
tree_at trees i = slice_index_or trees i (a_type source.null)

-- the type at a place
abbrev pub type_at : List Tree → ℕ → Written
type_at trees i = as_type (tree_at trees i)

-- the group at a place
abbrev pub group_at : List Tree → ℕ → Group
group_at trees i = as_group (tree_at trees i)

-- the items at a place
abbrev pub items_at : List Tree → ℕ → Items
items_at trees i = as_items (tree_at trees i)

-- the types at some places
abbrev pub parts_at : List Tree → List ℕ → Parts
parts_at trees [] = no_parts
parts_at trees (i ∷ places) = part (type_at trees i) (parts_at trees places)

-- the entry that a group is
abbrev pub entry_of : Group → Entry
entry_of (source.named k need σ) = at_name k need σ
entry_of (source.further σ) = others σ
entry_of A = others source.null

-- the entries at some places
abbrev pub entries_at : List Tree → List ℕ → List Entry
entries_at trees places = map (λ i. entry_of (group_at trees i)) places

-- ---- the parts of a meaning

-- a string; one with an escape that JSON does not have is left out
abbrev pub text_type : Option (List ℕ) → Written
text_type (Some s) = source.exactly s
text_type None = source.null

-- a name: a rule, or else a type of the prelude
abbrev pub name_type : Bool → List ℕ → Written
name_type true s = source.name s
name_type false s = unwrap_or (prelude s) (source.name s)

-- the array of some items
abbrev pub array_type : Items → Written
array_type (these parts) = source.tuple_of parts
array_type (many least σ) = source.list_of least σ
array_type left_out = source.null

-- a member of a map; more than one member of a name is left out
abbrev pub member_group : Occurs → Option (List ℕ) → Written → Group
member_group Once (Some s) σ = source.named s required σ
member_group Optional (Some s) σ = source.named s optional σ
member_group (AtLeast n) (Some s) σ = source.empty
member_group occurs None σ = source.empty

-- `* text => X`; any other number of further members is left out
abbrev pub further_group : Occurs → Written → Group
further_group (AtLeast n) σ = if n == 0 then source.further σ else source.empty
further_group occurs σ = source.empty

-- a type alone in a map: a group by its name
abbrev pub bare_group : Written → Group
bare_group (source.name s) = source.group s
bare_group σ = source.empty

-- a group that may occur so often in a map; more than once is left out
abbrev pub some_of : Occurs → Group → Group
some_of Once A = A
some_of Optional A = source.maybe A
some_of (AtLeast n) A = source.empty

-- an item that occurs so often; an optional one is left out
abbrev pub item : Occurs → Written → Items
item Once σ = these (part σ no_parts)
item Optional σ = left_out
item (AtLeast n) σ = many n σ

-- items in parentheses that occur so often; only a single item may be repeated
abbrev pub items_again : Occurs → Items → Items
items_again Once items = items
items_again (AtLeast n) (these (part σ no_parts)) = many n σ
items_again occurs items = left_out

-- parts, followed by others
abbrev pub parts_then : Parts → Parts → Parts
parts_then no_parts more = more
parts_then (part σ parts) more = part σ (parts_then parts more)

-- items, followed by others; an occurrence beside other items is left out
abbrev pub items_then : Items → Items → Items
items_then (these no_parts) more = more
items_then (these parts) (these more) = these (parts_then parts more)
items_then items more = left_out

-- ---- the meaning of nodes and rules

-- the tree of a node, over the trees of the nodes before it; `is_rule` says which names rules have
abbrev pub tree_of : (List ℕ → Bool) → List Tree → Node → Tree
tree_of is_rule trees (node.Text s) = a_type (text_type (unescaped s.now))
tree_of is_rule trees (node.Number s) = a_type (range s.now s.now false)
tree_of is_rule trees (node.Range a b is_open) = a_type (range a.now b.now is_open)
tree_of is_rule trees (node.Bounded i control s) = a_type (bounded (type_at trees i) control.now s.now)
tree_of is_rule trees (node.Name s) = a_type (name_type (is_rule s.now) s.now)
tree_of is_rule trees (node.Map i) = a_type (source.map_of (group_at trees i))
tree_of is_rule trees (node.Array i) = a_type (array_type (items_at trees i))
tree_of is_rule trees (node.Either i j) = a_type (source.either (type_at trees i) (type_at trees j))
tree_of is_rule trees node.Empty = a_group source.empty (these no_parts)
tree_of is_rule trees (node.Member occurs s i) = a_group (member_group occurs (unescaped s.now) (type_at trees i)) (item occurs (type_at trees i))
tree_of is_rule trees (node.Further occurs i) = a_group (further_group occurs (type_at trees i)) left_out
tree_of is_rule trees (node.Bare occurs i) = a_group (some_of occurs (bare_group (type_at trees i))) (item occurs (type_at trees i))
tree_of is_rule trees (node.Inside occurs i) = a_group (some_of occurs (group_at trees i)) (items_again occurs (items_at trees i))
tree_of is_rule trees (node.Both i j) = a_group (source.both (group_at trees i) (group_at trees j)) (items_then (items_at trees i) (items_at trees j))
tree_of is_rule trees (node.Choice i j) = a_group (source.choice (group_at trees i) (group_at trees j)) left_out

-- the trees of further nodes, behind those of the nodes before them
abbrev pub trees_from : (List ℕ → Bool) → List Tree → List Node → List Tree
trees_from is_rule trees [] = trees
trees_from is_rule trees (n ∷ nodes) = trees_from is_rule (trees ++ tree_of is_rule trees n ∷ []) nodes

-- the first rule of a name
abbrev pub rule_named : List ℕ → List Rule → Option Rule
rule_named k rules = find (λ (r : Rule). bytes_eq r.name.now k) rules

-- a rule has the name
abbrev pub is_rule : List Rule → List ℕ → Bool
is_rule rules k = is_some (rule_named k rules)

-- the trees of what is written, one for each node
unfoldable pub written_trees : code.Written → List Tree
written_trees w = trees_from (is_rule w.rules.items) [] w.nodes.items

-- the type that a rule stands for; `( x )` may be both, and is what x is
abbrev pub type_of_body : List Tree → Body → Option Written
type_of_body trees (body.Type i) = Some (type_at trees i)
type_of_body trees (body.Group i) = None
type_of_body trees (body.Either i j) = Some (type_at trees i)

-- the group that a rule stands for
abbrev pub group_of_body : List Tree → Body → Option Group
group_of_body trees (body.Type i) = None
group_of_body trees (body.Group i) = Some (group_at trees i)
group_of_body trees (body.Either i j) = Some (group_at trees j)

-- the rules as they are written
abbrev pub rules_of : code.Written → Rules
rules_of w = record {
  type_of = λ k. option_and_then (λ (r : Rule). type_of_body (written_trees w) r.body) (rule_named k w.rules.items);
  group_of = λ k. option_and_then (λ (r : Rule). group_of_body (written_trees w) r.body) (rule_named k w.rules.items);
}
