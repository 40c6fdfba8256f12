-- What is read of the nodes before a table is made, and what each place of a table was made of.
use Rattle.std.specs.Prelude.{◌≡◌, ◌<◌, ⊤, ℕ, length, List, [], map, take, drop, Some, slice_index_or, string_bytes}
use Rattle.std.specs.List.{AllZip}
use Rattle.std.specs.Global.{Vec}
use Rattle.std.specs.declared.alloc.Global.{Global}
use Rattle.std.specs.Prelude.{String}
use Rattle.bidi_grammar.specs.Term as term
use Rattle.bidi_grammar.specs.Term.{Term, Row, row, Bound, unbounded, including, excluding}
use Rattle.bidi_grammar.specs.View.{need_of}
use Rattle.bidi_grammar.specs.Source as source
use Rattle.bidi_grammar.specs.Source.{Written, Group, Entry, Lists, RowsAre, RestIs, further_in, Source, of_type, of_lists, never}
use Rattle.bidi_cddl.specs.declared.written.Node.{Node}
use Rattle.bidi_cddl.specs.declared.written.Node.TheVariants as node
use Rattle.bidi_cddl.specs.declared.written.Rule.{Rule}
use Rattle.bidi_cddl.specs.declared.written.Written as code
use Rattle.bidi_loader.specs.declared.draft.Origin.{Origin}
use Rattle.bidi_loader.specs.declared.draft.Origin.TheVariants as origin
use Rattle.bidi_loader.specs.declared.reading.Reading.{Reading}
use Rattle.bidi_loader.specs.declared.items.Items as code_items
use Rattle.bidi_loader.specs.declared.items.Items.TheVariants.{These, Many}
use Rattle.bidi_loader.specs.declared.entry.Entry as code_entry
use Rattle.bidi_loader.specs.declared.entry.Entry.TheVariants.{Named, Further}
use Rattle.bidi_loader.specs.declared.plain.End.{End}
use Rattle.bidi_loader.specs.declared.plain.End.TheVariants.{Unbounded, Including, Excluding}
use Rattle.bidi_loader.specs.declared.plain.Plain.{Plain}
use Rattle.bidi_loader.specs.declared.plain.Plain.TheVariants as plain
use Rattle.bidi_loader.specs.Plain.{unescaped}
use Rattle.bidi_loader.specs.Meaning.{Tree, Items, these, many, type_at, group_at, items_at, parts_at, entries_at, written_trees, rules_of}

-- the node stands at that place of the list
abbrev pub IsNode : code.Written → ℕ → Node → Type 0
IsNode w k n = (k < length w.nodes.items) × (n ≡ slice_index_or w.nodes.items k n)

-- ---- what is read of the nodes

-- the string of a node as it is written; a node without a string has the empty one
abbrev pub text_in : Node → List ℕ
text_in (node.Text s) = s.now
text_in (node.Member occurs s i) = s.now
text_in n = []

-- these are the strings of the nodes, without their escapes
abbrev pub AreTexts : code.Written → List (String Global) → Type 0
AreTexts w texts = map (λ n. unescaped (text_in n)) w.nodes.items ≡ map (λ s. Some (string_bytes s)) texts

-- the lists of entries at some nodes
abbrev pub lists_view : List Tree → Vec (Vec ℕ) → List (List Entry)
lists_view trees lists = map (λ (list : Vec ℕ). entries_at trees list.items) lists.items

-- these are the lists of the group in a map; nothing is said of another node
abbrev pub ListsOf : code.Written → Node → Vec (Vec ℕ) → Type 0
ListsOf w (node.Map i) lists = Lists (rules_of w) (group_at (written_trees w) i) (lists_view (written_trees w) lists)
ListsOf w n lists = ⊤

-- these are the items at some nodes
abbrev pub items_view : List Tree → code_items.Items → Items
items_view trees (These parts) = these (parts_at trees parts.items)
items_view trees (Many least i) = many least (type_at trees i)

-- these are the items of an array; nothing is said of another node
abbrev pub ItemsOf : code.Written → Node → code_items.Items → Type 0
ItemsOf w (node.Array i) items = items_at (written_trees w) i ≡ items_view (written_trees w) items
ItemsOf w n items = ⊤

-- the reading is one of these nodes
pub record IsReading (w : code.Written) (reading : Reading) : Type 0 where
  pub texts : AreTexts w reading.texts.items
  pub lists : AllZip (ListsOf w) w.nodes.items reading.lists.items
  pub items : AllZip (ItemsOf w) w.nodes.items reading.items.items

-- ---- types that name no other

-- an end of a range
abbrev pub end_view : End → Bound
end_view Unbounded = unbounded
end_view (Including s) = including s.now
end_view (Excluding s) = excluding s.now

-- a type that names no other
abbrev pub plain_view : Plain → Written
plain_view (plain.Exactly s) = source.exactly s.now
plain_view plain.Text = source.text
plain_view plain.Bool = source.bool
plain_view (plain.Truth b) = source.truth b
plain_view plain.Null = source.null
plain_view (plain.Whole a b) = source.whole a b
plain_view (plain.Number a b) = source.number (end_view a) (end_view b)
plain_view plain.Any = source.any

-- the term says what a type says that names no other
abbrev pub IsPlainOf : Term → Written → Type 0
IsPlainOf (term.exactly s) (source.exactly u) = s ≡ u
IsPlainOf term.text source.text = ⊤
IsPlainOf term.bool source.bool = ⊤
IsPlainOf (term.truth b) (source.truth c) = b ≡ c
IsPlainOf term.null source.null = ⊤
IsPlainOf (term.whole a b) (source.whole m n) = (a ≡ m) × (b ≡ n)
IsPlainOf (term.number a b) (source.number m n) = (a ≡ m) × (b ≡ n)
IsPlainOf term.any source.any = ⊤
IsPlainOf τ σ = ⊥

-- ---- entries of maps

-- the string of a node, without its escapes
abbrev pub text_at : List (String Global) → ℕ → List ℕ
text_at texts k = slice_index_or (map string_bytes texts) k []

-- a member of a map with the string of a node for a name
abbrev pub entry_view : List Tree → List (String Global) → ℕ → code_entry.Entry → Group
entry_view trees texts k (Named need i) = source.named (text_at texts k) (need_of need) (type_at trees i)
entry_view trees texts k (Further i) = source.further (type_at trees i)

-- ---- what places are made of

-- the lists of entries of the map at a node
abbrev pub lists_at : code.Written → Reading → ℕ → List (List Entry)
lists_at w reading k = slice_index_or (map (lists_view (written_trees w)) reading.lists.items) k []

-- the name of a rule, as a type
abbrev pub named_at : code.Written → ℕ → Source
named_at w i = slice_index_or (map (λ (r : Rule). of_type (source.name r.name.now)) w.rules.items) i never

-- what a place was made of
abbrev pub source_of : code.Written → Reading → Origin → Source
source_of w reading (origin.Type k) = of_type (type_at (written_trees w) k)
source_of w reading (origin.Rule i) = named_at w i
source_of w reading (origin.Alternative k i) = of_lists (take 1 (drop i (lists_at w reading k)))
source_of w reading (origin.Alternatives k i) = of_lists (drop i (lists_at w reading k))

-- what the place with this number was made of
abbrev pub source_at : code.Written → Reading → List Origin → ℕ → Source
source_at w reading origins n = slice_index_or (map (source_of w reading) origins) n never

-- the term is a map with rows and further members made of the entries
abbrev pub IsMapOf : (ℕ → Source) → Term → List Entry → Type 0
IsMapOf o (term.map_of rows rest) xs = RowsAre o rows xs × RestIs o rest (further_in xs)
IsMapOf o τ xs = ⊥

-- the row was made of the entry
abbrev pub IsRowOf : (ℕ → Source) → Row → Group → Type 0
IsRowOf o (row k need n) (source.named l want σ) = (k ≡ l) × ((need ≡ want) × (o n ≡ of_type σ))
IsRowOf o (row k need n) A = ⊥
