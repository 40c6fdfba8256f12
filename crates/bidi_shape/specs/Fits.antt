-- Which trees fit a term of CDDL. After RFC 8610: 2.2.2 choices, 3.2 occurrence, 3.5 maps, 3.5.4 cuts.
use Rattle.std.specs.Prelude.{◌≡◌, ℕ, suc, ◌≤◌, ℤ, pos, List, Bool, Some, None, if◌then◌else◌}
use Rattle.std.specs.List.{list_any}
use Rattle.std.specs.Str.{bytes_eq}
use Rattle.bidi_tree.specs.Number.{IsJsUint, IsJsInt}
use Rattle.bidi_tree.specs.Node as node
use Rattle.bidi_tree.specs.Node.{Node, Items, no_items, item, Members, no_members, member, get_member, levels, IsWhole, MembersAreWhole}
use Rattle.bidi_shape.specs.Name.{Name}
use Rattle.bidi_shape.specs.Term.{Need, optional, Openness, extensible, closed, Term, exactly, text, bool, null, js_uint, js_int}
use Rattle.bidi_shape.specs.Term.{any, list_of, pair_of, map_of, either, rule, capped, Rows, no_more, row, names_of}
use Rattle.bidi_shape.specs.Profile.{term_of}
use Rattle.bidi_shape.specs.Limits.{most_levels}

-- the number of items
abbrev pub count : Items → ℕ
count no_items = 0
count (item t ts) = suc (count ts)

-- the members whose name is not among these
abbrev pub without : List (List ℕ) → Members → Members
without names no_members = no_members
without names (member k t ms) = if list_any (bytes_eq k) names then without names ms else member k t (without names ms)

-- the members that no row names may be there: in an extensible object each fits `any`, and in a closed one there are none
abbrev pub OthersFit : Openness → Members → Type 0
OthersFit extensible others = MembersAreWhole others most_levels
OthersFit closed others = others ≡ no_members

mutual
  -- the tree fits the term, by one constructor for each line of the notation
  -- example: `{"maxDepth":null}` does not fit GetTreeParameters, because a known member has to fit its own term
  pub data Fits : Node → Term → Type 0 where
    fits_exactly : (s : List ℕ) → Fits (node.text s) (exactly s)
    fits_text : (s : List ℕ) → Fits (node.text s) text
    fits_bool : (b : Bool) → Fits (node.boolean b) bool
    fits_null : Fits node.null null
    fits_js_uint : (n : ℕ) → IsJsUint n → Fits (node.whole (pos n)) js_uint
    fits_js_int : (z : ℤ) → IsJsInt z → Fits (node.whole z) js_int
    fits_any : (t : Node) → IsWhole t most_levels → Fits t any
    fits_list : (ts : Items) (least : ℕ) (τ : Term) → least ≤ count ts → AllFit ts τ → Fits (node.list ts) (list_of least τ)
    fits_pair : (t u : Node) (σ τ : Term) → Fits t σ → Fits u τ → Fits (node.list (item t (item u no_items))) (pair_of σ τ)
    fits_map : (ms : Members) (rows : Rows) (o : Openness) → RowsFit ms rows → OthersFit o (without (names_of rows) ms) → Fits (node.map ms) (map_of rows o)
    fits_first : (t : Node) (σ τ : Term) → Fits t σ → Fits t (either σ τ)
    fits_second : (t : Node) (σ τ : Term) → Fits t τ → Fits t (either σ τ)
    fits_rule : (t : Node) (n : Name) → Fits t (term_of n) → Fits t (rule n)
    fits_capped : (t : Node) (τ : Term) → levels t ≤ most_levels → Fits t τ → Fits t (capped τ)

  -- each of the items fits the term
  pub data AllFit : Items → Term → Type 0 where
    no_item : (τ : Term) → AllFit no_items τ
    an_item : (t : Node) (ts : Items) (τ : Term) → Fits t τ → AllFit ts τ → AllFit (item t ts) τ

  -- each required name is there, and the value at each row's name fits; a value that does not fit is not taken for another member (the cut)
  pub data RowsFit : Members → Rows → Type 0 where
    no_row : (ms : Members) → RowsFit ms no_more
    there : (ms : Members) (k : List ℕ) (need : Need) (τ : Term) (rows : Rows) (t : Node)
        → get_member k ms ≡ Some t → Fits t τ → RowsFit ms rows → RowsFit ms (row k need τ rows)
    absent : (ms : Members) (k : List ℕ) (τ : Term) (rows : Rows) → get_member k ms ≡ None → RowsFit ms rows → RowsFit ms (row k optional τ rows)
