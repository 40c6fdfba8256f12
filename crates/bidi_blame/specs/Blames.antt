-- Why a tree does not fit a term, line by line as `Fits` says that it does.
use Rattle.std.specs.Prelude.{◌≡◌, ◌^◌, ◌==◌, ◌+◌, ℕ, ℤ, pos, List, Bool, true, false, not, ◌&&◌, nat_lt, nat_le, Option, Some, None, is_some}
use Rattle.std.specs.Option.{option_map_or}
use Rattle.std.specs.Str.{bytes_eq}
use Rattle.bidi_tree.specs.Number.{is_js_int}
use Rattle.bidi_tree.specs.Node as node
use Rattle.bidi_tree.specs.Node.{Node, Items, no_items, item, Members, member, get_member, levels}
use Rattle.bidi_tree.specs.Kind.{is_null, bool_in, whole_in, text_in, list_in, map_in}
use Rattle.bidi_shape.specs.Name.{Name}
use Rattle.bidi_shape.specs.Term.{Need, required, optional, Openness, extensible, closed, Term, exactly, text, bool, null, js_uint, js_int}
use Rattle.bidi_shape.specs.Term.{any, list_of, pair_of, map_of, either, rule, capped, Rows, no_more, row, names_of}
use Rattle.bidi_shape.specs.Profile.{term_of}
use Rattle.bidi_shape.specs.Fits.{Fits, AllFit, RowsFit, OthersFit, count, without}
use Rattle.bidi_blame.specs.Reason as step
use Rattle.bidi_blame.specs.Reason.{Reason, here, missing, unknown, under, by, tags_with, told}
use Rattle.bidi_shape.specs.Limits.{most_levels}

-- the number is a js-uint: from 0 to 2^53 - 1
abbrev pub is_js_uint : ℤ → Bool
is_js_uint (pos n) = is_js_int (pos n)
is_js_uint z = false

-- the tree is a number that is not whole, or out of range
abbrev pub is_odd : Node → Bool
is_odd node.odd = true
is_odd t = false

-- whether the tree itself, whatever stands in it, is one that the term takes
abbrev pub takes : Node → Term → Bool
takes t (exactly u) = option_map_or (λ s. bytes_eq s u) (text_in t) false
takes t text = is_some (text_in t)
takes t bool = is_some (bool_in t)
takes t null = is_null t
takes t js_uint = option_map_or is_js_uint (whole_in t) false
takes t js_int = option_map_or is_js_int (whole_in t) false
takes t any = not (is_odd t) && nat_le (levels t) most_levels
takes t (list_of least τ) = option_map_or (λ ts. nat_le least (count ts)) (list_in t) false
takes t (pair_of σ τ) = option_map_or (λ ts. count ts == 2) (list_in t) false
takes t (map_of rows o) = is_some (map_in t)
takes t (either σ τ) = true
takes t (rule n) = true
takes t (capped τ) = nat_le (levels t) most_levels

mutual
  -- a tree does not fit a term for a reason
  -- example: 70 lists, each in the next, have one reason
  pub data Blames : Node → Term → Reason → Type 0 where
    not_taken : (t : Node) (τ : Term) → takes t τ ≡ false → Blames t τ (here τ t)
    -- the levels of a tree are counted before anything in it is to blame, so the outermost place with too many is told
    in_any_list : (ts : Items) (r : Reason) → takes (node.list ts) any ≡ true → ItemsBlame 0 ts any r → Blames (node.list ts) any r
    in_any_map : (ms : Members) (r : Reason) → takes (node.map ms) any ≡ true → OthersBlame extensible 0 ms r → Blames (node.map ms) any r
    in_list : (ts : Items) (least : ℕ) (τ : Term) (r : Reason) → ItemsBlame 0 ts τ r → Blames (node.list ts) (list_of least τ) r
    in_first : (t u : Node) (σ τ : Term) (r : Reason) → Blames t σ r
        → Blames (node.list (item t (item u no_items))) (pair_of σ τ) (under 0 (step.item 0) r)
    in_second : (t u : Node) (σ τ : Term) (r : Reason) → Fits t σ → Blames u τ r
        → Blames (node.list (item t (item u no_items))) (pair_of σ τ) (under 0 (step.item 1) r)
    in_map : (ms : Members) (rows : Rows) (o : Openness) (r : Reason) → RowsBlame o (without (names_of rows) ms) 0 ms rows r
        → Blames (node.map ms) (map_of rows o) r
    of_both : (t : Node) (σ τ : Term) (a b : Reason) → Blames t σ a → Blames t τ b → Blames t (either σ τ) (told t (either σ τ) a b)
    of_rule : (t : Node) (n : Name) (r : Reason) → Blames t (term_of n) r → Blames t (rule n) (by n r)
    of_capped : (t : Node) (τ : Term) (r : Reason) → takes t (capped τ) ≡ true → Blames t τ r → Blames t (capped τ) r

  -- the first item that does not fit is to blame, where so many stand before these
  pub data ItemsBlame : ℕ → Items → Term → Reason → Type 0 where
    this_item : (i : ℕ) (t : Node) (ts : Items) (τ : Term) (r : Reason) → Blames t τ r → ItemsBlame i (item t ts) τ (under 0 (step.item i) r)
    later_item : (i : ℕ) (t : Node) (ts : Items) (τ : Term) (r : Reason) → Fits t τ → ItemsBlame (i + 1) ts τ r → ItemsBlame i (item t ts) τ r

  -- the first row that is not met is to blame, or the other members; so many tags fit before these rows
  pub data RowsBlame : Openness → Members → ℕ → Members → Rows → Reason → Type 0 where
    is_missing : (o : Openness) (others : Members) (n : ℕ) (ms : Members) (k : List ℕ) (τ : Term) (rows : Rows) → get_member k ms ≡ None
        → RowsBlame o others n ms (row k required τ rows) (missing n k τ)
    in_member : (o : Openness) (others : Members) (n : ℕ) (ms : Members) (k : List ℕ) (need : Need) (τ : Term) (rows : Rows) (t : Node) (r : Reason)
        → get_member k ms ≡ Some t → Blames t τ r → RowsBlame o others n ms (row k need τ rows) (under n (step.member k) r)
    is_there : (o : Openness) (others : Members) (n : ℕ) (ms : Members) (k : List ℕ) (need : Need) (τ : Term) (rows : Rows) (t : Node) (r : Reason)
        → get_member k ms ≡ Some t → Fits t τ → RowsBlame o others (tags_with n k) ms rows r → RowsBlame o others n ms (row k need τ rows) r
    is_absent : (o : Openness) (others : Members) (n : ℕ) (ms : Members) (k : List ℕ) (τ : Term) (rows : Rows) (r : Reason)
        → get_member k ms ≡ None → RowsBlame o others n ms rows r → RowsBlame o others n ms (row k optional τ rows) r
    in_others : (o : Openness) (others : Members) (n : ℕ) (ms : Members) (r : Reason) → OthersBlame o n others r
        → RowsBlame o others n ms no_more r

  -- of the members that no row names the first that may not be there, or that does not fit any
  pub data OthersBlame : Openness → ℕ → Members → Reason → Type 0 where
    is_unknown : (n : ℕ) (k : List ℕ) (t : Node) (ms : Members) → OthersBlame closed n (member k t ms) (unknown n k t)
    in_other : (n : ℕ) (k : List ℕ) (t : Node) (ms : Members) (r : Reason) → Blames t any r
        → OthersBlame extensible n (member k t ms) (under n (step.member k) r)
    later_other : (n : ℕ) (k : List ℕ) (t : Node) (ms : Members) (r : Reason) → Fits t any → OthersBlame extensible n ms r
        → OthersBlame extensible n (member k t ms) r

-- ---- what an answer says: a reason, or none where the tree fits

-- with no reason the tree fits the rule; with a reason, the tree does not fit because of it
abbrev pub Judged : Node → Term → Option Reason → Type 0
Judged t τ None = Fits t τ
Judged t τ (Some r) = Blames t τ r

-- the same of the items of a list
abbrev pub ItemsJudged : Items → Term → Option Reason → Type 0
ItemsJudged ts τ None = AllFit ts τ
ItemsJudged ts τ (Some r) = ItemsBlame 0 ts τ r

-- the same of the members of a map and the rows of its rule
abbrev pub RowsJudged : Members → Rows → Openness → Option Reason → Type 0
RowsJudged ms rows o None = RowsFit ms rows × OthersFit o (without (names_of rows) ms)
RowsJudged ms rows o (Some r) = RowsBlame o (without (names_of rows) ms) 0 ms rows r

-- the same of the members that no row names
abbrev pub OthersJudged : Openness → ℕ → Members → Option Reason → Type 0
OthersJudged o n others None = OthersFit o others
OthersJudged o n others (Some r) = OthersBlame o n others r
