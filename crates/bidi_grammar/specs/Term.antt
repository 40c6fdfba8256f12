-- A grammar as a table of terms; a term names others by their places in the table. After RFC 8610, 2 and 3.
use Rattle.std.specs.Prelude.{ℕ, ℤ, Bool, true, ◌&&◌, List, [], ◌∷◌, Option, slice_index_or}
use Rattle.std.specs.Float.Ieee.{le, lt}
use Rattle.bidi_grammar.specs.Number.{double}

-- a member is required or optional
pub data Need : Type 0 where
  required : Need
  optional : Need

-- a member that a map names: its name, whether it has to be there, and the place of its term
pub data Row : Type 0 where
  row : List ℕ → Need → ℕ → Row

-- one end of a range of numbers, as the number's text
pub data Bound : Type 0 where
  unbounded : Bound
  including : List ℕ → Bound
  excluding : List ℕ → Bound

-- what a rule can say of a value; a number names the term at that place of the table
pub data Term : Type 0 where
  -- `"abc"`: exactly this string
  exactly : List ℕ → Term
  -- `text`
  text : Term
  -- `bool`
  bool : Term
  -- `true` or `false`
  truth : Bool → Term
  -- `null`
  null : Term
  -- `a..b`: a whole number from a to b
  whole : ℤ → ℤ → Term
  -- `a..b`, `a...b`, `float .ge a`: any number between two bounds
  number : Bound → Bound → Term
  -- `any`
  any : Term
  -- `[n*X]`: an array of at least n items, each of which fits X
  list_of : ℕ → ℕ → Term
  -- `[X, Y]`: an array of exactly these items
  tuple_of : List ℕ → Term
  -- `{ name: X, ? name: Y, * text => Z }`: the named members, in order, and what each further member has to fit; with None there are no
  -- further members
  map_of : List Row → Option ℕ → Term
  -- `X / Y`: a choice
  either : ℕ → ℕ → Term
  -- a rule by its name, and the place of its term
  rule : List ℕ → ℕ → Term
  -- what no value fits: the term past the end of the table
  nothing : Term

-- the table of a grammar
abbrev pub Grammar : Type 0
Grammar = List Term

-- the term at a place of the table
abbrev pub term_at : Grammar → ℕ → Term
term_at g n = slice_index_or g n nothing

-- the names of some rows, in order
abbrev pub names_of : List Row → List (List ℕ)
names_of [] = []
names_of ((row k need n) ∷ rows) = k ∷ names_of rows

-- the number is not below the bound; both are compared as doubles
abbrev pub is_above : Bound → List ℕ → Bool
is_above unbounded s = true
is_above (including a) s = le (double a) (double s)
is_above (excluding a) s = lt (double a) (double s)

-- the number is not above the bound; both are compared as doubles
abbrev pub is_below : Bound → List ℕ → Bool
is_below unbounded s = true
is_below (including b) s = le (double s) (double b)
is_below (excluding b) s = lt (double s) (double b)

-- the number is between the bounds
abbrev pub is_between : Bound → Bound → List ℕ → Bool
is_between a b s = is_above a s && is_below b s
