-- Terms of CDDL: what a rule can say of a tree. After RFC 8610, 2 and 3.
use Prim.Native.String.{String}
use Rattle.std.specs.Prelude.{ℕ, List, [], ◌∷◌, codes}
use Rattle.bidi_shape.specs.Name.{Name}

-- a member is required or optional
pub data Need : Type 0 where
  required : Need
  optional : Need

-- an extensible object may have members that no row names, and a closed one may not
pub data Openness : Type 0 where
  extensible : Openness
  closed : Openness

mutual
  -- what a tree has to be: a string, another value of one kind, an array, an object, a choice, a rule, or a tree of few levels
  pub data Term : Type 0 where
    -- exactly this string
    exactly : List ℕ → Term
    text : Term
    bool : Term
    null : Term
    js_uint : Term
    js_int : Term
    -- any tree without Odd and with at most 60 levels
    any : Term
    -- an array of at least this many items, each of which fits the term
    list_of : ℕ → Term → Term
    -- an array of two items
    pair_of : Term → Term → Term
    map_of : Rows → Openness → Term
    either : Term → Term → Term
    -- the rule of this name
    rule : Name → Term
    -- a tree of at most 60 levels that fits the term
    capped : Term → Term

  -- the named members of an object, in the order of the rule: for each its name, whether it is required, and the term of its value
  pub data Rows : Type 0 where
    no_more : Rows
    row : List ℕ → Need → Term → Rows → Rows

-- ---- how the profile is written

-- `name: term, ..`, a required member
infixr 3 ◌is◌and◌
abbrev pub ◌is◌and◌ : String → Term → Rows → Rows
◌is◌and◌ name τ rows = row (codes name) required τ rows

-- `? name: term, ..`, an optional member
infixr 3 ◌may_be◌and◌
abbrev pub ◌may_be◌and◌ : String → Term → Rows → Rows
◌may_be◌and◌ name τ rows = row (codes name) optional τ rows

-- `A / B`, a choice
infixr 4 ◌or◌
abbrev pub ◌or◌ : Term → Term → Term
◌or◌ = either

-- `"text"`, exactly this string
abbrev pub the : String → Term
the s = exactly (codes s)

-- `[*X]`, an array of any length
abbrev pub any_number_of : Term → Term
any_number_of τ = list_of 0 τ

-- `[+X]`, an array of at least one item
abbrev pub at_least_one : Term → Term
at_least_one τ = list_of 1 τ

-- `{ .., Extensible }`, an object that may have further members
-- example: `open_map ("context" is text and "wait" may_be rule wait and no_more)`
abbrev pub open_map : Rows → Term
open_map rows = map_of rows extensible

-- `{ .. }`, an object without further members
abbrev pub closed_map : Rows → Term
closed_map rows = map_of rows closed

-- ---- questions about rows

-- the names of the rows, in order
abbrev pub names_of : Rows → List (List ℕ)
names_of no_more = []
names_of (row k need τ rows) = k ∷ names_of rows
