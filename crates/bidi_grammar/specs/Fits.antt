-- Which JSON values fit a term of a grammar. After RFC 8610: 2.2.2 choices, 3.2 occurrence, 3.4 arrays, 3.5 maps, 3.5.4 cuts.
use Rattle.std.specs.Prelude.{◌≡◌, ◌≤◌, ℕ, suc, ℤ, ◌≤ℤ◌, List, [], ◌∷◌, length, Bool, true, false, not, ◌==◌, nat_le, Option, Some, None, is_some, if◌then◌else◌}
use Rattle.std.specs.List.{list_any}
use Rattle.std.specs.Str.{bytes_eq}
use Rattle.std.specs.Option.{option_map_or}
use Rattle.json.specs.Json as json
use Rattle.json.specs.Json.{Json, Items, no_items, item, Members, no_members, member}
use Rattle.json.specs.Find.{get, is_null, as_str, as_number, as_bool, as_array, as_object}
use Rattle.bidi_grammar.specs.Number.{whole_in, is_whole_from}
use Rattle.bidi_grammar.specs.Term.{Need, optional, Bound, is_between, Row, row, names_of, Term, exactly, text, bool, truth, null, whole, number, any, list_of, tuple_of, map_of, either, rule, nothing, Grammar, term_at}

-- the number of items
abbrev pub count : Items → ℕ
count no_items = 0
count (item t ts) = suc (count ts)

-- the members whose name is not among these
abbrev pub without : List (List ℕ) → Members → Members
without names no_members = no_members
without names (member k t ms) = if list_any (bytes_eq k) names then without names ms else member k t (without names ms)

mutual
  -- the value fits the term, by one constructor for each line of the notation
  pub data Fits (g : Grammar) : Json → Term → Type 0 where
    fits_exactly : (s : List ℕ) → Fits g (json.string s) (exactly s)
    fits_text : (s : List ℕ) → Fits g (json.string s) text
    fits_bool : (b : Bool) → Fits g (json.boolean b) bool
    fits_truth : (b : Bool) → Fits g (json.boolean b) (truth b)
    fits_null : Fits g json.null null
    fits_whole : (s : List ℕ) (z a b : ℤ) → whole_in s ≡ Some z → a ≤ℤ z → z ≤ℤ b → Fits g (json.number s) (whole a b)
    fits_number : (s : List ℕ) (a b : Bound) → is_between a b s ≡ true → Fits g (json.number s) (number a b)
    fits_any : (t : Json) → Fits g t any
    fits_list : (ts : Items) (least n : ℕ) → least ≤ count ts → AllFit g ts n → Fits g (json.array ts) (list_of least n)
    fits_tuple : (ts : Items) (ns : List ℕ) → EachFits g ts ns → Fits g (json.array ts) (tuple_of ns)
    -- the rows and the further members; a value at a row's name that does not fit is not taken for a further member (the cut)
    fits_map : (ms : Members) (rows : List Row) (rest : Option ℕ) → RowsFit g (json.object ms) rows → OthersFit g rest (without (names_of rows) ms)
        → Fits g (json.object ms) (map_of rows rest)
    fits_first : (t : Json) (m n : ℕ) → Fits g t (term_at g m) → Fits g t (either m n)
    fits_second : (t : Json) (m n : ℕ) → Fits g t (term_at g n) → Fits g t (either m n)
    fits_rule : (t : Json) (k : List ℕ) (n : ℕ) → Fits g t (term_at g n) → Fits g t (rule k n)

  -- each of the items fits the term at that place
  pub data AllFit (g : Grammar) : Items → ℕ → Type 0 where
    no_item : (n : ℕ) → AllFit g no_items n
    an_item : (t : Json) (ts : Items) (n : ℕ) → Fits g t (term_at g n) → AllFit g ts n → AllFit g (item t ts) n

  -- there are as many items as places, and each item fits the term at its place
  pub data EachFits (g : Grammar) : Items → List ℕ → Type 0 where
    no_part : EachFits g no_items []
    a_part : (t : Json) (ts : Items) (n : ℕ) (ns : List ℕ) → Fits g t (term_at g n) → EachFits g ts ns → EachFits g (item t ts) (n ∷ ns)

  -- each required name is there, and the value at each row's name fits the row's term; of members of one name the last counts
  pub data RowsFit (g : Grammar) : Json → List Row → Type 0 where
    no_row : (t : Json) → RowsFit g t []
    there : (t : Json) (k : List ℕ) (need : Need) (n : ℕ) (rows : List Row) (u : Json)
        → get k t ≡ Some u → Fits g u (term_at g n) → RowsFit g t rows → RowsFit g t ((row k need n) ∷ rows)
    absent : (t : Json) (k : List ℕ) (n : ℕ) (rows : List Row) → get k t ≡ None → RowsFit g t rows → RowsFit g t ((row k optional n) ∷ rows)

  -- the members that no row names: there are none, or each fits the term at that place
  pub data OthersFit (g : Grammar) : Option ℕ → Members → Type 0 where
    no_other : (rest : Option ℕ) → OthersFit g rest no_members
    an_other : (n : ℕ) (k : List ℕ) (t : Json) (ms : Members) → Fits g t (term_at g n) → OthersFit g (Some n) ms → OthersFit g (Some n) (member k t ms)

-- both are true or both are false
abbrev pub same_truth : Bool → Bool → Bool
same_truth true x = x
same_truth false x = not x

-- whether the value itself, whatever stands in it, is one that the term takes
abbrev pub takes : Json → Term → Bool
takes t (exactly u) = option_map_or (λ s. bytes_eq s u) (as_str t) false
takes t text = is_some (as_str t)
takes t bool = is_some (as_bool t)
takes t (truth b) = option_map_or (same_truth b) (as_bool t) false
takes t null = is_null t
takes t (whole a b) = option_map_or (is_whole_from a b) (as_number t) false
takes t (number a b) = option_map_or (is_between a b) (as_number t) false
takes t any = true
takes t (list_of least n) = option_map_or (λ ts. nat_le least (count ts)) (as_array t) false
takes t (tuple_of ns) = option_map_or (λ ts. count ts == length ns) (as_array t) false
takes t (map_of rows rest) = is_some (as_object t)
takes t (either m n) = true
takes t (rule k n) = true
takes t nothing = false

-- the term names no other, so what it takes fits
abbrev pub is_plain : Term → Bool
is_plain (list_of least n) = false
is_plain (tuple_of ns) = false
is_plain (map_of rows rest) = false
is_plain (either m n) = false
is_plain (rule k n) = false
is_plain τ = true
