-- Rules as they are written, which values fit them, and when a table says the same. After RFC 8610: 2.2.2 choices, 3.5 maps, 3.5.4 cuts.
use Rattle.std.specs.Prelude.{◌≡◌, ◌≤◌, ◌⊎◌, ℕ, ℤ, ◌≤ℤ◌, List, [], ◌∷◌, ◌++◌, map, Bool, true, Option, Some, None}
use Rattle.json.specs.Json as json
use Rattle.json.specs.Json.{Json, Items, no_items, item, Members, no_members, member}
use Rattle.json.specs.Find.{get}
use Rattle.bidi_grammar.specs.Number.{whole_in}
use Rattle.bidi_grammar.specs.Term as term
use Rattle.bidi_grammar.specs.Term.{Need, optional, Bound, is_between, Row, row, Term, Grammar, term_at}
use Rattle.bidi_grammar.specs.Fits.{count, without}

mutual
  -- a type, as it is written
  pub data Written : Type 0 where
    exactly : List ℕ → Written
    text : Written
    bool : Written
    truth : Bool → Written
    null : Written
    whole : ℤ → ℤ → Written
    number : Bound → Bound → Written
    any : Written
    list_of : ℕ → Written → Written
    -- `[X, Y]`
    tuple_of : Parts → Written
    -- `{ A }`
    map_of : Group → Written
    -- `X / Y`
    either : Written → Written → Written
    -- a rule by its name
    name : List ℕ → Written

  -- the types of an array's items, in order
  pub data Parts : Type 0 where
    no_parts : Parts
    part : Written → Parts → Parts

  -- a group, as it is written
  pub data Group : Type 0 where
    empty : Group
    -- `name: X`, `? name: X`
    named : List ℕ → Need → Written → Group
    -- `* text => X`
    further : Written → Group
    -- `A, B`
    both : Group → Group → Group
    -- `A // B`
    choice : Group → Group → Group
    -- `? ( A )`
    maybe : Group → Group
    -- a group by its name
    group : List ℕ → Group

-- an entry that a group stands for: a named member, or what further members have to fit
pub data Entry : Type 0 where
  at_name : List ℕ → Need → Written → Entry
  others : Written → Entry

-- what the names stand for: a type, or a group
pub record Rules : Type 0 where
  pub type_of : List ℕ → Option Written
  pub group_of : List ℕ → Option Group

-- the group stands for these entries, if one alternative of each choice is picked
pub data Picks (ρ : Rules) : Group → List Entry → Type 0 where
  picks_empty : Picks ρ empty []
  picks_named : (k : List ℕ) (need : Need) (σ : Written) → Picks ρ (named k need σ) (at_name k need σ ∷ [])
  picks_further : (σ : Written) → Picks ρ (further σ) (others σ ∷ [])
  picks_both : (A B : Group) (xs ys : List Entry) → Picks ρ A xs → Picks ρ B ys → Picks ρ (both A B) (xs ++ ys)
  picks_first : (A B : Group) (xs : List Entry) → Picks ρ A xs → Picks ρ (choice A B) xs
  picks_second : (A B : Group) (xs : List Entry) → Picks ρ B xs → Picks ρ (choice A B) xs
  picks_none : (A : Group) → Picks ρ (maybe A) []
  picks_some : (A : Group) (xs : List Entry) → Picks ρ A xs → Picks ρ (maybe A) xs
  picks_group : (k : List ℕ) (A : Group) (xs : List Entry) → ρ.group_of k ≡ Some A → Picks ρ A xs → Picks ρ (group k) xs

-- each of some lists, followed by each of others
abbrev pub pairs : List (List Entry) → List (List Entry) → List (List Entry)
pairs [] yss = []
pairs (xs ∷ xss) yss = map (λ ys. xs ++ ys) yss ++ pairs xss yss

-- the lists of entries of a group, in the order in which a loader lists them
pub data Lists (ρ : Rules) : Group → List (List Entry) → Type 0 where
  lists_empty : Lists ρ empty ([] ∷ [])
  lists_named : (k : List ℕ) (need : Need) (σ : Written) → Lists ρ (named k need σ) ((at_name k need σ ∷ []) ∷ [])
  lists_further : (σ : Written) → Lists ρ (further σ) ((others σ ∷ []) ∷ [])
  lists_both : (A B : Group) (xss yss : List (List Entry)) → Lists ρ A xss → Lists ρ B yss → Lists ρ (both A B) (pairs xss yss)
  lists_choice : (A B : Group) (xss yss : List (List Entry)) → Lists ρ A xss → Lists ρ B yss → Lists ρ (choice A B) (xss ++ yss)
  lists_maybe : (A : Group) (xss : List (List Entry)) → Lists ρ A xss → Lists ρ (maybe A) (xss ++ [] ∷ [])
  lists_group : (k : List ℕ) (A : Group) (xss : List (List Entry)) → ρ.group_of k ≡ Some A → Lists ρ A xss → Lists ρ (group k) xss

-- the names of the entries, in order
abbrev pub entry_names : List Entry → List (List ℕ)
entry_names [] = []
entry_names ((at_name k need σ) ∷ xs) = k ∷ entry_names xs
entry_names ((others σ) ∷ xs) = entry_names xs

-- what further members have to fit, if there may be any: the first `* text => X`
abbrev pub further_in : List Entry → Option Written
further_in [] = None
further_in ((at_name k need σ) ∷ xs) = further_in xs
further_in ((others σ) ∷ xs) = Some σ

mutual
  -- the value fits the type as it is written
  pub data FitsWritten (ρ : Rules) : Json → Written → Type 0 where
    w_exactly : (s : List ℕ) → FitsWritten ρ (json.string s) (exactly s)
    w_text : (s : List ℕ) → FitsWritten ρ (json.string s) text
    w_bool : (b : Bool) → FitsWritten ρ (json.boolean b) bool
    w_truth : (b : Bool) → FitsWritten ρ (json.boolean b) (truth b)
    w_null : FitsWritten ρ json.null null
    w_whole : (s : List ℕ) (z a b : ℤ) → whole_in s ≡ Some z → a ≤ℤ z → z ≤ℤ b → FitsWritten ρ (json.number s) (whole a b)
    w_number : (s : List ℕ) (a b : Bound) → is_between a b s ≡ true → FitsWritten ρ (json.number s) (number a b)
    w_any : (t : Json) → FitsWritten ρ t any
    w_list : (ts : Items) (least : ℕ) (σ : Written) → least ≤ count ts → AllFitWritten ρ ts σ → FitsWritten ρ (json.array ts) (list_of least σ)
    w_tuple : (ts : Items) (σs : Parts) → PartsFitWritten ρ ts σs → FitsWritten ρ (json.array ts) (tuple_of σs)
    -- the members fit one of the lists of entries that the group stands for
    w_map : (ms : Members) (A : Group) (xs : List Entry) → Picks ρ A xs → EntriesFit ρ (json.object ms) xs
        → OthersFitWritten ρ (further_in xs) (without (entry_names xs) ms) → FitsWritten ρ (json.object ms) (map_of A)
    w_first : (t : Json) (σ τ : Written) → FitsWritten ρ t σ → FitsWritten ρ t (either σ τ)
    w_second : (t : Json) (σ τ : Written) → FitsWritten ρ t τ → FitsWritten ρ t (either σ τ)
    w_name : (t : Json) (k : List ℕ) (σ : Written) → ρ.type_of k ≡ Some σ → FitsWritten ρ t σ → FitsWritten ρ t (name k)

  -- each of the items fits the type
  pub data AllFitWritten (ρ : Rules) : Items → Written → Type 0 where
    w_no_item : (σ : Written) → AllFitWritten ρ no_items σ
    w_item : (t : Json) (ts : Items) (σ : Written) → FitsWritten ρ t σ → AllFitWritten ρ ts σ → AllFitWritten ρ (item t ts) σ

  -- there are as many items as types, and each item fits its type
  pub data PartsFitWritten (ρ : Rules) : Items → Parts → Type 0 where
    w_no_part : PartsFitWritten ρ no_items no_parts
    w_part : (t : Json) (ts : Items) (σ : Written) (σs : Parts) → FitsWritten ρ t σ → PartsFitWritten ρ ts σs → PartsFitWritten ρ (item t ts) (part σ σs)

  -- each required name is there, and the value at each name fits
  pub data EntriesFit (ρ : Rules) : Json → List Entry → Type 0 where
    w_no_entry : (t : Json) → EntriesFit ρ t []
    w_there : (t : Json) (k : List ℕ) (need : Need) (σ : Written) (xs : List Entry) (u : Json)
        → get k t ≡ Some u → FitsWritten ρ u σ → EntriesFit ρ t xs → EntriesFit ρ t (at_name k need σ ∷ xs)
    w_absent : (t : Json) (k : List ℕ) (σ : Written) (xs : List Entry) → get k t ≡ None → EntriesFit ρ t xs → EntriesFit ρ t (at_name k optional σ ∷ xs)
    w_others : (t : Json) (σ : Written) (xs : List Entry) → EntriesFit ρ t xs → EntriesFit ρ t (others σ ∷ xs)

  -- the members that no entry names: there are none, or each fits the type
  pub data OthersFitWritten (ρ : Rules) : Option Written → Members → Type 0 where
    w_no_other : (rest : Option Written) → OthersFitWritten ρ rest no_members
    w_other : (σ : Written) (k : List ℕ) (t : Json) (ms : Members) → FitsWritten ρ t σ → OthersFitWritten ρ (Some σ) ms
        → OthersFitWritten ρ (Some σ) (member k t ms)

-- ---- what a place of a table was made of

-- a type, or some of the lists of entries that a group stands for
pub data Source : Type 0 where
  of_type : Written → Source
  of_lists : List (List Entry) → Source
  -- past the end of the table
  never : Source

-- the list is one of these
abbrev pub IsOne : List Entry → List (List Entry) → Type 0
IsOne xs [] = ⊥
IsOne xs (ys ∷ yss) = (xs ≡ ys) ⊎ IsOne xs yss

-- the places are made of these types, in order
pub data PartsAre (o : ℕ → Source) : List ℕ → Parts → Type 0 where
  no_place : PartsAre o [] no_parts
  a_place : (n : ℕ) (ns : List ℕ) (σ : Written) (σs : Parts) → o n ≡ of_type σ → PartsAre o ns σs → PartsAre o (n ∷ ns) (part σ σs)

-- the rows have the names of the entries, and places made of their types
pub data RowsAre (o : ℕ → Source) : List Row → List Entry → Type 0 where
  no_rows : RowsAre o [] []
  a_row : (k : List ℕ) (need : Need) (n : ℕ) (σ : Written) (rows : List Row) (xs : List Entry)
      → o n ≡ of_type σ → RowsAre o rows xs → RowsAre o ((row k need n) ∷ rows) (at_name k need σ ∷ xs)
  no_row_for : (σ : Written) (rows : List Row) (xs : List Entry) → RowsAre o rows xs → RowsAre o rows (others σ ∷ xs)

-- the place for further members is made of their type, or there is neither
pub data RestIs (o : ℕ → Source) : Option ℕ → Option Written → Type 0 where
  no_rest : RestIs o None None
  a_rest : (n : ℕ) (σ : Written) → o n ≡ of_type σ → RestIs o (Some n) (Some σ)

-- the term says what its source does, if the places that it names do: a test of one place
pub data Made (ρ : Rules) (g : Grammar) (o : ℕ → Source) : Term → Source → Type 0 where
  made_exactly : (s : List ℕ) → Made ρ g o (term.exactly s) (of_type (exactly s))
  made_text : Made ρ g o term.text (of_type text)
  made_bool : Made ρ g o term.bool (of_type bool)
  made_truth : (b : Bool) → Made ρ g o (term.truth b) (of_type (truth b))
  made_null : Made ρ g o term.null (of_type null)
  made_whole : (a b : ℤ) → Made ρ g o (term.whole a b) (of_type (whole a b))
  made_number : (a b : Bound) → Made ρ g o (term.number a b) (of_type (number a b))
  made_any : Made ρ g o term.any (of_type any)
  made_list : (least n : ℕ) (σ : Written) → o n ≡ of_type σ → Made ρ g o (term.list_of least n) (of_type (list_of least σ))
  made_tuple : (ns : List ℕ) (σs : Parts) → PartsAre o ns σs → Made ρ g o (term.tuple_of ns) (of_type (tuple_of σs))
  made_either : (m n : ℕ) (σ τ : Written) → o m ≡ of_type σ → o n ≡ of_type τ → Made ρ g o (term.either m n) (of_type (either σ τ))
  -- the rule's place is made of what its name stands for
  made_name : (k : List ℕ) (n : ℕ) (σ : Written) → ρ.type_of k ≡ Some σ → o n ≡ of_type σ → Made ρ g o (term.rule k n) (of_type (name k))
  made_map : (rows : List Row) (rest : Option ℕ) (xs : List Entry) → RowsAre o rows xs → RestIs o rest (further_in xs)
      → Made ρ g o (term.map_of rows rest) (of_lists (xs ∷ []))
  -- the alternatives of a group, one after the other
  made_maps : (m n : ℕ) (rows : List Row) (rest : Option ℕ) (xs : List Entry) (xss : List (List Entry)) → term_at g m ≡ term.map_of rows rest
      → RowsAre o rows xs → RestIs o rest (further_in xs) → o n ≡ of_lists xss → Made ρ g o (term.either m n) (of_lists (xs ∷ xss))
  made_never : Made ρ g o term.nothing never

-- the same of a map's type: it comes from the lists of its group
pub data Comes (ρ : Rules) (g : Grammar) (o : ℕ → Source) : Term → Source → Type 0 where
  comes : (τ : Term) (s : Source) → Made ρ g o τ s → Comes ρ g o τ s
  by_group : (τ : Term) (A : Group) (xss : List (List Entry)) → Lists ρ A xss → Made ρ g o τ (of_lists xss) → Comes ρ g o τ (of_type (map_of A))

-- each place of the table comes from its source
abbrev pub IsMade : Rules → Grammar → (ℕ → Source) → Type 0
IsMade ρ g o = (n : ℕ) → Comes ρ g o (term_at g n) (o n)

-- the value is what the source says
abbrev pub Means : Rules → Json → Source → Type 0
Means ρ t never = ⊥
Means ρ t (of_type σ) = FitsWritten ρ t σ
Means ρ t (of_lists xss) = (ms : Members) × ((t ≡ json.object ms) × ((xs : List Entry)
    × (IsOne xs xss × (EntriesFit ρ (json.object ms) xs × OthersFitWritten ρ (further_in xs) (without (entry_names xs) ms)))))
