-- Judging a value by a term, look by look: it fits, it does not for a reason, or no look is left. One look is one term asked about one value.
use Rattle.std.specs.Prelude.{◌≡◌, ◌+◌, ℕ, suc, List, [], ◌∷◌, Bool, true, false, Option, Some, None}
use Rattle.json.specs.Json as json
use Rattle.json.specs.Json.{Json, Items, no_items, Members, no_members}
use Rattle.json.specs.Find.{get}
use Rattle.bidi_grammar.specs.Term.{Need, required, optional, Row, row, names_of, Term, list_of, tuple_of, map_of, either, rule, Grammar, term_at}
use Rattle.bidi_grammar.specs.Fits.{takes, is_plain, without}
use Rattle.bidi_grammar.specs.Reason as step
use Rattle.bidi_grammar.specs.Reason.{PathStep, Reason, here, missing, unknown, under, by, tags_with, told}

-- what judging ends with, and how many looks are left
pub data Answer : Type 0 where
  -- the value fits
  yes_left : ℕ → Answer
  -- the value does not fit, for a reason
  no_left : ℕ → Reason → Answer
  -- no look was left to go on
  gave_up : Answer

-- the answer for a part is no yes, so the whole is decided
abbrev pub stops : Answer → Bool
stops (yes_left k) = false
stops (no_left k r) = true
stops gave_up = true

-- the answer for a part that stops, as one for the whole: the reason is a step further in
abbrev pub through : ℕ → PathStep → Answer → Answer
through tags s (yes_left k) = yes_left k
through tags s (no_left k r) = no_left k (under tags s r)
through tags s gave_up = gave_up

-- the answer for the second alternative, after a reason against the first
abbrev pub after_first : Json → ℕ → Reason → Answer → Answer
after_first t choice a (yes_left k) = yes_left k
after_first t choice a (no_left k b) = no_left k (told t choice a b)
after_first t choice a gave_up = gave_up

-- the answer of a rule: a reason that no inner rule names has its name
abbrev pub by_rule : ℕ → Answer → Answer
by_rule n (yes_left k) = yes_left k
by_rule n (no_left k r) = no_left k (by n r)
by_rule n gave_up = gave_up

-- whether the answer says that the value fits, or None if no look was left
abbrev pub fit_in : Answer → Option Bool
fit_in (yes_left k) = Some true
fit_in (no_left k r) = Some false
fit_in gave_up = None

mutual
  -- with so many looks, asking whether the value fits the term at that place ends with the answer
  pub data Judges (g : Grammar) : ℕ → Json → ℕ → Term → Answer → Type 0 where
    no_look : (t : Json) (n : ℕ) (τ : Term) → Judges g 0 t n τ gave_up
    not_taken : (k : ℕ) (t : Json) (n : ℕ) (τ : Term) → takes t τ ≡ false → Judges g (suc k) t n τ (no_left k (here n t))
    taken : (k : ℕ) (t : Json) (n : ℕ) (τ : Term) → is_plain τ ≡ true → takes t τ ≡ true → Judges g (suc k) t n τ (yes_left k)
    in_list : (k : ℕ) (ts : Items) (n least m : ℕ) (a : Answer) → takes (json.array ts) (list_of least m) ≡ true → ItemsJudge g k 0 ts m a
        → Judges g (suc k) (json.array ts) n (list_of least m) a
    in_tuple : (k : ℕ) (ts : Items) (n : ℕ) (ns : List ℕ) (a : Answer) → takes (json.array ts) (tuple_of ns) ≡ true → PartsJudge g k 0 ts ns a
        → Judges g (suc k) (json.array ts) n (tuple_of ns) a
    in_map : (k : ℕ) (ms : Members) (n : ℕ) (rows : List Row) (rest : Option ℕ) (a : Answer)
        → RowsJudge g k rest (without (names_of rows) ms) 0 (json.object ms) rows a → Judges g (suc k) (json.object ms) n (map_of rows rest) a
    -- the second alternative is asked only if the value does not fit the first
    in_first : (k : ℕ) (t : Json) (n l m j : ℕ) → Judges g k t l (term_at g l) (yes_left j) → Judges g (suc k) t n (either l m) (yes_left j)
    out_in_first : (k : ℕ) (t : Json) (n l m : ℕ) → Judges g k t l (term_at g l) gave_up → Judges g (suc k) t n (either l m) gave_up
    in_second : (k : ℕ) (t : Json) (n l m j : ℕ) (r : Reason) (a : Answer) → Judges g k t l (term_at g l) (no_left j r) → Judges g j t m (term_at g m) a
        → Judges g (suc k) t n (either l m) (after_first t n r a)
    of_rule : (k : ℕ) (t : Json) (n m : ℕ) (name : List ℕ) (a : Answer) → Judges g k t m (term_at g m) a → Judges g (suc k) t n (rule name m) (by_rule n a)

  -- the items are asked in order, with so many before them, until one does not fit
  pub data ItemsJudge (g : Grammar) : ℕ → ℕ → Items → ℕ → Answer → Type 0 where
    all_asked : (k i n : ℕ) → ItemsJudge g k i no_items n (yes_left k)
    at_item : (k i : ℕ) (t : Json) (ts : Items) (n : ℕ) (a : Answer) → Judges g k t n (term_at g n) a → stops a ≡ true
        → ItemsJudge g k i (json.item t ts) n (through 0 (step.item i) a)
    next_item : (k i : ℕ) (t : Json) (ts : Items) (n j : ℕ) (a : Answer) → Judges g k t n (term_at g n) (yes_left j) → ItemsJudge g j (i + 1) ts n a
        → ItemsJudge g k i (json.item t ts) n a

  -- the items are asked in order, each by a term of its own
  pub data PartsJudge (g : Grammar) : ℕ → ℕ → Items → List ℕ → Answer → Type 0 where
    parts_asked : (k i : ℕ) → PartsJudge g k i no_items [] (yes_left k)
    at_part : (k i : ℕ) (t : Json) (ts : Items) (n : ℕ) (ns : List ℕ) (a : Answer) → Judges g k t n (term_at g n) a → stops a ≡ true
        → PartsJudge g k i (json.item t ts) (n ∷ ns) (through 0 (step.item i) a)
    next_part : (k i : ℕ) (t : Json) (ts : Items) (n : ℕ) (ns : List ℕ) (j : ℕ) (a : Answer) → Judges g k t n (term_at g n) (yes_left j)
        → PartsJudge g j (i + 1) ts ns a → PartsJudge g k i (json.item t ts) (n ∷ ns) a

  -- the rows are asked in order, until one is not met, and then the other members; so many tags fit before these rows
  pub data RowsJudge (g : Grammar) : ℕ → Option ℕ → Members → ℕ → Json → List Row → Answer → Type 0 where
    is_missing : (k : ℕ) (rest : Option ℕ) (others : Members) (tags : ℕ) (t : Json) (name : List ℕ) (n : ℕ) (rows : List Row) → get name t ≡ None
        → RowsJudge g k rest others tags t ((row name required n) ∷ rows) (no_left k (missing tags name n))
    at_row : (k : ℕ) (rest : Option ℕ) (others : Members) (tags : ℕ) (t : Json) (name : List ℕ) (need : Need) (n : ℕ) (rows : List Row) (u : Json) (a : Answer)
        → get name t ≡ Some u → Judges g k u n (term_at g n) a → stops a ≡ true
        → RowsJudge g k rest others tags t ((row name need n) ∷ rows) (through tags (step.member name) a)
    row_met : (k : ℕ) (rest : Option ℕ) (others : Members) (tags : ℕ) (t : Json) (name : List ℕ) (need : Need) (n : ℕ) (rows : List Row) (u : Json) (j : ℕ) (a : Answer)
        → get name t ≡ Some u → Judges g k u n (term_at g n) (yes_left j) → RowsJudge g j rest others (tags_with tags name) t rows a
        → RowsJudge g k rest others tags t ((row name need n) ∷ rows) a
    is_absent : (k : ℕ) (rest : Option ℕ) (others : Members) (tags : ℕ) (t : Json) (name : List ℕ) (n : ℕ) (rows : List Row) (a : Answer) → get name t ≡ None
        → RowsJudge g k rest others tags t rows a → RowsJudge g k rest others tags t ((row name optional n) ∷ rows) a
    rows_met : (k : ℕ) (rest : Option ℕ) (others : Members) (tags : ℕ) (t : Json) (a : Answer) → OthersJudge g k rest tags others a
        → RowsJudge g k rest others tags t [] a

  -- the members that no row names are asked in order, until one may not be there or does not fit
  pub data OthersJudge (g : Grammar) : ℕ → Option ℕ → ℕ → Members → Answer → Type 0 where
    others_asked : (k : ℕ) (rest : Option ℕ) (tags : ℕ) → OthersJudge g k rest tags no_members (yes_left k)
    is_unknown : (k tags : ℕ) (name : List ℕ) (t : Json) (ms : Members) → OthersJudge g k None tags (json.member name t ms) (no_left k (unknown tags name t))
    at_other : (k n tags : ℕ) (name : List ℕ) (t : Json) (ms : Members) (a : Answer) → Judges g k t n (term_at g n) a → stops a ≡ true
        → OthersJudge g k (Some n) tags (json.member name t ms) (through tags (step.member name) a)
    next_other : (k n tags : ℕ) (name : List ℕ) (t : Json) (ms : Members) (j : ℕ) (a : Answer) → Judges g k t n (term_at g n) (yes_left j)
        → OthersJudge g j (Some n) tags ms a → OthersJudge g k (Some n) tags (json.member name t ms) a
