-- The arguments of `host`: each that is given adds its row to what is held, and those that are left out have their defaults.
use Rattle.std.proofs.Common.{◌≡◌, ◌⊎◌, ◌∙◌, ◌||◌, Bool, true, false, List, [], ◌∷◌, ◌++◌, None, Some, codes, refl, sym, ap, inl, inr}
use Rattle.std.proofs.Common.{append-nil, bytes_eq, subst}
use Rattle.std.proofs.lemmas.List.Sums.{fold-append}
use Rattle.std.proofs.lemmas.List.Folds.{find-append}
use Rattle.std.proofs.lemmas.Slice.Eq.{bytes_eq-Decides}
use Rattle.std.specs.Prelude.{Option, ◌&&◌, find, fold, if◌then◌else◌, is_some, option_and_then, option_map, slice_get, unwrap_or}
use Rattle.std.specs.Option.{option_map_or, option_or}
use Rattle.std.specs.List.{list_all, list_any}
use Rattle.clap.specs.Kinds.{Kinds, or_else}
use Rattle.clap.specs.Faults.{check_fault, defaults_fault, given_default_fault, level_fault, settle_fault, turn_fault, walk_fault}
use Rattle.clap.specs.Simple.{Shape, filled, label_of, names_of, subcommand_of, entered}
use Rattle.clap.specs.Walk.{Row, Rule, Text, Walk, answers_to, at_row, finished, first_of, has_row, is_empty, more_values, nothing_held, reading_by, rows_after, settled, walk_from, walked, with_default}
use Rattle.clap.specs.declared.parser.matches.ValueSource.TheVariants.{CommandLine, DefaultValue}
use Rattle.clap.proofs.OnLiterals.{clap_on_literals}
use Rattle.bidi_command_line.specs.declared.run.Run.TheVariants.{Host}
use Rattle.bidi_command_line.specs.CommandLine.{bidi_app, default_port, faults_of, flag_rule, flag_words, host_shape, hosted, is_true, number_within, run_in, value_rule, value_words}
use Rattle.bidi_command_line.proofs.FileLemmas.{app, or_else-nil, stopped-fault, stopped-walk, top_fault, walk_fault-append, walk_fault-one}
use Rattle.bidi_command_line.proofs.WordLemmas.{held}

-- the subcommand `host`, with what building adds to it
abbrev host_built : Shape
host_built = unwrap_or (find (λ s. answers_to (codes "host") (label_of s)) app.subs) host_shape

host-faults : (ws : List Text) → faults_of (codes "host" ∷ ws) ≡ level_fault host_built [] nothing_held ws false []
unfolding clap_on_literals
host-faults ws =
    (λ i. top_fault (stopped-fault app.top (names_of app) (walk_from nothing_held) (codes "host") [] ws i)
    (stopped-walk app.top.rules (names_of app) (walk_from nothing_held) (codes "host") [] ws i)) ∙ or_else-nil (level_fault host_built [] nothing_held ws false [])

host-rows : (ws : List Text) → subcommand_of bidi_app (codes "host" ∷ ws) ≡ Some (codes "host", rows_after host_built.rules [] ws)
unfolding clap_on_literals
host-rows ws = ap (λ w. entered app w.stopped) (stopped-walk app.top.rules (names_of app) (walk_from nothing_held) (codes "host") [] ws)

-- ---- rows

-- the first row of this argument
abbrev row_at : Text → List Row → Option Row
row_at id rows = find (λ r. bytes_eq r.id id) rows

list_any-find : {X : Type 0} (p : X → Bool) (xs : List X) → list_any p xs ≡ is_some (find p xs)
list_any-find p [] = refl
list_any-find p (x ∷ xs) = elim (p x) as (λ b. (b || list_any p xs) ≡ is_some (if b then Some x else find p xs)) [ true ↦ refl | false ↦ list_any-find p xs ]

none_held : (id : Text) (rows : List Row) → row_at id rows ≡ None → has_row id rows ≡ false
none_held id rows none = list_any-find (λ r. bytes_eq r.id id) rows ∙ ap is_some none

option_or-None : {X : Type 0} (o : Option X) → option_or o None ≡ o
option_or-None None = refl
option_or-None (Some x) = refl

-- a row is found before rows of other arguments, and after them
before_others : {o : Option Row} (id : Text) (xs ys : List Row) → row_at id xs ≡ o → row_at id ys ≡ None → row_at id (xs ++ ys) ≡ o
before_others {o = o} id xs ys found none = find-append (λ r. bytes_eq r.id id) xs ys ∙ (λ i. option_or (found i) (none i)) ∙ option_or-None o

after_others : {o : Option Row} (id : Text) (xs ys : List Row) → row_at id xs ≡ None → row_at id ys ≡ o → row_at id (xs ++ ys) ≡ o
after_others id xs ys none found = find-append (λ r. bytes_eq r.id id) xs ys ∙ (λ i. option_or (none i) (found i))

-- a row that is not there is added at the end
at_row-absent : (id : Text) (change : Row → List Row) (missing rows : List Row) → has_row id rows ≡ false → at_row id change missing rows ≡ rows ++ missing
at_row-absent id change missing [] none = refl
at_row-absent id change missing (r ∷ rows) none = of (bytes_eq r.id id) refl none (at_row-absent id change missing rows)
  where
    of : (t : Bool) → bytes_eq r.id id ≡ t → (t || has_row id rows) ≡ false → (has_row id rows ≡ false → at_row id change missing rows ≡ rows ++ missing)
        → at_row id change missing (r ∷ rows) ≡ r ∷ (rows ++ missing)
    of true e none rest = absurd cc
    of false e none rest = rw (e) (ap (λ rs. r ∷ rs) (rest none))

added : (id : Text) (change : Row → List Row) (missing rows : List Row) → has_row id rows ≡ false
    → at_row id change missing (at_row id (λ r. []) [] rows) ≡ rows ++ missing
added id change missing rows none =
    ap (at_row id change missing) (at_row-absent id (λ r. []) [] rows none ∙ append-nil rows) ∙ at_row-absent id change missing rows none

-- the row of an option that is given a value
abbrev value_row : Text → Text → Row
value_row id value = record { id = id; values = value ∷ []; count = None; source = Some CommandLine; reading = reading_by (filled (value_rule id)) }

-- the row of a flag that is given
abbrev flag_row : Text → Row
flag_row id = record { id = id; values = codes "true" ∷ []; count = None; source = Some CommandLine; reading = reading_by (filled (flag_rule id)) }

abbrev value_own : Text → Option Text → Option Row
value_own id value = option_map (value_row id) value

abbrev flag_own : Text → Bool → Option Row
flag_own id given = if given then Some (flag_row id) else None

abbrev row_list : Option Row → List Row
row_list None = []
row_list (Some r) = r ∷ []

-- the rows of one argument are not those of another
value_elsewhere : (id other : Text) (value : Option Text) → bytes_eq id other ≡ false → row_at other (row_list (value_own id value)) ≡ None
value_elsewhere id other None differs = refl
value_elsewhere id other (Some value) differs = rw (differs) refl

flag_elsewhere : (id other : Text) (given : Bool) → bytes_eq id other ≡ false → row_at other (row_list (flag_own id given)) ≡ None
flag_elsewhere id other false differs = refl
flag_elsewhere id other true differs = rw (differs) refl

value_here : (id : Text) (value : Option Text) → bytes_eq id id ≡ true → row_at id (row_list (value_own id value)) ≡ value_own id value
value_here id None same = refl
value_here id (Some value) same = rw (same) refl

flag_here : (id : Text) (given : Bool) → bytes_eq id id ≡ true → row_at id (row_list (flag_own id given)) ≡ flag_own id given
flag_here id false same = refl
flag_here id true same = rw (same) refl

-- ---- words

-- From these rows the words are read without a fault, and lead to those rows.
abbrev Leads : List Text → List Row → List Row → Type 0
Leads words rows end =
    (walk_fault host_built [] (walk_from (held rows)) words ≡ []) × (fold (walked host_built.rules []) (walk_from (held rows)) words ≡ walk_from (held end))

-- The argument adds its row, if there is none yet.
abbrev Adds : Text → Text → Row → Type 0
Adds word id row = (rows : List Row) → has_row id rows ≡ false
    → (turn_fault host_built [] (walk_from (held rows)) word ≡ []) × (walked host_built.rules [] (walk_from (held rows)) word ≡ walk_from (held (rows ++ row ∷ [])))

leads-nothing : (rows : List Row) → Leads [] rows (rows ++ [])
unfolding walk_fault
leads-nothing rows = (refl, ap (λ rs. walk_from (held rs)) (sym (append-nil rows)))

leads-word : (word : Text) (rows end : List Row) → turn_fault host_built [] (walk_from (held rows)) word ≡ []
    → walked host_built.rules [] (walk_from (held rows)) word ≡ walk_from (held end) → Leads (word ∷ []) rows end
leads-word word rows end free walks = (walk_fault-one host_built [] (walk_from (held rows)) word ∙ free, walks)

leads-on : (xs ys : List Text) (rows mid end : List Row) → Leads xs rows mid → Leads ys mid end → Leads (xs ++ ys) rows end
leads-on xs ys rows mid end first second = (
  walk_fault-append host_built [] (walk_from (held rows)) xs ys
      ∙ (λ i. or_else (first.0 i) (walk_fault host_built [] (first.1 i) ys)) ∙ second.0,
  fold-append (walked host_built.rules []) (walk_from (held rows)) xs ys ∙ ap (λ w. fold (walked host_built.rules []) w ys) first.1 ∙ second.1,
)

value_leads : (name : Text) → ((value : Text) → Adds ((codes "--" ++ name) ++ 61 ∷ value) name (value_row name value))
    → (value : Option Text) (rows : List Row) → row_at name rows ≡ None → Leads (value_words name value) rows (rows ++ row_list (value_own name value))
value_leads name adds None rows none = leads-nothing rows
value_leads name adds (Some value) rows none =
    let one = adds value rows (none_held name rows none) in
    leads-word ((codes "--" ++ name) ++ 61 ∷ value) rows (rows ++ value_row name value ∷ []) one.0 one.1

flag_leads : (name : Text) → Adds (codes "--" ++ name) name (flag_row name)
    → (given : Bool) (rows : List Row) → row_at name rows ≡ None → Leads (flag_words name given) rows (rows ++ row_list (flag_own name given))
flag_leads name adds false rows none = leads-nothing rows
flag_leads name adds true rows none =
    let one = adds rows (none_held name rows none) in
    leads-word (codes "--" ++ name) rows (rows ++ flag_row name ∷ []) one.0 one.1

port_adds : (value : Text) → Adds (codes "--port" ++ 61 ∷ value) (codes "port") (value_row (codes "port") value)
unfolding clap_on_literals
port_adds value rows none = (rw (none) refl, ap (λ rs. walk_from (held rs)) (added (codes "port") (more_values CommandLine (value ∷ [])) (value_row (codes "port") value ∷ []) rows none))

page_adds : (value : Text) → Adds (codes "--page" ++ 61 ∷ value) (codes "page") (value_row (codes "page") value)
unfolding clap_on_literals
page_adds value rows none = (rw (none) refl, ap (λ rs. walk_from (held rs)) (added (codes "page") (more_values CommandLine (value ∷ [])) (value_row (codes "page") value ∷ []) rows none))

record_adds : (value : Text) → Adds (codes "--record" ++ 61 ∷ value) (codes "record") (value_row (codes "record") value)
unfolding clap_on_literals
record_adds value rows none = (rw (none) refl, ap (λ rs. walk_from (held rs)) (added (codes "record") (more_values CommandLine (value ∷ [])) (value_row (codes "record") value ∷ []) rows none))

stdin_adds : Adds (codes "--stdin") (codes "stdin") (flag_row (codes "stdin"))
unfolding clap_on_literals
stdin_adds rows none = (rw (none) refl, ap (λ rs. walk_from (held rs)) (added (codes "stdin") (more_values CommandLine (codes "true" ∷ [])) (flag_row (codes "stdin") ∷ []) rows none))

sessions_adds : Adds (codes "--end-sessions") (codes "end-sessions") (flag_row (codes "end-sessions"))
unfolding clap_on_literals
sessions_adds rows none = (rw (none) refl, ap (λ rs. walk_from (held rs)) (added (codes "end-sessions") (more_values CommandLine (codes "true" ∷ [])) (flag_row (codes "end-sessions") ∷ []) rows none))

lenient_adds : Adds (codes "--lenient") (codes "lenient") (flag_row (codes "lenient"))
unfolding clap_on_literals
lenient_adds rows none = (rw (none) refl, ap (λ rs. walk_from (held rs)) (added (codes "lenient") (more_values CommandLine (codes "true" ∷ [])) (flag_row (codes "lenient") ∷ []) rows none))

once_adds : Adds (codes "--once") (codes "once") (flag_row (codes "once"))
unfolding clap_on_literals
once_adds rows none = (rw (none) refl, ap (λ rs. walk_from (held rs)) (added (codes "once") (more_values CommandLine (codes "true" ∷ [])) (flag_row (codes "once") ∷ []) rows none))

-- ---- defaults

abbrev has_none : Kinds → Bool
has_none [] = true
has_none (k ∷ kinds) = false

-- the default of an argument is no fault, whether it is taken or not
abbrev is_free_default : Rule → Bool
is_free_default a = is_empty a.defaults || has_none (given_default_fault a a.defaults)

free_default : (given is_none : Bool) (kinds : Kinds) → (is_none || has_none kinds) ≡ true → (if given || is_none then [] else kinds) ≡ []
free_default true is_none kinds free = refl
free_default false true kinds free = refl
free_default false false [] free = refl
free_default false false (k ∷ kinds) free = absurd cc

both_hold : (a b : Bool) → (a && b) ≡ true → (a ≡ true) × (b ≡ true)
both_hold true b e = (refl, e)
both_hold false b e = absurd cc

free_defaults : (rules : List Rule) (rows : List Row) → list_all is_free_default rules ≡ true → defaults_fault rows rules ≡ []
unfolding defaults_fault
free_defaults [] rows free = refl
free_defaults (a ∷ rules) rows free =
    let part = both_hold (is_free_default a) (list_all is_free_default rules) free in
    λ i. or_else (free_default (has_row a.id rows) (is_empty a.defaults) (given_default_fault a a.defaults) part.0 i)
    (free_defaults rules (with_default rows a) part.1 i)

-- the row of a default
data Defaulted (a : Rule) (rows : List Row) : Type 0 where
  as_before : with_default rows a ≡ rows → (has_row a.id rows ≡ true) ⊎ (a.defaults ≡ []) → Defaulted a rows
  with_row : (value : Text) (more : List Text) (row : Row) → a.defaults ≡ value ∷ more → row.id ≡ a.id → row.values ≡ value ∷ more
      → with_default rows a ≡ rows ++ row ∷ [] → Defaulted a rows

abbrev default_first : List Text → Option Text → Option Text
default_first [] next = next
default_first (value ∷ more) next = Some value

-- the default of the argument with this name
abbrev default_in : Text → List Rule → Option Text
default_in id [] = None
default_in id (a ∷ rules) = if bytes_eq a.id id then default_first a.defaults (default_in id rules) else default_in id rules

abbrev default_row : Rule → List Text → Row
default_row a values = record { id = a.id; values = values; count = None; source = Some DefaultValue; reading = reading_by a }

defaulted : (a : Rule) (rows : List Row) → Defaulted a rows
defaulted a rows = of (has_row a.id rows) refl a.defaults refl
  where
    of : (given : Bool) → has_row a.id rows ≡ given → (values : List Text) → a.defaults ≡ values → Defaulted a rows
    of true e values d = as_before (rw (e) refl) (inl e)
    of false e [] d = as_before (rw (e, d) refl) (inr d)
    of false e (value ∷ more) d =
        with_row value more (default_row a (value ∷ more)) d refl refl
        (rw (e, d) (at_row-absent a.id (more_values DefaultValue (value ∷ more)) (default_row a (value ∷ more) ∷ []) rows e))

-- the row of this argument, or none, from whether the names are the same
one_row : (id : Text) (row : Row) (name : Text) (same : Bool) → row.id ≡ name → bytes_eq name id ≡ same → row_at id (row ∷ []) ≡ (if same then Some row else None)
one_row id row name same named is = ap (λ b. if b then Some row else None) (ap (λ n. bytes_eq n id) named ∙ is)

-- a value that was given stays the first after the defaults
some-fold : (id : Text) (rules : List Rule) (rows : List Row) (r : Row) → row_at id rows ≡ Some r → first_of id (fold with_default rows rules) ≡ slice_get r.values 0
some-fold id [] rows r found = ap (option_and_then (λ row. slice_get row.values 0)) found
some-fold id (a ∷ rules) rows r found = some-fold id rules (with_default rows a) r (stays (defaulted a rows))
  where
    stays : Defaulted a rows → row_at id (with_default rows a) ≡ Some r
    stays (as_before same why) = ap (row_at id) same ∙ found
    stays (with_row value more row d named values same) =
        ap (row_at id) same ∙ find-append (λ row. bytes_eq row.id id) rows (row ∷ []) ∙ (λ i. option_or (found i) (row_at id (row ∷ [])))

-- an argument that was not given has its default
none-fold : (id : Text) (rules : List Rule) (rows : List Row) → row_at id rows ≡ None → first_of id (fold with_default rows rules) ≡ default_in id rules
none-fold id [] rows none = ap (option_and_then (λ row. slice_get row.values 0)) none
none-fold id (a ∷ rules) rows none = of (bytes_eq a.id id) refl (defaulted a rows) (none-fold id rules)
  where
    of : (t : Bool) → bytes_eq a.id id ≡ t → Defaulted a rows
        → ((rs : List Row) → row_at id rs ≡ None → first_of id (fold with_default rs rules) ≡ default_in id rules)
        → first_of id (fold with_default (with_default rows a) rules) ≡ (if t then default_first a.defaults (default_in id rules) else default_in id rules)
    of false e (as_before same why) next = ap (λ rs. first_of id (fold with_default rs rules)) same ∙ next rows none
    of false e (with_row value more row d named values same) next =
        ap (λ rs. first_of id (fold with_default rs rules)) same
        ∙ next (rows ++ row ∷ []) (after_others id rows (row ∷ []) none (one_row id row a.id false named e))
    of true e (as_before same (inl has)) next =
        let here : has_row id rows ≡ true = subst (λ n. has_row n rows ≡ true) ((bytes_eq-Decides a.id id).0 e) has in
        let no : has_row id rows ≡ false = none_held id rows none in
        absurd cc
    of true e (as_before same (inr nil)) next =
        ap (λ rs. first_of id (fold with_default rs rules)) same ∙ next rows none ∙ ap (λ ds. default_first ds (default_in id rules)) (sym nil)
    of true e (with_row value more row d named values same) next =
        ap (λ rs. first_of id (fold with_default rs rules)) same
        ∙ some-fold id rules (rows ++ row ∷ []) row (after_others id rows (row ∷ []) none (one_row id row a.id true named e))
        ∙ ap (λ vs. slice_get vs 0) values ∙ ap (λ ds. default_first ds (default_in id rules)) (sym d)

-- the first value of the row, or else the default
abbrev first_or : Option Row → Option Text → Option Text
first_or None next = next
first_or (Some r) next = slice_get r.values 0

read_at : (id : Text) (rules : List Rule) (rows : List Row) (o : Option Row) → row_at id rows ≡ o → first_of id (fold with_default rows rules) ≡ first_or o (default_in id rules)
read_at id rules rows None none = none-fold id rules rows none
read_at id rules rows (Some r) found = some-fold id rules rows r found

-- ---- the line

abbrev rules : List Rule
rules = host_built.rules

port_value : (port : Option Text) → first_or (value_own (codes "port") port) (default_in (codes "port") rules) ≡ Some (unwrap_or port default_port)
port_value None = refl
port_value (Some port) = refl

flag_value : (name : Text) → default_in name rules ≡ Some (codes "false") → (given : Bool)
    → option_map_or is_true (first_or (flag_own name given) (default_in name rules)) false ≡ given
flag_value name off true = refl
flag_value name off false = ap (λ d. option_map_or is_true d false) off

-- the arguments of `host`, each of which may be left out
abbrev pub host_words : Option Text → Option Text → Option Text → Bool → Bool → Bool → Bool → List Text
host_words port page record_file stdin sessions lenient once =
    value_words (codes "port") port ++ value_words (codes "page") page ++ flag_words (codes "stdin") stdin
    ++ value_words (codes "record") record_file ++ flag_words (codes "end-sessions") sessions ++ flag_words (codes "lenient") lenient
    ++ flag_words (codes "once") once

module _ (port page record_file : Option Text) (stdin sessions lenient once : Bool) where
  -- the rows after each argument
  abbrev rows1 : List Row
  rows1 = row_list (value_own (codes "port") port)

  abbrev rows2 : List Row
  rows2 = rows1 ++ row_list (value_own (codes "page") page)

  abbrev rows3 : List Row
  rows3 = rows2 ++ row_list (flag_own (codes "stdin") stdin)

  abbrev rows4 : List Row
  rows4 = rows3 ++ row_list (value_own (codes "record") record_file)

  abbrev rows5 : List Row
  rows5 = rows4 ++ row_list (flag_own (codes "end-sessions") sessions)

  abbrev rows6 : List Row
  rows6 = rows5 ++ row_list (flag_own (codes "lenient") lenient)

  abbrev rows7 : List Row
  rows7 = rows6 ++ row_list (flag_own (codes "once") once)

  -- an argument with another name is not among them
  none1 : (other : Text) → bytes_eq (codes "port") other ≡ false → row_at other rows1 ≡ None
  none1 other d1 = value_elsewhere (codes "port") other port d1

  none2 : (other : Text) → bytes_eq (codes "port") other ≡ false → bytes_eq (codes "page") other ≡ false → row_at other rows2 ≡ None
  none2 other d1 d2 = after_others other rows1 _ (none1 other d1) (value_elsewhere (codes "page") other page d2)

  none3 : (other : Text) → bytes_eq (codes "port") other ≡ false → bytes_eq (codes "page") other ≡ false → bytes_eq (codes "stdin") other ≡ false
      → row_at other rows3 ≡ None
  none3 other d1 d2 d3 = after_others other rows2 _ (none2 other d1 d2) (flag_elsewhere (codes "stdin") other stdin d3)

  none4 : (other : Text) → bytes_eq (codes "port") other ≡ false → bytes_eq (codes "page") other ≡ false → bytes_eq (codes "stdin") other ≡ false
      → bytes_eq (codes "record") other ≡ false → row_at other rows4 ≡ None
  none4 other d1 d2 d3 d4 = after_others other rows3 _ (none3 other d1 d2 d3) (value_elsewhere (codes "record") other record_file d4)

  none5 : (other : Text) → bytes_eq (codes "port") other ≡ false → bytes_eq (codes "page") other ≡ false → bytes_eq (codes "stdin") other ≡ false
      → bytes_eq (codes "record") other ≡ false → bytes_eq (codes "end-sessions") other ≡ false → row_at other rows5 ≡ None
  none5 other d1 d2 d3 d4 d5 = after_others other rows4 _ (none4 other d1 d2 d3 d4) (flag_elsewhere (codes "end-sessions") other sessions d5)

  none6 : (other : Text) → bytes_eq (codes "port") other ≡ false → bytes_eq (codes "page") other ≡ false → bytes_eq (codes "stdin") other ≡ false
      → bytes_eq (codes "record") other ≡ false → bytes_eq (codes "end-sessions") other ≡ false → bytes_eq (codes "lenient") other ≡ false → row_at other rows6 ≡ None
  none6 other d1 d2 d3 d4 d5 d6 = after_others other rows5 _ (none5 other d1 d2 d3 d4 d5) (flag_elsewhere (codes "lenient") other lenient d6)

  -- what is found stays found
  from6 : {o : Option Row} (other : Text) → row_at other rows6 ≡ o → bytes_eq (codes "once") other ≡ false → row_at other rows7 ≡ o
  from6 other found d7 = before_others other rows6 _ found (flag_elsewhere (codes "once") other once d7)

  from5 : {o : Option Row} (other : Text) → row_at other rows5 ≡ o → bytes_eq (codes "lenient") other ≡ false → bytes_eq (codes "once") other ≡ false
      → row_at other rows7 ≡ o
  from5 other found d6 d7 = from6 other (before_others other rows5 _ found (flag_elsewhere (codes "lenient") other lenient d6)) d7

  from3 : {o : Option Row} (other : Text) → row_at other rows3 ≡ o → bytes_eq (codes "record") other ≡ false → bytes_eq (codes "end-sessions") other ≡ false
      → bytes_eq (codes "lenient") other ≡ false → bytes_eq (codes "once") other ≡ false → row_at other rows7 ≡ o
  from3 other found d4 d5 d6 d7 =
      from5 other (before_others other rows4 _ (before_others other rows3 _ found (value_elsewhere (codes "record") other record_file d4))
      (flag_elsewhere (codes "end-sessions") other sessions d5)) d6 d7

  port_found : row_at (codes "port") rows7 ≡ value_own (codes "port") port
  port_found = from3 (codes "port")
      (before_others (codes "port") rows2 _ (before_others (codes "port") rows1 _ (value_here (codes "port") port refl)
      (value_elsewhere (codes "page") (codes "port") page refl)) (flag_elsewhere (codes "stdin") (codes "port") stdin refl)) refl refl refl refl

  stdin_found : row_at (codes "stdin") rows7 ≡ flag_own (codes "stdin") stdin
  stdin_found = from3 (codes "stdin") (after_others (codes "stdin") rows2 _ (none2 (codes "stdin") refl refl) (flag_here (codes "stdin") stdin refl)) refl refl refl refl

  sessions_found : row_at (codes "end-sessions") rows7 ≡ flag_own (codes "end-sessions") sessions
  sessions_found = from5 (codes "end-sessions") (after_others (codes "end-sessions") rows4 _ (none4 (codes "end-sessions") refl refl refl refl)
      (flag_here (codes "end-sessions") sessions refl)) refl refl

  lenient_found : row_at (codes "lenient") rows7 ≡ flag_own (codes "lenient") lenient
  lenient_found = from6 (codes "lenient") (after_others (codes "lenient") rows5 _ (none5 (codes "lenient") refl refl refl refl refl)
      (flag_here (codes "lenient") lenient refl)) refl

  once_found : row_at (codes "once") rows7 ≡ flag_own (codes "once") once
  once_found = after_others (codes "once") rows6 _ (none6 (codes "once") refl refl refl refl refl refl) (flag_here (codes "once") once refl)

  buffered_found : row_at (codes "max-buffered") rows7 ≡ None
  buffered_found = from6 (codes "max-buffered") (none6 (codes "max-buffered") refl refl refl refl refl refl) refl

  words_lead : Leads (host_words port page record_file stdin sessions lenient once) [] rows7
  words_lead =
      leads-on _ _ [] rows6 rows7 (leads-on _ _ [] rows5 rows6 (leads-on _ _ [] rows4 rows5 (leads-on _ _ [] rows3 rows4
      (leads-on _ _ [] rows2 rows3 (leads-on _ _ [] rows1 rows2
      (value_leads (codes "port") port_adds port [] refl)
      (value_leads (codes "page") page_adds page rows1 (none1 (codes "page") refl)))
      (flag_leads (codes "stdin") stdin_adds stdin rows2 (none2 (codes "stdin") refl refl)))
      (value_leads (codes "record") record_adds record_file rows3 (none3 (codes "record") refl refl refl)))
      (flag_leads (codes "end-sessions") sessions_adds sessions rows4 (none4 (codes "end-sessions") refl refl refl refl)))
      (flag_leads (codes "lenient") lenient_adds lenient rows5 (none5 (codes "lenient") refl refl refl refl refl)))
      (flag_leads (codes "once") once_adds once rows6 (none6 (codes "once") refl refl refl refl refl refl))

  -- the run that is read from these rows and the defaults
  rows_read : run_in (Some (codes "host", fold with_default rows7 rules))
      ≡ option_map Host (hosted (number_within 0 65535 (unwrap_or port default_port)) stdin sessions lenient once (Some 1024))
  rows_read =
      let flag : (name : Text) (given : Bool) → default_in name rules ≡ Some (codes "false") → row_at name rows7 ≡ flag_own name given
      → option_map_or is_true (first_of name (fold with_default rows7 rules)) false ≡ given =
      λ name given off found. ap (λ t. option_map_or is_true t false) (read_at name rules rows7 (flag_own name given) found) ∙ flag_value name off given in
      let port_is = read_at (codes "port") rules rows7 _ port_found ∙ port_value port in
      let buffered_is = read_at (codes "max-buffered") rules rows7 None buffered_found in
      λ i. option_map Host (hosted (option_and_then (number_within 0 65535) (port_is i)) (flag (codes "stdin") stdin refl stdin_found i)
      (flag (codes "end-sessions") sessions refl sessions_found i) (flag (codes "lenient") lenient refl lenient_found i)
      (flag (codes "once") once refl once_found i) (option_and_then (number_within 1 65536) (buffered_is i)))

-- the level of `host`, from the faults of its words and from where its walk ended
abbrev host_level : Kinds → Walk → Kinds
host_level found w =
    or_else found (or_else (settle_fault rules host_built.args_override_self w.held)
    (or_else (defaults_fault (settled rules w.held).rows rules) (check_fault host_built (finished rules w.held) false)))

-- `clap` accepts the arguments, and reads the run from them
pub host_reads : (port page record_file : Option Text) (stdin sessions lenient once : Bool)
    → (faults_of (codes "host" ∷ host_words port page record_file stdin sessions lenient once) ≡ [])
    × (run_in (subcommand_of bidi_app (codes "host" ∷ host_words port page record_file stdin sessions lenient once))
    ≡ option_map Host (hosted (number_within 0 65535 (unwrap_or port default_port)) stdin sessions lenient once (Some 1024)))
host_reads port page record_file stdin sessions lenient once =
    let words = host_words port page record_file stdin sessions lenient once in
    let end = rows7 port page record_file stdin sessions lenient once in
    let leads = words_lead port page record_file stdin sessions lenient once in (
      host-faults words ∙ (λ i. host_level (leads.0 i) (leads.1 i))
          ∙ ap (λ k. or_else k (check_fault host_built (fold with_default end rules) false)) (free_defaults rules end refl),
      ap run_in (host-rows words) ∙ ap (λ (w : Walk). run_in (Some (codes "host", finished rules w.held))) leads.1
          ∙ rows_read port page record_file stdin sessions lenient once,
    )
