-- The arguments that `clap` accepts as a play are `play` and `play --`, those of a scripted play have `--scripted` before the `--`, and those
-- of a pair are `pair` and `pair --`.
use Rattle.std.proofs.Common.{◌≡◌, ◌⊎◌, ℕ, Bool, true, false, List, [], ◌∷◌, ◌++◌, Option, None}
use Rattle.std.proofs.Common.{Some, codes, refl, sym, ap, ap₂, subst, ◌||◌, ◌∙◌, inl, inr, cond}
use Rattle.std.proofs.Common.{bytes_eq, is_some, option_map, append-nil, append_assoc}
use Rattle.std.specs.List.{fold}
use Rattle.std.specs.Prelude.{if◌then◌else◌}
use Rattle.clap.specs.Lexer.{long_of}
use Rattle.clap.specs.Walk.{Held, Names, Row, Rule, Step, Text, Walk, nothing_held, subcommand_or_other, walk_from, walked}
use Rattle.clap.specs.Walk as walk
use Rattle.clap.specs.Words.{first_of}
use Rattle.clap.specs.Simple.{App, Shape, built, entered, names_of, new_app, subcommand_of, with_subcommand}
use Rattle.clap.specs.Faults.{entered_fault, level_fault, other_fault}
use Rattle.clap.specs.Faults.{step_fault, stray_fault, turn_fault, walk_fault}
use Rattle.clap.specs.Kinds.{Kinds, or_else}
use Rattle.std.proofs.lemmas.Slice.Eq.{bytes_eq-Decides}
use Rattle.clap.proofs.OnLiterals.{clap_on_literals}
use Rattle.bidi_command_line.specs.declared.run.Run.{Run}
use Rattle.bidi_command_line.specs.declared.run.Run.TheVariants.{Stream, Serve, Host}
use Rattle.bidi_command_line.specs.declared.run.StreamRun.{StreamRun}
use Rattle.bidi_command_line.specs.declared.run.StreamRun.TheVariants.{Play, ScriptedPlay, Pair, Reduce, ScriptedReduce, Show, Check, Why, Both}
use Rattle.bidi_command_line.specs.declared.run.WhyOptions.{WhyOptions}
use Rattle.bidi_command_line.specs.declared.run.BothOptions.{BothOptions}
use Rattle.bidi_command_line.specs.declared.run.ServeOptions.{ServeOptions}
use Rattle.bidi_command_line.specs.declared.run.HostOptions.{HostOptions}
use Rattle.bidi_lines.specs.declared.side.Side.{Side}
use Rattle.bidi_command_line.specs.CommandLine.{AsksFor, bare_app, bidi_app, checked, faults_of, is_given, run_in, side_named}
use Rattle.bidi_command_line.proofs.PlayWords.{IsBare, IsFlagged, dashes, first_shape, later, play_level, same_word}
use Rattle.bidi_command_line.proofs.WordLemmas.{help, or_else-nil, turn_refused}

-- the rules of a level without flags of its own
abbrev rules : List Rule
rules = help ∷ []

-- ---- the commands

abbrev play : Text
play = codes "play"

abbrev app : App
app = built bidi_app

abbrev top : Shape
top = app.top

abbrev names : Names
names = names_of app

-- a subcommand of this name with no argument, as it is built
abbrev leaf : Text → Shape
leaf name = first_shape (built (with_subcommand bare_app (new_app name).top)).subs

-- ---- the words after a subcommand with no argument

module _ (name : Text) where
  leaf_turn : (word : Text) → turn_fault (leaf name) [] (walk_from nothing_held) word ≡ [] → bytes_eq word dashes ≡ true
  leaf_turn word none = turn_refused (stray_fault (leaf name)) (λ e. cc) [] word (bytes_eq word dashes) (long_of word) refl none

  -- after the mark no word has a place
  leaf_end : (word : Text) (line : List Text) → walk_fault (leaf name) [] (walked (leaf name).rules [] (walk_from nothing_held) dashes) (word ∷ line) ≡ [] → ⊥
  unfolding clap_on_literals
  leaf_end word line none = cc

  leaf_rest : (x : Text) (line : List Text)
      → x ≡ dashes → walk_fault (leaf name) [] (walked (leaf name).rules [] (walk_from nothing_held) x) line ≡ [] → line ≡ []
  leaf_rest x [] mark none = refl
  leaf_rest x (y ∷ line) mark none =
      absurd (leaf_end y line (subst (λ w. walk_fault (leaf name) [] (walked (leaf name).rules [] (walk_from nothing_held) w) (y ∷ line) ≡ []) mark none))

  leaf_lines : (line : List Text) → level_fault (leaf name) [] nothing_held line false [] ≡ [] → (line ≡ []) ⊎ (line ≡ dashes ∷ [])
  unfolding clap_on_literals
  leaf_lines [] none = inl refl
  leaf_lines (x ∷ line) none =
      let part = or_else-nil (walk_fault (leaf name) [] (walk_from nothing_held) (x ∷ line)) (later (leaf name) [] (x ∷ line) false) none in
      let turn = or_else-nil (turn_fault (leaf name) [] (walk_from nothing_held) x)
      (walk_fault (leaf name) [] (walked (leaf name).rules [] (walk_from nothing_held) x) line) part.0 in
      let mark : x ≡ dashes = (bytes_eq-Decides x dashes).0 (leaf_turn x turn.0) in
      inr (ap₂ (λ w rest. w ∷ rest) mark (leaf_rest x line mark turn.1))

-- ---- the first word

abbrev pair : Text
pair = codes "pair"

abbrev reduce : Text
reduce = codes "reduce"

abbrev show : Text
show = codes "show"

abbrev check : Text
check = codes "check"

abbrev serve : Text
serve = codes "serve"

abbrev host : Text
host = codes "host"

-- the subcommand that the first word names
abbrev named : Bool → Bool → Bool → Bool → Bool → Bool → Bool → Option Text
named is_play is_pair is_reduce is_show is_check is_serve is_host =
    option_map {T = Text × List Text} (λ s. s.0)
    (cond is_play (Some (play, []))
    (cond is_pair (Some (pair, [])) (cond is_reduce (Some (reduce, []))
    (cond is_show (Some (show, [])) (cond is_check (Some (check, [])) (cond is_serve (Some (serve, [])) (cond is_host (Some (host, [])) None)))))))

abbrev top_met : Option Text → Text → Held × Step
top_met name word = subcommand_or_other rules name walk.idle 1 word nothing_held

abbrev first_fault : Option Text → Text → Kinds
first_fault name word = or_else (other_fault top name word nothing_held) (step_fault top 1 (top_met name word).0 (top_met name word).1)

-- a word that passes names a subcommand, or is the mark
data Passes (is_play is_pair is_reduce is_show is_check is_serve is_host is_mark : Bool) : Type 0 where
  as_play : is_play ≡ true → Passes is_play is_pair is_reduce is_show is_check is_serve is_host is_mark
  as_pair : is_pair ≡ true → Passes is_play is_pair is_reduce is_show is_check is_serve is_host is_mark
  as_reduce : is_reduce ≡ true → Passes is_play is_pair is_reduce is_show is_check is_serve is_host is_mark
  as_show : is_show ≡ true → Passes is_play is_pair is_reduce is_show is_check is_serve is_host is_mark
  as_check : is_check ≡ true → Passes is_play is_pair is_reduce is_show is_check is_serve is_host is_mark
  as_serve : is_serve ≡ true → Passes is_play is_pair is_reduce is_show is_check is_serve is_host is_mark
  as_host : is_host ≡ true → Passes is_play is_pair is_reduce is_show is_check is_serve is_host is_mark
  as_mark : is_mark ≡ true → Passes is_play is_pair is_reduce is_show is_check is_serve is_host is_mark

top_turn : (is_play is_pair is_reduce is_show is_check is_serve is_host : Bool) (word : Text)
    → first_fault (named is_play is_pair is_reduce is_show is_check is_serve is_host) word ≡ []
    → Passes is_play is_pair is_reduce is_show is_check is_serve is_host (bytes_eq word dashes)
top_turn true is_pair is_reduce is_show is_check is_serve is_host word none = as_play refl
top_turn false true is_reduce is_show is_check is_serve is_host word none = as_pair refl
top_turn false false true is_show is_check is_serve is_host word none = as_reduce refl
top_turn false false false true is_check is_serve is_host word none = as_show refl
top_turn false false false false true is_serve is_host word none = as_check refl
top_turn false false false false false true is_host word none = as_serve refl
top_turn false false false false false false true word none = as_host refl
top_turn false false false false false false false word none =
    as_mark (turn_refused (stray_fault top) (λ e. cc) [] word (bytes_eq word dashes) (long_of word) refl none)

-- the walk has met a subcommand, and these words after it
abbrev after : Text → List Text → Walk
after name line = record (walk_from nothing_held) { stopped = Some (name, line) }

stays : (name : Text) (line done : List Text) → fold (walked top.rules names) (after name done) line ≡ after name (done ++ line)
unfolding clap_on_literals
stays name [] done = ap (after name) (sym (append-nil done))
stays name (x ∷ line) done = stays name line (done ++ x ∷ []) ∙ ap (after name) (append_assoc done (x ∷ []) line)

abbrev stop_of : List Text → Option (Text × List Text)
stop_of line = (walk.walk top.rules names nothing_held line).stopped

stop_play : (line : List Text) → stop_of (play ∷ line) ≡ Some (play, line)
unfolding clap_on_literals
stop_play line = ap (λ (w : Walk). w.stopped) (stays play line [])

stop_pair : (line : List Text) → stop_of (pair ∷ line) ≡ Some (pair, line)
unfolding clap_on_literals
stop_pair line = ap (λ (w : Walk). w.stopped) (stays pair line [])

stop_reduce : (line : List Text) → stop_of (reduce ∷ line) ≡ Some (reduce, line)
unfolding clap_on_literals
stop_reduce line = ap (λ (w : Walk). w.stopped) (stays reduce line [])

stop_show : (line : List Text) → stop_of (show ∷ line) ≡ Some (show, line)
unfolding clap_on_literals
stop_show line = ap (λ (w : Walk). w.stopped) (stays show line [])

stop_check : (line : List Text) → stop_of (check ∷ line) ≡ Some (check, line)
unfolding clap_on_literals
stop_check line = ap (λ (w : Walk). w.stopped) (stays check line [])

stop_serve : (line : List Text) → stop_of (serve ∷ line) ≡ Some (serve, line)
unfolding clap_on_literals
stop_serve line = ap (λ (w : Walk). w.stopped) (stays serve line [])

stop_host : (line : List Text) → stop_of (host ∷ line) ≡ Some (host, line)
unfolding clap_on_literals
stop_host line = ap (λ (w : Walk). w.stopped) (stays host line [])

-- a value in a line that begins with a subcommand is found in the words after it
below : (word : Text) (line : List Text) → faults_of (word ∷ line) ≡ [] → entered_fault app (stop_of (word ∷ line)) ≡ []
below word line none =
    let stop = stop_of (word ∷ line) in
    let rest = later top names (word ∷ line) (is_some (entered app stop)) in
    let part = or_else-nil (walk_fault top names (walk_from nothing_held) (word ∷ line)) (or_else (entered_fault app stop) rest) none in
    (or_else-nil (entered_fault app stop) rest part.1).0

entered_play : (line : List Text) → faults_of (play ∷ line) ≡ [] → IsBare line ⊎ IsFlagged line
entered_play line none =
    play_level line (subst (λ s. entered_fault app s ≡ []) (stop_play line) (below play line none))

entered_pair : (line : List Text) → faults_of (pair ∷ line) ≡ [] → AsksFor (pair ∷ line) (Stream Pair)
entered_pair line none =
    let at_leaf : level_fault (leaf pair) [] nothing_held line false [] ≡ [] = subst (λ s. entered_fault app s ≡ []) (stop_pair line) (below pair line none) in
    elim (leaf_lines pair line at_leaf) [
      | inl e ↦ inl (ap (λ rest. pair ∷ rest) e)
      | inr e ↦ inr (ap (λ rest. pair ∷ rest) e)
    ]

-- ---- reading a line that begins with a subcommand

read_pair : (line : List Text) → run_in (subcommand_of bidi_app (pair ∷ line)) ≡ Some (Stream Pair)
unfolding clap_on_literals
read_pair line = ap (λ s. run_in (entered app s)) (stop_pair line)

-- a value that is there is one
same_some : {A : Type 0} {x y : A} → Some x ≡ Some y → x ≡ y
same_some e = cc

-- the run is neither a play nor a scripted play
abbrev IsNoPlay : Run → Type 0
IsNoPlay run = (is_scripted : Bool) → Stream (if is_scripted then ScriptedPlay else Play) ≡ run → ⊥

no_play_met : (run : Run) → IsNoPlay run → (met : Option (Text × List Row)) → option_map (λ m. m.0) met ≡ Some play → run_in met ≡ Some run → ⊥
unfolding clap_on_literals
no_play_met run differs None named e = cc
no_play_met run differs (Some (name, rows)) named e =
    differs (is_given (codes "scripted") rows) (same_some (subst (λ n. run_in (Some (n, rows)) ≡ Some run) (same_some named) e))

entered_play_as : (run : Run) → IsNoPlay run → (line : List Text) → run_in (entered app (Some (play, line))) ≡ Some run → ⊥
unfolding clap_on_literals
entered_play_as run differs line e = no_play_met run differs (entered app (Some (play, line))) refl e

read_play : (run : Run) → IsNoPlay run → (line : List Text) → run_in (subcommand_of bidi_app (play ∷ line)) ≡ Some run → ⊥
read_play run differs line e = entered_play_as run differs line (subst (λ s. run_in (entered app s) ≡ Some run) (stop_play line) e)

-- a run that needs an end, or numbers, is no other
no_other : {A : Type 0} (f : A → Run) (run : Run) → ((x : A) → f x ≡ run → ⊥) → (x : Option A) → option_map f x ≡ Some run → ⊥
no_other f run differs None e = cc
no_other f run differs (Some x) e = differs x (same_some e)

-- nor is a run over streams
no_stream : {A : Type 0} (f : A → StreamRun) (run : Run) → ((x : A) → Stream (f x) ≡ run → ⊥) → (x : Option A)
    → option_map Stream (option_map f x) ≡ Some run → ⊥
no_stream f run differs None e = cc
no_stream f run differs (Some x) e = differs x (same_some e)

-- the run is not one of `reduce`
abbrev IsNoReduce : Run → Type 0
IsNoReduce run = (is_scripted : Bool) (n : ℕ) → Stream (if is_scripted then ScriptedReduce n else Reduce n) ≡ run → ⊥

no_reduce_met : (run : Run) → IsNoReduce run → (met : Option (Text × List Row)) → option_map (λ m. m.0) met ≡ Some reduce → run_in met ≡ Some run → ⊥
unfolding clap_on_literals
no_reduce_met run differs None named e = cc
no_reduce_met run differs (Some (name, rows)) named e =
    no_other (λ n. Stream (if is_given (codes "scripted") rows then ScriptedReduce n else Reduce n)) run (differs (is_given (codes "scripted") rows)) _
    (subst (λ n. run_in (Some (n, rows)) ≡ Some run) (same_some named) e)

entered_reduce : (run : Run) → IsNoReduce run → (line : List Text) → run_in (entered app (Some (reduce, line))) ≡ Some run → ⊥
unfolding clap_on_literals
entered_reduce run differs line e = no_reduce_met run differs (entered app (Some (reduce, line))) refl e

read_reduce : (run : Run) → IsNoReduce run → (line : List Text) → run_in (subcommand_of bidi_app (reduce ∷ line)) ≡ Some run → ⊥
read_reduce run differs line e = entered_reduce run differs line (subst (λ s. run_in (entered app s) ≡ Some run) (stop_reduce line) e)

entered_show : (run : Run) → ((side : Side) → Stream (Show side) ≡ run → ⊥) → (line : List Text) → run_in (entered app (Some (show, line))) ≡ Some run → ⊥
unfolding clap_on_literals
entered_show run differs line e = no_other (λ s. Stream (Show s)) run differs _ e

-- the run is not one of `check`
abbrev IsNoCheck : Run → Type 0
IsNoCheck run = ((side : Side) → Stream (Check side) ≡ run → ⊥) × ((o : WhyOptions) → Stream (Why o) ≡ run → ⊥) × ((o : BothOptions) → Stream (Both o) ≡ run → ⊥)

-- a run that is not one of `check` does not come from the options of `check`
no_checked : (run : Run) → IsNoCheck run → (end : Option Text) (both why json profile : Bool)
    → option_map Stream (checked end both why json profile) ≡ Some run → ⊥
no_checked run differs None false why json profile e = cc
no_checked run differs None true true json profile e = differs.2 (record { is_why = true; is_json = json; profile_only = profile }) (same_some e)
no_checked run differs None true false true profile e = cc
no_checked run differs None true false false profile e = differs.2 (record { is_why = false; is_json = false; profile_only = profile }) (same_some e)
no_checked run differs (Some end) true why json profile e = cc
no_checked run differs (Some end) false true json profile e =
    no_stream (λ side. Why (record { side = side; is_json = json; profile_only = profile })) run
    (λ side. differs.1 (record { side = side; is_json = json; profile_only = profile })) (side_named end) e
no_checked run differs (Some end) false false true profile e = cc
no_checked run differs (Some end) false false false true e = cc
no_checked run differs (Some end) false false false false e = no_stream Check run differs.0 (side_named end) e

no_check_met : (run : Run) → IsNoCheck run → (met : Option (Text × List Row)) → option_map (λ m. m.0) met ≡ Some check → run_in met ≡ Some run → ⊥
unfolding clap_on_literals
no_check_met run differs None named e = cc
no_check_met run differs (Some (name, rows)) named e =
    no_checked run differs (first_of (codes "from") rows) (is_given (codes "both") rows) (is_given (codes "why") rows) (is_given (codes "json") rows)
    (is_given (codes "profile-only") rows)
    (subst (λ n. run_in (Some (n, rows)) ≡ Some run) (same_some named) e)

entered_check : (run : Run) → IsNoCheck run → (line : List Text) → run_in (entered app (Some (check, line))) ≡ Some run → ⊥
unfolding clap_on_literals
entered_check run differs line e = no_check_met run differs (entered app (Some (check, line))) refl e

read_show : (run : Run) → ((side : Side) → Stream (Show side) ≡ run → ⊥) → (line : List Text) → run_in (subcommand_of bidi_app (show ∷ line)) ≡ Some run → ⊥
read_show run differs line e = entered_show run differs line (subst (λ s. run_in (entered app s) ≡ Some run) (stop_show line) e)

read_check : (run : Run) → IsNoCheck run → (line : List Text) → run_in (subcommand_of bidi_app (check ∷ line)) ≡ Some run → ⊥
read_check run differs line e = entered_check run differs line (subst (λ s. run_in (entered app s) ≡ Some run) (stop_check line) e)

entered_serve : (run : Run) → ((s : ServeOptions) → Serve s ≡ run → ⊥) → (line : List Text) → run_in (entered app (Some (serve, line))) ≡ Some run → ⊥
unfolding clap_on_literals
entered_serve run differs line e = no_other Serve run differs _ e

read_serve : (run : Run) → ((s : ServeOptions) → Serve s ≡ run → ⊥) → (line : List Text) → run_in (subcommand_of bidi_app (serve ∷ line)) ≡ Some run → ⊥
read_serve run differs line e = entered_serve run differs line (subst (λ s. run_in (entered app s) ≡ Some run) (stop_serve line) e)

entered_host : (run : Run) → ((h : HostOptions) → Host h ≡ run → ⊥) → (line : List Text) → run_in (entered app (Some (host, line))) ≡ Some run → ⊥
unfolding clap_on_literals
entered_host run differs line e = no_other Host run differs _ e

read_host : (run : Run) → ((h : HostOptions) → Host h ≡ run → ⊥) → (line : List Text) → run_in (subcommand_of bidi_app (host ∷ line)) ≡ Some run → ⊥
read_host run differs line e = entered_host run differs line (subst (λ s. run_in (entered app s) ≡ Some run) (stop_host line) e)

-- the run is one of no subcommand but `play` and `pair`
record IsPlain (run : Run) : Type 0 where
  reduce : IsNoReduce run
  show : (side : Side) → Stream (Show side) ≡ run → ⊥
  check : IsNoCheck run
  serve : (s : ServeOptions) → Serve s ≡ run → ⊥
  host : (h : HostOptions) → Host h ≡ run → ⊥

play_is_no_reduce : IsNoReduce (Stream Play)
play_is_no_reduce true n e = cc
play_is_no_reduce false n e = cc

play_is_plain : IsPlain (Stream Play)
play_is_plain = record {
  reduce = play_is_no_reduce;
  show = λ side e. cc;
  check = (λ side e. cc, λ o e. cc, λ o e. cc);
  serve = λ s e. cc;
  host = λ h e. cc;
}

scripted_is_no_reduce : IsNoReduce (Stream ScriptedPlay)
scripted_is_no_reduce true n e = cc
scripted_is_no_reduce false n e = cc

scripted_is_plain : IsPlain (Stream ScriptedPlay)
scripted_is_plain = record {
  reduce = scripted_is_no_reduce;
  show = λ side e. cc;
  check = (λ side e. cc, λ o e. cc, λ o e. cc);
  serve = λ s e. cc;
  host = λ h e. cc;
}

pair_is_no_reduce : IsNoReduce (Stream Pair)
pair_is_no_reduce true n e = cc
pair_is_no_reduce false n e = cc

pair_is_plain : IsPlain (Stream Pair)
pair_is_plain = record {
  reduce = pair_is_no_reduce;
  show = λ side e. cc;
  check = (λ side e. cc, λ o e. cc, λ o e. cc);
  serve = λ s e. cc;
  host = λ h e. cc;
}

pair_is_no_play : IsNoPlay (Stream Pair)
pair_is_no_play true e = cc
pair_is_no_play false e = cc

pair_differs : (is_scripted : Bool) → Stream Pair ≡ Stream (if is_scripted then ScriptedPlay else Play) → ⊥
pair_differs true e = cc
pair_differs false e = cc

-- after the mark no word is a subcommand
entered_none : (line : List Text) → faults_of (dashes ∷ line) ≡ [] → ⊥
unfolding clap_on_literals
entered_none [] none = cc
entered_none (y ∷ line) none = cc

-- a line that is taken begins with a subcommand
data Begins (word : Text) : Type 0 where
  with_play : play ≡ word → Begins word
  with_pair : pair ≡ word → Begins word
  with_reduce : reduce ≡ word → Begins word
  with_show : show ≡ word → Begins word
  with_check : check ≡ word → Begins word
  with_serve : serve ≡ word → Begins word
  with_host : host ≡ word → Begins word

begins_as : (word : Text) (line : List Text) → faults_of (word ∷ line) ≡ []
    → Passes (bytes_eq play word || false) (bytes_eq pair word || false) (bytes_eq reduce word || false) (bytes_eq show word || false)
    (bytes_eq check word || false) (bytes_eq serve word || false) (bytes_eq host word || false) (bytes_eq word dashes) → Begins word
begins_as word line none (as_play e) = with_play (same_word play word e)
begins_as word line none (as_pair e) = with_pair (same_word pair word e)
begins_as word line none (as_reduce e) = with_reduce (same_word reduce word e)
begins_as word line none (as_show e) = with_show (same_word show word e)
begins_as word line none (as_check e) = with_check (same_word check word e)
begins_as word line none (as_serve e) = with_serve (same_word serve word e)
begins_as word line none (as_host e) = with_host (same_word host word e)
begins_as word line none (as_mark e) = let same : word ≡ dashes = (bytes_eq-Decides word dashes).0 e in
    absurd (entered_none line (subst (λ w. faults_of (w ∷ line) ≡ []) same none))

begins : (word : Text) (line : List Text) → faults_of (word ∷ line) ≡ [] → Begins word
unfolding clap_on_literals
begins word line none =
    let stop = stop_of (word ∷ line) in
    let part = or_else-nil (walk_fault top names (walk_from nothing_held) (word ∷ line))
    (or_else (entered_fault app stop) (later top names (word ∷ line) (is_some (entered app stop)))) none in
    let turn = or_else-nil (turn_fault top names (walk_from nothing_held) word)
    (walk_fault top names (walked top.rules names (walk_from nothing_held) word) line) part.0 in
    begins_as word line none (top_turn (bytes_eq play word || false) (bytes_eq pair word || false) (bytes_eq reduce word || false)
    (bytes_eq show word || false) (bytes_eq check word || false) (bytes_eq serve word || false) (bytes_eq host word || false) word turn.0)

abbrev IsRead : Run → List Text → Text → Type 0
IsRead run line word = run_in (subcommand_of bidi_app (word ∷ line)) ≡ Some run

-- a line of another subcommand than `play` and `pair` is read as no run of those
no_plain : (run : Run) → IsPlain run → (word : Text) (line : List Text) → Begins word → IsRead run line word → (play ≡ word) ⊎ (pair ≡ word)
no_plain run plain word line (with_play e) read = inl e
no_plain run plain word line (with_pair e) read = inr e
no_plain run plain word line (with_reduce e) read = absurd (read_reduce run plain.reduce line (subst (IsRead run line) (sym e) read))
no_plain run plain word line (with_show e) read = absurd (read_show run plain.show line (subst (IsRead run line) (sym e) read))
no_plain run plain word line (with_check e) read = absurd (read_check run plain.check line (subst (IsRead run line) (sym e) read))
no_plain run plain word line (with_serve e) read = absurd (read_serve run plain.serve line (subst (IsRead run line) (sym e) read))
no_plain run plain word line (with_host e) read = absurd (read_host run plain.host line (subst (IsRead run line) (sym e) read))

-- a play is read as scripted exactly if it has the flag
reads_bare : (line : List Text) → IsBare line → run_in (subcommand_of bidi_app (play ∷ line)) ≡ Some (Stream Play)
unfolding clap_on_literals
reads_bare line (inl e) = subst (λ rest. run_in (subcommand_of bidi_app (play ∷ rest)) ≡ Some (Stream Play)) (sym e) refl
reads_bare line (inr e) = subst (λ rest. run_in (subcommand_of bidi_app (play ∷ rest)) ≡ Some (Stream Play)) (sym e) refl

reads_flagged : (line : List Text) → IsFlagged line → run_in (subcommand_of bidi_app (play ∷ line)) ≡ Some (Stream ScriptedPlay)
unfolding clap_on_literals
reads_flagged line (inl e) = subst (λ rest. run_in (subcommand_of bidi_app (play ∷ rest)) ≡ Some (Stream ScriptedPlay)) (sym e) refl
reads_flagged line (inr e) = subst (λ rest. run_in (subcommand_of bidi_app (play ∷ rest)) ≡ Some (Stream ScriptedPlay)) (sym e) refl

play_differs : Stream Play ≡ Stream ScriptedPlay → ⊥
play_differs e = cc

-- the words of a play are these
play_asked : (line : List Text) → IsBare line ⊎ IsFlagged line → IsRead (Stream Play) line play → AsksFor (play ∷ line) (Stream Play)
play_asked line (inl (inl e)) read = inl (ap (λ rest. play ∷ rest) e)
play_asked line (inl (inr e)) read = inr (ap (λ rest. play ∷ rest) e)
play_asked line (inr given) read = absurd (play_differs (same_some (sym read ∙ reads_flagged line given)))

-- the words of a scripted play are these
scripted_asked : (line : List Text) → IsBare line ⊎ IsFlagged line → IsRead (Stream ScriptedPlay) line play → AsksFor (play ∷ line) (Stream ScriptedPlay)
scripted_asked line (inl bare) read = absurd (play_differs (same_some (sym (reads_bare line bare) ∙ read)))
scripted_asked line (inr (inl e)) read = inl (ap (λ rest. play ∷ rest) e)
scripted_asked line (inr (inr e)) read = inr (ap (λ rest. play ∷ rest) e)

play_from : (word : Text) (line : List Text) → (play ≡ word) ⊎ (pair ≡ word) → faults_of (word ∷ line) ≡ [] → IsRead (Stream Play) line word → AsksFor (word ∷ line) (Stream Play)
play_from word line (inl e) none read = subst (λ w. AsksFor (w ∷ line) (Stream Play)) e
    (play_asked line (entered_play line (subst (λ w. faults_of (w ∷ line) ≡ []) (sym e) none)) (subst (IsRead (Stream Play) line) (sym e) read))
play_from word line (inr e) none read = absurd (pair_differs false (same_some (sym (read_pair line) ∙ subst (IsRead (Stream Play) line) (sym e) read)))

scripted_from : (word : Text) (line : List Text) → (play ≡ word) ⊎ (pair ≡ word) → faults_of (word ∷ line) ≡ [] → IsRead (Stream ScriptedPlay) line word
    → AsksFor (word ∷ line) (Stream ScriptedPlay)
scripted_from word line (inl e) none read = subst (λ w. AsksFor (w ∷ line) (Stream ScriptedPlay)) e
    (scripted_asked line (entered_play line (subst (λ w. faults_of (w ∷ line) ≡ []) (sym e) none)) (subst (IsRead (Stream ScriptedPlay) line) (sym e) read))
scripted_from word line (inr e) none read =
    absurd (pair_differs true (same_some (sym (read_pair line) ∙ subst (IsRead (Stream ScriptedPlay) line) (sym e) read)))

pair_from : (word : Text) (line : List Text) → (play ≡ word) ⊎ (pair ≡ word) → faults_of (word ∷ line) ≡ [] → IsRead (Stream Pair) line word → AsksFor (word ∷ line) (Stream Pair)
pair_from word line (inl e) none read = absurd (read_play (Stream Pair) pair_is_no_play line (subst (IsRead (Stream Pair) line) (sym e) read))
pair_from word line (inr e) none read = subst (λ w. AsksFor (w ∷ line) (Stream Pair)) e (entered_pair line (subst (λ w. faults_of (w ∷ line) ≡ []) (sym e) none))

-- `clap` accepts only `play` and `play --` as a play
pub play_lines : (line : List Text) → faults_of line ≡ [] → run_in (subcommand_of bidi_app line) ≡ Some (Stream Play) → AsksFor line (Stream Play)
unfolding clap_on_literals
play_lines [] none read = absurd cc
play_lines (word ∷ line) none read = play_from word line (no_plain (Stream Play) play_is_plain word line (begins word line none) read) none read

-- `clap` accepts only `play --scripted` and `play --scripted --` as a scripted play
pub scripted_lines : (line : List Text) → faults_of line ≡ [] → run_in (subcommand_of bidi_app line) ≡ Some (Stream ScriptedPlay) → AsksFor line (Stream ScriptedPlay)
unfolding clap_on_literals
scripted_lines [] none read = absurd cc
scripted_lines (word ∷ line) none read = scripted_from word line (no_plain (Stream ScriptedPlay) scripted_is_plain word line (begins word line none) read) none read

-- `clap` accepts only `pair` and `pair --` as a pair
pub pair_lines : (line : List Text) → faults_of line ≡ [] → run_in (subcommand_of bidi_app line) ≡ Some (Stream Pair) → AsksFor line (Stream Pair)
unfolding clap_on_literals
pair_lines [] none read = absurd cc
pair_lines (word ∷ line) none read = pair_from word line (no_plain (Stream Pair) pair_is_plain word line (begins word line none) read) none read
