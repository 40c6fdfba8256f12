-- A file after the other arguments of `check`: `clap` reads those first, and then the file.
use Rattle.std.proofs.Common.{◌≡◌, ◌∙◌, false, List, [], ◌∷◌, ◌++◌, None, Some, codes, refl, sym, ap, append-nil, append_assoc, bytes_eq}
use Rattle.std.proofs.lemmas.List.Sums.{fold-append}
use Rattle.std.specs.Prelude.{Option, find, fold, is_some, unwrap_or}
use Rattle.std.specs.Option.{option_map_or}
use Rattle.clap.specs.Lexer.{long_of, short_of}
use Rattle.clap.specs.Kinds.{Kinds, or_else}
use Rattle.clap.specs.Faults.{check_fault, defaults_fault, entered_fault, level_fault, positional_fault, settle_fault, stray_fault, turn_fault, walk_fault}
use Rattle.clap.specs.Simple.{App, Shape, built, entered, label_of, names_of, subcommand_of}
use Rattle.clap.specs.Walk.{Held, Names, Rule, Text, Walk, answers_to, arg_by_index, finished, nothing_held, rows_after, settled, to_positional, walk, walk_from, walked}
use Rattle.clap.proofs.OnLiterals.{clap_on_literals}
use Rattle.bidi_command_line.specs.declared.run.Run.{Run}
use Rattle.bidi_command_line.specs.CommandLine.{bidi_app, check_shape, faults_of, run_in}

-- the program's command, with what building adds to it
abbrev pub app : App
app = built bidi_app

-- the subcommand `check` of it
abbrev pub check_built : Shape
check_built = unwrap_or (find (λ s. answers_to (codes "check") (label_of s)) app.subs) check_shape

-- ---- after the name of a subcommand every word is the subcommand's

pub stopped-walk : (c : List Rule) (names : Names) (w : Walk) (p : Text) (before ws : List Text)
    → fold (walked c names) (record w { stopped = Some (p, before) }) ws ≡ record w { stopped = Some (p, before ++ ws) }
unfolding walked
stopped-walk c names w p before [] = λ i. record w { stopped = Some (p, sym (append-nil before) i) }
stopped-walk c names w p before (x ∷ ws) =
    stopped-walk c names w p (before ++ x ∷ []) ws ∙ (λ i. record w { stopped = Some (p, append_assoc before (x ∷ []) ws i) })

pub stopped-fault : (s : Shape) (names : Names) (w : Walk) (p : Text) (before ws : List Text) → walk_fault s names (record w { stopped = Some (p, before) }) ws ≡ []
unfolding walked walk_fault
stopped-fault s names w p before [] = refl
stopped-fault s names w p before (x ∷ ws) = stopped-fault s names w p (before ++ x ∷ []) ws

-- ---- the first fault counts

pub or_else-nil : (a : Kinds) → or_else a [] ≡ a
or_else-nil [] = refl
or_else-nil (k ∷ ks) = refl

or_else-assoc : (a b c : Kinds) → or_else (or_else a b) c ≡ or_else a (or_else b c)
or_else-assoc [] b c = refl
or_else-assoc (k ∷ ks) b c = refl

pub walk_fault-append : (s : Shape) (names : Names) (w : Walk) (xs ys : List Text)
    → walk_fault s names w (xs ++ ys) ≡ or_else (walk_fault s names w xs) (walk_fault s names (fold (walked s.rules names) w xs) ys)
unfolding walk_fault
walk_fault-append s names w [] ys = refl
walk_fault-append s names w (x ∷ xs) ys =
    ap (or_else (turn_fault s names w x)) (walk_fault-append s names (walked s.rules names w x) xs ys) ∙ sym (or_else-assoc (turn_fault s names w x) _ _)

pub walk_fault-one : (s : Shape) (names : Names) (w : Walk) (x : Text) → walk_fault s names w (x ∷ []) ≡ turn_fault s names w x
unfolding walk_fault
walk_fault-one s names w x = or_else-nil (turn_fault s names w x)

-- ---- a word that is no option

plain-walked : (c : List Rule) (h : Held) (name : Text) → bytes_eq name (codes "--") ≡ false → long_of name ≡ None → short_of name ≡ None
    → walked c [] (walk_from h) name ≡ to_positional c (arg_by_index c 1) name (walk_from h) h
unfolding walked
plain-walked c h name q l s = rw (q) (rw (l) (rw (s) refl))

-- the faults of the arguments before it
abbrev first_fault : Shape → Held → Kinds
first_fault s h = option_map_or (λ a. positional_fault s.rules s.args_override_self a h) (arg_by_index s.rules 1) (stray_fault s)

plain-turn : (s : Shape) (h : Held) (name : Text) → bytes_eq name (codes "--") ≡ false → long_of name ≡ None → short_of name ≡ None
    → turn_fault s [] (walk_from h) name ≡ first_fault s h
plain-turn s h name q l e = rw (q) (rw (l) (rw (e) refl))

-- ---- the subcommand `check`

-- the top level, from the faults of its words and from where its walk ended
abbrev pub top_fault : Kinds → Walk → Kinds
top_fault found w =
    or_else found (or_else (entered_fault app w.stopped) (or_else (settle_fault app.top.rules app.top.args_override_self w.held)
    (or_else (defaults_fault (settled app.top.rules w.held).rows app.top.rules) (check_fault app.top (finished app.top.rules w.held) (is_some (entered app w.stopped))))))

check-faults : (ws : List Text) → faults_of (codes "check" ∷ ws) ≡ level_fault check_built [] nothing_held ws false []
unfolding clap_on_literals
check-faults ws =
    (λ i. top_fault (stopped-fault app.top (names_of app) (walk_from nothing_held) (codes "check") [] ws i)
    (stopped-walk app.top.rules (names_of app) (walk_from nothing_held) (codes "check") [] ws i)) ∙ or_else-nil (level_fault check_built [] nothing_held ws false [])

check-rows : (ws : List Text) → subcommand_of bidi_app (codes "check" ∷ ws) ≡ Some (codes "check", rows_after check_built.rules [] ws)
unfolding clap_on_literals
check-rows ws = ap (λ w. entered app w.stopped) (stopped-walk app.top.rules (names_of app) (walk_from nothing_held) (codes "check") [] ws)

-- what is held after the file
abbrev filed : Held → Text → Held
filed h name = (to_positional check_built.rules (arg_by_index check_built.rules 1) name (walk_from h) h).held

-- the level of `check`, from the faults of its words and from what is held after them
abbrev check_level : Kinds → Held → Kinds
check_level found end =
    or_else found (or_else (settle_fault check_built.rules check_built.args_override_self end)
    (or_else (defaults_fault (settled check_built.rules end).rows check_built.rules) (check_fault check_built (finished check_built.rules end) false)))

-- Arguments of `check` without faults, after which a file may come: with the file they are read as this run.
pub record MayName (args : List Text) (name : Text) (run : Option Run) : Type 0 where
  pub stands : walk check_built.rules [] nothing_held args ≡ walk_from (walk check_built.rules [] nothing_held args).held
  pub free : walk_fault check_built [] (walk_from nothing_held) args ≡ []
  pub ends : check_level (first_fault check_built (walk check_built.rules [] nothing_held args).held) (filed (walk check_built.rules [] nothing_held args).held name) ≡ []
  pub reads : run_in (Some (codes "check", finished check_built.rules (filed (walk check_built.rules [] nothing_held args).held name))) ≡ run

pub with_file : (args : List Text) (name : Text) (run : Option Run) → bytes_eq name (codes "--") ≡ false → long_of name ≡ None → short_of name ≡ None → MayName args name run
    → (faults_of (codes "check" ∷ args ++ name ∷ []) ≡ []) × (run_in (subcommand_of bidi_app (codes "check" ∷ args ++ name ∷ [])) ≡ run)
with_file args name run q l s may =
    let rules = check_built.rules in
    let ws = args ++ name ∷ [] in
    let w = walk rules [] nothing_held args in
    let walks : walk rules [] nothing_held ws ≡ to_positional rules (arg_by_index rules 1) name (walk_from w.held) w.held =
    fold-append (walked rules []) (walk_from nothing_held) args (name ∷ []) ∙ ap (λ x. walked rules [] x name) may.stands ∙ plain-walked rules w.held name q l s in
    let finds : walk_fault check_built [] (walk_from nothing_held) ws ≡ first_fault check_built w.held =
    walk_fault-append check_built [] (walk_from nothing_held) args (name ∷ []) ∙ ap (λ k. or_else k (walk_fault check_built [] w (name ∷ []))) may.free
    ∙ walk_fault-one check_built [] w name ∙ ap (λ x. turn_fault check_built [] x name) may.stands ∙ plain-turn check_built w.held name q l s in (
      check-faults ws ∙ (λ i. check_level (finds i) (walks i).held) ∙ may.ends,
      ap run_in (check-rows ws) ∙ ap (λ (x : Walk). run_in (Some (codes "check", finished rules x.held))) walks ∙ may.reads,
    )
