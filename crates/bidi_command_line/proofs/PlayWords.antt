-- The words after `play` that `clap` accepts: the flag `--scripted` at most once, and then the mark `--` or nothing.
use Rattle.std.proofs.Common.{◌≡◌, ◌⊎◌, ◌||◌, ◌∙◌, Bool, true, false, List, [], ◌∷◌, None, Some, codes, refl, sym, ap, ap₂, subst, inl, inr, cond, bytes_eq}
use Rattle.std.specs.Prelude.{Option}
use Rattle.std.proofs.lemmas.Slice.Eq.{bytes_eq-Decides}
use Rattle.clap.specs.Lexer.{long_of}
use Rattle.clap.specs.Walk.{Names, Row, Rule, Text, has_long, finished, nothing_held, reacted, settled, walk_from, walked}
use Rattle.clap.specs.Walk as walk
use Rattle.clap.specs.Simple.{Shape, built, filled, with_index, with_subcommand}
use Rattle.clap.specs.Faults.{check_fault, defaults_fault, level_fault, long_fault, settle_fault, stray_fault, turn_fault, walk_fault}
use Rattle.clap.specs.Kinds.{Kinds, or_else}
use Rattle.clap.proofs.OnLiterals.{clap_on_literals}
use Rattle.bidi_command_line.specs.CommandLine.{bare_app, flag_rule, play_shape}
use Rattle.bidi_command_line.proofs.WordLemmas.{held, help, long_is, or_else-nil, turn_taken}

abbrev pub dashes : Text
dashes = codes "--"

-- the flag of `play`
abbrev pub flag : Text
flag = codes "--scripted"

-- the first subcommand, as it is built
abbrev pub first_shape : List Shape → Shape
first_shape [] = play_shape
first_shape (s ∷ rest) = s

-- the faults and values that are found after the walk
abbrev pub later : Shape → Names → List Text → Bool → Kinds
later s known line has_subcommand =
    let end = (walk.walk s.rules known nothing_held line).held in
    or_else (settle_fault s.rules s.args_override_self end)
    (or_else (defaults_fault (settled s.rules end).rows s.rules) (check_fault s (finished s.rules end) has_subcommand))

-- the subcommand `play`, as it is built
abbrev play_built : Shape
play_built = first_shape (built (with_subcommand bare_app play_shape)).subs

abbrev scripted : Rule
scripted = with_index 1 (filled (flag_rule (codes "scripted")))

abbrev play_rules : List Rule
play_rules = scripted ∷ help ∷ []

-- the rows after the flag
abbrev flagged : List Row
flagged = (reacted play_rules scripted [] nothing_held).rows

or_false : (b : Bool) → (b || false) ≡ true → b ≡ true
or_false true e = refl
or_false false e = e

-- a word is the name that it is like
pub same_word : (name word : Text) → (bytes_eq name word || false) ≡ true → name ≡ word
same_word name word e = (bytes_eq-Decides name word).0 (or_false _ e)

-- before the flag only the flag passes, without a value
first_long : (is_scripted is_help : Bool) (value : Option Text) (next : Kinds)
    → or_else (long_fault play_rules false (cond is_scripted (Some scripted) (cond is_help (Some help) None)) value nothing_held) next ≡ []
    → (is_scripted ≡ true) × (value ≡ None)
first_long true is_help None next none = (refl, refl)
first_long true is_help (Some value) next none = absurd cc
first_long false true None next none = absurd cc
first_long false true (Some value) next none = absurd cc
first_long false false value next none = absurd cc

-- after it no option passes
second_long : (is_scripted is_help : Bool) (value : Option Text) (next : Kinds)
    → or_else (long_fault play_rules false (cond is_scripted (Some scripted) (cond is_help (Some help) None)) value (held flagged)) next ≡ [] → ⊥
second_long true is_help None next none = cc
second_long true is_help (Some value) next none = cc
second_long false true None next none = cc
second_long false true (Some value) next none = cc
second_long false false value next none = cc

first_word : (word : Text) → turn_fault play_built [] (walk_from nothing_held) word ≡ [] → (word ≡ dashes) ⊎ (word ≡ flag)
first_word word none =
    elim (turn_taken play_rules [] (λ x. refl) (stray_fault play_built) (λ e. cc) word (word ≡ flag)
    (λ name value is next free.
    let long = first_long (has_long scripted name) (has_long help name) value next free in
    long_is word (codes "scripted")
    (is ∙ (λ i. Some (sym (same_word (codes "scripted") name long.0) i, long.1 i))))
    (bytes_eq word dashes) (long_of word) refl none) [
      | inl e ↦ inl ((bytes_eq-Decides word dashes).0 e)
      | inr e ↦ inr e
    ]

second_word : (word : Text) → turn_fault play_built [] (walk_from (held flagged)) word ≡ [] → word ≡ dashes
second_word word none =
    elim (turn_taken play_rules flagged (λ x. refl) (stray_fault play_built) (λ e. cc) word ⊥
    (λ name value is next free. second_long (has_long scripted name) (has_long help name) value next free) (bytes_eq word dashes) (long_of word) refl none) [
      | inl e ↦ (bytes_eq-Decides word dashes).0 e
      | inr bad ↦ absurd bad
    ]

-- after the mark no word has a place
play_end : (rows : List Row) (line : List Text) → walk_fault play_built [] (walked play_rules [] (walk_from (held rows)) dashes) line ≡ [] → line ≡ []
unfolding clap_on_literals
play_end rows [] none = refl
play_end rows (word ∷ line) none = absurd cc

-- nothing, or the mark
abbrev pub IsBare : List Text → Type 0
IsBare line = (line ≡ []) ⊎ (line ≡ dashes ∷ [])

-- the flag, and after it nothing or the mark
abbrev pub IsFlagged : List Text → Type 0
IsFlagged line = (line ≡ flag ∷ []) ⊎ (line ≡ flag ∷ dashes ∷ [])

-- the words after the flag
after_flag : (line : List Text) → walk_fault play_built [] (walk_from (held flagged)) line ≡ [] → IsBare line
unfolding clap_on_literals
after_flag [] none = inl refl
after_flag (word ∷ line) none =
    let turn = or_else-nil (turn_fault play_built [] (walk_from (held flagged)) word)
    (walk_fault play_built [] (walked play_rules [] (walk_from (held flagged)) word) line) none in
    let mark = second_word word turn.0 in
    inr (ap₂ (λ w rest. w ∷ rest) mark
    (play_end flagged line (subst (λ w. walk_fault play_built [] (walked play_rules [] (walk_from (held flagged)) w) line ≡ []) mark turn.1)))

flagged_line : (line : List Text) → IsBare line → IsFlagged (flag ∷ line)
flagged_line line (inl e) = inl (ap (λ rest. flag ∷ rest) e)
flagged_line line (inr e) = inr (ap (λ rest. flag ∷ rest) e)

pub play_level : (line : List Text) → level_fault play_built [] nothing_held line false [] ≡ [] → IsBare line ⊎ IsFlagged line
unfolding clap_on_literals
play_level [] none = inl (inl refl)
play_level (word ∷ line) none =
    let part = or_else-nil (walk_fault play_built [] (walk_from nothing_held) (word ∷ line)) (later play_built [] (word ∷ line) false) none in
    let turn = or_else-nil (turn_fault play_built [] (walk_from nothing_held) word)
    (walk_fault play_built [] (walked play_rules [] (walk_from nothing_held) word) line) part.0 in
    elim (first_word word turn.0) [
      | inl mark ↦ inl (inr (ap₂ (λ w rest. w ∷ rest) mark
          (play_end [] line (subst (λ w. walk_fault play_built [] (walked play_rules [] (walk_from nothing_held) w) line ≡ []) mark turn.1))))
      | inr given ↦ inr (subst (λ w. IsFlagged (w ∷ line)) (sym given)
          (flagged_line line (after_flag line (subst (λ w. walk_fault play_built [] (walked play_rules [] (walk_from nothing_held) w) line ≡ []) given turn.1))))
    ]
