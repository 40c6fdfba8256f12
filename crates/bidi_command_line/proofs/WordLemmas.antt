-- The words that a level of the parse takes if it has no positional, and no short option but `-h`: the mark `--`, and its own flags.
use Rattle.std.proofs.Common.{◌≡◌, ◌⊎◌, ◌==◌, ◌∙◌, ℕ, Bool, true, false, zero, suc, List, [], ◌∷◌, Option, None, Some}
use Rattle.std.proofs.Common.{◌+◌, take, refl, sym, ap, ap₂, subst, inl, inr, cond, slice_get, length, arith, ◌||◌}
use Rattle.std.specs.Prelude.{option_and_then, if◌then◌else◌}
use Rattle.std.specs.Str.{chars}
use Rattle.std.specs.Option.{option_map_or}
use Rattle.std.specs.List.{before_first, list_any, position_or_len}
use Rattle.std.proofs.lemmas.Bool.Decides.{nat_tests}
use Rattle.clap.specs.Lexer.{has_byte, long_of, long_of_rest, name_and_value, short_of, strip_byte}
use Rattle.clap.specs.Walk.{Held, Row, Rule, Step, Text, arg_by_long, arg_by_short}
use Rattle.clap.specs.Walk.{has_long, has_short, long_or_other, short_or_plain, bundle_met, bundle_step, after_flag}
use Rattle.clap.specs.Walk as walk
use Rattle.clap.specs.Simple.{filled, help_rule, with_index}
use Rattle.clap.specs.Faults.{bundle_fault, bundle_step_fault, flag_word_fault, flags_fault, long_fault, short_fault}
use Rattle.clap.specs.Kinds.{Kinds, or_else}
use Rattle.clap.proofs.OnLiterals.{clap_on_literals}

-- the option `-h` and `--help`, which `clap` adds to each level
abbrev pub help : Rule
help = with_index 1 (filled help_rule)

-- between two words, with these rows
abbrev pub held : List Row → Held
held rows = record { rows = rows; pending = None; skip = 0 }

-- `-h` is the one short option of the rules
abbrev pub HasOneShort : List Rule → Type 0
HasOneShort c = (x : ℕ) → arg_by_short c x ≡ cond (has_short help x) (Some help) None

-- a second fault comes only if there is no first
pub or_else-nil : (a b : Kinds) → or_else a b ≡ [] → (a ≡ []) × (b ≡ [])
or_else-nil [] b none = (refl, none)
or_else-nil (k ∷ ks) b none = absurd cc

-- a step that gives the word to a positional finds none
abbrev step_part : Kinds → Step → Kinds
step_part stray walk.value = stray
step_part stray _ = []

module _ (c : List Rule) (rows : List Row) where
  -- the first character of `-abc`, whether the option is known or not
  known_refused : (is_known : Bool) (rest : Text) (more : Held → Kinds) (next : Kinds)
      → or_else (short_fault c false (cond is_known (Some help) None) rest (held rows) more) next ≡ [] → ⊥
  known_refused true rest more next none = cc
  known_refused false rest more next none = cc

  short_refused : (found : Option Rule) (is_known : Bool) → found ≡ cond is_known (Some help) None → (rest : Text) (more : Held → Kinds) (next : Kinds)
      → or_else (short_fault c false found rest (held rows) more) next ≡ [] → ⊥
  short_refused found is_known is rest more next none =
      known_refused is_known rest more next (subst (λ f. or_else (short_fault c false f rest (held rows) more) next ≡ []) is none)

  module _ (shorts : HasOneShort c) (stray : Kinds) (some : stray ≡ [] → ⊥) (word : Text) where
    -- `-abc`, by its first character
    step_refused : (first : Option ℕ) (k : ℕ) (flags : Text)
        → or_else (bundle_step_fault c false first flags 0 (held rows) (flags_fault c false k))
        (step_part stray (after_flag c walk.idle word (bundle_step c first flags 0 walk.plain (held rows) (bundle_met c k)).0
        (bundle_step c first flags 0 walk.plain (held rows) (bundle_met c k)).1).1) ≡ [] → ⊥
    step_refused None k flags none = some none
    step_refused (Some x) k flags none = short_refused (arg_by_short c x) (has_short help x) (shorts x) _ _ _ none

    bundle_refused : (n : ℕ) (flags : Text)
        → or_else (flags_fault c false n flags 0 (held rows))
        (step_part stray (after_flag c walk.idle word (bundle_met c n flags 0 walk.plain (held rows)).0
        (bundle_met c n flags 0 walk.plain (held rows)).1).1) ≡ [] → ⊥
    unfolding clap_on_literals
    bundle_refused zero flags none = some none
    bundle_refused (suc k) flags none = step_refused (slice_get (chars flags) 0) k flags none

    -- a word that is no `--name`
    plain_refused : (short : Option Text) → or_else (option_map_or (λ flags. bundle_fault c false flags (held rows)) short [])
        (step_part stray (short_or_plain c walk.idle word short (held rows)).1) ≡ [] → ⊥
    plain_refused (Some flags) none = bundle_refused (length flags) flags none
    plain_refused None none = some none

    module _ (Takes : Type 0) (longs : (name : Text) (value : Option Text) → long_of word ≡ Some (name, value)
        → (next : Kinds) → or_else (long_fault c false (arg_by_long c name) value (held rows)) next ≡ [] → Takes) where
      word_taken : (long : Option (Text × Option Text)) → long_of word ≡ long → or_else (flag_word_fault c false long word (held rows))
          (step_part stray (long_or_other c walk.idle word long (held rows)).1) ≡ [] → Takes
      word_taken (Some p) is none = longs p.0 p.1 is _ none
      word_taken None is none = absurd (plain_refused (short_of word) none)

      -- a word that passes is the mark, or a flag that the level takes
      pub turn_taken : (is_end : Bool) (long : Option (Text × Option Text)) → long_of word ≡ long
          → or_else (cond is_end [] (flag_word_fault c false long word (held rows)))
          (step_part stray (cond is_end (held rows, walk.trailing 1) (long_or_other c walk.idle word long (held rows))).1) ≡ [] → (is_end ≡ true) ⊎ Takes
      turn_taken true long is none = inl refl
      turn_taken false long is none = inr (word_taken long is none)

-- ---- a level without flags

-- `--name`, whether the option is known or not
long_refused : (rows : List Row) (is_known : Bool) (value : Option Text) (next : Kinds)
    → or_else (long_fault (help ∷ []) false (cond is_known (Some help) None) value (held rows)) next ≡ [] → ⊥
long_refused rows true (Some value) next none = cc
long_refused rows true None next none = cc
long_refused rows false value next none = cc

-- only the mark passes
pub turn_refused : (stray : Kinds) (some : stray ≡ [] → ⊥) (rows : List Row) (word : Text) (is_end : Bool) (long : Option (Text × Option Text))
    → long_of word ≡ long → or_else (cond is_end [] (flag_word_fault (help ∷ []) false long word (held rows)))
    (step_part stray (cond is_end (held rows, walk.trailing 1) (long_or_other (help ∷ []) walk.idle word long (held rows))).1) ≡ [] → is_end ≡ true
turn_refused stray some rows word is_end long is none =
    elim (turn_taken (help ∷ []) rows (λ x. refl) stray some word ⊥ (λ name value e next n. long_refused rows (has_long help name) value next n) is_end long is none) [
      | inl e ↦ e
      | inr bad ↦ absurd bad
    ]

-- ---- a word that is `--name` is written so

strip_is : (c : ℕ) (word rest : Text) → strip_byte c word ≡ Some rest → word ≡ c ∷ rest
strip_is c [] rest is = absurd cc
strip_is c (x ∷ xs) rest is = of (x == c) refl is
  where
    of : (t : Bool) → (x == c) ≡ t → (if t then Some xs else None) ≡ Some rest → x ∷ xs ≡ c ∷ rest
    of true e is = let same : x ≡ c = grind (arith, nat_tests, e) in let tail : xs ≡ rest = cc in ap₂ (λ b bs. b ∷ bs) same tail
    of false e is = absurd cc

take-next : (n x : ℕ) (xs : Text) → take (1 + n) (x ∷ xs) ≡ x ∷ take n xs
take-next n x xs = let one : 1 + n ≡ suc n = omega arith in subst (λ k. take k (x ∷ xs) ≡ x ∷ take n xs) (sym one) refl

-- what comes before the first of such bytes, if there is none, is the whole
whole_before : (p : ℕ → Bool) (xs : Text) → list_any p xs ≡ false → before_first p xs ≡ xs
whole_before p [] none = refl
whole_before p (x ∷ xs) none = of (p x) refl none (whole_before p xs)
  where
    of : (t : Bool) → p x ≡ t → (t || list_any p xs) ≡ false → (list_any p xs ≡ false → before_first p xs ≡ xs) → before_first p (x ∷ xs) ≡ x ∷ xs
    of true e none rest = absurd cc
    of false e none rest = rw (e) (take-next (position_or_len p xs) x xs ∙ ap (λ bs. x ∷ bs) (rest none))

no_value : (has : Bool) (value : Text) → (if has then Some value else None) ≡ None → has ≡ false
no_value true value e = absurd cc
no_value false value e = refl

some_is : {A : Type 0} (x y : A) → Some x ≡ Some y → x ≡ y
some_is x y e = cc

name_is : (text name : Text) → long_of_rest text ≡ Some (name, None) → text ≡ name
name_is [] name is = absurd cc
name_is (x ∷ xs) name is =
    let same = some_is (name_and_value (x ∷ xs)) (name, None) is in
    sym (whole_before (λ b. b == 61) (x ∷ xs) (no_value (has_byte 61 (x ∷ xs)) _ (ap (λ (p : Text × Option Text). p.1) same)))
    ∙ ap (λ (p : Text × Option Text). p.0) same

and_then_is : {A B : Type 0} (f : A → Option B) (o : Option A) (b : B) → option_and_then f o ≡ Some b → (a : A) × (o ≡ Some a) × (f a ≡ Some b)
and_then_is f None b e = absurd cc
and_then_is f (Some a) b e = (a, refl, e)

-- a word that names an option and gives no value
pub long_is : (word name : Text) → long_of word ≡ Some (name, None) → word ≡ 45 ∷ 45 ∷ name
long_is word name is =
    let outer = and_then_is long_of_rest (option_and_then (strip_byte 45) (strip_byte 45 word)) (name, None) is in
    let inner = and_then_is (strip_byte 45) (strip_byte 45 word) outer.0 outer.1 in
    strip_is 45 word inner.0 inner.1 ∙ ap (λ rest. 45 ∷ rest) (strip_is 45 inner.0 outer.0 inner.2 ∙ ap (λ rest. 45 ∷ rest) (name_is outer.0 name outer.2))
