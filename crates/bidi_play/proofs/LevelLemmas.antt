-- The level in a line that adds a log entry.
use Rattle.std.proofs.Common.{◌≡◌, ℕ, false, List, ◌∷◌, ◌++◌, refl, ap}
use Rattle.std.specs.Prelude.{◌==◌}
use Rattle.std.specs.List.{list_any}
use Rattle.bidi_tree.specs.Node as node
use Rattle.bidi_shape.specs.WordLaws.{word_one}
use Rattle.bidi_scripts.specs.Level.{level_text, level_words}
use Rattle.bidi_scripts.specs.declared.log_entry.Level.{Level}
use Rattle.bidi_scripts.specs.declared.log_entry.Level.TheVariants.{Debug, Info, Warn, Error}
use Rattle.bidi_lines.proofs.FeedLemmas.{one_front}

-- the text of a level holds no space
pub no_space_in : (level : Level) → list_any (λ b. b == 32) (level_text level) ≡ false
no_space_in Debug = refl
no_space_in Info = refl
no_space_in Warn = refl
no_space_in Error = refl

-- a level and the text after it are determined
pub graded : (level grave : Level) (text other : List ℕ) → level_text level ++ 32 ∷ text ≡ level_text grave ++ 32 ∷ other → (level ≡ grave) × (text ≡ other)
graded level grave text other e =
    let h = one_front 32 (level_text level) text (level_text grave) other (no_space_in level) (no_space_in grave) e in
    (word_one level_words level grave (ap node.text h.0), h.1)
