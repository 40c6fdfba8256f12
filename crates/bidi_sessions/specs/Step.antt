-- The steps of a remote end, as contracts see them. After WebDriver BiDi, "Transport".
use Rattle.std.specs.Prelude.{ℕ, List}
use Rattle.bidi_scripts.specs.declared.log_entry.Level.{Level}

-- What a page does that no client asked for. Strings are given as their bytes.
pub data PageStep : Type 0 where
  Frame : (context : List ℕ) (url : List ℕ) → PageStep
  Unframe : (context : List ℕ) → PageStep
  Log : (context : List ℕ) (level : Level) (text : List ℕ) → PageStep
  TableRow : (text : List ℕ) → PageStep

-- What happens to a remote end. Strings are given as their bytes.
pub data Step : Type 0 where
  At : (moment : ℕ) → Step
  Open : (conn : ℕ) (resource : List ℕ) → Step
  Drop : (conn : ℕ) → Step
  Text : (conn : ℕ) (text : List ℕ) → Step
  NotText : (conn : ℕ) → Step
  Page : (page : PageStep) → Step
