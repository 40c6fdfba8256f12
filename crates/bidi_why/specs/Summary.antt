-- The summary of what was told: how many lines have a fault and why. The form is this project's own.
use Rattle.std.specs.Prelude.{◌≡◌, ℕ, ◌+◌, ◌==◌, ◌⊎◌, ◌&&◌, not, Bool, true, false, List, [], ◌∷◌, ◌++◌, length, map, take, nat_le, codes, decimal, Option, Some, None, if◌then◌else◌}
use Rattle.std.specs.List.{flat_map, list_any, count_by}
use Rattle.std.specs.Str.{bytes_eq}
use Rattle.std.specs.Io.KnownBytes.{Appends}
use Rattle.bidi_lines.specs.Devices.{AppendsBeginning}
use Rattle.bidi_remarks.specs.Explaining.{Telling}
use Rattle.bidi_remarks.specs.declared.telling.CountedAs.{CountedAs}
use Rattle.bidi_remarks.specs.declared.telling.CountedAs.TheVariants.{Refused, Beyond, Failed, Unanswered}
use Rattle.bidi_why.specs.Counting.{IsRanking, Row, counts_after, counts_of, lines_counted, no_counts, others_line, row_line}
use Rattle.bidi_why.specs.declared.sum.Sum.{Sum}
use Rattle.bidi_lines.specs.InputLines.{longest_line}

-- How something that was told is counted.
pub record Entry : Type 0 where
  pub counted_as : CountedAs
  pub cause : List ℕ
  -- its line looks like an object of a log
  pub is_log : Bool

-- whether a line that is not too long begins with `{"dir":`, as the objects of some logs do
abbrev pub is_log : List ℕ → Bool
is_log line = nat_le (length line) longest_line && bytes_eq (codes "{\"dir\":") (take 7 line)

-- what is told of a line, as it is counted
abbrev pub entries_in : List ℕ → Option Telling → List Entry
entries_in line None = []
entries_in line (Some t) = record { counted_as = t.2; cause = t.1; is_log = is_log line } ∷ []

-- a command that was never answered, as it is counted
abbrev pub unanswered : Entry
unanswered = record { counted_as = Unanswered; cause = codes "unanswered"; is_log = false }

-- whether both are counted alike
abbrev pub is_same : CountedAs → CountedAs → Bool
is_same Refused Refused = true
is_same Beyond Beyond = true
is_same Failed Failed = true
is_same Unanswered Unanswered = true
is_same k l = false

-- how many are counted so
abbrev pub counted : CountedAs → List Entry → ℕ
counted k told = count_by (λ e. is_same k e.counted_as) told

-- that a command failed is no fault
abbrev pub is_fault : CountedAs → Bool
is_fault k = not (is_same Failed k)

-- whether one of them is a fault
abbrev pub any_fault : List Entry → Bool
any_fault told = list_any (λ e. is_fault e.counted_as) told

-- the causes of all, in the order in which they were told
abbrev pub causes : List Entry → List (List ℕ)
causes told = map (λ e. e.cause) told

-- `, COUNT WHAT`, if there are any
abbrev pub some_words : ℕ → List ℕ → List ℕ
some_words n what = if n == 0 then [] else codes ", " ++ decimal n ++ what

-- `R of N lines are refused`, and how many are beyond the profile, failed or were never answered
abbrev pub head_line : ℕ → ℕ → ℕ → ℕ → ℕ → List ℕ
head_line n refused beyond failed never =
    decimal refused ++ codes " of " ++ decimal n ++ codes " lines are refused"
    ++ some_words beyond (codes " beyond the profile") ++ some_words failed (codes " failed") ++ some_words never (codes " unanswered") ++ codes "\n"

-- where recipes for logs are, if a line looks like an object of one
abbrev pub hint_line : Bool → List ℕ
hint_line b =
    if b then codes "hint: lines such as {\"dir\":..} are objects of a log; docs/CHECKING.md has recipes that make lines of them\n" else []

-- The text is the summary of n lines of which this was told: how many have a fault, the causes, the most frequent first, and the hint.
abbrev pub IsSummary : ℕ → List Entry → List ℕ → Type 0
IsSummary n told text =
    let counts = counts_after no_counts (causes told) in
    (ranked : List Row) × IsRanking ranked counts.rows
    × (text ≡ head_line n (counted Refused told) (counted Beyond told) (counted Failed told) (counted Unanswered told)
    ++ (flat_map row_line ranked ++ others_line counts.others) ++ hint_line (list_any (λ e. e.is_log) told))

-- a sink was given all of the text, or, where a write failed, a beginning of it and not all
abbrev pub IsGiven : Option (List ℕ) → Option (List ℕ) → ℕ → ℕ → List ℕ → Type 0
IsGiven held held' failures failures' text =
    ((failures' ≡ failures) × Appends held held' text) ⊎ ((failures' ≡ failures + 1) × AppendsBeginning held held' text)

-- a sink was given the summary of n lines of which this was told
abbrev pub SumsUp : Option (List ℕ) → Option (List ℕ) → ℕ → ℕ → ℕ → List Entry → Type 0
SumsUp held held' failures failures' n told = (text : List ℕ) × IsSummary n told text × IsGiven held held' failures failures' text

-- The sum is that of n lines of which this was told.
pub record IsSum (s : Sum) (n : ℕ) (told : List Entry) : Type 0 where
  pub lines : s.lines ≡ n
  pub fault : s.has_fault ≡ any_fault told
  pub log : s.has_log ≡ list_any (λ e. e.is_log) told
  pub refused : s.refused ≡ counted Refused told
  pub beyond : s.beyond ≡ counted Beyond told
  pub failed : s.failed ≡ counted Failed told
  pub unanswered : s.unanswered ≡ counted Unanswered told
  pub causes : counts_of s.causes ≡ counts_after no_counts (causes told)
  pub lines_counted : lines_counted s.causes ≡ length told

-- the text that a sum is written as, with the causes in the order in which they stand
abbrev pub sum_text : Sum → List ℕ
sum_text s =
    head_line s.lines s.refused s.beyond s.failed s.unanswered
    ++ (flat_map row_line (counts_of s.causes).rows ++ others_line (counts_of s.causes).others) ++ hint_line s.has_log
