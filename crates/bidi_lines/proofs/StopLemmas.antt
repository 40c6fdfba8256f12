-- Where one run over lines stops, said of another.
use Rattle.std.proofs.Common.{◌≡◌, ℕ, ◌<◌, ◌≤◌, Bool, List, [], ◌∷◌, ◌++◌, length, length-append, arith, sym, ◌∙◌}
use Rattle.std.specs.List.{AllByRecursion}
use Rattle.bidi_lines.specs.Stops.{Answers, Run, StopsAt, StopsWhole}
use Rattle.bidi_lines.specs.declared.answering.LinesFault.{LinesFault}
use Rattle.bidi_lines.specs.declared.answering.LinesFault.TheVariants.{Read, Write, BadLine, NoMemory, TooManyLines, WornOut}
use Rattle.bidi_lines.proofs.AnsweringLemmas.{no_part}

-- what holds of a run holds of another
pub record Implies (r s : Run) : Type 0 where
  pub is_line : (line : List ℕ) → r.is_line line → s.is_line line
  pub is_next : (at_end : Bool) (line bytes : List ℕ) → r.is_next at_end line bytes → s.is_next at_end line bytes
  pub refuses : (at_end : Bool) (bytes : List ℕ) → r.refuses at_end bytes → s.refuses at_end bytes
  pub answers : (lines : List (List ℕ)) (text : List ℕ) → r.answers lines text → s.answers lines text
  pub is_worn_out : (lines : List (List ℕ)) (rest : List ℕ) → r.is_worn_out lines rest → s.is_worn_out lines rest
  -- the first run answers no more lines than the second takes
  pub few : (lines : List (List ℕ)) (text : List ℕ) → r.answers lines text → length lines ≤ r.most → length lines ≤ s.most
  -- if it answers as many as it takes, the second takes no more
  pub all : (lines : List (List ℕ)) (text : List ℕ) → r.answers lines text → length lines ≡ r.most → length lines ≡ s.most

-- a property of each item of a list, in other words
all_as : {X : Type 0} (P Q : X → Type 0) → ((x : X) → P x → Q x) → (xs : List X) → AllByRecursion P xs → AllByRecursion Q xs
all_as P Q f [] a = tt
all_as P Q f (x ∷ xs) a = (f x a.0, all_as P Q f xs a.1)

module _ (r s : Run) (i : Implies r s) where
  answers_as : (read text : List ℕ) (P Q : List (List ℕ) → List ℕ → Type 0)
      → ((lines : List (List ℕ)) (rest : List ℕ) → r.answers lines text → P lines rest → Q lines rest) → Answers r read text P → Answers s read text Q
  answers_as read text P Q f (lines, rest, b, answers, few, p) = (
    lines,
    rest,
    record { front = b.front; each = all_as r.is_line s.is_line i.is_line lines b.each },
    i.answers lines text answers,
    i.few lines text answers few,
    f lines rest answers p,
  )

  -- where the first run stops, the second stops too
  pub stops_as : (f : LinesFault) (at_end : Bool) (read wrote : List ℕ) → StopsAt r f at_end read wrote → StopsAt s f at_end read wrote
  stops_as Read at_end read wrote stops = answers_as read wrote _ _ (λ lines rest done p. i.is_line rest p) stops
  stops_as (BadLine n) at_end read wrote stops = answers_as read wrote _ _ (λ lines rest done p. (i.refuses at_end rest p.0, p.1)) stops
  stops_as TooManyLines at_end read wrote stops = answers_as read wrote _ _ (λ lines rest done p. (i.all lines wrote done p.0, p.1)) stops
  stops_as WornOut at_end read wrote stops = answers_as read wrote _ _ (λ lines rest done p. i.is_worn_out lines rest p) stops
  stops_as NoMemory at_end read wrote stops = answers_as read wrote _ _ (λ lines rest done p. tt) stops
  stops_as Write at_end read wrote (text, part, e, stops) = (
    text,
    part,
    e,
    answers_as read text _ _ (λ lines rest done (line, whole, few, next, answers, cut).
        (line, whole, one_more lines line (text ++ whole) few answers, i.is_next at_end line rest next, i.answers (lines ++ line ∷ []) (text ++ whole) answers, cut)) stops,
  )
    where
      one_more : (lines : List (List ℕ)) (line text : List ℕ) → length lines < r.most → r.answers (lines ++ line ∷ []) text → length lines < s.most
      one_more lines line text few answers =
          let long = length-append lines (line ∷ []) in
          let all = i.few (lines ++ line ∷ []) text answers (omega (arith, long, few)) in
          omega (arith, long, all)

-- a run whose answers are all empty writes nothing
pub nothing_written : (r : Run) (f : LinesFault) (at_end : Bool) (read wrote : List ℕ)
    → ((lines : List (List ℕ)) (text : List ℕ) → r.answers lines text → text ≡ []) → StopsAt r f at_end read wrote → wrote ≡ []
nothing_written r Read at_end read wrote none (lines, rest, b, answers, few, p) = none lines wrote answers
nothing_written r (BadLine n) at_end read wrote none (lines, rest, b, answers, few, p) = none lines wrote answers
nothing_written r TooManyLines at_end read wrote none (lines, rest, b, answers, few, p) = none lines wrote answers
nothing_written r WornOut at_end read wrote none (lines, rest, b, answers, few, p) = none lines wrote answers
nothing_written r NoMemory at_end read wrote none (lines, rest, b, answers, few, p) = none lines wrote answers
nothing_written r Write at_end read wrote none (text, part, e, (lines, rest, b, answers, few, (line, whole, fewer, next, more, (left, cut, some)))) =
    absurd (some (no_part part left (sym cut ∙ no_part text whole (none (lines ++ line ∷ []) (text ++ whole) more))))

-- so it stops as one that reads all lines before it writes
pub stops_whole : (r : Run) (Writes : List ℕ → List ℕ → Type 0) (f : LinesFault) (at_end : Bool) (read wrote : List ℕ)
    → ((lines : List (List ℕ)) (text : List ℕ) → r.answers lines text → text ≡ []) → StopsAt r f at_end read wrote → StopsWhole r Writes f at_end read wrote
stops_whole r Writes Read at_end read wrote none stops = stops
stops_whole r Writes (BadLine n) at_end read wrote none stops = stops
stops_whole r Writes TooManyLines at_end read wrote none stops = stops
stops_whole r Writes WornOut at_end read wrote none stops = stops
stops_whole r Writes NoMemory at_end read wrote none stops = stops
stops_whole r Writes Write at_end read wrote none (text, part, e, (lines, rest, b, answers, few, (line, whole, fewer, next, more, (left, cut, some)))) =
    absurd (some (no_part part left (sym cut ∙ no_part text whole (none (lines ++ line ∷ []) (text ++ whole) more))))
