-- The lines of a play, which are its steps, and the lines that a play writes. Their forms are this project's own.
use Rattle.std.specs.Prelude.{◌≡◌, ◌≢◌, IfSome, Option, Some, None, ℕ, ◌<◌, ◌≤◌, ◌^◌, ◌==◌, List, [], ◌∷◌, ◌++◌, length, codes, decimal, IsUtf8, false}
use Rattle.std.specs.List.{flat_map, list_any}
use Rattle.bidi_scripts.specs.Level.{level_text}
use Rattle.bidi_lines.specs.Feeds.{has_feed, ended}
use Rattle.bidi_sessions.specs.Step.{Step, At, Open, Drop, Text, NotText, Page, Frame, Unframe, Log, TableRow}
use Rattle.bidi_remote.specs.Machine.Sent as sent
use Rattle.bidi_remote.specs.Machine.Sent.{Sent}
use Rattle.bidi_lines.specs.InputLines.{longest_line}
use Rattle.bidi_tree.specs.Number.{IsJsUint}

-- the line of a step, without its line feed: a word and the fields of the step with one space between them; the last field is the rest of the line
-- example: `open 1 /session`
abbrev pub line_of : Step → List ℕ
line_of (At n) = codes "at " ++ decimal n
line_of (Open c resource) = codes "open " ++ decimal c ++ 32 ∷ resource
line_of (Drop c) = codes "drop " ++ decimal c
line_of (Text c text) = codes "> " ++ decimal c ++ 32 ∷ text
line_of (NotText c) = codes "binary " ++ decimal c
line_of (Page (Frame context url)) = codes "frame " ++ context ++ 32 ∷ url
line_of (Page (Unframe context)) = codes "unframe " ++ context
line_of (Page (Log context level text)) = codes "log " ++ context ++ 32 ∷ level_text level ++ 32 ∷ text
line_of (Page (TableRow text)) = codes "value " ++ text

-- the number in a step, or 0 if it has none
abbrev pub number_of : Step → ℕ
number_of (At n) = n
number_of (Open c resource) = c
number_of (Drop c) = c
number_of (Text c text) = c
number_of (NotText c) = c
number_of (Page page) = 0

-- the id of the context that a step names, or None
abbrev pub context_in : Step → Option (List ℕ)
context_in (Page (Frame context url)) = Some context
context_in (Page (Unframe context)) = Some context
context_in (Page (Log context level text)) = Some context
context_in s = None

-- the id of a context has at least one byte, and no space
abbrev pub IsContext : List ℕ → Type 0
IsContext context = (context ≢ []) × (list_any (λ b. b == 32) context ≡ false)

-- the fields of the step fit on a line: its number is a js-uint, and its context is not empty and has no space
pub record IsSayable (s : Step) : Type 0 where
  pub number : IsJsUint (number_of s)
  pub context : IfSome (context_in s) IsContext

-- a play can have this step: its fields fit on a line, which is UTF-8 without a line feed and has at most 2,097,152 bytes
-- example: no step has the line `at 01`
pub record CanBeSaid (s : Step) : Type 0 where
  pub parts : IsSayable s
  pub utf8 : IsUtf8 (line_of s)
  pub one_line : has_feed (line_of s) ≡ false
  pub short : length (line_of s) ≤ longest_line

-- the lines of these steps, each with its line feed
abbrev pub said : List Step → List ℕ
said steps = flat_map (λ s. ended (line_of s)) steps

-- the line that is written for one thing that the remote end sends, without its line feed
-- example: `close 1`
abbrev pub sent_line : Sent → List ℕ
sent_line (sent.Text c text) = codes "< " ++ decimal c ++ 32 ∷ text
sent_line (sent.Close c) = codes "close " ++ decimal c
sent_line (sent.Opened c) = codes "opened " ++ decimal c
sent_line (sent.Denied c) = codes "denied " ++ decimal c
sent_line (sent.Lost c) = codes "lost " ++ decimal c
sent_line sent.NoEffect = codes "no effect"

-- the lines that are written for all that the remote end sends, each with its line feed
abbrev pub written : List Sent → List ℕ
written all = flat_map (λ s. ended (sent_line s)) all
