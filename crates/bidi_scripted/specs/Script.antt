-- What a test says of commands that do not go to the machine: rows, and the commands that are held. This project's own.
use Rattle.std.specs.Prelude.{◌≡◌, ℕ, suc, ◌+◌, ◌-◌, ◌==◌, nat_lt, nat_le, Bool, true, false, not, ◌&&◌, if◌then◌else◌, List, [], ◌∷◌, ◌++◌, length, map, filter, find, bytes_eq, Option, Some, None}
use Rattle.bidi_rows.specs.Command.{Command}
use Rattle.bidi_rows.specs.Filling.{Template}
use Rattle.std.specs.List.{list_any}
use Rattle.bidi_names.specs.Names.{new_words}
use Rattle.bidi_names.specs.Sums.{total}
use Rattle.bidi_names.specs.Subscriptions.{Named}
use Rattle.bidi_rows.specs.Rows.{Row, matches}

-- A command that is held: the number that it got, its connection, its id and its text, and whether that connection is gone although one of
-- its number was opened anew.
pub record Held : Type 0 where
  pub number : ℕ
  pub conn : ℕ
  pub id : ℕ
  pub text : List ℕ
  pub is_lost : Bool

-- The events that follow each event of a method that the machine sends.
pub record Follower : Type 0 where
  pub method : List ℕ
  pub events : List Template
  pub bytes : ℕ

-- A script has rows, the newest first, the commands that are held, in order of number, the number of the next one, the events that follow
-- others, the names that are known, what subscriptions have that the machine does not know, and how many subscriptions were made that only the
-- test keeps.
pub record Script : Type 0 where
  pub rows : List Row
  pub held : List Held
  pub next : ℕ
  pub followers : List Follower
  pub known : List (List ℕ)
  pub named : List Named
  pub made : ℕ

-- the script at the start
abbrev pub no_script : Script
no_script = record { rows = []; held = []; next = 1; followers = []; known = []; named = []; made = 0 }

-- whether no row can answer a command, and no name is known
abbrev pub is_plain : Script → Bool
is_plain script = (length script.rows == 0) && (length script.known == 0)

-- ---- limits

-- how many rows there can be
abbrev pub most_rows : ℕ
most_rows = 1024

-- how many commands can be held at once
abbrev pub most_held : ℕ
most_held = 1024

-- how many commands can ever be held, and how many subscriptions can be made that only the test keeps
abbrev pub most_numbers : ℕ
most_numbers = 1000000000

-- how many names can be known
abbrev pub most_known : ℕ
most_known = 1024

-- how many bytes all rows and held commands can have
abbrev pub most_kept : ℕ
most_kept = 268435456

-- the bytes that rows, held commands and followers have, each as its text was given
abbrev pub kept : Script → ℕ
kept script = total (map (λ r. r.bytes) script.rows) + (total (map (λ h. length h.text) script.held) + total (map (λ f. f.bytes) script.followers))

-- whether so many bytes more can be kept
abbrev pub can_keep : Script → ℕ → Bool
can_keep script bytes = nat_le (bytes + kept script) most_kept

-- whether one more row of so many bytes can be kept
abbrev pub has_room_for_row : Script → ℕ → Bool
has_room_for_row script bytes = nat_lt (length script.rows) most_rows && can_keep script bytes

-- whether events of so many bytes can follow those of one more method
abbrev pub has_room_for_follower : Script → ℕ → Bool
has_room_for_follower script bytes = nat_lt (length script.followers) most_rows && can_keep script bytes

-- whether these words can be known, too
abbrev pub has_room_for_names : Script → List (List ℕ) → Bool
has_room_for_names script words = nat_le (length script.known + length (new_words script.known words)) most_known

-- whether one more command of so many bytes can be held
abbrev pub has_room_for_command : Script → ℕ → Bool
has_room_for_command script bytes = nat_lt (length script.held) most_held && (nat_le script.next most_numbers && can_keep script bytes)

-- ---- rows

-- the row after one use more; its last use takes it away
abbrev pub counted : Row → Option ℕ → List Row
counted row None = row ∷ []
counted row (Some n) = if nat_lt 1 n then record row { left = Some (n - 1) } ∷ [] else []

-- the rows after the newest one that is for the command was used
abbrev pub used : Command → List Row → List Row
used command [] = []
used command (row ∷ rows) = if matches command row then counted row row.left ++ rows else row ∷ used command rows

-- the script with one more row
abbrev pub with_row : Row → Script → Script
with_row row script = record script { rows = row ∷ script.rows }

-- the script after a row was used for the command
abbrev pub with_use : Command → Script → Script
with_use command script = record script { rows = used command script.rows }

-- whether a row is for commands of a method
abbrev pub has_method : List ℕ → Script → Bool
has_method method script = list_any (λ row. bytes_eq row.method method) script.rows

-- the script without the rows of a method
abbrev pub without_method : List ℕ → Script → Script
without_method method script = record script { rows = filter (λ row. not (bytes_eq row.method method)) script.rows }

-- ---- held commands

-- the script with one more command that is held
abbrev pub with_held : ℕ → ℕ → List ℕ → Script → Script
with_held c id text script = record script {
  held = script.held ++ record { number = script.next; conn = c; id = id; text = text; is_lost = false } ∷ [];
  next = suc script.next;
}

-- the held command of this number, if there is one
abbrev pub held_by : ℕ → Script → Option Held
held_by n script = find (λ h. h.number == n) script.held

-- the script without the held command of this number
abbrev pub without_held : ℕ → Script → Script
without_held n script = record script { held = filter (λ h. not (h.number == n)) script.held }

-- the held command after a connection of this number was opened
abbrev pub lost_on : ℕ → Held → Held
lost_on c h = if h.conn == c then record h { is_lost = true } else h

-- the script after a connection of this number was opened: the commands that are held for an earlier one are lost
abbrev pub with_opening : ℕ → Script → Script
with_opening c script = record script { held = map (lost_on c) script.held }

-- ---- followers and names

-- the script in which these events follow each event of their method, in place of those that did before
abbrev pub with_follower : Follower → Script → Script
with_follower follower script =
    record script { followers = filter (λ f. not (bytes_eq f.method follower.method)) script.followers ++ follower ∷ [] }

-- Nothing of the script has changed but the subscriptions to names.
abbrev pub OnlySubscriptionsChange : Script → Script → Type 0
OnlySubscriptionsChange script after = after ≡ record script { named = after.named; made = after.made }

-- the script with more words that are known, each once
abbrev pub with_names : List (List ℕ) → Script → Script
with_names words script = record script { known = script.known ++ new_words script.known words }
