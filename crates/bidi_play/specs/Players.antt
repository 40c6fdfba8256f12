-- A remote end that answers play lines one by one. Defined by this project.
use Rattle.std.specs.Prelude.{◌≡◌, ℕ, ◌<◌, ◌≤◌, List, ◌∷◌, length, map, reverse}
use Rattle.std.specs.List.{AllByRecursion}
use Rattle.bidi_lines.specs.Answering.{AnswersOf}
use Rattle.bidi_remote.specs.declared.remote_end.RemoteEnd.{RemoteEnd}
use Rattle.bidi_sessions.specs.Step.{Step}
use Rattle.bidi_remote.specs.Machine.History.{Input, AreHeardAs, IsHeardAs}
use Rattle.bidi_remote.specs.Machine.Sent.{Sent, answers, out}
use Rattle.bidi_remote.specs.Machine.Messages.{AllReadBack}
use Rattle.bidi_remote.specs.State.Stands.{StandsFor}
use Rattle.bidi_play.specs.Lines.{line_of, CanBeSaid, written}
use Rattle.bidi_play.specs.declared.playing.Player.{Player}
use Rattle.bidi_sessions.specs.Limits.{most_steps}

-- the line is that of a step
abbrev pub SaysAStep : List ℕ → Type 0
SaysAStep line = (s : Step) × CanBeSaid s × (line ≡ line_of s)

-- the line is not that of any step
abbrev pub SaysNoStep : List ℕ → Type 0
SaysNoStep line = (s : Step) → CanBeSaid s → line ≡ line_of s → ⊥

-- the line is that of a step, the old end takes it and becomes the new one, and this is sent as the machine does; each message reads back
pub record TakesLine (old new : RemoteEnd) (line : List ℕ) (sends : List Sent) : Type 0 where
  pub step : Step
  pub can : CanBeSaid step
  pub says : line ≡ line_of step
  pub input : Input
  pub heard : IsHeardAs step input
  pub sent : (h : List Input) → StandsFor old h → sends ≡ out h input
  pub reads_back : (h : List Input) → StandsFor old h → AllReadBack sends
  pub stands : (h : List Input) → StandsFor old h → StandsFor new (input ∷ h)
  pub few : (h : List Input) → StandsFor old h → length h < most_steps

-- the end has taken the steps of these lines, and the text has the lines of what the machine sends for them; each message reads back
pub record HasPlayed (end : RemoteEnd) (lines : List (List ℕ)) (text : List ℕ) : Type 0 where
  pub steps : List Step
  pub say : lines ≡ map line_of steps
  pub each : AllByRecursion CanBeSaid steps
  pub inputs : List Input
  pub heard : AreHeardAs steps inputs
  pub answer : text ≡ written (answers inputs)
  pub reads_back : AllReadBack (answers inputs)
  pub stands : StandsFor end (reverse inputs)
  pub few : length steps ≤ most_steps

-- the answers of a player: it answers play lines, refuses all other lines, and takes 1,000,000,000 lines
abbrev pub player_answers : AnswersOf Player
player_answers = record {
  has_answered = λ first player lines text. HasPlayed player.end lines text;
  refuses = SaysNoStep;
  is_worn_out = λ lines line. (length lines ≡ most_steps) × SaysAStep line;
}
