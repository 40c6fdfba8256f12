-- The state of a reducer, which reads the lines of a play one by one.
use Rattle.std.specs.Prelude.{◌≡◌, ℕ, ◌≤◌, List, [], length, map}
use Rattle.std.specs.List.{AllByRecursion}
use Rattle.bidi_lines.specs.Answering.{AnswersOf}
use Rattle.bidi_sessions.specs.Step.{Step}
use Rattle.bidi_remote.specs.Machine.History.{Input, AreHeardAs}
use Rattle.bidi_reduce.specs.Kept.{strike_steps}
use Rattle.bidi_reduce.specs.Follows.{Follows}
use Rattle.bidi_play.specs.Lines.{line_of, said, CanBeSaid}
use Rattle.bidi_play.specs.Players.{SaysNoStep}
use Rattle.bidi_reduce.specs.declared.reducing.Reducer.{Reducer}
use Rattle.bidi_sessions.specs.Limits.{most_steps}

-- From its first state the reducer has read these lines, kept those of the steps that are kept for its session, and written nothing.
pub record HasReduced (first : Reducer) (reducer : Reducer) (lines : List (List ℕ)) (text : List ℕ) : Type 0 where
  pub steps : List Step
  pub say : lines ≡ map line_of steps
  pub each : AllByRecursion CanBeSaid steps
  pub inputs : List Input
  pub heard : AreHeardAs steps inputs
  pub session : reducer.session ≡ first.session
  pub follows : Follows reducer.end reducer.session inputs
  pub kept : reducer.kept.items ≡ said (strike_steps steps inputs reducer.session)
  pub none : text ≡ []

-- a reducer takes play lines, and refuses all other lines
abbrev pub reducer_answers : AnswersOf Reducer
reducer_answers = record {
  has_answered = HasReduced;
  refuses = SaysNoStep;
  is_worn_out = λ lines line. most_steps ≤ length lines;
}
