-- Playing one more line, and stopping.
use Rattle.std.proofs.Common.{◌≡◌, ℕ, ◌<◌, ◌≤◌, Bool, List, [], ◌∷◌, ◌++◌, length, map, reverse}
use Rattle.std.proofs.Common.{append-nil, length-append, arith, refl, sym, ◌∙◌, ap, subst}
use Rattle.std.proofs.lemmas.Grind.{flat_map-append}
use Rattle.std.proofs.lemmas.List.{reverse-append, map-append, length-map}
use Rattle.bidi_remote.specs.declared.remote_end.RemoteEnd.{RemoteEnd}
use Rattle.bidi_sessions.specs.Step.{Step}
use Rattle.bidi_remote.specs.Machine.History.{Input, IsHeardAs}
use Rattle.bidi_remote.specs.Machine.Sent.{Sent, answers, out}
use Rattle.bidi_remote.specs.Machine.Messages.{AllReadBack}
use Rattle.bidi_remote.specs.State.Stands.{StandsFor}
use Rattle.bidi_remote.proofs.AnswerLemmas.{answers_more}
use Rattle.bidi_remote.proofs.HeardLemmas.{heard_more}
use Rattle.bidi_lines.specs.Feeds.{ended}
use Rattle.bidi_lines.specs.InputLines.{IsLine, joined}
use Rattle.bidi_lines.specs.Answering.{AnswersAll, LineIs, run_of}
use Rattle.bidi_lines.specs.Stops.{BeginsWith, StopsAt}
use Rattle.bidi_lines.specs.declared.answering.LinesFault.{LinesFault}
use Rattle.bidi_lines.specs.declared.answering.LinesFault.TheVariants as fault
use Rattle.bidi_lines.proofs.AnsweringLemmas.{all_more}
use Rattle.bidi_lines.proofs.StopLemmas.{Implies, stops_as}
use Rattle.bidi_play.specs.Lines.{line_of, said, CanBeSaid, written, sent_line}
use Rattle.bidi_play.specs.Plays.{PlaysAll, HasNoPlayLine, HasPlayLine, lines_fault, play_fault_of, play_run}
use Rattle.bidi_play.specs.Players.{HasPlayed, SaysAStep, SaysNoStep, player_answers}
use Rattle.bidi_play.specs.declared.playing.Player.{Player}
use Rattle.bidi_sessions.specs.Limits.{most_steps}

-- more that is sent reads back
read_more : (xs ys : List Sent) → AllReadBack xs → AllReadBack ys → AllReadBack (xs ++ ys)
read_more [] ys a b = b
read_more (x ∷ xs) ys a b = (a.0, read_more xs ys a.1 b)

-- the lines of some steps, joined
pub said-joined : (steps : List Step) → joined (map line_of steps) ≡ said steps
said-joined [] = refl
said-joined (s ∷ steps) = ap (λ (z : List ℕ). ended (line_of s) ++ z) (said-joined steps)

-- as many lines as steps
pub length-said : (lines : List (List ℕ)) (steps : List Step) → lines ≡ map line_of steps → length lines ≡ length steps
length-said lines steps e = ap length e ∙ length-map steps line_of

-- the bytes that were read are the lines of steps, except for the rest
pub said_front : (read rest : List ℕ) (lines : List (List ℕ)) (steps : List Step)
    → BeginsWith IsLine read lines rest → lines ≡ map line_of steps → read ≡ said steps ++ rest
said_front read rest lines steps b say = b.front ∙ ap (λ (z : List ℕ). z ++ rest) (ap joined say ∙ said-joined steps)

-- a line more that is played
pub played_more : (end after : RemoteEnd) (lines : List (List ℕ)) (line text sent : List ℕ) (s : Step) (i : Input) (p : HasPlayed end lines text)
    → line ≡ line_of s → CanBeSaid s → IsHeardAs s i → length p.steps < most_steps
    → sent ≡ written (out (reverse p.inputs) i) → AllReadBack (out (reverse p.inputs) i) → StandsFor after (i ∷ reverse p.inputs)
    → HasPlayed after (lines ++ line ∷ []) (text ++ sent)
played_more end after lines line text sent s i p is can heard short wrote reads stands =
    let next = out (reverse p.inputs) i in
    let long = length-append p.steps (s ∷ []) in
    record {
      steps = p.steps ++ s ∷ [];
      say = ap (λ (z : List (List ℕ)). z ++ line ∷ []) p.say ∙ (ap (λ (z : List ℕ). map line_of p.steps ++ z ∷ []) is ∙ sym (map-append line_of p.steps (s ∷ [])));
      each = all_more CanBeSaid p.steps s p.each can;
      inputs = p.inputs ++ i ∷ [];
      heard = heard_more p.steps p.inputs s i p.heard heard;
      answer = ap (λ (z : List ℕ). z ++ sent) p.answer ∙ (ap (λ (z : List ℕ). written (answers p.inputs) ++ z) wrote
          ∙ sym (ap written (answers_more p.inputs i) ∙ flat_map-append (λ (z : Sent). ended (sent_line z)) (answers p.inputs) next));
      reads_back = subst AllReadBack (sym (answers_more p.inputs i)) (read_more (answers p.inputs) next p.reads_back reads);
      stands = subst (λ (h : List Input). StandsFor after h) (sym (reverse-append p.inputs (i ∷ []))) stands;
      few = omega (arith, long, short);
    }

-- all that was read was played
pub plays_all : (end : RemoteEnd) (most : ℕ) (read wrote : List ℕ) → AnswersAll (HasPlayed end) most read wrote → PlaysAll read wrote
plays_all end most read wrote (lines, b, p, few) = (
  p.steps,
  record {
    lines = said_front read [] lines p.steps b p.say;
    each = p.each;
    inputs = p.inputs;
    heard = p.heard;
    answer = p.answer;
    reads_back = p.reads_back;
  },
)

-- so were the bytes of these lines
plays_lines : (end : RemoteEnd) (lines : List (List ℕ)) (text : List ℕ) → HasPlayed end lines text → PlaysAll (joined lines) text
plays_lines end lines text p = (
  p.steps,
  record {
    lines = ap joined p.say ∙ (said-joined p.steps ∙ sym (append-nil (said p.steps)));
    each = p.each;
    inputs = p.inputs;
    heard = p.heard;
    answer = p.answer;
    reads_back = p.reads_back;
  },
)

-- no more lines are played than a remote end takes steps
few_lines : (end : RemoteEnd) (lines : List (List ℕ)) (text : List ℕ) → HasPlayed end lines text → length lines ≤ most_steps
few_lines end lines text p = let same = length-said lines p.steps p.say in let few = p.few in omega (arith, same, few)

-- if the first line is not that of any step, the bytes do not begin with a play line
pub no_play_line : (rest : List ℕ) → LineIs SaysNoStep rest → HasNoPlayLine rest
no_play_line rest none s more can e = none (line_of s) more (record { one_line = can.one_line; short = can.short }) e s can refl

-- what a player answers is a play
plays_so : (first : Player) (most : ℕ) → most_steps < most → Implies (run_of player_answers first most) play_run
plays_so first most many = record {
  is_line = λ line is. is;
  is_next = λ at_end line bytes next. next;
  refuses = λ at_end bytes bad. (bad.0, no_play_line bytes bad.1);
  answers = λ lines text done. plays_lines done.0.end lines text done.1;
  is_worn_out = λ lines rest worn. (worn.1.2.0, one_line rest worn.1.0 worn.1.1.1 worn.1.2.1);
  few = λ lines text done few. few_lines done.0.end lines text done.1;
  all = λ lines text done all. let few = few_lines done.0.end lines text done.1 in let full : length lines ≡ most = all in absurd (omega (arith, full, few, many));
}
  where
    one_line : (rest line : List ℕ) → ((more : List ℕ) × (rest ≡ ended line ++ more)) → SaysAStep line → HasPlayLine rest
    one_line rest line (more, front) (s, can, says) = (s, more, can, front ∙ ap (λ (l : List ℕ). ended l ++ more) says)

-- a fault of its lines stops a play
pub play_stop : (first : Player) (f : LinesFault) (most : ℕ) (at_end : Bool) (read wrote : List ℕ)
    → most_steps < most → StopsAt (run_of player_answers first most) f at_end read wrote → StopsAt play_run (lines_fault (play_fault_of f)) at_end read wrote
play_stop first fault.Read most at_end read wrote many stops = stops_as _ _ (plays_so first most many) fault.Read at_end read wrote stops
play_stop first (fault.BadLine n) most at_end read wrote many stops = stops_as _ _ (plays_so first most many) (fault.BadLine n) at_end read wrote stops
play_stop first fault.TooManyLines most at_end read wrote many (lines, rest, b, (t, p), fits, (all, more)) =
    let few = few_lines t.end lines wrote p in absurd (omega (arith, all, few, many))
play_stop first fault.WornOut most at_end read wrote many stops = stops_as _ _ (plays_so first most many) fault.WornOut at_end read wrote stops
play_stop first fault.NoMemory most at_end read wrote many stops = stops_as _ _ (plays_so first most many) fault.NoMemory at_end read wrote stops
play_stop first fault.Write most at_end read wrote many stops = stops_as _ _ (plays_so first most many) fault.Write at_end read wrote stops
