-- One more line of a play that is reduced, and why that stops.
use Rattle.std.proofs.Common.{◌≡◌, ℕ, ◌<◌, ◌≤◌, Bool, true, false, List, [], ◌∷◌, ◌++◌, length, map, append-nil, arith, refl, sym, ◌∙◌, ap, subst, take}
use Rattle.std.specs.Prelude.{if◌then◌else◌}
use Rattle.std.specs.List.{AllByRecursion}
use Rattle.std.proofs.lemmas.Grind.{flat_map-append}
use Rattle.std.proofs.lemmas.List.{map-append}
use Rattle.bidi_sessions.specs.Step.{Step}
use Rattle.bidi_remote.specs.Machine.History.{Input, IsHeardAs, AreHeardAs}
use Rattle.bidi_reduce.specs.Kept.{strike_steps}
use Rattle.bidi_remote.proofs.HeardLemmas.{heard_more, length-heard}
use Rattle.bidi_reduce.specs.Follows.{Follows, is_kept}
use Rattle.bidi_reduce.proofs.StrikeLemmas.{strike_more, strikes}
use Rattle.bidi_lines.specs.Feeds.{ended}
use Rattle.bidi_lines.specs.Answering.{AnswersAll, run_of}
use Rattle.bidi_lines.specs.Stops.{StopsAt, StopsWhole}
use Rattle.bidi_lines.specs.declared.answering.LinesFault.{LinesFault}
use Rattle.bidi_lines.specs.declared.answering.LinesFault.TheVariants as fault
use Rattle.bidi_lines.proofs.AnsweringLemmas.{all_more, cut_off}
use Rattle.bidi_lines.proofs.StopLemmas.{Implies, stops_as, stops_whole}
use Rattle.bidi_play.specs.Lines.{line_of, said, CanBeSaid}
use Rattle.bidi_play.specs.Players.{SaysAStep}
use Rattle.bidi_play.specs.Plays.{lines_fault, play_fault_of}
use Rattle.bidi_play.specs.declared.playing.PlayFault.TheVariants.{Write}
use Rattle.bidi_play.proofs.PlayLemmas.{length-said, no_play_line, said_front}
use Rattle.bidi_reduce.specs.declared.reducing.Reducer.{Reducer}
use Rattle.bidi_reduce.specs.Reduces.{ReducesAll, reduce_run}
use Rattle.bidi_reduce.specs.Reducers.{HasReduced, reducer_answers}
use Rattle.bidi_sessions.specs.Limits.{most_steps}

-- ---- one line more

-- the lines of what is kept, of one step more
pub kept_more : (s : ℕ) (steps : List Step) (inputs : List Input) (x : Step) (i : Input) (b : Bool) (kept line : List ℕ)
    → AreHeardAs steps inputs → b ≡ is_kept s inputs i → line ≡ line_of x → kept ≡ said (strike_steps steps inputs s)
    → (if b then kept ++ ended line else kept) ≡ said (strike_steps (steps ++ x ∷ []) (inputs ++ i ∷ []) s)
kept_more s steps inputs x i b kept line heard is says same =
    subst (λ k. (if b then kept ++ ended line else kept) ≡ said (before ++ (if k then x ∷ [] else []))) is (at b)
    ∙ sym (ap said (strike_more s steps inputs x i heard))
  where
    before : List Step
    before = strike_steps steps inputs s

    say : Step → List ℕ
    say z = ended (line_of z)

    at : (k : Bool) → (if k then kept ++ ended line else kept) ≡ said (before ++ (if k then x ∷ [] else []))
    at true =
        ap (λ (z : List ℕ). z ++ ended line) same
        ∙ (ap (λ (l : List ℕ). said before ++ ended l) says
        ∙ sym (flat_map-append say before (x ∷ []) ∙ ap (λ (z : List ℕ). said before ++ z) (append-nil (ended (line_of x)))))
    at false = same ∙ ap said (sym (append-nil before))

-- a line more that is read, of a step that is kept or not
pub reduced_more : (first before after : Reducer) (lines : List (List ℕ)) (line text : List ℕ) (x : Step) (i : Input) (b : Bool)
    (p : HasReduced first before lines text)
    → line ≡ line_of x → CanBeSaid x → IsHeardAs x i → after.session ≡ before.session
    → (b ≡ is_kept before.session p.inputs i) × Follows after.end before.session (p.inputs ++ i ∷ [])
    → after.kept.items ≡ (if b then before.kept.items ++ ended line else before.kept.items)
    → HasReduced first after (lines ++ line ∷ []) (text ++ [])
reduced_more first before after lines line text x i b p says can heard same follows kept = record {
  steps = p.steps ++ x ∷ [];
  say =
      ap (λ (z : List (List ℕ)). z ++ line ∷ []) p.say
      ∙ (ap (λ (z : List ℕ). map line_of p.steps ++ z ∷ []) says ∙ sym (map-append line_of p.steps (x ∷ [])));
  each = all_more CanBeSaid p.steps x p.each can;
  inputs = p.inputs ++ i ∷ [];
  heard = heard_more p.steps p.inputs x i p.heard heard;
  session = same ∙ p.session;
  follows = subst (λ s. Follows after.end s (p.inputs ++ i ∷ [])) (sym same) follows.1;
  kept =
      subst (λ s. after.kept.items ≡ said (strike_steps (p.steps ++ x ∷ []) (p.inputs ++ i ∷ []) s)) (sym same)
      (kept ∙ kept_more before.session p.steps p.inputs x i b before.kept.items line p.heard follows.0 says p.kept);
  none = ap (λ (z : List ℕ). z ++ []) p.none;
}

-- as many lines as inputs
pub length-reduced : (first before : Reducer) (lines : List (List ℕ)) (text : List ℕ) (p : HasReduced first before lines text) → length p.inputs ≡ length lines
length-reduced first before lines text p = length-heard p.steps p.inputs p.heard ∙ sym (length-said lines p.steps p.say)

-- ---- all of them

-- all that was read is reduced to what is kept
pub reduces_all : (first reducer : Reducer) (read text : List ℕ)
    → AnswersAll (HasReduced first reducer) most_steps read text → ReducesAll first.session read reducer.kept.items × (text ≡ [])
reduces_all first reducer read text (lines, b, p, few) =
    let kept = strike_steps p.steps p.inputs first.session in (
      (
        p.steps,
        kept,
        said_front read [] lines p.steps b p.say ∙ append-nil (said p.steps),
        p.each,
        strikes first.session p.steps kept p.inputs p.heard refl,
        subst (λ s. reducer.kept.items ≡ said (strike_steps p.steps p.inputs s)) p.session p.kept,
      ),
      p.none,
    )

-- ---- stops

-- lines of steps are play lines
say_steps : (lines : List (List ℕ)) (steps : List Step) → lines ≡ map line_of steps → AllByRecursion CanBeSaid steps → AllByRecursion SaysAStep lines
say_steps lines steps e each = subst (AllByRecursion SaysAStep) (sym e) (go steps each)
  where
    go : (steps : List Step) → AllByRecursion CanBeSaid steps → AllByRecursion SaysAStep (map line_of steps)
    go [] each = tt
    go (s ∷ steps) each = ((s, each.0, refl), go steps each.1)

-- what a reducer answers is what reducing answers
reduces_so : (first : Reducer) → Implies (run_of reducer_answers first most_steps) reduce_run
reduces_so first = record {
  is_line = λ line is. is;
  is_next = λ at_end line bytes next. next;
  refuses = λ at_end bytes bad. (bad.0, no_play_line bytes bad.1);
  answers = λ lines text done. (say_steps lines done.1.steps done.1.say done.1.each, done.1.none);
  is_worn_out = λ lines rest worn.
      let short : length lines < most_steps = worn.0 in let many : most_steps ≤ length lines = worn.1.2 in absurd (omega (arith, short, many));
  few = λ lines text done few. few;
  all = λ lines text done all. all;
}

-- a fault of its lines stops it, and nothing was written
pub reduce_stop : (first : Reducer) (f : LinesFault) (at_end : Bool) (read wrote : List ℕ)
    → StopsAt (run_of reducer_answers first most_steps) f at_end read wrote
    → StopsWhole reduce_run (ReducesAll first.session) (lines_fault (play_fault_of f)) at_end read wrote
reduce_stop first f at_end read wrote stops =
    by_play_fault f (stops_whole reduce_run (ReducesAll first.session) f at_end read wrote (λ lines text done. done.1)
    (stops_as _ _ (reduces_so first) f at_end read wrote stops))
  where
    -- too many lines are too many steps
    by_play_fault : (f : LinesFault) → StopsWhole reduce_run (ReducesAll first.session) f at_end read wrote
        → StopsWhole reduce_run (ReducesAll first.session) (lines_fault (play_fault_of f)) at_end read wrote
    by_play_fault fault.Read stops = stops
    by_play_fault (fault.BadLine n) stops = stops
    by_play_fault fault.TooManyLines stops = stops
    by_play_fault fault.WornOut stops = stops
    by_play_fault fault.NoMemory stops = stops
    by_play_fault fault.Write stops = stops

-- a beginning of what is kept was written, and not all
pub write_stop : (s n : ℕ) (at_end : Bool) (read text : List ℕ) → ReducesAll s read text → n < length text
    → StopsWhole reduce_run (ReducesAll s) (lines_fault Write) at_end read (take n text)
write_stop s n at_end read text all few = (text, all, cut_off n text few)
