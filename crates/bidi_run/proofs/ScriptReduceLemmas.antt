-- One more line of a scripted play that is reduced, and why that stops.
use Rattle.std.proofs.Common.{◌≡◌, ℕ, ◌<◌, ◌≤◌, Bool, true, false, true≢false, List, [], ◌∷◌, ◌++◌, length, length-append, map, append-nil, append_assoc, arith}
use Rattle.std.proofs.Common.{refl, sym, ◌∙◌, ap, ap₂, subst, take, Option, Some, None, Ok, Err}
use Rattle.std.specs.Prelude.{◌≢◌, if◌then◌else◌, MatchOption, OnOk, Result}
use Rattle.std.specs.List.{AllByRecursion}
use Rattle.std.proofs.lemmas.Grind.{flat_map-append}
use Rattle.std.proofs.lemmas.List.{length-map, map-append}
use Rattle.bidi_lines.specs.Answering.{AnswersAll, run_of}
use Rattle.bidi_lines.specs.Feeds.{ended}
use Rattle.bidi_lines.specs.InputLines.{joined}
use Rattle.bidi_lines.specs.Stops.{StopsAt, StopsWhole}
use Rattle.bidi_lines.specs.declared.answering.LinesFault.{LinesFault}
use Rattle.bidi_lines.specs.declared.answering.LinesFault.TheVariants as fault
use Rattle.bidi_lines.proofs.AnsweringLemmas.{all_more, cut_off}
use Rattle.bidi_lines.proofs.StopLemmas.{Implies, stops_as, stops_whole}
use Rattle.bidi_play.specs.Lines.{line_of, said, CanBeSaid}
use Rattle.bidi_play.specs.Plays.{lines_fault, play_fault_of}
use Rattle.bidi_play.specs.declared.playing.PlayFault.TheVariants.{Write}
use Rattle.bidi_play.proofs.PlayLemmas.{said-joined}
use Rattle.bidi_reduce.specs.Follows.{Follows, is_kept}
use Rattle.bidi_reduce.specs.Kept.{strike_steps}
use Rattle.bidi_reduce.proofs.ReduceLemmas.{kept_more}
use Rattle.bidi_reduce.proofs.StrikeLemmas.{strikes}
use Rattle.bidi_remote.specs.Machine.History.{Input, IsHeardAs}
use Rattle.bidi_remote.proofs.HeardLemmas.{heard_more, length-heard}
use Rattle.bidi_script_lines.specs.ScriptLines.{Line, Plain, CanBeWritten, is_plain, script_line_of}
use Rattle.bidi_script_lines.specs.ScriptPlayers.{SaysALine}
use Rattle.bidi_script_lines.specs.ScriptedPlays.{script_said}
use Rattle.bidi_script_lines.proofs.PlainLemmas.{plain_said, said_plain}
use Rattle.bidi_sessions.specs.Limits.{most_steps}
use Rattle.bidi_sessions.specs.Step.{Step}
use Rattle.bidi_sessions.specs.View.{step_of}
use Rattle.bidi_sessions.specs.declared.step.Step as declared
use Rattle.bidi_run.specs.declared.reducing.ScriptReducer.{ScriptReducer}
use Rattle.bidi_run.specs.ScriptReduces.{BeginsWithTest, HasReducedScript, IsOfTest, ReducesScript, reduce_script_run, script_reducer_answers}

-- ---- one line more

-- a line that was read is that of a step, or one of a test
pub step_or_test : (o : Option declared.Step) (l : Line) (line : List ℕ) → CanBeWritten l → line ≡ script_line_of l
    → MatchOption o (is_plain l ≡ false) (λ s. l ≡ Plain (step_of s))
    → MatchOption o (IsOfTest line) (λ s. CanBeSaid (step_of s) × (line ≡ line_of (step_of s)))
step_or_test None l line can says test = (l, can, says, test)
step_or_test (Some s) l line can says is = (plain_said (step_of s) (subst CanBeWritten is can), says ∙ ap script_line_of is)

-- a line more of a play, before each of a test
pub step_more : (first before after : ScriptReducer) (lines : List (List ℕ)) (line text : List ℕ) (x : Step) (i : Input) (b : Bool)
    (p : HasReducedScript first before lines text)
    → before.is_whole ≡ false → after.is_whole ≡ before.is_whole → line ≡ line_of x → CanBeSaid x → IsHeardAs x i → after.session ≡ before.session
    → (b ≡ is_kept before.session p.inputs i) × Follows after.end before.session (p.inputs ++ i ∷ [])
    → after.kept.items ≡ (if b then before.kept.items ++ ended line else before.kept.items)
    → HasReducedScript first after (lines ++ line ∷ []) (text ++ [])
step_more first before after lines line text x i b p part stays says can heard same follows kept = record {
  steps = p.steps ++ x ∷ [];
  rest = [];
  say =
      ap (λ (z : List (List ℕ)). z ++ line ∷ []) lines_are
      ∙ (ap (λ (z : List ℕ). map line_of p.steps ++ z ∷ []) says
      ∙ (sym (map-append line_of p.steps (x ∷ [])) ∙ sym (append-nil (map line_of (p.steps ++ x ∷ [])))));
  each = all_more CanBeSaid p.steps x p.each can;
  all = tt;
  begins = tt;
  plain = λ part. refl;
  whole = λ yes. absurd (true≢false (sym yes ∙ (stays ∙ part)));
  inputs = p.inputs ++ i ∷ [];
  heard = heard_more p.steps p.inputs x i p.heard heard;
  session = same ∙ p.session;
  follows = subst (λ s. Follows after.end s (p.inputs ++ i ∷ [])) (sym same) follows.1;
  kept =
      subst (λ s. after.kept.items ≡ said (strike_steps (p.steps ++ x ∷ []) (p.inputs ++ i ∷ []) s) ++ []) (sym same)
      (kept ∙ (kept_more before.session p.steps p.inputs x i b before.kept.items line p.heard follows.0 says kept_before ∙ sym (append-nil _)));
  none = ap (λ (z : List ℕ). z ++ []) p.none;
}
  where
    lines_are : lines ≡ map line_of p.steps
    lines_are = p.say ∙ (ap (λ (r : List Line). map line_of p.steps ++ map script_line_of r) (p.plain part) ∙ append-nil (map line_of p.steps))

    kept_before : before.kept.items ≡ said (strike_steps p.steps p.inputs before.session)
    kept_before =
        p.kept
        ∙ (ap (λ (r : List Line). said (strike_steps p.steps p.inputs before.session) ++ script_said r) (p.plain part)
        ∙ append-nil (said (strike_steps p.steps p.inputs before.session)))

-- the first line of those that stay is one of a test
begins_more : (rest : List Line) (l : Line) (whole : Bool)
    → BeginsWithTest rest → (whole ≡ true → rest ≢ []) → (whole ≡ false → is_plain l ≡ false) → BeginsWithTest (rest ++ l ∷ [])
begins_more [] l true begins some first = absurd (some refl refl)
begins_more [] l false begins some first = first refl
begins_more (x ∷ rest) l whole begins some first = begins

some_more : (rest : List Line) (l : Line) → rest ++ l ∷ [] ≡ [] → ⊥
some_more [] l e = cc
some_more (x ∷ rest) l e = cc

script_said_more : (rest : List Line) (l : Line) → script_said (rest ++ l ∷ []) ≡ script_said rest ++ ended (script_line_of l)
script_said_more rest l =
    flat_map-append (λ (z : Line). ended (script_line_of z)) rest (l ∷ [])
    ∙ ap (λ (z : List ℕ). script_said rest ++ z) (append-nil (ended (script_line_of l)))

-- a line more that stays
pub stay_more : (first before after : ScriptReducer) (lines : List (List ℕ)) (line text : List ℕ) (l : Line)
    (p : HasReducedScript first before lines text)
    → CanBeWritten l → line ≡ script_line_of l → (before.is_whole ≡ false → is_plain l ≡ false) → after.is_whole ≡ true → after.end ≡ before.end
    → after.session ≡ before.session → after.kept.items ≡ before.kept.items ++ ended line
    → HasReducedScript first after (lines ++ line ∷ []) (text ++ [])
stay_more first before after lines line text l p can says test all same_end same kept = record {
  steps = p.steps;
  rest = p.rest ++ l ∷ [];
  say =
      ap (λ (z : List (List ℕ)). z ++ line ∷ []) p.say
      ∙ (append_assoc (map line_of p.steps) (map script_line_of p.rest) (line ∷ [])
      ∙ ap (λ (z : List (List ℕ)). map line_of p.steps ++ z)
      (ap (λ (z : List ℕ). map script_line_of p.rest ++ z ∷ []) says ∙ sym (map-append script_line_of p.rest (l ∷ []))));
  each = p.each;
  all = all_more CanBeWritten p.rest l p.all can;
  begins = begins_more p.rest l before.is_whole p.begins p.whole test;
  plain = λ part. absurd (true≢false (sym all ∙ part));
  whole = λ yes none. some_more p.rest l none;
  inputs = p.inputs;
  heard = p.heard;
  session = same ∙ p.session;
  follows = subst (λ s. Follows after.end s p.inputs) (sym same) (subst (λ e. Follows e before.session p.inputs) (sym same_end) p.follows);
  kept =
      subst (λ s. after.kept.items ≡ said (strike_steps p.steps p.inputs s) ++ script_said (p.rest ++ l ∷ [])) (sym same)
      (kept ∙ (ap (λ (z : List ℕ). z ++ ended line) p.kept
      ∙ (append_assoc (said (strike_steps p.steps p.inputs before.session)) (script_said p.rest) (ended line)
      ∙ ap (λ (z : List ℕ). said (strike_steps p.steps p.inputs before.session) ++ z)
      (ap (λ (z : List ℕ). script_said p.rest ++ ended z) says ∙ sym (script_said_more p.rest l)))));
  none = ap (λ (z : List ℕ). z ++ []) p.none;
}

-- what follows from an Ok
pub on_ok : {T E P Q : Type 0} (r : Result T E) → (P → Q) → OnOk r P → OnOk r Q
on_ok (Ok x) f p = f p
on_ok (Err e) f p = tt

-- no more inputs than lines
pub few_inputs : (first before : ScriptReducer) (lines : List (List ℕ)) (text : List ℕ) (p : HasReducedScript first before lines text)
    → length p.inputs ≤ length lines
few_inputs first before lines text p =
    let steps = length-heard p.steps p.inputs p.heard in
    let said = length-map p.steps line_of in
    let both = ap length p.say ∙ length-append (map line_of p.steps) (map script_line_of p.rest) in
    omega (arith, steps, said, both)

-- ---- all of them

script_said-joined : (rest : List Line) → joined (map script_line_of rest) ≡ script_said rest
script_said-joined [] = refl
script_said-joined (l ∷ rest) = ap (λ (z : List ℕ). ended (script_line_of l) ++ z) (script_said-joined rest)

joined_parts : (steps : List Step) (rest : List Line) → joined (map line_of steps ++ map script_line_of rest) ≡ said steps ++ script_said rest
joined_parts steps rest =
    flat_map-append ended (map line_of steps) (map script_line_of rest)
    ∙ ap₂ (λ (x y : List ℕ). x ++ y) (said-joined steps) (script_said-joined rest)

-- all that was read is reduced to what is kept
pub reduces_script : (first reducer : ScriptReducer) (read text : List ℕ)
    → AnswersAll (HasReducedScript first reducer) most_steps read text → ReducesScript first.session read reducer.kept.items × (text ≡ [])
reduces_script first reducer read text (lines, b, p, few) =
    let kept = strike_steps p.steps p.inputs first.session in (
      record {
        steps = p.steps;
        rest = p.rest;
        are = b.front ∙ (append-nil (joined lines) ∙ (ap joined p.say ∙ joined_parts p.steps p.rest));
        each = p.each;
        all = p.all;
        begins = p.begins;
        kept = kept;
        strikes = strikes first.session p.steps kept p.inputs p.heard refl;
        left = subst (λ s. reducer.kept.items ≡ said (strike_steps p.steps p.inputs s) ++ script_said p.rest) p.session p.kept;
      },
      p.none,
    )

-- ---- stops

-- the lines are those of a scripted play
say_lines : (lines : List (List ℕ)) (steps : List Step) (rest : List Line) → lines ≡ map line_of steps ++ map script_line_of rest
    → AllByRecursion CanBeSaid steps → AllByRecursion CanBeWritten rest → AllByRecursion SaysALine lines
say_lines lines steps rest e each all = subst (AllByRecursion SaysALine) (sym e) (front steps each)
  where
    behind : (rest : List Line) → AllByRecursion CanBeWritten rest → AllByRecursion SaysALine (map script_line_of rest)
    behind [] all = tt
    behind (l ∷ rest) all = ((l, all.0, refl), behind rest all.1)

    front : (steps : List Step) → AllByRecursion CanBeSaid steps → AllByRecursion SaysALine (map line_of steps ++ map script_line_of rest)
    front [] each = behind rest all
    front (s ∷ steps) each = ((Plain s, said_plain s each.0, refl), front steps each.1)

-- what a reducer answers is what reducing answers
reduces_so : (first : ScriptReducer) → Implies (run_of script_reducer_answers first most_steps) reduce_script_run
reduces_so first = record {
  is_line = λ line is. is;
  is_next = λ at_end line bytes next. next;
  refuses = λ at_end bytes bad. bad;
  answers = λ lines text done. (say_lines lines done.1.steps done.1.rest done.1.say done.1.each done.1.all, done.1.none);
  is_worn_out = λ lines rest worn.
      let short : length lines < most_steps = worn.0 in let many : most_steps ≤ length lines = worn.1.2 in absurd (omega (arith, short, many));
  few = λ lines text done few. few;
  all = λ lines text done all. all;
}

-- a fault of its lines stops it, and nothing was written
pub script_reduce_stop : (first : ScriptReducer) (f : LinesFault) (at_end : Bool) (read wrote : List ℕ)
    → StopsAt (run_of script_reducer_answers first most_steps) f at_end read wrote
    → StopsWhole reduce_script_run (ReducesScript first.session) (lines_fault (play_fault_of f)) at_end read wrote
script_reduce_stop first f at_end read wrote stops =
    by_play_fault f (stops_whole reduce_script_run (ReducesScript first.session) f at_end read wrote (λ lines text done. done.1)
    (stops_as _ _ (reduces_so first) f at_end read wrote stops))
  where
    -- too many lines are too many steps
    by_play_fault : (f : LinesFault) → StopsWhole reduce_script_run (ReducesScript first.session) f at_end read wrote
        → StopsWhole reduce_script_run (ReducesScript first.session) (lines_fault (play_fault_of f)) at_end read wrote
    by_play_fault fault.Read stops = stops
    by_play_fault (fault.BadLine n) stops = stops
    by_play_fault fault.TooManyLines stops = stops
    by_play_fault fault.WornOut stops = stops
    by_play_fault fault.NoMemory stops = stops
    by_play_fault fault.Write stops = stops

-- a beginning of what is kept was written, and not all
pub script_write_stop : (s n : ℕ) (at_end : Bool) (read text : List ℕ) → ReducesScript s read text → n < length text
    → StopsWhole reduce_script_run (ReducesScript s) (lines_fault Write) at_end read (take n text)
script_write_stop s n at_end read text all few = (text, all, cut_off n text few)
