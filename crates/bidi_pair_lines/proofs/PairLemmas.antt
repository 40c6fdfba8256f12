-- Reading one more line of a schedule, and stopping.
use Rattle.std.proofs.Common.{◌≡◌, ℕ, ◌<◌, ◌≤◌, Bool, List, [], ◌∷◌, ◌++◌, length, take, append-nil, refl, sym, ◌∙◌, ap, subst}
use Rattle.bidi_sessions.specs.Limits.{most_steps}
use Rattle.bidi_ledger.specs.declared.pair_step.PairStep.{PairStep}
use Rattle.bidi_ledger.specs.Ledger.{PairInput, past_after}
use Rattle.bidi_ledger.specs.Pairing.{history}
use Rattle.bidi_ledger.specs.Steps.{AreHeardAs, AreWell, IsWell}
use Rattle.bidi_lines.specs.Answering.{AnswersAll, run_of}
use Rattle.bidi_lines.specs.InputLines.{joined}
use Rattle.bidi_lines.specs.Stops.{StopsAt, StopsWhole}
use Rattle.bidi_lines.specs.declared.answering.LinesFault.{LinesFault}
use Rattle.bidi_lines.specs.declared.answering.LinesFault.TheVariants.{NoMemory, WornOut, Write}
use Rattle.bidi_lines.proofs.AnsweringLemmas.{all_more, cut_off}
use Rattle.bidi_lines.proofs.StopLemmas.{Implies, nothing_written, stops_as, stops_whole}
use Rattle.bidi_pair_lines.specs.PairLines.{IsPairLine}
use Rattle.bidi_pair_lines.specs.Pairs.{AllSay, PairsAll, Schedule, pair_run}
use Rattle.bidi_pair_lines.specs.StepReaders.{HasRead, reader_answers}
use Rattle.bidi_pair_lines.specs.declared.reading.StepReader.{StepReader}

-- ---- one line more

say_more : (lines : List (List ℕ)) (steps : List PairStep) (line : List ℕ) (x : PairStep)
    → AllSay lines steps → IsPairLine line x → AllSay (lines ++ line ∷ []) (steps ++ x ∷ [])
say_more [] [] line x a says = (says, tt)
say_more [] (y ∷ steps) line x a says = absurd a
say_more (l ∷ lines) [] line x a says = absurd a
say_more (l ∷ lines) (y ∷ steps) line x a says = (a.0, say_more lines steps line x a.1 says)

-- nothing is read yet
pub read_none : (reader : StepReader) → reader.steps.items ≡ [] → HasRead reader reader [] []
read_none reader none = record { say = subst (AllSay []) (sym none) tt; well = subst AreWell (sym none) tt; none = refl }

-- a line more that is read, whose answer is nothing
pub read_more : (first before after : StepReader) (lines : List (List ℕ)) (line text answer : List ℕ) (x : PairStep) (p : HasRead first before lines text)
    → IsPairLine line x → after.steps.items ≡ before.steps.items ++ x ∷ [] → answer ≡ [] → HasRead first after (lines ++ line ∷ []) (text ++ answer)
read_more first before after lines line text answer x p says grown nothing = record {
  say = subst (AllSay (lines ++ line ∷ [])) (sym grown) (say_more lines before.steps.items line x p.say says);
  well = subst AreWell (sym grown) (all_more IsWell before.steps.items x p.well says.well);
  none = ap (λ (z : List ℕ). z ++ answer) p.none ∙ nothing;
}

-- ---- all of them, and stops

-- all that was read says them
pub reads_all : (first reader : StepReader) (read text : List ℕ) → AnswersAll (HasRead first reader) 1000000000 read text
    → Schedule read reader.steps.items
reads_all first reader read text (lines, b, p, few) =
    record { lines = lines; whole = b.front ∙ append-nil (joined lines); each = b.each; say = p.say; few = few }

-- what a reader of steps answers is what `pair` answers
reads_so : (first : StepReader) → Implies (run_of reader_answers first 1000000000) pair_run
reads_so first = record {
  is_line = λ line is. is;
  is_next = λ at_end line bytes next. next;
  refuses = λ at_end bytes bad. bad;
  answers = λ lines text done. ((done.0.steps.items, done.1.say), done.1.none);
  is_worn_out = λ lines rest worn. absurd worn.1.2;
  few = λ lines text done few. few;
  all = λ lines text done all. all;
}

-- a fault of the lines stops a run
pub read_stop : (first : StepReader) (f : LinesFault) (at_end : Bool) (read wrote : List ℕ)
    → StopsAt (run_of reader_answers first 1000000000) f at_end read wrote → StopsAt pair_run f at_end read []
read_stop first f at_end read wrote stops =
    let so = stops_as _ _ (reads_so first) f at_end read wrote stops in
    subst (StopsAt pair_run f at_end read) (nothing_written pair_run f at_end read wrote (λ lines text done. done.1) so) so

-- nothing is written before all lines are read
pub pair_stop : (f : LinesFault) (at_end : Bool) (read : List ℕ) → StopsAt pair_run f at_end read [] → StopsWhole pair_run PairsAll f at_end read []
pair_stop f at_end read stops = stops_whole pair_run PairsAll f at_end read [] (λ lines text done. done.1) stops

-- a beginning of the text was written, and not all
pub write_stop : (at_end : Bool) (read text : List ℕ) (n : ℕ) → PairsAll read text → n < length text → StopsWhole pair_run PairsAll Write at_end read (take n text)
write_stop at_end read text n all few = (text, all, cut_off n text few)

-- memory runs out after all lines
pub memory_stop : (at_end : Bool) (read : List ℕ) (steps : List PairStep) → Schedule read steps → StopsWhole pair_run PairsAll NoMemory at_end read []
memory_stop at_end read steps s =
    (s.lines, [], record { front = s.whole ∙ sym (append-nil (joined s.lines)); each = s.each }, ((steps, s.say), refl), s.few, tt)

-- so do the steps of a remote end
pub worn_stop : (at_end : Bool) (read : List ℕ) (steps : List PairStep) → Schedule read steps
    → ((n : ℕ) × (inputs : List PairInput) × AreHeardAs (take n steps) inputs × (most_steps ≤ length (history (past_after [] inputs))))
    → StopsWhole pair_run PairsAll WornOut at_end read []
worn_stop at_end read steps s (n, inputs, heard, many) = (
  s.lines,
  [],
  record { front = s.whole ∙ sym (append-nil (joined s.lines)); each = s.each },
  ((steps, s.say), refl),
  s.few,
  (refl, (steps, n, inputs, s.say, heard, many)),
)
