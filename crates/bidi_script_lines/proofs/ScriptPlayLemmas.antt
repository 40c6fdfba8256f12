-- Playing one more line of a scripted play, and stopping.
use Rattle.std.proofs.Common.{◌≡◌, inl, inr, ℕ, ◌-◌, ◌^◌, Bool, List, [], ◌∷◌, ◌++◌, length, map, append-nil, append_assoc, arith, refl, sym, ◌∙◌, ap, ap₂, subst}
use Rattle.std.specs.List.{AllByRecursion}
use Rattle.std.proofs.lemmas.List.{map-append}
use Rattle.bidi_sessions.specs.Step.{Step}
use Rattle.bidi_remote.specs.Machine.History.{Input}
use Rattle.bidi_remote.specs.State.Stands.{StandsFor}
use Rattle.bidi_lines.specs.Feeds.{ended}
use Rattle.bidi_lines.specs.InputLines.{joined, IsLine}
use Rattle.bidi_lines.specs.Answering as lines
use Rattle.bidi_lines.specs.Stops.{StopsAt}
use Rattle.bidi_lines.proofs.StopLemmas.{Implies, stops_as}
use Rattle.bidi_lines.specs.declared.answering.LinesFault.{LinesFault}
use Rattle.bidi_lines.specs.declared.answering.LinesFault.TheVariants as fault
use Rattle.bidi_lines.proofs.AnsweringLemmas.{all_more}
use Rattle.bidi_lines.proofs.FeedLemmas.{one_front}
use Rattle.bidi_play.specs.Lines.{line_of, said, CanBeSaid}
use Rattle.bidi_play.specs.Plays.{lines_fault, play_fault_of}
use Rattle.bidi_play.specs.Players.{HasPlayed}
use Rattle.bidi_play.proofs.PlayLemmas.{plays_all}
use Rattle.bidi_scripted.specs.Script.{no_script}
use Rattle.bidi_scripted.specs.View.{script_of}
use Rattle.bidi_scripted.specs.declared.scripted_end.ScriptedEnd.{ScriptedEnd}
use Rattle.bidi_script_lines.specs.InOrder.{Performs, nothing, one_more}
use Rattle.bidi_script_lines.specs.Outcomes.{Outcome, outcome_text}
use Rattle.bidi_script_lines.specs.Performing.{Brings}
use Rattle.bidi_script_lines.specs.ScriptLines.{Line, script_line_of, CanBeWritten}
use Rattle.bidi_script_lines.specs.ScriptPlayers.{HasPlayedScript, script_player_answers}
use Rattle.bidi_script_lines.specs.ScriptedPlays.{script_said, ScriptedPlaysAll, script_run}
use Rattle.bidi_script_lines.specs.declared.scripted_play.ScriptPlayer.{ScriptPlayer}
use Rattle.bidi_script_lines.proofs.ContinueLemmas.{goes-on}

-- if lines and one more are those of steps, the lines are those of the steps before the last
pub record IsLast (lines : List (List ℕ)) (line : List ℕ) : Type 0 where
  pub front : List Step
  pub last : Step
  pub lines_are : lines ≡ map line_of front
  pub line_is : line ≡ line_of last
  pub each : AllByRecursion CanBeSaid front
  pub can : CanBeSaid last

pub last_line : (lines : List (List ℕ)) (line : List ℕ) (steps : List Step) → lines ++ line ∷ [] ≡ map line_of steps → AllByRecursion CanBeSaid steps → IsLast lines line
last_line [] line [] e a = cc
last_line [] line (s ∷ []) e a = record { front = []; last = s; lines_are = refl; line_is = cc; each = tt; can = a.0 }
last_line [] line (s ∷ t ∷ steps) e a = cc
last_line (l ∷ lines) line [] e a = cc
last_line (l ∷ lines) line (s ∷ steps) e a =
    let both : (l ≡ line_of s) × (lines ++ line ∷ [] ≡ map line_of steps) = (cc, cc) in
    let r = last_line lines line steps both.1 a.1 in
    record {
      front = s ∷ r.front;
      last = r.last;
      lines_are = ap₂ (λ x y. x ∷ y) both.0 r.lines_are;
      line_is = r.line_is;
      each = (a.0, r.each);
      can = r.can;
    }

-- a line more that is performed in order
pub in_order : (old new : ScriptedEnd) (said : List Line) (h : List Input) (text bytes : List ℕ) (l : Line) (o : Outcome)
    → Performs said h (script_of old.script) text → StandsFor old.end h → Brings l h old new o → bytes ≡ outcome_text (script_of new.script) o
    → (after : List Input) × Performs (said ++ l ∷ []) after (script_of new.script) (text ++ bytes) × StandsFor new.end after
in_order old new said h text bytes l o p stands brings wrote =
    let (after, continues, ends) = goes-on h old new stands l o brings in (
      after,
      subst (λ (z : List ℕ). Performs (said ++ l ∷ []) after (script_of new.script) (text ++ z)) (sym wrote)
          (one_more said h after old new text l o p stands brings continues ends),
      ends,
    )

-- a line more that is played
pub script_played_more : (old new : ScriptedEnd) (lines : List (List ℕ)) (line text bytes : List ℕ) (l : Line) (o : Outcome) → HasPlayedScript old lines text
    → line ≡ script_line_of l → CanBeWritten l
    → ((h : List Input) → StandsFor old.end h → Brings l h old new o) → bytes ≡ outcome_text (script_of new.script) o
    → ((s : Step) → CanBeSaid s → line ≡ line_of s → HasPlayed old.end lines text → script_of old.script ≡ no_script
    → HasPlayed new.end (lines ++ line ∷ []) (text ++ bytes) × (script_of new.script ≡ no_script))
    → HasPlayedScript new (lines ++ line ∷ []) (text ++ bytes)
script_played_more old new lines line text bytes l o p is can brings wrote next =
    let done = in_order old new p.said p.inputs text bytes l o p.performs p.stands (brings p.inputs p.stands) wrote in
    record {
      said = p.said ++ l ∷ [];
      say = ap (λ (z : List (List ℕ)). z ++ line ∷ []) p.say
          ∙ (ap (λ (z : List ℕ). map script_line_of p.said ++ z ∷ []) is ∙ sym (map-append script_line_of p.said (l ∷ [])));
      each = all_more CanBeWritten p.said l p.each can;
      inputs = done.0;
      performs = done.1;
      stands = done.2;
      plain = λ steps e a.
          let r = last_line lines line steps e a in
          let before = p.plain r.front r.lines_are r.each in
          next r.last r.can r.line_is before.0 before.1;
    }

-- there is no line without bytes
no_bytes : (line more : List ℕ) → [] ≡ ended line ++ more → ⊥
no_bytes [] more e = cc
no_bytes (x ∷ line) more e = cc

-- bytes that are lines of a play have no other lines
pub same_lines : (lines : List (List ℕ)) (steps : List Step) → AllByRecursion IsLine lines → AllByRecursion CanBeSaid steps → joined lines ≡ said steps
    → lines ≡ map line_of steps
same_lines [] [] a b e = refl
same_lines [] (s ∷ steps) a b e = absurd (no_bytes (line_of s) (said steps) e)
same_lines (l ∷ lines) [] a b e = absurd (no_bytes l (joined lines) (sym e))
same_lines (l ∷ lines) (s ∷ steps) a b e =
    let h = one_front 10 l (joined lines) (line_of s) (said steps) a.0.one_line b.0.one_line
    (sym (append_assoc l (10 ∷ []) (joined lines)) ∙ (e ∙ append_assoc (line_of s) (10 ∷ []) (said steps))) in
    ap₂ (λ x y. x ∷ y) h.0 (same_lines lines steps a.1 b.1 h.1)

-- the lines of a scripted play, joined
script_said-joined : (said : List Line) → joined (map script_line_of said) ≡ script_said said
script_said-joined [] = refl
script_said-joined (l ∷ said) = ap (λ (z : List ℕ). ended (script_line_of l) ++ z) (script_said-joined said)

-- each of them is a line
are_lines : (lines : List (List ℕ)) (said : List Line) → lines ≡ map script_line_of said → AllByRecursion CanBeWritten said → AllByRecursion IsLine lines
are_lines [] said e a = tt
are_lines (x ∷ xs) [] e a = cc
are_lines (x ∷ xs) (l ∷ ls) e a =
    let both : (script_line_of l ≡ x) × (xs ≡ map script_line_of ls) = (cc, cc) in
    (subst IsLine both.0 (record { one_line = a.0.one_line; short = a.0.short }), are_lines xs ls both.1 a.1)

-- the bytes of these lines were played
pub scripted_plays : (end : ScriptedEnd) (lines : List (List ℕ)) (text : List ℕ) → HasPlayedScript end lines text → ScriptedPlaysAll (joined lines) text
scripted_plays end lines text p = record {
  lines = p.said;
  are = ap joined p.say ∙ script_said-joined p.said;
  each = p.each;
  written = (p.inputs, script_of end.script, p.performs);
  plain = λ play.
      let (steps, is, each) = play in
      let all = are_lines lines p.said p.say p.each in
      let same = same_lines lines steps all each is in
      plays_all end.end (length lines) (joined lines) text
      (lines, record { front = sym (append-nil (joined lines)); each = all }, (p.plain steps same each).0, omega arith);
}

-- all that was read was played
pub scripted_plays_all : (end : ScriptedEnd) (most : ℕ) (read wrote : List ℕ) → lines.AnswersAll (HasPlayedScript end) most read wrote → ScriptedPlaysAll read wrote
scripted_plays_all end most read wrote (lines, b, p, few) =
    subst (λ (r : List ℕ). ScriptedPlaysAll r wrote) (sym (b.front ∙ append-nil (joined lines))) (scripted_plays end lines wrote p)

-- what begins with a line goes on
goes_on : (line rest : List ℕ) → lines.HasFirst line rest → rest ≡ [] → ⊥
goes_on line [] (is, (more, e)) none = no_bytes line more e
goes_on line (x ∷ rest) first none = cc

-- what a scripted player answers is a scripted play
plays_so : (first : ScriptPlayer) (most : ℕ) → most ≡ 2 ^ 64 - 1 → Implies (lines.run_of script_player_answers first most) script_run
plays_so first most full = record {
  is_line = λ line is. is;
  is_next = λ at_end line bytes next. next;
  refuses = λ at_end bytes bad. bad;
  answers = λ lines text done. scripted_plays done.0.end lines text done.1;
  is_worn_out = λ lines rest (few, (line, first, (says, spent))). (goes_on line rest first, inl spent);
  few = λ lines text done few. omega (arith, few, full);
  all = λ lines text done all. all ∙ full;
}

-- a fault of its lines stops a scripted play
pub script_stop : (first : ScriptPlayer) (f : LinesFault) (most : ℕ) (at_end : Bool) (read wrote : List ℕ) → most ≡ 2 ^ 64 - 1
    → StopsAt (lines.run_of script_player_answers first most) f at_end read wrote → StopsAt script_run (lines_fault (play_fault_of f)) at_end read wrote
script_stop first fault.Read most at_end read wrote full stops = stops_as _ _ (plays_so first most full) fault.Read at_end read wrote stops
script_stop first (fault.BadLine n) most at_end read wrote full stops = stops_as _ _ (plays_so first most full) (fault.BadLine n) at_end read wrote stops
script_stop first fault.TooManyLines most at_end read wrote full (lines, rest, b, (t, p), few, (all, more)) =
    (lines, rest, record { front = b.front; each = b.each }, scripted_plays t.end lines wrote p, omega (arith, few, full), (more, inr (all ∙ full)))
script_stop first fault.WornOut most at_end read wrote full stops = stops_as _ _ (plays_so first most full) fault.WornOut at_end read wrote stops
script_stop first fault.NoMemory most at_end read wrote full stops = stops_as _ _ (plays_so first most full) fault.NoMemory at_end read wrote stops
script_stop first fault.Write most at_end read wrote full stops = stops_as _ _ (plays_so first most full) fault.Write at_end read wrote stops

-- a new scripted end has played nothing
pub nothing_played : (end : ScriptedEnd) → StandsFor end.end [] → script_of end.script ≡ no_script → HasPlayedScript end [] []
nothing_played end stands empty = record {
  said = [];
  say = refl;
  each = tt;
  inputs = [];
  performs = subst (λ s. Performs [] [] s []) (sym empty) nothing;
  stands = stands;
  plain = λ steps e a. (
    record { steps = []; say = refl; each = tt; inputs = []; heard = tt; answer = refl; reads_back = tt; stands = stands; few = omega arith },
    empty,
  );
}

-- nothing is a scripted play
pub nothing_said : ScriptedPlaysAll [] []
nothing_said = record {
  lines = [];
  are = refl;
  each = tt;
  written = ([], no_script, nothing);
  plain = λ play. ([], record { lines = refl; each = tt; inputs = []; heard = tt; answer = refl; reads_back = tt });
}
