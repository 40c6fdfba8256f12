-- A line of a play in a scripted play.
use Rattle.std.proofs.Common.{◌≡◌, ◌≤◌, ℕ, true, true≢false, List, [], ◌∷◌, ◌++◌, length, reverse, arith, Option, Some, None, Ok, refl, sym, ◌∙◌, ap, subst}
use Rattle.std.specs.Prelude.{IsSomeAnd, IfSome, IfNone, MatchOption}
use Rattle.std.proofs.Math.Nat.{lt_of_not-le}
use Rattle.std.proofs.lemmas.List.{length-reverse}
use Rattle.bidi_sessions.specs.Limits.{most_steps}
use Rattle.bidi_sessions.specs.Step.{Step}
use Rattle.bidi_lines.proofs.ResultLemmas.{err_not_ok}
use Rattle.bidi_remote.specs.Machine.History.{Input}
use Rattle.bidi_remote.specs.State.Stands.{StandsFor}
use Rattle.bidi_remote.proofs.HeardLemmas.{length-heard}
use Rattle.bidi_play.specs.Lines.{line_of, CanBeSaid}
use Rattle.bidi_play.specs.Players.{HasPlayed}
use Rattle.bidi_play.proofs.PlayLemmas.{played_more}
use Rattle.bidi_scripted.specs.Script.{no_script}
use Rattle.bidi_scripted.specs.View.{script_of}
use Rattle.bidi_scripted.specs.declared.scripted_end.ScriptedEnd.{ScriptedEnd}
use Rattle.bidi_script_lines.specs.Outcomes.{outcome_of, outcome_text}
use Rattle.bidi_script_lines.specs.Performing.{Brings, TakesStep}
use Rattle.bidi_script_lines.specs.ScriptLines.{Line, Plain, is_plain, script_line_of, CanBeWritten}
use Rattle.bidi_script_lines.specs.ScriptPlayers.{HasPlayedScript, IsSaid, SaysNoLine}
use Rattle.bidi_script_lines.specs.View.{said_by}
use Rattle.bidi_script_lines.specs.declared.script_line.ScriptLine.{ScriptLine}
use Rattle.bidi_script_lines.specs.declared.outcome.Outcome as declared
use Rattle.bidi_script_lines.specs.InOrder.{IsSpent}
use Rattle.bidi_script_lines.proofs.ContinueLemmas.{few}
use Rattle.bidi_script_lines.proofs.ScriptPlayLemmas.{script_played_more}

-- what holds of what there is
pub some-and-at : {A : Type 0} (o : Option A) (x : A) (P : A → Type 0) → IsSomeAnd o P → o ≡ Some x → P x
some-and-at None x P h e = absurd h
some-and-at (Some y) x P h e = let same : y ≡ x = cc in subst P same h

-- a line of a play is that of a step
pub plain_step : (l : Line) → is_plain l ≡ true → (s : Step) × (l ≡ Plain s)
plain_step (Plain s) p = (s, refl)
plain_step l p = absurd (true≢false (sym p))

-- which a play can have
pub plain_said : (s : Step) → CanBeWritten (Plain s) → CanBeSaid s
plain_said s w = record { parts = w.parts; utf8 = w.utf8; one_line = w.one_line; short = w.short }

-- and back
pub said_plain : (s : Step) → CanBeSaid s → CanBeWritten (Plain s)
said_plain s w = record { parts = w.parts; utf8 = w.utf8; one_line = w.one_line; short = w.short }

pub same_plain : (s t : Step) → Plain s ≡ Plain t → s ≡ t
same_plain s t e = cc

-- a line that was read, or none
pub is_said : (o : Option ScriptLine) (line : List ℕ) → IfSome o (λ l. CanBeWritten (said_by l) × (line ≡ script_line_of (said_by l)))
    → IfNone o ((l : Line) → CanBeWritten l → line ≡ script_line_of l → ⊥)
    → ((s : Step) → CanBeSaid s → line ≡ line_of s → IsSomeAnd o (λ l. is_plain (said_by l) ≡ true)) → MatchOption o (SaysNoLine line) (λ l. IsSaid line (said_by l))
is_said None line some none plain = none
is_said (Some l) line some none plain = record { says = some.1; can = some.0; plain = plain }

-- a step more that is played over an empty script
pub plain_more : (old new : ScriptedEnd) (o : declared.Outcome) (lines : List (List ℕ)) (line text bytes : List ℕ) (s : Step)
    → TakesStep s old new (Ok o) → CanBeSaid s → line ≡ line_of s → bytes ≡ outcome_text no_script (outcome_of o) → HasPlayed old.end lines text
    → HasPlayed new.end (lines ++ line ∷ []) (text ++ bytes)
plain_more old new o lines line text bytes s takes can says wrote p =
    let (i, heard, answers) = takes.ok in
    let (sent, reads, stands) = answers (reverse p.inputs) p.stands in
    let short = lt_of_not-le (λ many. err_not_ok _ _ (sym ((takes.worn_out (reverse p.inputs) p.stands).1 many))) in
    played_more old.end new.end lines line text bytes s i p says can heard
    (omega (arith, short, length-reverse p.inputs, length-heard p.steps p.inputs p.heard)) (wrote ∙ sent) reads stands

-- a line more that is performed
pub performed_more : (old new : ScriptedEnd) (lines : List (List ℕ)) (line text bytes : List ℕ) (l : Line) (o : declared.Outcome) → HasPlayedScript old lines text
    → IsSaid line l → ((h : List Input) → StandsFor old.end h → Brings l h old new (outcome_of o))
    → ((s : Step) → l ≡ Plain s → script_of old.script ≡ no_script → TakesStep s old new (Ok o) × (script_of new.script ≡ no_script))
    → bytes ≡ outcome_text (script_of new.script) (outcome_of o) → HasPlayedScript new (lines ++ line ∷ []) (text ++ bytes)
performed_more old new lines line text bytes l o p is brings takes wrote =
    script_played_more old new lines line text bytes l (outcome_of o) p is.says is.can brings wrote (λ s said says played empty.
    let (t, same) = plain_step l (is.plain s said says) in
    let taken = takes t same empty in (
      plain_more old new o lines line text bytes t taken.0 (plain_said t (subst CanBeWritten same is.can)) (is.says ∙ ap script_line_of same)
          (wrote ∙ ap (λ z. outcome_text z (outcome_of o)) taken.1) played,
      taken.1,
    ))

-- ---- the remote end accepts no more inputs

-- lines after which it has accepted as many as it can
pub spent : (end : ScriptedEnd) (lines : List (List ℕ)) (text : List ℕ) → HasPlayedScript end lines text
    → ((h : List Input) → StandsFor end.end h → most_steps ≤ length h) → IsSpent lines
spent end lines text p worn =
    let most = few p.performs in
    let least = worn p.inputs p.stands in
    record {
      said = p.said;
      say = p.say;
      inputs = p.inputs;
      script = script_of end.script;
      text = text;
      performs = p.performs;
      all = omega (arith, most, least);
    }
