-- A step that a scripted end takes, as the outcome of a line.
use Rattle.std.proofs.Common.{◌≡◌, ℕ, Bool, true, false, true≢false, arith, length, List, [], ◌∷◌, ◌++◌, map, Option, Some, None, Ok, Err, refl, ap, ◌∙◌}
use Rattle.std.specs.Prelude.{codes, not, ◌==◌}
use Rattle.std.specs.Option.{option_map_or}
use Rattle.std.proofs.lemmas.Bool.Decides.{nat_tests}
use Rattle.json.specs.Json.{Json, document}
use Rattle.bidi_rows.specs.Reading.{object_at, string_at}
use Rattle.bidi_play.specs.Lines.{written}
use Rattle.bidi_sessions.specs.Step.{Step}
use Rattle.bidi_remote.specs.Machine.Sent.{Sent, Text, out}
use Rattle.bidi_remote.specs.declared.remote_end.RemoteFault.{RemoteFault}
use Rattle.bidi_scripted.specs.Script.{Follower, no_script}
use Rattle.bidi_scripted.specs.Sending.{following, followers_of, followed_by}
use Rattle.bidi_scripted.specs.Becomes.{IsHandedOn}
use Rattle.bidi_scripted.specs.declared.scripted_end.ScriptedEnd.{ScriptedEnd}
use Rattle.bidi_scripted.specs.declared.scripted_end.Taken.{Taken}
use Rattle.bidi_scripted.proofs.FateLemmas.{worn-ok, worn-err}
use Rattle.bidi_script_lines.specs.Outcomes.{outcome_of, outcome_text, with_followers}
use Rattle.bidi_script_lines.specs.declared.outcome.Outcome as declared
use Rattle.bidi_script_lines.specs.Performing.{TakesStep, taken_outcome}
use Rattle.bidi_script_lines.proofs.PerformLemmas.{taken-of_machine}

-- ---- without followers nothing follows

following-none : (m : Option (List ℕ)) (p : Option Json) → following [] m p ≡ []
following-none None p = refl
following-none (Some m) None = refl
following-none (Some m) (Some p) = refl

followers-none : (text : List ℕ) → followers_of [] text ≡ []
followers-none text = at (document text)
  where
    at : (o : Option Json) → option_map_or (λ j. following [] (string_at (codes "method") j) (object_at (codes "params") j)) o [] ≡ []
    at None = refl
    at (Some j) = following-none (string_at (codes "method") j) (object_at (codes "params") j)

followed-none : (s : Sent) → followed_by [] s ≡ []
followed-none (Text c text) = ap (map (Text c)) (followers-none text)
followed-none s = refl

pub with-none : (sent : List Sent) → with_followers [] sent ≡ sent
with-none [] = refl
with-none (s ∷ ss) = let none = followed-none s in let rest = with-none ss in λ i. s ∷ (none i ++ rest i)

some-left : (b : Bool) → b ≡ false → not b ≡ false → ⊥
some-left true is few = true≢false is
some-left false is few = true≢false few

pub with-few : (followers : List Follower) → not (length followers == 0) ≡ false → (sent : List Sent) → with_followers followers sent ≡ sent
with-few [] few sent = with-none sent
with-few (f ∷ followers) few sent = absurd (some-left (length (f ∷ followers) == 0) (grind (arith, nat_tests)) few)

-- ---- a step that is handed on

pub takes-step : (step : Step) (old new : ScriptedEnd) (t : Taken) (o : declared.Outcome) → IsHandedOn step old.end new.end (Ok t)
    → outcome_of o ≡ taken_outcome t → TakesStep step old new (Ok o)
takes-step step old new t o on is = record {
  ok = (
    on.ok.0,
    on.ok.1,
    λ h s. (
      ap (outcome_text no_script) (is ∙ taken-of_machine t (out h on.ok.0) (on.ok.2 h s).0) ∙ ap written (with-none (out h on.ok.0)),
      (on.ok.2 h s).1,
      (on.ok.2 h s).2,
    ),
  );
  err = tt;
  worn_out = λ h s. worn-ok _ _ _ (on.worn_out h s);
}

pub refuses-step : (step : Step) (old new : ScriptedEnd) (e : RemoteFault) → IsHandedOn step old.end new.end (Err e) → TakesStep step old new (Err e)
refuses-step step old new e on = record { ok = tt; err = on.err; worn_out = λ h s. worn-err _ _ (on.worn_out h s) }
