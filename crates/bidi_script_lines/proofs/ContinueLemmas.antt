-- The history after a line of a scripted play.
use Rattle.std.proofs.Common.{◌≡◌, ◌<◌, ◌≤◌, ◌⊎◌, inl, inr, ℕ, suc, Bool, true, false, List, [], ◌∷◌, length, Option, Some, None, refl, sym, ◌∙◌, subst, arith}
use Rattle.bidi_sessions.specs.Limits.{most_steps}
use Rattle.bidi_sessions.specs.Step.{Step}
use Rattle.bidi_remote.specs.Machine.Asking.{session_in}
use Rattle.bidi_remote.specs.Machine.Connections.{attachment_of}
use Rattle.bidi_remote.specs.Machine.History.{Input, Drop}
use Rattle.bidi_remote.specs.Machine.Outcome.{deeds}
use Rattle.bidi_remote.specs.State.Stands.{StandsFor, IsShort}
use Rattle.bidi_remote.specs.declared.remote_end.RemoteEnd.{RemoteEnd}
use Rattle.bidi_names.specs.Asked.{Asked}
use Rattle.bidi_scripted.specs.Becomes.{Becomes}
use Rattle.bidi_scripted.specs.Fate.{Fate, HandedOn, Answered, Held, Unheld, AsksNames, fate}
use Rattle.bidi_scripted.specs.Kept.{Taking, Hears, Refuses, Succeeds, Makes, HearsText, Takes, IsNamed, NamesAsked, asked_in, taking}
use Rattle.bidi_scripted.specs.Script.{Script}
use Rattle.bidi_scripted.specs.View.{script_of}
use Rattle.bidi_scripted.specs.declared.scripted_end.ScriptedEnd.{ScriptedEnd}
use Rattle.bidi_scripted.specs.declared.scripted_end.Taken.{Taken}
use Rattle.bidi_script_lines.specs.InOrder.{Continues, Performs, nothing, one_more}
use Rattle.bidi_script_lines.specs.Outcomes.{Outcome}
use Rattle.bidi_script_lines.specs.Performing.{Brings, Drops, HasNoEffect, IsUnchanged, OnOpen, Releases}
use Rattle.bidi_script_lines.specs.ScriptLines.{Line}
use Rattle.bidi_script_lines.specs.ScriptLines as line

-- the end stands for a history after h
abbrev pub GoesOn : List Input → RemoteEnd → Type 0
GoesOn h new = (after : List Input) × Continues h after × StandsFor new after

-- it is as it was
stays : (h : List Input) (old new : RemoteEnd) → StandsFor old h → new ≡ old → GoesOn h new
stays h old new s same = (h, inl refl, subst (λ e. StandsFor e h) (sym same) s)

-- it accepted one input more
accepted : (h : List Input) (i : Input) (new : RemoteEnd) → StandsFor new (i ∷ h) → IsShort h → GoesOn h new
accepted h i new s short = (i ∷ h, inr (i, refl, short), s)

-- ---- what a scripted end took

heard : (c : ℕ) (text : List ℕ) (h : List Input) (new : RemoteEnd) (t : Taken) → HearsText c text h new t → GoesOn h new
heard c text h new t (i, is, sent, stands, short) = accepted h i new stands short

by-taking : (c : ℕ) (h : List Input) (s : ℕ) (asked : Option Asked) (old new : RemoteEnd) (script after : Script) (t : Taken) (k : Taking) → StandsFor old h
    → Takes c h s asked old script new after t k → GoesOn h new
by-taking c h s asked old new script after t (Hears text) stands (hears, keeps) = heard c text h new t hears
by-taking c h s asked old new script after t (Refuses id code) stands ((sent, same), kept) = stays h old new stands same
by-taking c h s asked old new script after t (Succeeds id) stands ((sent, same), kept) = stays h old new stands same
by-taking c h s asked old new script after t (Makes w scope) stands ((sent, same), kept) = stays h old new stands same

by-session : (c : ℕ) (text : List ℕ) (h : List Input) (s : Option ℕ) (old new : RemoteEnd) (script after : Script) (t : Taken) → StandsFor old h
    → IsNamed c text h s old script new after t → GoesOn h new
by-session c text h None old new script after t stands (hears, kept) = heard c text h new t hears
by-session c text h (Some s) old new script after t stands (v, is, takes) =
    let asked = asked_in script.known text v in
    by-taking c h s asked old new script after t (taking (deeds h) script s text asked) stands takes

by-names : (c : ℕ) (text : List ℕ) (h : List Input) (old new : RemoteEnd) (script after : Script) (t : Taken) → StandsFor old h
    → NamesAsked c text h old script new after t → GoesOn h new
by-names c text h old new script after t stands asked = by-session c text h (session_in (attachment_of (deeds h) c)) old new script after t stands asked

by-fate : (f : Fate) (h : List Input) (step : Step) (old new : RemoteEnd) (script after : Script) (t : Taken) → StandsFor old h
    → Becomes f h step old script new after t → GoesOn h new
by-fate HandedOn h step old new script after t s (i, is, sent, stands, kept, short) = accepted h i new stands short
by-fate (Answered c command answer) h step old new script after t s (sent, same, kept) = stays h old new s same
by-fate (Held c command text) h step old new script after t s (sent, same, kept) = stays h old new s same
by-fate (Unheld c command) h step old new script after t s (sent, same, kept) = stays h old new s same
by-fate (AsksNames c text) h step old new script after t s asked = by-names c text h old new script after t s asked

-- ---- what a line brings about

module _ (h : List Input) (old new : ScriptedEnd) (stands : StandsFor old.end h) where
  unchanged : IsUnchanged old new → GoesOn h new.end
  unchanged (same, script) = stays h old.end new.end stands same

  no-effect : (o : Outcome) → HasNoEffect old new o → GoesOn h new.end
  no-effect o (reason, is, same) = unchanged same

  on-open : (c : ℕ) (o : Outcome) (P : Type 0) → OnOpen c h old new o P → (P → GoesOn h new.end) → GoesOn h new.end
  on-open c o P (inl (closed, none)) f = no-effect o none
  on-open c o P (inr (opened, p)) f = f p

  dropped : (c : ℕ) → Drops c h old new → GoesOn h new.end
  dropped c (gone, script, short) = accepted h (Drop c) new.end gone short

  -- nothing happens, or something that the remote end does not see
  unseen : (o : Outcome) (A B C : Type 0) → (A × HasNoEffect old new o) ⊎ (B × C × IsUnchanged old new) → GoesOn h new.end
  unseen o A B C (inl (why, none)) = no-effect o none
  unseen o A B C (inr (can, is, same)) = unchanged same

  -- nothing happens, or the connection is dropped
  closes : (c : ℕ) (o : Outcome) (A B C : Type 0) → (A × HasNoEffect old new o) ⊎ (B × C × Drops c h old new) → GoesOn h new.end
  closes c o A B C (inl (why, none)) = no-effect o none
  closes c o A B C (inr (can, is, drops)) = dropped c drops

  some-not-none : {X : Type 0} (x : X) (xs : List X) → x ∷ xs ≡ [] → ⊥
  some-not-none x xs e = cc

  released : (n : ℕ) (o : Outcome) (r : Releases n h old new o) (b : Bool) (known : List (List ℕ)) → r.held.is_lost ≡ b
      → (script_of old.script).known ≡ known → GoesOn h new.end
  released n o r true known lost is = let (sent, same, script) = r.lost lost in stays h old.end new.end stands same
  released n o r false [] lives is = let (i, heard_as, sent, gone, short, script) = r.goes_on lives is in accepted h i new.end gone short
  released n o r false (name ∷ names) lives is =
      let (t, mid, asked, sent, script) = r.named lives (λ none. some-not-none name names (sym is ∙ none)) in
      by-names r.held.conn r.held.text h old.end new.end (script_of old.script) mid t stands asked

  -- after each line the end stands for a history that continues the one before
  pub goes-on : (l : Line) (o : Outcome) → Brings l h old new o → GoesOn h new.end
  goes-on (line.Plain step) o (t, becomes, is) =
      by-fate (fate (deeds h) (script_of old.script) step) h step old.end new.end (script_of old.script) (script_of new.script) t stands becomes
  goes-on (line.Answer text) o (inl (row, is, room, sent, same, script)) = stays h old.end new.end stands same
  goes-on (line.Answer text) o (inr (why, none)) = no-effect o none
  goes-on (line.Hold text) o (inl (row, is, room, sent, same, script)) = stays h old.end new.end stands same
  goes-on (line.Hold text) o (inr (why, none)) = no-effect o none
  goes-on (line.Unanswer method) o (inl (some, sent, same, script)) = stays h old.end new.end stands same
  goes-on (line.Unanswer method) o (inr (why, none)) = no-effect o none
  goes-on (line.Emit text) o (inl (event, is, sent, same)) = unchanged same
  goes-on (line.Emit text) o (inr (why, none)) = no-effect o none
  goes-on (line.Send c text) o p = on-open c o _ p (λ (is, same). unchanged same)
  goes-on (line.Bytes c digits) o p = on-open c o _ p (λ q. unseen o _ _ _ q)
  goes-on (line.Raw c digits) o p = on-open c o _ p (λ q. unseen o _ _ _ q)
  goes-on (line.Stall c) o p = on-open c o _ p (λ (is, same). unchanged same)
  goes-on (line.Resume c) o p = on-open c o _ p (λ (is, same). unchanged same)
  goes-on (line.Cut c) o p = on-open c o _ p (λ (is, drops). dropped c drops)
  goes-on (line.CutAfter c bytes) o p = on-open c o _ p (λ (is, same). unchanged same)
  goes-on (line.Close c code) o p = on-open c o _ p (λ q. closes c o _ _ _ q)
  goes-on (line.Refuse n code) o p = unseen o _ _ _ p
  goes-on (line.Release n) o (inl r) = released n o r r.held.is_lost (script_of old.script).known refl refl
  goes-on (line.Release n) o (inr (none, reason, is, same)) = (h, inl refl, same.1 h stands)
  goes-on (line.ReleaseWith n row) o (inl r) = stays h old.end new.end stands r.end
  goes-on (line.ReleaseWith n row) o (inr (why, none)) = no-effect o none
  goes-on (line.On method events) o (inl (ts, are, room, sent, same, script)) = stays h old.end new.end stands same
  goes-on (line.On method events) o (inr (why, none)) = no-effect o none
  goes-on (line.Names names) o (inl (can, sent, same, script)) = stays h old.end new.end stands same
  goes-on (line.Names names) o (inr (why, none)) = no-effect o none

-- ---- how many inputs there are

-- the remote end accepts no more than it can
pub few : {lines : List Line} {h : List Input} {script : Script} {text : List ℕ} → Performs lines h script text → length h ≤ most_steps
few nothing = omega arith
few (one_more lines before after old new text l o p stands brings (inl same) ends) = subst (λ (k : List Input). length k ≤ most_steps) (sym same) (few p)
few (one_more lines before after old new text l o p stands brings (inr (i, same, short)) ends) =
    let less : length before < most_steps = short in
    subst (λ (k : List Input). length k ≤ most_steps) (sym same) (let long : length (i ∷ before) ≡ suc (length before) = refl in omega (arith, less, long))
