use Rattle.std.proofs.Common.{◌≡◌, ◌∙◌, [], ◌∷◌, List, Some, None, IfOk, subst}
use Rattle.std.specs.Prelude.{IfErr}
use Rattle.bidi_sessions.specs.Step as steps
use Rattle.bidi_remote.specs.Machine.History.{Input, IsHeardAs}
use Rattle.bidi_remote.specs.Machine.Sent.{Lost, out}
use Rattle.bidi_remote.specs.State.Stands.{StandsFor, IsShort}
use Rattle.bidi_scripted.specs.Faults.{RefusesRelease}
use Rattle.bidi_scripted.specs.Taken.{IsOfMachine, IsOfTest}
use Rattle.bidi_scripted.specs.Kept.{NamesAsked}
use Rattle.bidi_scripted.specs.Script.{Script, Held, without_held}
use Rattle.bidi_scripted.specs.View.{script_of, held_of}
use Rattle.bidi_sessions.proofs.ListLemmas.{some-same}
use Rattle.bidi_scripted.proofs.FateLemmas.{if-ok-on, on-ok}
use Rattle.bidi_scripted.proofs.OnlyLemmas.{only-same}
use Rattle.bidi_scripted.proofs.scripted_end.ScriptedEnd.release.Goals as goal

some_none : {X : Type 0} {x : X} → Some x ≡ None → ⊥
some_none e = cc

pub returns-then-held-clause-not_held : goal.returns-then-held-clause-not_held
returns-then-held-clause-not_held c = λ none. absurd (some_none (c.in-Some.ensures ∙ none))

pub returns-then-held-clause-lost : goal.returns-then-held-clause-lost
returns-then-held-clause-lost c = λ held is lost.
    let same : held_of c.in-Some.held.now ≡ held = some-same _ _ (c.in-Some.ensures ∙ is) in
    if-ok-on c.release_lost.result (λ t p gone. (subst (λ (h : Held). IsOfTest (Lost h.conn ∷ []) t) same p, c.release_lost.ensures.end, gone))
    c.release_lost.ensures.lost c.release_lost.ensures.released

pub returns-then-held-clause-released : goal.returns-then-held-clause-released
returns-then-held-clause-released c = on-ok c.release_lost.result (only-same (without_held c.args.number (script_of c.args.self.now.script)) _) c.release_lost.ensures.released

pub returns-then-held-clause-why : goal.returns-then-held-clause-why
returns-then-held-clause-why c = c.release_lost.ensures.why _

pub returns-in-Ok-clause-why : goal.returns-in-Ok-clause-why
returns-in-Ok-clause-why c =
    subst (λ o. IfErr c.release_text.result (RefusesRelease o)) c.in-Some.ensures (c.release_text.ensures.why (held_of c.in-Some.held.now) c.if-held.false)

pub returns-in-Ok-clause-handed_on : goal.returns-in-Ok-clause-handed_on
returns-in-Ok-clause-handed_on c = λ held is lost none.
    let self = c.args.self.now in
    let script = script_of self.script in
    let new = c.release_text.new.self in
    let found = c.in-Some.held.now in
    let same : held_of found ≡ held = some-same _ _ (c.in-Some.ensures ∙ is) in
    subst (λ (x : Held). IfOk c.release_text.result (λ t. (i : Input) × IsHeardAs (steps.Text x.conn x.text) i
    × ((h : List Input) → StandsFor self.end h → IsOfMachine (out h i) t × StandsFor new.end (i ∷ h) × IsShort h)
    × (script_of new.script ≡ without_held c.args.number script))) same
    (subst (λ text. IfOk c.release_text.result (λ t. (i : Input) × IsHeardAs (steps.Text found.conn.value text) i
    × ((h : List Input) → StandsFor self.end h → IsOfMachine (out h i) t × StandsFor new.end (i ∷ h) × IsShort h)
    × (script_of new.script ≡ without_held c.args.number script)))
    (c.in-Ok.ensures.ok ∙ c.as_str.ensures.value) (c.release_text.ensures.handed_on none))

pub returns-in-Ok-clause-named : goal.returns-in-Ok-clause-named
returns-in-Ok-clause-named c = λ h held s is lost some.
    let self = c.args.self.now in
    let script = script_of self.script in
    let new = c.release_text.new.self in
    let found = c.in-Some.held.now in
    let same : held_of found ≡ held = some-same _ _ (c.in-Some.ensures ∙ is) in
    subst (λ (x : Held). IfOk c.release_text.result (λ t. (mid : Script) × NamesAsked x.conn x.text h self.end script new.end mid t
    × (script_of new.script ≡ without_held c.args.number mid))) same
    (subst (λ text. IfOk c.release_text.result (λ t. (mid : Script) × NamesAsked found.conn.value text h self.end script new.end mid t
    × (script_of new.script ≡ without_held c.args.number mid)))
    (c.in-Ok.ensures.ok ∙ c.as_str.ensures.value) (c.release_text.ensures.named h s some))
