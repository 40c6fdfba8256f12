-- A play of the same bytes writes the same text, because a text has one verdict.
use Rattle.std.proofs.Common.{◌≡◌, ℕ, Option, List, [], ◌∷◌, refl, sym, ◌∙◌, ap, subst}
use Rattle.bidi_tree.specs.Node.{Node}
use Rattle.bidi_shape.specs.Name.{table_row}
use Rattle.bidi_shape.specs.Term.{rule}
use Rattle.bidi_shape.specs.Fits.{Fits}
use Rattle.bidi_shape.specs.Table.{same_some}
use Rattle.bidi_contexts.specs.Actions.{Action, TableRow}
use Rattle.bidi_messages.specs.Verdict.{Verdict, IsVerdict}
use Rattle.bidi_messages.proofs.VerdictLemmas.{one_verdict}
use Rattle.bidi_sessions.specs.Step as step
use Rattle.bidi_sessions.specs.Step.{Step}
use Rattle.bidi_remote.specs.Machine.History.{Input, Heard, OfPage, IsRow, is_row, is_not_json, is_no_row, IsTakenAs, IsHeardAs, AreHeardAs}
use Rattle.bidi_remote.specs.Machine.Sent.{answers}
use Rattle.bidi_play.specs.Lines.{written}
use Rattle.bidi_play.specs.Plays.{Plays}
use Rattle.bidi_play.proofs.ReadingLemmas.{all_steps}

-- a text has one verdict
abbrev pub OneVerdict : Type 0
OneVerdict = (text : List ℕ) (v w : Verdict) → IsVerdict text v → IsVerdict text w → v ≡ w

-- and is one row of the table, or none
one_row : {s : List ℕ} {r q : Option Node} → IsRow s r → IsRow s q → r ≡ q
one_row (is_row t e f) (is_row u h g) = sym e ∙ h
one_row (is_row t e f) (is_not_json h) = sym e ∙ h
one_row (is_row t e f) (is_no_row u h misfit) = absurd (misfit (subst (λ x. Fits x (rule table_row)) (same_some (sym e ∙ h)) f))
one_row (is_not_json h) (is_row t e f) = sym h ∙ e
one_row (is_not_json h) (is_not_json e) = refl
one_row (is_not_json h) (is_no_row t e misfit) = refl
one_row (is_no_row t h misfit) (is_row u e f) = absurd (misfit (subst (λ x. Fits x (rule table_row)) (same_some (sym e ∙ h)) f))
one_row (is_no_row t h misfit) (is_not_json e) = refl
one_row (is_no_row t h misfit) (is_no_row u e also) = refl

-- so a step of a page is taken as one action
one_action : (page : step.PageStep) (a b : Action) → IsTakenAs page a → IsTakenAs page b → a ≡ b
one_action (step.Frame context url) a b is also = is ∙ sym also
one_action (step.Unframe context) a b is also = is ∙ sym also
one_action (step.Log context level text) a b is also = is ∙ sym also
one_action (step.TableRow text) a b is also = is.2 ∙ (ap TableRow (one_row is.1 also.1) ∙ sym also.2)

-- and a step is heard as one input
pub one_input : OneVerdict → (s : Step) (i j : Input) → IsHeardAs s i → IsHeardAs s j → i ≡ j
one_input one (step.At n) i j a b = a ∙ sym b
one_input one (step.Open c resource) i j a b = a ∙ sym b
one_input one (step.Drop c) i j a b = a ∙ sym b
one_input one (step.Text c text) i j a b = a.2 ∙ (ap (λ v. Heard c v) (one text a.0 b.0 a.1 b.1) ∙ sym b.2)
one_input one (step.NotText c) i j a b = a ∙ sym b
one_input one (step.Page page) i j a b = a.2 ∙ (ap OfPage (one_action page a.0 b.0 a.1 b.1) ∙ sym b.2)

-- and some steps as one list of inputs
one_inputs : OneVerdict → (steps : List Step) (inputs others : List Input) → AreHeardAs steps inputs → AreHeardAs steps others → inputs ≡ others
one_inputs one [] [] [] a b = refl
one_inputs one [] [] (j ∷ others) a b = absurd b
one_inputs one [] (i ∷ inputs) others a b = absurd a
one_inputs one (s ∷ ss) [] others a b = absurd a
one_inputs one (s ∷ ss) (i ∷ inputs) [] a b = absurd b
one_inputs one (s ∷ ss) (i ∷ inputs) (j ∷ others) a b =
    ap (λ k. k ∷ inputs) (one_input one s i j a.0 b.0) ∙ ap (λ k. j ∷ k) (one_inputs one ss inputs others a.1 b.1)

-- the play of some bytes writes one text
pub one_text : OneVerdict → (bytes text other : List ℕ) → Plays bytes text → Plays bytes other → text ≡ other
one_text one bytes text other (steps, rest, p, none) (others, end, q, end_none) =
    let same = all_steps steps others rest end p.each q.each (sym p.lines ∙ q.lines) none end_none in
    let heard = subst (λ (ss : List Step). AreHeardAs ss q.inputs) (sym same) q.heard in
    p.answer ∙ (ap (λ (is : List Input). written (answers is)) (one_inputs one steps p.inputs q.inputs p.heard heard) ∙ sym q.answer)

-- the text of a play is one
pub the_text : (bytes text other : List ℕ) → Plays bytes text → Plays bytes other → text ≡ other
the_text = one_text (λ s v w a b. one_verdict a b)
