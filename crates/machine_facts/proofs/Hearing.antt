-- What is heard in a step, computed; where the test of the rule knows an answer, it is what the step is heard as.
use Rattle.std.proofs.Common.{◌≡◌, ℕ, List, Option, Some, None, refl}
use Rattle.std.specs.Prelude.{◌≢◌, ⊤}
use Rattle.bidi_tree.specs.Node.{Node}
use Rattle.bidi_shape.specs.Name.{command, table_row}
use Rattle.bidi_shape.specs.Term.{rule}
use Rattle.bidi_shape.specs.Fits.{Fits}
use Rattle.bidi_shape.proofs.FitsTest.{Answer, fit, misfit, not_known, IsRight, holds, fails, test, right-test}
use Rattle.bidi_params.specs.declared.error_code.ErrorCode.TheVariants.{InvalidArgument, UnableToCaptureScreen}
use Rattle.bidi_messages.specs.Verdict.{command_tree, echoed_id}
use Rattle.bidi_contexts.specs.Actions.{Action, Frame, Unframe, Log, TableRow}
use Rattle.bidi_messages.specs.Verdict.{Verdict, Accepted, Refused, refusal_code, IsVerdict, is_command, is_not_json, is_no_command}
use Rattle.bidi_sessions.specs.Step as step
use Rattle.bidi_remote.specs.Machine.History.{Input, At, Open, Drop, Heard, NotText, OfPage, row_tree, IsRow, is_row, is_no_row, IsTakenAs, IsHeardAs}
use Rattle.bidi_remote.specs.Machine.History as history

-- ---- computed

-- the verdict of a tree, by the answer of the test; with no answer it has a code that no text gets
abbrev pub verdict_by : Answer → Node → Verdict
verdict_by fit t = Accepted t
verdict_by misfit t = Refused (echoed_id t) (refusal_code t)
verdict_by not_known t = Refused None UnableToCaptureScreen

-- the test of a command
abbrev pub command_test : Node → Answer
command_test t = test 1000 t (rule command)

abbrev pub verdict_in : Option Node → Verdict
verdict_in None = Refused None InvalidArgument
verdict_in (Some t) = verdict_by (command_test t) t

-- the row of a tree, by the answer of the test
abbrev pub row_by : Answer → Node → Option Node
row_by fit t = Some t
row_by misfit t = None
row_by not_known t = None

-- the test of a row
abbrev pub row_test : Node → Answer
row_test t = test 1000 t (rule table_row)

abbrev pub row_in : Option Node → Option Node
row_in None = None
row_in (Some t) = row_by (row_test t) t

-- what a step of a page is taken as
abbrev pub taken : step.PageStep → Action
taken (step.Frame id url) = Frame id url
taken (step.Unframe id) = Unframe id
taken (step.Log id level text) = Log id level text
taken (step.TableRow text) = TableRow (row_in (row_tree text))

-- what is heard in a step
abbrev pub heard : step.Step → Input
heard (step.At n) = At n
heard (step.Open c resource) = Open c resource
heard (step.Drop c) = Drop c
heard (step.Text c text) = Heard c (verdict_in (command_tree text))
heard (step.NotText c) = NotText c
heard (step.Page page) = OfPage (taken page)

-- ---- it is right

-- there is no tree, or the test of its tree has an answer
abbrev pub IsKnown : (Node → Answer) → Option Node → Type 0
IsKnown test None = ⊤
IsKnown test (Some t) = test t ≢ not_known

verdict-by : (s : List ℕ) (t : Node) (a : Answer) → command_tree s ≡ Some t → IsRight (Fits t (rule command)) a → a ≢ not_known → IsVerdict s (verdict_by a t)
verdict-by s t fit e (holds p) known = is_command t e p
verdict-by s t misfit e (fails n) known = is_no_command t e n
verdict-by s t not_known e r known = absurd (known refl)

verdict-in : (s : List ℕ) (o : Option Node) → command_tree s ≡ o → IsKnown command_test o → IsVerdict s (verdict_in o)
verdict-in s None e known = is_not_json e
verdict-in s (Some t) e known = verdict-by s t (command_test t) e (right-test 1000 t (rule command)) known

row-by : (s : List ℕ) (t : Node) (a : Answer) → row_tree s ≡ Some t → IsRight (Fits t (rule table_row)) a → a ≢ not_known → IsRow s (row_by a t)
row-by s t fit e (holds p) known = is_row t e p
row-by s t misfit e (fails n) known = is_no_row t e n
row-by s t not_known e r known = absurd (known refl)

row-in : (s : List ℕ) (o : Option Node) → row_tree s ≡ o → IsKnown row_test o → IsRow s (row_in o)
row-in s None e known = history.is_not_json e
row-in s (Some t) e known = row-by s t (row_test t) e (right-test 1000 t (rule table_row)) known

-- the texts of a step are known
abbrev pub IsKnownStep : step.Step → Type 0
IsKnownStep (step.Text c text) = IsKnown command_test (command_tree text)
IsKnownStep (step.Page (step.TableRow text)) = IsKnown row_test (row_tree text)
IsKnownStep x = ⊤

-- a step of a page is taken as what is computed
taken-right : (page : step.PageStep) → IsKnownStep (step.Page page) → IsTakenAs page (taken page)
taken-right (step.Frame id url) known = refl
taken-right (step.Unframe id) known = refl
taken-right (step.Log id level text) known = refl
taken-right (step.TableRow text) known = (row_in (row_tree text), row-in text (row_tree text) refl known, refl)

-- a step is heard as what is computed
pub heard-right : (x : step.Step) → IsKnownStep x → IsHeardAs x (heard x)
heard-right (step.At n) known = refl
heard-right (step.Open c resource) known = refl
heard-right (step.Drop c) known = refl
heard-right (step.Text c text) known = (verdict_in (command_tree text), verdict-in text (command_tree text) refl known, refl)
heard-right (step.NotText c) known = refl
heard-right (step.Page page) known = (taken page, taken-right page known, refl)
