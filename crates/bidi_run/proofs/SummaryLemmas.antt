-- The summary of a check with `--why`.
use Rattle.std.proofs.Common.{◌≡◌, ℕ, Bool, true, false, ◌&&◌, List, Option, Some, None, refl}
use Rattle.std.specs.Prelude.{if◌then◌else◌, is_some}
use Rattle.bidi_lines.specs.declared.side.Side.{Side}
use Rattle.bidi_remarks.specs.declared.texts.Form.{Form}
use Rattle.bidi_why.specs.Conversing.{CountsConversation}
use Rattle.bidi_why.specs.Summary.{Entry}
use Rattle.bidi_why.specs.Telling.{TellsCounted}

-- a check of one side that found something
pub of_side : (f : Form) (side : Side) (only found : Bool) (S : ℕ → List Entry → Type 0) (read wrote : List ℕ) → found ≡ true
    → TellsCounted f side only (λ n told. found ≡ true → S n told) read wrote → TellsCounted f side only S read wrote
of_side f side only found S read wrote is (lines, last, begins, one, (told, each, sums)) = (lines, last, begins, one, (told, each, sums is))

-- a check of both sides that found something and says why
pub of_both : (f : Option Form) (only found : Bool) (S : ℕ → List Entry → Type 0) (read wrote : List ℕ) → is_some f ≡ true → found ≡ true
    → CountsConversation f only (λ n told. is_some f ≡ true → found ≡ true → S n told) read wrote → CountsConversation f only S read wrote
of_both f only found S read wrote some is (text, s, (lines, last, begins, one, (told, tells, sums)), all) =
    (text, s, (lines, last, begins, one, (told, tells, sums some is)), all)

-- a check that says why has a form
pub has_form : (b : Bool) (f : Form) → (b && true) ≡ true → is_some (if b then Some f else None) ≡ true
has_form true f e = refl
has_form false f e = cc
