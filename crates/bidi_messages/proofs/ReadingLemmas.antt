-- The text of a valid value is read as that value.
use Rattle.std.proofs.Common.{◌≡◌, ◌∙◌, ℕ, List, Some, None, Result, Ok, Err, IfOk, IfErr, sym, ap, subst}
use Rattle.bidi_tree.specs.Node.{Node}
use Rattle.bidi_tree.specs.Text.{tree_of_text, compact_text}
use Rattle.bidi_shape.specs.Name.{message}
use Rattle.bidi_shape.specs.Term.{rule}
use Rattle.bidi_shape.specs.Fits.{Fits}
use Rattle.bidi_shape.specs.Value.{ShapeOf}
use Rattle.bidi_shape.specs.Table.{same_some}
use Rattle.bidi_messages.specs.Reading.{IsMessageText, IsMisfit, IsReadAs, ReadsAs}
use Rattle.bidi_messages.specs.declared.message.Message.{Message}
use Rattle.bidi_messages.specs.declared.text.MessageFault.{MessageFault}
use Rattle.bidi_messages.specs.declared.text.MessageFault.TheVariants.{NotJson, NoFit, NoMemory}

pub reads_as : (shape : ShapeOf Message) (s : List ℕ) (t : Node) (r : Result Message MessageFault) → shape.rule ≡ rule message → tree_of_text None s ≡ Some t
    → IfOk r (λ v. (shape.tree_of v ≡ t) × shape.well v) → IfErr r (λ e. IsMisfit e t) → (m : Message) → ReadsAs shape s m r
reads_as shape s t (Ok v) of reads ok err m = λ well is. shape.one_value v m ok.1 well (ok.0 ∙ same_some (sym reads ∙ is))
reads_as shape s t (Err NoMemory) of reads ok err m = tt
reads_as shape s t (Err NotJson) of reads ok err m = λ well is. err
reads_as shape s t (Err NoFit) of reads ok err m =
    λ well is. err (subst (λ u. Fits u (rule message)) (same_some (sym is ∙ reads)) (subst (Fits (shape.tree_of m)) of (shape.fits m well)))

-- a text that a remote end sends is read as a valid message whose text it is
pub is_read_as : (shape : ShapeOf Message) (s : List ℕ) (t : Node) (r : Result Message MessageFault) → tree_of_text None s ≡ Some t
    → IfOk r (λ v. (shape.tree_of v ≡ t) × shape.well v) → IfErr r (λ e. IsMisfit e t) → IsMessageText shape s → IsReadAs shape s r
is_read_as shape s t (Ok v) reads ok err is =
    let same : is.0 ≡ shape.tree_of v = same_some (sym is.3 ∙ reads) ∙ sym ok.0 in
    (ok.1, is.2 ∙ ap compact_text same)
is_read_as shape s t (Err NoMemory) reads ok err is = tt
is_read_as shape s t (Err NotJson) reads ok err is = err
is_read_as shape s t (Err NoFit) reads ok err is = err (subst (λ u. Fits u (rule message)) (same_some (sym is.3 ∙ reads)) is.1)
