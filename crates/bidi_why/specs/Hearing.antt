-- The steps by which a line of a conversation is heard.
use Rattle.std.specs.Prelude.{◌≡◌, ℕ, List, Option, Some, None, option_map, true, false}
use Rattle.bidi_tree.specs.Node.{Node}
use Rattle.bidi_shape.specs.Name.{event}
use Rattle.bidi_shape.specs.Term.{rule}
use Rattle.bidi_shape.specs.Fits.{Fits}
use Rattle.bidi_methods.specs.declared.method.Method.{Method}
use Rattle.bidi_methods.specs.Method.{method_text}
use Rattle.bidi_messages.specs.Command.{id_in, method_in}
use Rattle.bidi_messages.specs.Verdict as verdict
use Rattle.bidi_messages.specs.Verdict.{echoed_id}
use Rattle.bidi_local.specs.Pending.{note_refusal}
use Rattle.bidi_local.specs.Received.{Meaning}
use Rattle.bidi_local.specs.Receiving.{IsMeaningOf}
use Rattle.bidi_local.specs.declared.local_end.NoteFault.TheVariants.{IdWaits, TooManyPending}
use Rattle.bidi_show.specs.MessageLines.{HasVerdict}
use Rattle.bidi_why.specs.Conversing.{IsTold, Standing, kind_in, of_id, was_refused, with_command, with_refused, without_refused}
use Rattle.bidi_remarks.specs.Remark.{Remark, id_waits, stray, too_many}
use Rattle.bidi_why.specs.declared.judging.Judged.{Judged}
use Rattle.bidi_why.specs.declared.judging.Judged.TheVariants.{Accepted, Refused}

-- the text has a verdict: a command of this id and method, or a refusal
abbrev pub IsJudged : List ℕ → Judged → Type 0
IsJudged text (Accepted id method) = (t : Node) × HasVerdict text (verdict.Accepted t) × (id_in t ≡ id.value) × (method_in t ≡ method_text method)
IsJudged text (Refused id code) = HasVerdict text (verdict.Refused (option_map (λ n. n.value) id) code)

-- what is told of an accepted command of this id and method in the line of this number, and what stands behind it
pub data Notes (n : ℕ) (s : Standing) (id : ℕ) (method : Method) : Option Remark → Standing → Type 0 where
  waits : note_refusal s.waiting id ≡ None → Notes n s id method None (with_command n id method s)
  is_twice : note_refusal s.waiting id ≡ Some IdWaits → Notes n s id method (Some (id_waits id method)) s
  is_one_too_many : note_refusal s.waiting id ≡ Some TooManyPending → Notes n s id method (Some (too_many id method)) (with_refused (of_id id) s)

-- the id and the `type` of a response or an error of this tree
pub data IsSender (t : Node) (id : Option ℕ) (kind : List ℕ) : Type 0 where
  of_answer : id ≡ echoed_id t → kind ≡ kind_in t → IsSender t id kind
  of_event : Fits t (rule event) → IsSender t id kind

-- what is told of a message of this tree, and what stands behind it
abbrev pub Takes : Standing → Node → Option Remark → Standing → Type 0
Takes s t o s' = (meaning : Meaning) × IsMeaningOf s.waiting t meaning × IsTold s t meaning o s'

-- what is told of a response or an error of this id and `type` that answers no command which waits, and what stands behind it
pub data IsStray (s : Standing) (id : Option ℕ) (kind : List ℕ) : Option Remark → Standing → Type 0 where
  to_refused : was_refused id s ≡ true → IsStray s id kind None (without_refused id s)
  to_none : was_refused id s ≡ false → IsStray s id kind (Some (stray id kind)) s
