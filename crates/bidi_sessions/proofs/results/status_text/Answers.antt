use Rattle.std.proofs.Common.{◌≡◌, ◌∙◌, Bool, true, false, codes, refl, sym, ap, subst}
use Rattle.std.specs.Prelude.{IfOk, if◌then◌else◌, string_bytes}
use Rattle.json.specs.Print.{escape_byte}
use Rattle.bidi_tree.specs.Node.{Node}
use Rattle.bidi_tree.specs.Text.{compact_text}
use Rattle.bidi_messages.specs.Message.{status_tree}
use Rattle.bidi_sessions.proofs.results.status_text.Goals as goal

abbrev told : Bool → Node
told ready = if ready then status_tree true (codes "ready") else status_tree false (codes "full")

ready-text : codes "{\"message\":\"ready\",\"ready\":true}" ≡ compact_text (told true)
unfolding escape_byte
ready-text = refl

full-text : codes "{\"message\":\"full\",\"ready\":false}" ≡ compact_text (told false)
unfolding escape_byte
full-text = refl

pub returns-then-is_ready : goal.returns-then-is_ready
returns-then-is_ready c =
    subst (λ t. IfOk c.from_str.result (λ s. string_bytes s ≡ t)) (ready-text ∙ ap (λ b. compact_text (told b)) (sym c.if-is_ready.true)) c.from_str.ensures.ok

pub returns-else-is_ready : goal.returns-else-is_ready
returns-else-is_ready c =
    subst (λ t. IfOk c.from_str-else-is_ready.result (λ s. string_bytes s ≡ t)) (full-text ∙ ap (λ b. compact_text (told b)) (sym c.if-is_ready.false))
    c.from_str-else-is_ready.ensures.ok
