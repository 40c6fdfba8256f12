use Rattle.std.proofs.Common.{ℕ, ◌∙◌, ◌++◌, ◌+◌, [], ◌∷◌, map, drop, refl, sym, ap, append-nil}
use Rattle.std.proofs.lemmas.List.{map-append, drop_all}
use Rattle.bidi_sessions.specs.Attachment.{is_for}
use Rattle.bidi_sessions.specs.ConnectionRows.{row_of, to_each}
use Rattle.std.specs.Prelude.{string_bytes}
use Rattle.bidi_sessions.specs.View.{sent_of}
use Rattle.bidi_sessions.specs.Sent.{Text}
use Rattle.bidi_sessions.proofs.BeginLemmas.{to_each-next, to_each-other}
use Rattle.bidi_sessions.proofs.connections.push_text.Goals.{then-is_for+in_ok-clone+in_ok-push, else-is_for}
use Rattle.bidi_sessions.proofs.connections.push_text.Goals as goal

pub loop-connection-init : goal.loop-connection-init
loop-connection-init c = refl

pub loop-connection-preserved : goal.loop-connection-preserved
loop-connection-preserved c =
    let s = c.args.session in
    let what = λ (n : ℕ). Text n (string_bytes c.args.text.now.value) in
    let i = c.loop-connection.connection-index in
    let items = c.args.connections.now in
    let x = c.connection-item.result in
    let held = c.loop-connection.sent.items in
    let rest = to_each what s (map row_of (drop (i + 1) items)) in
    let speaks = ap (λ z. is_for s (row_of z).1) (sym c.connection-item.is) ∙ sym c.is_for.ensures in
    elim c.if-is_for.branch [
      | then-is_for+in_ok-clone+in_ok-push w ↦
          ap (λ sent. map sent_of sent.items ++ rest) w.sent-is
          ∙ (ap (λ sent. map sent_of sent ++ rest) w.in_ok-push.ensures.items
          ∙ (ap (λ sent. sent ++ rest) (map-append sent_of held _)
          ∙ (ap (λ bytes. (map sent_of held ++ Text x.number.value bytes ∷ []) ++ rest) (ap string_bytes w.in_ok-clone.ensures.cases)
          ∙ (ap (λ z. (map sent_of held ++ what z.number.value ∷ []) ++ rest) c.connection-item.is
          ∙ (to_each-next what s items i x (map sent_of held) c.loop-connection-test.true (speaks ∙ w.if-is_for.true) ∙ c.loop-connection.invariant)))))
      | else-is_for w ↦
          ap (λ sent. map sent_of sent.items ++ rest) w.sent-is
          ∙ (to_each-other what s items i x (map sent_of held) c.loop-connection-test.true (speaks ∙ w.if-is_for.false) ∙ c.loop-connection.invariant)
    ]

pub returns : goal.returns
returns c =
    sym (append-nil (map sent_of c.loop-connection.sent.items))
    ∙ (ap (λ xs. map sent_of c.loop-connection.sent.items ++ to_each (λ n. Text n (string_bytes c.args.text.now.value)) c.args.session (map row_of xs))
    (sym (drop_all c.loop-connection.connection-index c.args.connections.now c.loop-connection-test.false))
    ∙ c.loop-connection.invariant)
