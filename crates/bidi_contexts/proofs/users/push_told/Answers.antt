use Rattle.std.proofs.Common.{◌∙◌, string_bytes}
use Rattle.bidi_contexts.specs.declared.users.User.{User}
use Rattle.bidi_contexts.proofs.UserTextLemmas.{told-next}
use Rattle.bidi_contexts.proofs.users.push_told.Goals as goal

pub loop-user-preserved : goal.loop-user-preserved
loop-user-preserved c =
    let held = c.loop-user in
    told-next (λ (u : User). u.number) c.args.users.now held.user-index c.user-item.result (string_bytes c.args.text.now) (string_bytes held.text) _ _ _ c.deref.result.now
    c.loop-user-test.true c.user-item.is held.invariant c.in_ok-push_str.ensures.bytes c.in_ok-push_str-2.ensures.bytes c.in_ok-push_str-3.ensures.bytes
    (c.deref.ensures ∙ c.in_ok-id.ensures)
