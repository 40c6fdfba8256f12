use Rattle.std.proofs.Common.{◌∙◌, ◌∷◌, [], ◌+◌, sym, ap, map, drop, string_bytes, arith}
use Rattle.bidi_params.specs.declared.error_code.ErrorCode.TheVariants.{NoSuchUserContext}
use Rattle.bidi_contexts.specs.Outcome.{user_checked}
use Rattle.bidi_handles.specs.Checks.{found}
use Rattle.bidi_sessions.specs.Checked.{behind}
use Rattle.bidi_remote.specs.Machine.Outcome.{users_named}
use Rattle.bidi_sessions.proofs.ListLemmas.{from-item}
use Rattle.bidi_sessions.proofs.CheckLemmas.{joined-ok, joined-err}
use Rattle.bidi_remote.proofs.session.subscribe.users_named.Goals as goal

pub loop-id-preserved : goal.loop-id-preserved
loop-id-preserved c = λ past stands.
    let ids = c.args.ids.now in
    let i = c.loop-id.id-index in
    let held = c.loop-id.users.items in
    let is = from-item ids i c.id-item.result (omega arith) c.id-item.is in
    let live = ap (λ o. found o NoSuchUserContext) (sym (c.user_named.ensures past stands) ∙ c.in-Some.is) in
    c.loop-id.invariant past stands
    ∙ (ap (λ left. behind held (users_named past (map string_bytes left))) is
    ∙ (joined-ok (λ n. n ∷ []) held _ (users_named past (map string_bytes (drop (i + 1) ids))) c.in-Some.user
    (ap (user_checked past) (sym c.deref.ensures) ∙ live)
    ∙ ap (λ more. behind more (users_named past (map string_bytes (drop (i + 1) ids)))) (sym c.in_ok-push-in-Some.ensures.items)))

pub returns-in-None : goal.returns-in-None
returns-in-None c = λ past stands.
    let ids = c.args.ids.now in
    let i = c.loop-id.id-index in
    let held = c.loop-id.users.items in
    let is = from-item ids i c.id-item.result (omega arith) c.id-item.is in
    let gone = ap (λ o. found o NoSuchUserContext) (sym (c.user_named.ensures past stands) ∙ c.in-None.is) in
    c.loop-id.invariant past stands
    ∙ (ap (λ left. behind held (users_named past (map string_bytes left))) is
    ∙ joined-err (λ n. n ∷ []) held _ (users_named past (map string_bytes (drop (i + 1) ids))) NoSuchUserContext
    (ap (user_checked past) (sym c.deref.ensures) ∙ gone))
