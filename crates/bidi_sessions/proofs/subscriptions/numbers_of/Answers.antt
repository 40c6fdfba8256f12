use Rattle.std.proofs.Common.{◌∙◌, ◌∷◌, [], ◌+◌, sym, ap, map, drop, string_bytes, arith}
use Rattle.std.specs.Prelude.{bytes_eq}
use Rattle.bidi_params.specs.declared.error_code.ErrorCode.TheVariants.{InvalidArgument}
use Rattle.bidi_handles.specs.declared.id.IdKind.TheVariants.{Subscription}
use Rattle.bidi_handles.specs.Ids.{id_text}
use Rattle.bidi_handles.specs.Checks.{found}
use Rattle.bidi_sessions.specs.Checked.{behind}
use Rattle.bidi_sessions.specs.SubscriptionView.{row_of}
use Rattle.bidi_sessions.specs.SubscriptionRows.{number_named, numbers_named}
use Rattle.bidi_sessions.proofs.ListLemmas.{find-map, from-item}
use Rattle.bidi_sessions.proofs.CheckLemmas.{joined-ok, joined-err}
use Rattle.bidi_sessions.proofs.subscriptions.numbers_of.Goals as goal

pub loop-id-preserved : goal.loop-id-preserved
loop-id-preserved c =
    let s = c.args.session in
    let rows = map row_of c.args.subscriptions.now in
    let ids = c.args.ids.now in
    let i = c.loop-id.id-index in
    let x = c.id-item.result in
    let held = c.loop-id.numbers.items in
    let is = from-item ids i x (omega arith) c.id-item.is in
    let named = ap (λ t. number_named s rows t) (sym c.deref.ensures)
    ∙ (find-map row_of (λ r. r.number) (λ r. bytes_eq c.deref.result.now (id_text Subscription s r.number)) c.args.subscriptions.now
    ∙ (sym c.number_of.ensures ∙ c.in-Some.is)) in
    c.loop-id.invariant
    ∙ (ap (λ left. behind held (numbers_named s rows (map string_bytes left))) is
    ∙ (joined-ok (λ n. n ∷ []) held _ (numbers_named s rows (map string_bytes (drop (i + 1) ids))) _ (ap (λ o. found o InvalidArgument) named)
    ∙ ap (λ more. behind more (numbers_named s rows (map string_bytes (drop (i + 1) ids)))) (sym c.in_ok-push-in-Some.ensures.items)))

pub returns-in-None : goal.returns-in-None
returns-in-None c =
    let s = c.args.session in
    let rows = map row_of c.args.subscriptions.now in
    let ids = c.args.ids.now in
    let i = c.loop-id.id-index in
    let x = c.id-item.result in
    let held = c.loop-id.numbers.items in
    let is = from-item ids i x (omega arith) c.id-item.is in
    let named = ap (λ t. number_named s rows t) (sym c.deref.ensures)
    ∙ (find-map row_of (λ r. r.number) (λ r. bytes_eq c.deref.result.now (id_text Subscription s r.number)) c.args.subscriptions.now
    ∙ (sym c.number_of.ensures ∙ c.in-None.is)) in
    c.loop-id.invariant
    ∙ (ap (λ left. behind held (numbers_named s rows (map string_bytes left))) is
    ∙ joined-err (λ n. n ∷ []) held _ (numbers_named s rows (map string_bytes (drop (i + 1) ids))) InvalidArgument (ap (λ o. found o InvalidArgument) named))
