use Rattle.std.proofs.Common.{◌∙◌, ◌+◌, sym, ap, map, drop, string_bytes, arith}
use Rattle.bidi_sessions.specs.Checked.{behind}
use Rattle.bidi_sessions.specs.EventNames.{events_named, all_named}
use Rattle.bidi_sessions.proofs.ListLemmas.{from-item}
use Rattle.bidi_sessions.proofs.CheckLemmas.{added-ok, added-err, carried}
use Rattle.bidi_sessions.proofs.event_names.all_named.Goals as goal

pub loop-name-preserved : goal.loop-name-preserved
loop-name-preserved c =
    let names = c.args.names.now in
    let i = c.loop-name.name-index in
    let held = c.loop-name.events.items in
    let is = from-item names i c.name-item.result (omega arith) c.name-item.is in
    c.loop-name.invariant
    ∙ (ap (λ left. behind held (all_named (map string_bytes left))) is
    ∙ added-ok held _ (events_named (string_bytes c.name-item.result)) (all_named (map string_bytes (drop (i + 1) names)))
    (ap (λ t. behind held (events_named t)) (sym c.deref.ensures) ∙ c.in_ok-push_named.ensures))

pub returns-in_err-push_named : goal.returns-in_err-push_named
returns-in_err-push_named c =
    let names = c.args.names.now in
    let i = c.loop-name.name-index in
    let held = c.loop-name.events.items in
    let is = from-item names i c.name-item.result (omega arith) c.name-item.is in
    carried c.push_named.result c.from_residual.result c.in_err-push_named.field-0.0 _ _ _ _ c.push_named.ensures
    c.in_err-push_named.was c.from_residual.ensures.1
    (λ code failed. c.loop-name.invariant
    ∙ (ap (λ left. behind held (all_named (map string_bytes left))) is
    ∙ added-err held (events_named (string_bytes c.name-item.result)) (all_named (map string_bytes (drop (i + 1) names))) code
    (ap (λ t. behind held (events_named t)) (sym c.deref.ensures) ∙ failed)))
