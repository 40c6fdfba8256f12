use Rattle.std.proofs.Common.{◌∙◌, ◌++◌, ◌∷◌, [], ◌+◌, sym, ap, map, drop, string_bytes, arith}
use Rattle.std.specs.Prelude.{bytes_eq, find}
use Rattle.bidi_params.specs.declared.error_code.ErrorCode.TheVariants.{NoSuchFrame}
use Rattle.bidi_handles.specs.declared.id.IdKind.TheVariants.{Context}
use Rattle.bidi_handles.specs.Ids.{id_of}
use Rattle.bidi_contexts.specs.Contexts.{contexts, top_of}
use Rattle.bidi_contexts.specs.Outcome.{context_named}
use Rattle.bidi_sessions.specs.Checked.{behind}
use Rattle.bidi_remote.specs.Machine.Outcome.{tops_named}
use Rattle.bidi_sessions.proofs.ListLemmas.{from-item}
use Rattle.bidi_sessions.proofs.CheckLemmas.{joined-ok, joined-err, found-some, found-none}
use Rattle.bidi_remote.proofs.session.subscribe.tops_named.Goals as goal

pub loop-id-preserved : goal.loop-id-preserved
loop-id-preserved c = λ past stands.
    let ids = c.args.ids.now in
    let i = c.loop-id.id-index in
    let x = c.id-item.result in
    let held = c.loop-id.tops.items in
    let is = from-item ids i x (omega arith) c.id-item.is in
    let live = found-some (top_of past) (find (λ n. bytes_eq c.deref.result.now (id_of Context n)) (contexts past)) c.in-Some.top NoSuchFrame
    (sym (c.top_of.ensures past stands) ∙ c.in-Some.is) in
    c.loop-id.invariant past stands
    ∙ (ap (λ left. behind held (tops_named past (map string_bytes left))) is
    ∙ (joined-ok (λ n. top_of past n ∷ []) held _ (tops_named past (map string_bytes (drop (i + 1) ids))) live.0
    (ap (context_named past) (sym c.deref.ensures) ∙ live.1.0)
    ∙ (ap (λ top. behind (held ++ top ∷ []) (tops_named past (map string_bytes (drop (i + 1) ids)))) live.1.1
    ∙ ap (λ more. behind more (tops_named past (map string_bytes (drop (i + 1) ids)))) (sym c.in_ok-push-in-Some.ensures.items))))

pub returns-in-None : goal.returns-in-None
returns-in-None c = λ past stands.
    let ids = c.args.ids.now in
    let i = c.loop-id.id-index in
    let x = c.id-item.result in
    let held = c.loop-id.tops.items in
    let is = from-item ids i x (omega arith) c.id-item.is in
    let gone = found-none (top_of past) (find (λ n. bytes_eq c.deref.result.now (id_of Context n)) (contexts past)) NoSuchFrame
    (sym (c.top_of.ensures past stands) ∙ c.in-None.is) in
    c.loop-id.invariant past stands
    ∙ (ap (λ left. behind held (tops_named past (map string_bytes left))) is
    ∙ joined-err (λ n. top_of past n ∷ []) held _ (tops_named past (map string_bytes (drop (i + 1) ids))) NoSuchFrame
    (ap (context_named past) (sym c.deref.ensures) ∙ gone))
