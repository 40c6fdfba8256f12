use Rattle.std.proofs.Common.{◌≡◌, ◌∙◌, ℕ, Some, true≢false, sym, ap}
use Rattle.std.specs.Prelude.{bytes_eq}
use Rattle.bidi_handles.specs.Ids.{id_bytes, id_text}
use Rattle.bidi_handles.proofs.IdLemmas.{parses-to}
use Rattle.bidi_handles.proofs.id.id_number.Goals as goal

pub returns-in-Err-clause-every : goal.returns-in-Err-clause-every
returns-in-Err-clause-every c = λ n fits same.
    let parses = parses-to c.try_parse.result c.args.id.now c.args.kind c.args.session n c.try_parse.ensures.ok c.try_parse.ensures.bytes same in
    let fails = c.in-Err.is in
    absurd (cc)

pub returns-then-is_id-clause-every : goal.returns-then-is_id-clause-every
returns-then-is_id-clause-every c = λ n fits same.
    let parses = parses-to c.try_parse.result c.args.id.now c.args.kind c.args.session n c.try_parse.ensures.ok c.try_parse.ensures.bytes same in
    let read = c.in-Ok.is in
    let bytes : c.in-Ok.uuid ≡ id_bytes c.args.kind c.args.session n = cc in
    ap Some (c.number_in-number.ensures.back c.args.kind c.args.session n fits bytes)

pub returns-else-is_id-clause-every : goal.returns-else-is_id-clause-every
returns-else-is_id-clause-every c = λ n fits same.
    let parses = parses-to c.try_parse.result c.args.id.now c.args.kind c.args.session n c.try_parse.ensures.ok c.try_parse.ensures.bytes same in
    let read = c.in-Ok.is in
    let bytes : c.in-Ok.uuid ≡ id_bytes c.args.kind c.args.session n = cc in
    let here = ap (λ (m : ℕ). bytes_eq c.args.id.now (id_text c.args.kind c.args.session m)) (c.number_in-number.ensures.back c.args.kind c.args.session n fits bytes) in
    absurd (true≢false (sym same ∙ (sym here ∙ (sym c.is_id.ensures ∙ c.if-is_id.false))))
