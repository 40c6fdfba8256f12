use Rattle.std.proofs.Common.{◌≡◌, ◌∙◌, None, option_map, rules, sym, ap}
use Rattle.bidi_handles.specs.declared.handle.Handle.{Handle}
use Rattle.bidi_handles.proofs.NumberedLemmas.{named-by}
use Rattle.bidi_handles.proofs.handles.handle_of_id.Goals as goal

pub returns-in_err-id_number : goal.returns-in_err-id_number
returns-in_err-id_number c = λ ascend.
    let none : c.from_residual.result ≡ None = search rules in
    ap (option_map (λ h. h.now)) none
    ∙ sym (named-by (λ (h : Handle). h.number) _ None (λ h. h.number_fits) c.in_err-id_number.ensures.some c.in_err-id_number.ensures.every
    c.args.handles.now)

pub returns : goal.returns
returns c = λ ascend.
    c.handle_at.ensures ascend
    ∙ sym (named-by (λ (h : Handle). h.number) _ _ (λ h. h.number_fits) c.in_ok-id_number.ensures.some c.in_ok-id_number.ensures.every
    c.args.handles.now)
