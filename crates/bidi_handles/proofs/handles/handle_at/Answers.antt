use Rattle.std.proofs.Common.{◌∙◌, Some, rules, sym, ap}
use Rattle.std.proofs.lemmas.List.Sorted.{answers_always}
use Rattle.bidi_handles.proofs.SearchLemmas.{found, not-found}
use Rattle.bidi_handles.proofs.handles.handle_at.Goals as goal

pub returns-in-Ok : goal.returns-in-Ok
returns-in-Ok c = λ ascend.
    let result = c.in-Ok.ensures.position (λ h. h.number) (answers_always _ _ _ (λ f a r g called. search rules)) in
    ap Some c.index-handles-place.is
    ∙ sym (found (λ h. h.number) c.args.handles.now ascend c.args.number c.in-Ok.place c.index-handles-place.result c.in-Ok.ensures.bound result)

pub returns-in-Err : goal.returns-in-Err
returns-in-Err c = λ ascend.
    let result = c.in-Err.ensures.position (λ h. h.number) (answers_always _ _ _ (λ f a r g called. search rules)) in
    sym (not-found (λ h. h.number) c.args.handles.now ascend c.args.number c.in-Err.field-0 c.in-Err.ensures.bound result)
