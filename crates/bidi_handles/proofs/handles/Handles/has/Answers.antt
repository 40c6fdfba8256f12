use Rattle.std.proofs.Common.{◌∙◌, ap, subst, sym}
use Rattle.std.specs.Prelude.{◌==◌, find, List, map}
use Rattle.std.specs.List.{list_any}
use Rattle.std.specs.List.Sorted.{IsStrictlyIncreasing}
use Rattle.bidi_handles.specs.declared.handle.Handle.{Handle}
use Rattle.bidi_handles.proofs.NumberLemmas.{find-any}
use Rattle.bidi_handles.proofs.ResolveLemmas.{there-seen}
use Rattle.bidi_handles.proofs.handles.Handles.has.Goals as goal

pub returns : goal.returns
returns c =
    let n = c.args.number in
    let all = c.deref.ensures.value in
    let ascend = subst (λ (hs : List Handle). IsStrictlyIncreasing (map (λ h. h.number) hs)) (sym all) c.args.self.now.ascend in
    c.is_some.ensures
    ∙ (there-seen (λ h. h.now) c.handle_at.result (find (λ (h : Handle). h.number == n) c.deref.result.now) (c.handle_at.ensures ascend)
    ∙ (find-any (λ (h : Handle). h.number == n) c.deref.result.now ∙ ap (list_any (λ (h : Handle). h.number == n)) all))
