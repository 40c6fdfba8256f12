use Rattle.std.proofs.Common.{◌∙◌, map, rules, ap}
use Rattle.std.specs.Prelude.{◌==◌, string_bytes}
use Rattle.std.specs.List.{list_any}
use Rattle.std.proofs.lemmas.Fn.{filter_same}
use Rattle.bidi_handles.specs.Ids.{has_id}
use Rattle.bidi_handles.proofs.NumberLemmas.{numbers-picked}
use Rattle.bidi_handles.proofs.handles.Handles.numbers_of.Goals as goal

pub returns : goal.returns
returns c =
    let held = c.args.self.now.items.items in
    let ids = c.args.ids.now.items in
    filter_same _ (λ n. list_any (λ h. h.number == n) held) _ (λ x b f' k. search rules) _ _ c.retain.ensures.filtered
    ∙ numbers-picked (has_id (map string_bytes ids)) c.in_ok-numbers.numbers.items held c.in_ok-numbers.ensures.order c.args.self.now.ascend
    (λ n fits. c.in_ok-numbers.ensures.ids n fits ∙ ap (λ ss. has_id (map string_bytes ss) n) c.deref.ensures.value)
