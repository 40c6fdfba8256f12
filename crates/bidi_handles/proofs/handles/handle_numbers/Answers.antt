use Rattle.std.proofs.Common.{◌≡◌, ◌∙◌, ◌<◌, ◌^◌, ℕ, List, ◌++◌, true, Some, IfSome, option_to_list, map, take_all, append-nil, sym, ap, subst, arith}
use Rattle.std.specs.Prelude.{◌==◌, Vec, bytes_eq, string_bytes}
use Rattle.std.specs.declared.alloc.Global.{Global}
use Rattle.std.specs.List.{list_any}
use Rattle.std.specs.List.Sorted.{IsStrictlyIncreasing}
use Rattle.std.proofs.Math.Dec.{eqb}
use Rattle.std.proofs.lemmas.List.Filters.{dedup_is}
use Rattle.std.proofs.lemmas.List.Sorted.{list_any-IsPermutation}
use Rattle.std.proofs.lemmas.Map.Keys.{IsStrictlyIncreasing-dedup}
use Rattle.bidi_handles.specs.declared.id.IdKind.TheVariants.{Handle}
use Rattle.bidi_handles.specs.Ids.{id_of, has_id}
use Rattle.bidi_handles.proofs.ListLemmas.{no_value}
use Rattle.bidi_handles.proofs.NumberLemmas.{among-dedup}
use Rattle.bidi_handles.proofs.SearchLemmas.{numbers-more}
use Rattle.bidi_handles.proofs.handles.handle_numbers.Goals.{in-Some+in_ok-push, in_default}
use Rattle.bidi_handles.proofs.handles.handle_numbers.Goals as goal

pub loop-id-preserved : goal.loop-id-preserved
loop-id-preserved c =
    let now = c.loop-id.numbers.items in
    let r = c.id_number.result in
    let some = subst (λ (text : List ℕ). IfSome r (λ n. (n < 2 ^ 48) × (bytes_eq text (id_of Handle n) ≡ true))) c.deref.ensures c.id_number.ensures.some in
    let every = subst (λ (text : List ℕ). (n : ℕ) → n < 2 ^ 48 → bytes_eq text (id_of Handle n) ≡ true → r ≡ Some n) c.deref.ensures
    c.id_number.ensures.every in
    numbers-more c.args.ids.now c.loop-id.id-index c.id-item.result r now c.match-id_number.numbers.items c.loop-id-test.true
    c.id-item.is some every c.loop-id.invariant
    (elim c.match-id_number.branch [
      | in-Some+in_ok-push w ↦ ap (λ (v : Vec ℕ Global). v.items) w.numbers-is
          ∙ (w.in_ok-push.ensures.items ∙ ap (λ o. now ++ option_to_list o) (sym w.in-Some.is))
      | in_default w ↦ ap (λ (v : Vec ℕ Global). v.items) w.numbers-is
          ∙ (sym (append-nil now) ∙ ap (λ o. now ++ option_to_list o) (sym (no_value r w.in_default.not-Some)))
    ])

pub returns-clause-order : goal.returns-clause-order
returns-clause-order c =
    subst IsStrictlyIncreasing (sym (dedup_is eqb _ _ c.dedup.ensures.filtered)) (IsStrictlyIncreasing-dedup c.sort_unstable.new.self.items c.sort_unstable.ensures.sorted)

pub returns-clause-ids : goal.returns-clause-ids
returns-clause-ids c = λ n fits.
    ap (list_any (λ m. m == n)) (dedup_is eqb _ _ c.dedup.ensures.filtered)
    ∙ (among-dedup n c.sort_unstable.new.self.items
    ∙ (sym (list_any-IsPermutation (λ m. m == n) _ _ c.sort_unstable.ensures.permutation)
    ∙ (c.loop-id.invariant n fits ∙ ap (λ ss. has_id (map string_bytes ss) n) (take_all c.loop-id.id-index c.args.ids.now (omega arith)))))
