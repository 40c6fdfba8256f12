use Rattle.std.proofs.Common.{◌≡◌, ◌∙◌, ℕ, List, length, map, filter, Result, Ok, rules, sym, ap, subst}
use Rattle.std.specs.Prelude.{◌==◌, not}
use Rattle.std.specs.List.{remove}
use Rattle.std.specs.List.Sorted.{IsSearchInRange, IsBinarySearchResult, IsStrictlyIncreasing}
use Rattle.std.specs.Ordering.{nat_cmp}
use Rattle.std.proofs.lemmas.List.Sorted.{answers_always}
use Rattle.bidi_handles.specs.declared.handle.Handle.{Handle}
use Rattle.bidi_handles.specs.ValuesInHand.{handle_seen}
use Rattle.bidi_handles.proofs.ListLemmas.{filter-map}
use Rattle.bidi_handles.proofs.SearchLemmas.{ascend-filter, taken, not-taken}
use Rattle.bidi_handles.proofs.handles.Handles.release.Goals as goal

-- the handles that are left, as contracts see them
seen : (n : ℕ) (hs left : List Handle) → left ≡ filter (λ h. not (n == h.number)) hs → map handle_seen left ≡ filter (λ s. not (n == s.0)) (map handle_seen hs)
seen n hs left is = ap (map handle_seen) is ∙ sym (filter-map handle_seen (λ s. not (n == s.0)) hs)

-- the borrowed handles are those of the realm
module _ (n : ℕ) (hs all : List Handle) (same : all ≡ hs) (ascend : IsStrictlyIncreasing (map (λ h. h.number) hs)) where
  out : (i : ℕ) (d : Handle) → IsSearchInRange (Ok i) (length all) → IsBinarySearchResult (λ h. nat_cmp h.number n) all (Ok i)
      → remove hs i ≡ filter (λ h. not (n == h.number)) hs
  out i d = subst (λ (ys : List Handle). IsSearchInRange (Ok i) (length ys) → IsBinarySearchResult (λ h. nat_cmp h.number n) ys (Ok i)
      → remove hs i ≡ filter (λ h. not (n == h.number)) hs) (sym same) (taken (λ (h : Handle). h.number) hs ascend n i d)

  left : (r : Result ℕ ℕ) → ((i : ℕ) → r ≡ Ok i → ⊥) → IsSearchInRange r (length all) → IsBinarySearchResult (λ h. nat_cmp h.number n) all r
      → hs ≡ filter (λ h. not (n == h.number)) hs
  left r none = subst (λ (ys : List Handle). IsSearchInRange r (length ys) → IsBinarySearchResult (λ h. nat_cmp h.number n) ys r
      → hs ≡ filter (λ h. not (n == h.number)) hs) (sym same) (not-taken (λ (h : Handle). h.number) hs ascend n r none)

pub returns-in-Ok : goal.returns-in-Ok
returns-in-Ok c =
    let hs = c.args.self.now.items.items in
    let result = c.in-Ok.ensures.position (λ h. h.number) (answers_always _ _ _ (λ f a r g called. search rules)) in
    seen c.args.number hs c.remove.new.self.items (c.remove.ensures.items ∙ out c.args.number hs c.deref.result.now c.deref.ensures.value c.args.self.now.ascend
    c.in-Ok.place c.remove.result c.in-Ok.ensures.bound result)

pub invariant_of-self : goal.invariant_of-self
invariant_of-self c =
    let hs = c.args.self.now.items.items in
    let result = c.in-Ok.ensures.position (λ h. h.number) (answers_always _ _ _ (λ f a r g called. search rules)) in
    let is = c.remove.ensures.items ∙ out c.args.number hs c.deref.result.now c.deref.ensures.value c.args.self.now.ascend
    c.in-Ok.place c.remove.result c.in-Ok.ensures.bound result in record {
      ascend = subst (λ (hs : List Handle). IsStrictlyIncreasing (map (λ h. h.number) hs)) (sym is)
          (ascend-filter (λ m. not (c.args.number == m)) hs c.args.self.now.ascend);
    }

pub returns-in_default : goal.returns-in_default
returns-in_default c =
    let hs = c.args.self.now.items.items in
    let found = c.binary_search_by_key in
    let result = found.ensures.position (λ h. h.number) (answers_always _ _ _ (λ f a r g called. search rules)) in
    seen c.args.number hs hs (left c.args.number hs c.deref.result.now c.deref.ensures.value c.args.self.now.ascend
    found.result c.in_default.not-Ok found.ensures.bound result)
