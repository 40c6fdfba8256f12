use Rattle.std.proofs.Common.{◌≡◌, ◌∙◌, ℕ, List, ◌++◌, subst, sym, ap, inl, inr}
use Rattle.std.specs.List.Sorted.{IsPermutation}
use Rattle.std.proofs.lemmas.List.Sorted.{IsNonDecreasingBy-from_sort}
use Rattle.bidi_sessions.specs.IndexRows.{named_in}
use Rattle.bidi_sessions.specs.SubscriptionView.{scope_of}
use Rattle.bidi_sessions.proofs.subscription_table.put_in_order.Goals as goal

pub returns-in-Below : goal.returns-in-Below
returns-in-Below c =
    let put = c.push_each.ensures ∙ ap (λ ts. ts ++ c.deref.result.now) c.clear.ensures.items in
    let is : c.in-Below.named.items ≡ named_in (scope_of c.args.scope.now) =
    elim c.in-Below.is [
      | inl below ↦ ap (λ s. named_in (scope_of s)) (sym below)
      | inr within ↦ ap (λ s. named_in (scope_of s)) (sym within)
    ] in
    let named = put ∙ (c.deref.ensures.value ∙ is) in
    record {
      moved = subst (λ (ts : List ℕ). IsPermutation ts c.sort_unstable.new.self.items) named c.sort_unstable.ensures.permutation;
      ascending = IsNonDecreasingBy-from_sort (λ x. x) c.sort_unstable.new.self.items c.sort_unstable.ensures.sorted;
    }
