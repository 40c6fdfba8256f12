use Rattle.std.proofs.Common.{List, rules, subst, sym}
use Rattle.std.specs.Prelude.{not}
use Rattle.std.specs.List.Sorted.{IsNonDecreasingBy}
use Rattle.std.proofs.lemmas.Fn.{filter_same}
use Rattle.std.proofs.lemmas.List.Kept.{IsNonDecreasingBy-filter}
use Rattle.bidi_sessions.specs.Scope.{is_listed}
use Rattle.bidi_sessions.specs.IndexRows.{Pair}
use Rattle.bidi_sessions.proofs.IndexLemmas.{row-cancelled}
use Rattle.bidi_sessions.proofs.event_index.EventIndex.cancel.Goals as goal

pub returns : goal.returns
returns c =
    row-cancelled c.args.numbers.now c.args.self.now.event _ _ _ _ _ _
    (filter_same _ (λ n. not (is_listed c.args.numbers.now n)) _ (λ x b f' k. search rules) _ _ c.retain.ensures.filtered)
    (filter_same _ (λ (p : Pair). not (is_listed c.args.numbers.now p.1)) _ (λ x b f' k. search rules) _ _ c.retain-2.ensures.filtered)
    (filter_same _ (λ (p : Pair). not (is_listed c.args.numbers.now p.1)) _ (λ x b f' k. search rules) _ _ c.retain-3.ensures.filtered)

pub invariant_of-self : goal.invariant_of-self
invariant_of-self c =
    let keep = λ (p : Pair). not (is_listed c.args.numbers.now p.1) in
    let below = filter_same _ keep _ (λ x b f' k. search rules) _ _ c.retain-2.ensures.filtered in
    let within = filter_same _ keep _ (λ x b f' k. search rules) _ _ c.retain-3.ensures.filtered in
    record {
      below_order = subst (λ (ps : List Pair). IsNonDecreasingBy (λ p. p.0) ps) (sym below)
          (IsNonDecreasingBy-filter (λ (p : Pair). p.0) keep c.args.self.now.below.items c.args.self.now.below_order);
      within_order = subst (λ (ps : List Pair). IsNonDecreasingBy (λ p. p.0) ps) (sym within)
          (IsNonDecreasingBy-filter (λ (p : Pair). p.0) keep c.args.self.now.within.items c.args.self.now.within_order);
    }
