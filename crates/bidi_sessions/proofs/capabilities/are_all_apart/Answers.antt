use Rattle.std.proofs.Common.{◌≡◌, ◌∙◌, ℕ, ◌+◌, List, ◌∷◌, Bool, true, false, ◌&&◌, drop, map, true≢false, sym, ap, subst, arith}
use Rattle.std.specs.List.{list_all, AllByRecursion}
use Rattle.bidi_params.specs.contracts.session.capabilities.CapabilityRequestShape.TheImpl.{ghosts}
use Rattle.bidi_sessions.specs.Capabilities.{is_known, are_apart}
use Rattle.bidi_sessions.proofs.ListLemmas.{from-item}
use Rattle.bidi_sessions.proofs.CapabilityLemmas.{asked, asked_if_any}
use Rattle.bidi_sessions.proofs.capabilities.are_all_apart.Goals as goal

rest_true : (b c : Bool) → (b && c) ≡ true → c ≡ true
rest_true true c e = e
rest_true false c e = absurd (true≢false (sym e))

-- what is so of the items from i on is so of those behind
rest_pass : {X Y : Type 0} (f : Y → Bool) (g : X → Y) (xs : List X) (i : ℕ) (x : X)
    → drop i xs ≡ x ∷ drop (i + 1) xs → list_all f (map g (drop i xs)) ≡ true → list_all f (map g (drop (i + 1) xs)) ≡ true
rest_pass f g xs i x is h = rest_true (f (g x)) (list_all f (map g (drop (i + 1) xs))) (ap (λ ys. list_all f (map g ys)) (sym is) ∙ h)

-- the test of the items from i on
all_from : {X Y : Type 0} (f : Y → Bool) (g : X → Y) (xs : List X) (i : ℕ) (x : X) (b : Bool) → drop i xs ≡ x ∷ drop (i + 1) xs → f (g x) ≡ b
    → list_all f (map g (drop i xs)) ≡ (b && list_all f (map g (drop (i + 1) xs)))
all_from f g xs i x b is h = ap (λ ys. list_all f (map g ys)) is ∙ ap (λ c. c && list_all f (map g (drop (i + 1) xs))) h

pub returns-then-not-is_none_or_apart : goal.returns-then-not-is_none_or_apart
returns-then-not-is_none_or_apart c =
    let test = are_apart (asked_if_any c.args.always.now) in
    let xs = c.args.choices.now in
    let i = c.loop-choice.choice-index in
    let x = c.choice-item.result in
    let is = from-item xs i x (omega arith) c.choice-item.is in
    sym (c.loop-choice.invariant.2 ∙ all_from test asked xs i x false is (sym c.is_none_or_apart.ensures ∙ c.if-not-is_none_or_apart.true))

pub loop-choice-preserved : goal.loop-choice-preserved
loop-choice-preserved c =
    let test = are_apart (asked_if_any c.args.always.now) in
    let xs = c.args.choices.now in
    let i = c.loop-choice.choice-index in
    let x = c.choice-item.result in
    let is = from-item xs i x (omega arith) c.choice-item.is in (
      (subst (AllByRecursion ghosts.shape.well) is c.loop-choice.invariant.0).1,
      rest_pass (list_all is_known) asked xs i x is c.loop-choice.invariant.1,
      c.loop-choice.invariant.2 ∙ all_from test asked xs i x true is (sym c.is_none_or_apart.ensures ∙ c.if-not-is_none_or_apart.false),
    )
