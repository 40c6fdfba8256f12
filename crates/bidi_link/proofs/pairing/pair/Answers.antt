use Rattle.std.proofs.Common.{◌≡◌, ◌<◌, ◌≤◌, ◌^◌, ◌∷◌, [], ◌++◌, length, length-append, vec_len, sym, ap, subst, arith}
use Rattle.bidi_ledger.specs.Ledger.{past_after}
use Rattle.bidi_link.specs.Stands.{StandsFor, IsSane}
use Rattle.bidi_ledger.specs.Steps.{AreHeardAs, AreWell, IsWell}
use Rattle.bidi_link.proofs.LeftLemmas.{none-done, all-done, more-done, few-done, front-done, all-among}
use Rattle.bidi_link.proofs.OutcomeLemmas.{outcomes}
use Rattle.bidi_link.proofs.SaneLemmas.{sane-nothing}
use Rattle.bidi_link.proofs.StepLemmas.{heard-more, past_after-more, can-count, worn-is}
use Rattle.bidi_link.proofs.pairing.pair.Goals as goal

pub loop-step-init : goal.loop-step-init
loop-step-init c = ([], [], tt, c.in_ok-ends.ensures, sane-nothing, none-done c.args.steps.items [] c.reverse.new.self.items c.reverse.ensures.items)

pub take-requires : goal.take-requires
take-requires c =
    let inv = c.loop-step.invariant in
    let split = more-done c.args.steps.items inv.0 c.loop-step.left.items c.next_step.new.left.items c.in-Some.step inv.5 c.in-Some.ensures.some in
    all-among IsWell inv.0 _ c.in-Some.step (subst AreWell split c.requires)

pub loop-step-preserved : goal.loop-step-preserved
loop-step-preserved c =
    let inv = c.loop-step.invariant in
    let less = few-done c.args.steps.items inv.0 c.loop-step.left.items inv.5 in
    let few : length inv.0 < 2 ^ 63 = omega (arith, less, c.args.steps.ok, c.args.steps.small) in
    let taken = c.in_ok-take.ensures.ok in
    let q = taken.0 in
    let done = taken.2 (past_after [] inv.1) inv.3 inv.4 (can-count inv.0 inv.1 inv.2 few) in
    let more = sym (past_after-more [] inv.1 q) in (
      inv.0 ++ c.in-Some.step ∷ [],
      inv.1 ++ q ∷ [],
      heard-more inv.0 inv.1 c.in-Some.step q inv.2 taken.1,
      subst (StandsFor c.take.new.self) more done.0,
      subst IsSane more done.1,
      more-done c.args.steps.items inv.0 c.loop-step.left.items c.next_step.new.left.items c.in-Some.step inv.5 c.in-Some.ensures.some,
    )

pub loop-step-smaller : goal.loop-step-smaller
loop-step-smaller c =
    let n = ap length c.in-Some.ensures.some in
    let m = length-append c.next_step.new.left.items (c.in-Some.step ∷ []) in
    omega (arith, n, m)

pub returns-clause-ok : goal.returns-clause-ok
returns-clause-ok c =
    let inv = c.loop-step.invariant in
    let past = past_after [] inv.1 in (
      inv.1,
      subst (λ xs. AreHeardAs xs inv.1) (all-done c.args.steps.items inv.0 c.loop-step.left.items inv.5 c.in_default.ensures.none) inv.2,
      c.in_ok-ledger.ensures.accounts past inv.3,
      inv.4.sound,
      λ m. outcomes past m (inv.4.replies m),
    )

pub returns-in_err-take-clause-worn_out : goal.returns-in_err-take-clause-worn_out
returns-in_err-take-clause-worn_out c = λ worn.
    let inv = c.loop-step.invariant in
    let e = c.in_err-take.field-0.0 in (
      length inv.0,
      inv.1,
      subst (λ xs. AreHeardAs xs inv.1) (sym (front-done c.args.steps.items inv.0 c.loop-step.left.items inv.5)) inv.2,
      c.in_err-take.ensures.worn_out (past_after [] inv.1) inv.3 (worn-is c.from_residual-in_err-take.result e c.from_residual-in_err-take.ensures.1 worn),
    )
