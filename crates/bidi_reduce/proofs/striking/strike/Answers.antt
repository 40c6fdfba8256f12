use Rattle.std.proofs.Common.{[], ◌∷◌, ◌++◌, map, take, take_all, sym, ap, subst, ◌∙◌, arith, Err}
use Rattle.std.specs.Prelude.{if◌then◌else◌}
use Rattle.bidi_remote.specs.declared.remote_end.RemoteFault.TheVariants.{WornOut}
use Rattle.bidi_remote.specs.Machine.History.{AreHeardAs}
use Rattle.bidi_reduce.specs.Kept.{strike_steps}
use Rattle.bidi_sessions.specs.View.{step_of}
use Rattle.bidi_remote.proofs.HeardLemmas.{heard_more}
use Rattle.bidi_reduce.specs.Follows.{is_kept}
use Rattle.bidi_reduce.proofs.AlikeLemmas.{sees-strike}
use Rattle.bidi_reduce.proofs.StrikeLemmas.{fault_same, follows_none, one_further, strike_more, strikes, taken_more}
use Rattle.bidi_reduce.proofs.striking.strike.Goals as goal

pub loop-step-init : goal.loop-step-init
loop-step-init c = (
  [],
  record {
    follows = follows_none c.in_ok-end.end c.args.session c.in_ok-end.ensures;
    heard = tt;
    kept = ap (map step_of) c.new-kept.ensures.items;
  },
)

pub returns-in_err-end-clause-sees_same : goal.returns-in_err-end-clause-sees_same
returns-in_err-end-clause-sees_same c = sees-strike

pub returns-in_err-keep_if_kept-clause-sees_same : goal.returns-in_err-keep_if_kept-clause-sees_same
returns-in_err-keep_if_kept-clause-sees_same c = sees-strike

pub returns-in_err-keep_if_kept-clause-worn_out : goal.returns-in_err-keep_if_kept-clause-worn_out
returns-in_err-keep_if_kept-clause-worn_out c = λ worn.
    let (inputs, s) = c.loop-step.invariant in
    let e = c.in_err-keep_if_kept.field-0.0 in
    let same = fault_same c.from_residual-in_err-keep_if_kept.result e WornOut c.from_residual-in_err-keep_if_kept.ensures worn in
    one_further c.args.steps.now c.loop-step.step-index inputs s.heard c.loop-step-test.true
    (c.in_err-keep_if_kept.ensures.worn_out inputs s.follows (ap Err same))

pub loop-step-preserved : goal.loop-step-preserved
loop-step-preserved c =
    let (inputs, s) = c.loop-step.invariant in
    let (i, heard, goes) = c.in_ok-keep_if_kept.ensures.ok in
    let (kept, follows) = goes inputs s.follows in
    let x = c.step-item.result in
    let before = map step_of (take c.loop-step.step-index c.args.steps.now) in
    let more = taken_more c.args.steps.now c.loop-step.step-index x c.loop-step-test.true c.step-item.is in (
      inputs ++ i ∷ [],
      record {
        follows = follows;
        heard = subst (λ xs. AreHeardAs xs (inputs ++ i ∷ [])) (sym more) (heard_more before inputs (step_of x) i s.heard heard);
        kept =
            kept
            ∙ (ap (λ ks. ks ++ (if is_kept c.args.session inputs i then step_of x ∷ [] else [])) s.kept
            ∙ (sym (strike_more c.args.session before inputs (step_of x) i s.heard)
            ∙ ap (λ xs. strike_steps xs (inputs ++ i ∷ []) c.args.session) (sym more)));
      },
    )

pub returns-clause-ok : goal.returns-clause-ok
returns-clause-ok c =
    let (inputs, s) = c.loop-step.invariant in
    let whole = ap (map step_of) (take_all c.loop-step.step-index c.args.steps.now (omega arith)) in
    strikes c.args.session (map step_of c.args.steps.now) (map step_of c.loop-step.kept.items) inputs
    (subst (λ xs. AreHeardAs xs inputs) whole s.heard) (s.kept ∙ ap (λ xs. strike_steps xs inputs c.args.session) whole)

pub returns-clause-sees_same : goal.returns-clause-sees_same
returns-clause-sees_same c = sees-strike
