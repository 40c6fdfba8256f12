use Rattle.std.proofs.Common.{◌≡◌, ◌++◌, ap, subst, sym, refl, arith, Err}
use Rattle.std.specs.Prelude.{if◌then◌else◌}
use Rattle.bidi_remote.specs.declared.remote_end.RemoteFault.TheVariants.{WornOut}
use Rattle.bidi_sessions.specs.View.{step_of}
use Rattle.bidi_lines.specs.Feeds.{ended}
use Rattle.bidi_reduce.proofs.StrikeLemmas.{fault_same}
use Rattle.bidi_run.proofs.ScriptReduceLemmas.{few_inputs, step_more}
use Rattle.bidi_run.proofs.reducing.ScriptReducer.take_step.Goals as goal

pub returns-in_err-take_kept-clause-worn_out : goal.returns-in_err-take_kept-clause-worn_out
returns-in_err-take_kept-clause-worn_out c first lines text p worn =
    let same = fault_same c.from_residual.result c.in_err-take_kept.field-0.0 WornOut c.from_residual.ensures worn in
    let many = c.in_err-take_kept.ensures.worn_out p.inputs p.follows (ap Err same) in
    omega (arith, many, few_inputs first c.args.self.now lines text p)

pub returns-in_ok-keep_line-clause-ok : goal.returns-in_ok-keep_line-clause-ok
returns-in_ok-keep_line-clause-ok c first lines text p =
    let before = c.args.self.now in
    let line = c.args.line.now in
    let (i, heard, goes) = c.in_ok-take_kept.ensures.ok in
    step_more first before (record { end = c.take_kept.new.end; session = before.session; is_whole = before.is_whole; kept = c.keep_line.new.kept }) lines line
    text (step_of c.args.step) i c.in_ok-take_kept.field-0 p c.requires.plain refl c.requires.line c.requires.said heard refl (goes p.inputs p.follows)
    (subst (λ b. c.keep_line.new.kept.items ≡ (if b then before.kept.items ++ ended line else before.kept.items)) (sym c.if-branch.true)
    c.in_ok-keep_line.ensures)

pub returns-else-branch-clause-ok : goal.returns-else-branch-clause-ok
returns-else-branch-clause-ok c first lines text p =
    let before = c.args.self.now in
    let line = c.args.line.now in
    let (i, heard, goes) = c.in_ok-take_kept.ensures.ok in
    step_more first before (record { end = c.take_kept.new.end; session = before.session; is_whole = before.is_whole; kept = before.kept }) lines line text
    (step_of c.args.step) i c.in_ok-take_kept.field-0 p c.requires.plain refl c.requires.line c.requires.said heard refl (goes p.inputs p.follows)
    (subst (λ b. before.kept.items ≡ (if b then before.kept.items ++ ended line else before.kept.items)) (sym c.if-branch.false) refl)
