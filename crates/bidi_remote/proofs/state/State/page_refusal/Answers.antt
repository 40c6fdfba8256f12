use Rattle.std.proofs.Common.{refl, sym, subst, ap, ap₂}
use Rattle.std.specs.Prelude.{option_map}
use Rattle.bidi_scripts.specs.contracts.table_row.TableRowShape.TheImpl.{ghosts}
use Rattle.bidi_contexts.specs.Actions.{Frame, Unframe, Log}
use Rattle.bidi_browser.specs.Asked.{row_asked}
use Rattle.bidi_sessions.specs.declared.step.PageStep.{PageStep}
use Rattle.bidi_remote.specs.Machine.History.{IsTakenAs, IsRow}
use Rattle.bidi_sessions.specs.View.{page_of}
use Rattle.bidi_remote.proofs.RefusalLemmas.{page_refused}
use Rattle.bidi_remote.proofs.state.State.page_refusal.Goals as goal

pub returns-in-Frame : goal.returns-in-Frame
returns-in-Frame c =
    let action = Frame c.as_str.result.now c.as_str-in-Frame.result.now in
    page_refused c.refusal_of.result (page_of c.args.page.now) c.args.self.now action
    (subst (λ (p : PageStep). IsTakenAs (page_of p) action) (sym c.in-Frame.is) (ap₂ Frame c.as_str.ensures.value c.as_str-in-Frame.ensures.value))
    c.refusal_of.ensures

pub returns-in-Unframe : goal.returns-in-Unframe
returns-in-Unframe c =
    let action = Unframe c.as_str-in-Unframe.result.now in
    page_refused c.refusal_of-in-Unframe.result (page_of c.args.page.now) c.args.self.now action
    (subst (λ (p : PageStep). IsTakenAs (page_of p) action) (sym c.in-Unframe.is) (ap Unframe c.as_str-in-Unframe.ensures.value))
    c.refusal_of-in-Unframe.ensures

pub returns-in-Log : goal.returns-in-Log
returns-in-Log c =
    let action = Log c.as_str-in-Log.result.now c.in-Log.level c.as_str-in-Log-2.result.now in
    page_refused c.refusal_of-in-Log.result (page_of c.args.page.now) c.args.self.now action
    (subst (λ (p : PageStep). IsTakenAs (page_of p) action) (sym c.in-Log.is)
    (ap₂ (λ id line. Log id c.in-Log.level line) c.as_str-in-Log.ensures.value c.as_str-in-Log-2.ensures.value))
    c.refusal_of-in-Log.ensures

pub returns-in_ok-row-in-TableRow : goal.returns-in_ok-row-in-TableRow
returns-in_ok-row-in-TableRow c =
    let row = c.in_ok-row-in-TableRow.row in
    let action = row_asked row in
    page_refused c.refusal_of-in-TableRow.result (page_of c.args.page.now) c.args.self.now action
    (subst (λ (p : PageStep). IsTakenAs (page_of p) action) (sym c.in-TableRow.is) (
      option_map ghosts.shape.tree_of row,
      subst (λ t. IsRow t (option_map ghosts.shape.tree_of row)) c.as_str-in-TableRow.ensures.value c.in_ok-row-in-TableRow.ensures,
      refl,
    ))
    c.refusal_of-in-TableRow.ensures
