use Rattle.std.proofs.Common.{refl, sym, subst, ap, ap₂}
use Rattle.std.specs.Prelude.{option_map}
use Rattle.bidi_scripts.specs.contracts.table_row.TableRowShape.TheImpl.{ghosts}
use Rattle.bidi_contexts.specs.Actions.{Frame, Unframe, Log}
use Rattle.bidi_browser.specs.Asked.{row_asked}
use Rattle.bidi_sessions.specs.declared.step.PageStep.{PageStep}
use Rattle.bidi_remote.specs.Machine.History.{IsTakenAs, IsRow}
use Rattle.bidi_sessions.specs.View.{page_of}
use Rattle.bidi_remote.proofs.TakeLemmas.{page_taken}
use Rattle.bidi_remote.proofs.state.State.take_page.Goals as goal

pub returns-in-Frame-clause-ok : goal.returns-in-Frame-clause-ok
returns-in-Frame-clause-ok c =
    let action = Frame c.as_str.result.now c.as_str-in-Frame.result.now in
    page_taken c.browse.result (page_of c.args.page) c.args.self.now c.browse.new.self action
    (subst (λ (p : PageStep). IsTakenAs (page_of p) action) (sym c.in-Frame.is) (ap₂ Frame c.as_str.ensures.value c.as_str-in-Frame.ensures.value))
    (λ h short a. c.browse.ensures.ok h short a refl refl)

pub returns-in-Unframe-clause-ok : goal.returns-in-Unframe-clause-ok
returns-in-Unframe-clause-ok c =
    let action = Unframe c.as_str-in-Unframe.result.now in
    page_taken c.browse-in-Unframe.result (page_of c.args.page) c.args.self.now c.browse-in-Unframe.new.self action
    (subst (λ (p : PageStep). IsTakenAs (page_of p) action) (sym c.in-Unframe.is) (ap Unframe c.as_str-in-Unframe.ensures.value))
    (λ h short a. c.browse-in-Unframe.ensures.ok h short a refl refl)

pub returns-in-Log-clause-ok : goal.returns-in-Log-clause-ok
returns-in-Log-clause-ok c =
    let action = Log c.as_str-in-Log.result.now c.in-Log.level c.as_str-in-Log-2.result.now in
    page_taken c.log.result (page_of c.args.page) c.args.self.now c.log.new.self action
    (subst (λ (p : PageStep). IsTakenAs (page_of p) action) (sym c.in-Log.is)
    (ap₂ (λ id line. Log id c.in-Log.level line) c.as_str-in-Log.ensures.value c.as_str-in-Log-2.ensures.value)) c.log.ensures.ok

pub returns-in_ok-row-in-TableRow-clause-ok : goal.returns-in_ok-row-in-TableRow-clause-ok
returns-in_ok-row-in-TableRow-clause-ok c =
    let row = c.in_ok-row-in-TableRow.row in
    let action = row_asked row in
    page_taken c.browse-in-TableRow.result (page_of c.args.page) c.args.self.now c.browse-in-TableRow.new.self action
    (subst (λ (p : PageStep). IsTakenAs (page_of p) action) (sym c.in-TableRow.is) (
      option_map ghosts.shape.tree_of row,
      subst (λ t. IsRow t (option_map ghosts.shape.tree_of row)) c.as_str-in-TableRow.ensures.value c.in_ok-row-in-TableRow.ensures,
      refl,
    ))
    (λ h short a. c.browse-in-TableRow.ensures.ok h short a refl refl)
