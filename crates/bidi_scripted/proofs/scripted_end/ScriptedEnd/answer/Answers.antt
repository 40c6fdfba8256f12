use Rattle.std.proofs.Common.{◌≡◌, true, subst}
use Rattle.std.specs.Prelude.{IfErr, OnOk}
use Rattle.bidi_rows.specs.Reading.{IsAnsweringRow}
use Rattle.bidi_rows.specs.Refusals as texts
use Rattle.bidi_rows.specs.View.{row_of}
use Rattle.bidi_scripted.specs.Faults.{RefusesRow}
use Rattle.bidi_scripted.specs.Script.{has_room_for_row}
use Rattle.bidi_scripted.specs.View.{script_of}
use Rattle.bidi_scripted.proofs.FateLemmas.{on-ok}
use Rattle.bidi_scripted.proofs.FaultLemmas.{refused, unread-lives, not-added, if-err}
use Rattle.bidi_scripted.proofs.scripted_end.ScriptedEnd.answer.Goals as goal

pub returns-clause-ok : goal.returns-clause-ok
returns-clause-ok c = on-ok c.add_row.result (λ is. (row_of c.in_ok-row.row, c.in_ok-row.ensures.ok, is)) c.add_row.ensures.ok

pub returns-clause-room : goal.returns-clause-room
returns-clause-room c =
    subst (λ n. OnOk c.add_row.result (has_room_for_row (script_of c.args.self.now.script) n ≡ true)) c.in_ok-row.ensures.ok.0.bytes c.add_row.ensures.room

pub returns-clause-why : goal.returns-clause-why
returns-clause-why c =
    let script = script_of c.args.self.now.script in
    if-err c.add_row.result (not-added (texts.RefusesRow c.args.row.now) (IsAnsweringRow c.args.row.now) (row_of c.in_ok-row.row) script _ c.in_ok-row.ensures.ok)
    (subst (λ n. IfErr c.add_row.result (RefusesRow (λ f. ⊥) (λ r. r ≡ row_of c.in_ok-row.row) script n)) c.in_ok-row.ensures.ok.0.bytes c.add_row.ensures.why)

pub returns-in_err-row-clause-why : goal.returns-in_err-row-clause-why
returns-in_err-row-clause-why c =
    refused _ _ c.from_residual.result c.from_residual.ensures.1 c.in_err-row.ensures.why tt (λ f why. why)

pub returns-in_err-row-clause-worn_out : goal.returns-in_err-row-clause-worn_out
returns-in_err-row-clause-worn_out c = λ is. unread-lives _ _ c.from_residual.ensures.1 is
