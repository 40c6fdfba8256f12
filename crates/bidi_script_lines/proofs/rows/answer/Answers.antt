use Rattle.std.proofs.Common.{inl, ap, map, length}
use Rattle.bidi_sessions.specs.View.{sent_of}
use Rattle.bidi_rows.specs.Reading.{IsAnsweringRow}
use Rattle.bidi_rows.specs.Refusals as texts
use Rattle.bidi_rows.proofs.RefusalLemmas.{no-row-text}
use Rattle.bidi_scripted.specs.Faults.{RefusesRow}
use Rattle.bidi_scripted.specs.View.{script_of}
use Rattle.bidi_script_lines.specs.Outcomes.{OfTest}
use Rattle.bidi_script_lines.specs.Performing.{AddsRow}
use Rattle.bidi_script_lines.proofs.PerformLemmas.{no-effect, no-row}
use Rattle.bidi_script_lines.proofs.rows.answer.Goals as goal

pub returns-in-Ok-clause-brings : goal.returns-in-Ok-clause-brings
returns-in-Ok-clause-brings c = λ h.
    let call = c.in-Ok.ensures in
    let empty = ap (λ items. OfTest (map sent_of items)) c.new.ensures.items in
    inl (call.ok.0, call.ok.1, call.room, empty, call.end, call.ok.2)

pub returns-in-Err-clause-brings : goal.returns-in-Err-clause-brings
returns-in-Err-clause-brings c = λ h.
    let why = texts.RefusesRow c.args.row.now in
    let row = IsAnsweringRow c.args.row.now in
    let bytes = length c.args.row.now in
    let script = script_of c.args.end.now.script in
    no-effect (AddsRow row bytes c.args.end.now c.answer.new.self) _ (RefusesRow why row script bytes) c.in-Err.fault c.args.end.now c.answer.new.self c.refused.result
    c.refused.ensures.ok c.refused.ensures.has_reason c.in-Err.ensures.why (no-row why row (no-row-text c.args.row.now) script bytes) (c.in-Err.ensures.end, c.in-Err.ensures.err)
