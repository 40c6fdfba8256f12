use Rattle.std.proofs.Common.{[], refl, arith}
use Rattle.std.proofs.KnownBytes.{Appends-nil, Consumes-nil}
use Rattle.bidi_lines.proofs.ResultLemmas.{by_fault}
use Rattle.bidi_play.specs.declared.playing.PlayFault.TheVariants.{NoMemory}
use Rattle.bidi_play.specs.Plays.{play_fault_of}
use Rattle.bidi_script_lines.proofs.ScriptPlayLemmas.{nothing_played, nothing_said, script_stop, scripted_plays_all}
use Rattle.bidi_script_lines.proofs.scripted_play.play_scripted.Goals as goal

pub returns-in_err-new-clause-err : goal.returns-in_err-new-clause-err
returns-in_err-new-clause-err g c =
    by_fault c.from_residual.result NoMemory _ c.from_residual.ensures
    ([], [], Consumes-nil _, Appends-nil _, ([], [], record { front = refl; each = tt }, nothing_said, omega arith, tt))

pub answer_lines-requires : goal.answer_lines-requires
answer_lines-requires g c = nothing_played c.in_ok-new.field-0 c.in_ok-new.ensures.end c.in_ok-new.ensures.script

pub returns-in_err-answer_lines-clause-err : goal.returns-in_err-answer_lines-clause-err
returns-in_err-answer_lines-clause-err g c =
    let f = c.in_err-answer_lines.field-0.0 in
    let (read, wrote, consumes, appends, stops) = c.in_err-answer_lines.ensures.err in
    by_fault c.from_residual-in_err-answer_lines.result (play_fault_of f) _ c.from_residual-in_err-answer_lines.ensures (
      read,
      wrote,
      consumes,
      appends,
      script_stop (record { end = c.in_ok-new.field-0 }) f 18446744073709551615 (g.R.Source.has_ended c.answer_lines.new.source) read wrote (omega arith) stops,
    )

pub returns-clause-ok : goal.returns-clause-ok
returns-clause-ok g c =
    let (read, wrote, consumes, appends, all) = c.in_ok-answer_lines.ensures.ok in (
      read,
      wrote,
      consumes,
      appends,
      scripted_plays_all c.answer_lines.new.answerer.end 18446744073709551615 read wrote all,
    )
