use Rattle.std.proofs.Common.{[], ap, ◌∙◌, subst, take, Err, List, ℕ, length, ◌<◌}
use Rattle.std.proofs.KnownBytes.{Appends-nil}
use Rattle.bidi_lines.specs.declared.answering.LinesFault.TheVariants.{NoMemory, Write}
use Rattle.bidi_lines.proofs.ResultLemmas.{by_fault}
use Rattle.bidi_pair_lines.specs.PairLines.{ledger_text}
use Rattle.bidi_pair_lines.proofs.PairLemmas.{memory_stop, pair_stop, worn_stop, write_stop}
use Rattle.bidi_run.proofs.pairing.play_pair.Goals as goal

pub returns-in_err-steps-clause-err : goal.returns-in_err-steps-clause-err
returns-in_err-steps-clause-err g c =
    let f = c.in_err-steps.field-0.0 in
    let (read, consumes, stops) = c.in_err-steps.ensures.err in
    by_fault c.from_residual.result f _ c.from_residual.ensures
    (read, [], consumes, Appends-nil _, pair_stop f (g.R.Source.has_ended c.read_steps.new.source) read stops)

pub returns-in-Err-NoMemory-clause-err : goal.returns-in-Err-NoMemory-clause-err
returns-in-Err-NoMemory-clause-err g c =
    let (read, consumes, schedule) = c.in_ok-steps.ensures.ok in
    (read, [], consumes, Appends-nil _, memory_stop (g.R.Source.has_ended c.read_steps.new.source) read c.in_ok-steps.steps.items schedule)

pub returns-in-Err-WornOut-clause-err : goal.returns-in-Err-WornOut-clause-err
returns-in-Err-WornOut-clause-err g c =
    let (read, consumes, schedule) = c.in_ok-steps.ensures.ok in (
      read,
      [],
      consumes,
      Appends-nil _,
      worn_stop (g.R.Source.has_ended c.read_steps.new.source) read c.in_ok-steps.steps.items schedule
          (c.in-Err-WornOut.ensures.worn_out (ap Err c.in-Err-WornOut.field-0-is)),
    )

pub returns-in_err-text-clause-err : goal.returns-in_err-text-clause-err
returns-in_err-text-clause-err g c =
    let (read, consumes, schedule) = c.in_ok-steps.ensures.ok in
    by_fault c.from_residual-in_err-text.result NoMemory _ c.from_residual-in_err-text.ensures
    (read, [], consumes, Appends-nil _, memory_stop (g.R.Source.has_ended c.read_steps.new.source) read c.in_ok-steps.steps.items schedule)

pub returns-in_err-write_all-clause-err : goal.returns-in_err-write_all-clause-err
returns-in_err-write_all-clause-err g c =
    let (read, consumes, schedule) = c.in_ok-steps.ensures.ok in
    let (inputs, heard, pages, sound, outcomes) = c.in-Ok.ensures.ok in
    let text = c.as_bytes.result.now in
    let front = c.in_err-write_all.ensures.err in
    let same = c.as_bytes.ensures.value ∙ (c.in_ok-text.ensures ∙ ap ledger_text pages) in
    by_fault c.from_residual-in_err-write_all.result Write _ c.from_residual-in_err-write_all.ensures (
      read,
      take front.0 text,
      consumes,
      front.2,
      write_stop (g.R.Source.has_ended c.read_steps.new.source) read text front.0 (c.in_ok-steps.steps.items, inputs, schedule, heard, same) front.1,
    )
