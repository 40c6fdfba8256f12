use Rattle.std.proofs.Common.{false, [], refl, arith}
use Rattle.std.proofs.KnownBytes.{Appends-nil, Consumes-nil}
use Rattle.bidi_lines.specs.declared.answering.LinesFault.TheVariants.{NoMemory}
use Rattle.bidi_lines.proofs.ResultLemmas.{by_fault}
use Rattle.bidi_lines.proofs.StopLemmas.{stops_as}
use Rattle.bidi_show.specs.declared.showing.Lister.{Lister}
use Rattle.bidi_show.proofs.ListingLemmas.{lists_all, lists_so}
use Rattle.bidi_show.proofs.showing.list.Goals as goal

pub returns-in_err-boxed_scratch-clause-err : goal.returns-in_err-boxed_scratch-clause-err
returns-in_err-boxed_scratch-clause-err g c =
    by_fault c.from_residual.result NoMemory _ c.from_residual.ensures (
      [],
      [],
      Consumes-nil _,
      Appends-nil _,
      ([], [], record { front = refl; each = tt }, refl, omega arith, tt),
    )

pub answer_lines-requires : goal.answer_lines-requires
answer_lines-requires g c = record { listing = refl; side = refl; lists = refl; tells = refl }

pub returns-in_err-answer_lines-clause-err : goal.returns-in_err-answer_lines-clause-err
returns-in_err-answer_lines-clause-err g c =
    let first : Lister = record { listing = c.args.listing; side = c.args.side; scratch = c.in_ok-boxed_scratch.field-0; has_written = false } in
    let f = c.in_err-answer_lines.field-0.0 in
    let (read, wrote, consumes, appends, stops) = c.in_err-answer_lines.ensures.err in
    by_fault c.from_residual-in_err-answer_lines.result f _ c.from_residual-in_err-answer_lines.ensures
    (read, wrote, consumes, appends, stops_as _ _ (lists_so first) f (g.R.Source.has_ended c.answer_lines.new.source) read wrote stops)

pub returns-clause-ok : goal.returns-clause-ok
returns-clause-ok g c =
    let first : Lister = record { listing = c.args.listing; side = c.args.side; scratch = c.in_ok-boxed_scratch.field-0; has_written = false } in
    let (read, wrote, consumes, appends, all) = c.in_ok-answer_lines.ensures.ok in
    (read, wrote, consumes, appends, lists_all first c.answer_lines.new.answerer read wrote all)
