use Rattle.std.proofs.Common.{ap, ◌+◌, ◌++◌, ◌∷◌, [], ℕ, List, refl, sym, ◌∙◌, ap₂, arith}
use Rattle.std.proofs.KnownBytes.{Appends-nil, Appends-trans, Consumes-nil, Consumes-trans}
use Rattle.bidi_lines.proofs.AnsweringLemmas.{begins_more, begins_read}
use Rattle.bidi_lines.proofs.ResultLemmas.{by_fault}
use Rattle.bidi_why.specs.declared.next_line.Found.TheVariants.{End, Last, Line}
use Rattle.bidi_why.proofs.InputLemmas.{found_as, one_line}
use Rattle.bidi_why.specs.Telling.{SoFar, Sums, TellsNext}
use Rattle.bidi_why.proofs.TellingLemmas.{if_err, leaves_found, leaves_nothing, next_ended, next_last, on_ok, stops_input, stops_line, whole_all, whole_last}
use Rattle.bidi_why.proofs.listing.tell_lines.Goals as goal

pub lines-init : goal.lines-init
lines-init g c = (
  [],
  [],
  [],
  record {
    parts = record { front = sym c.new-reader.ensures; each = tt };
    told = ([], c.requires.nothing, c.requires.sum, omega arith, omega arith);
    reads = Consumes-nil _;
    writes = Appends-nil _;
    failed_reads = refl;
    failed_writes = refl;
  },
)

pub returns-in-Err-clause-err : goal.returns-in-Err-clause-err
returns-in-Err-clause-err g c =
    let (read, lines, text, s) = c.lines.invariant in
    let at_end = g.R.Source.has_ended c.next_line.new.source in
    let (told, h, sum, short, few) = s.told in
    let count = sum.lines in
    let (gone, (bytes, more, consumes), found) = c.in-Err.ensures.finds in (
      read ++ bytes,
      text,
      Consumes-trans _ _ _ _ _ s.reads consumes,
      s.writes,
      stops_input (SoFar g.E.Explainer.has_told c.args.explainer.now) c.in-Err.fault (c.lines.sum.lines + 1) c.at_line.result at_end (read ++ bytes)
          (gone ++ c.next_line.new.reader) text lines c.at_line.ensures
          (begins_read read bytes c.lines.reader (gone ++ c.next_line.new.reader) lines s.parts more) (c.lines.explainer, s.told.0, s.told.1) s.told.4
          (leaves_found c.in-Err.fault (c.lines.sum.lines + 1) lines at_end gone c.next_line.new.reader (omega (arith, count)) found),
    )

pub returns-in-Ok-End-clause-ok : goal.returns-in-Ok-End-clause-ok
returns-in-Ok-End-clause-ok g c =
    let (read, lines, text, s) = c.lines.invariant in
    let (gone, (bytes, more, consumes), (none, last)) =
    found_as _ _ c.lines.reader c.next_line.new.reader (g.R.Source.has_ended c.next_line.new.source) c.in-Ok-End.field-0 End c.in-Ok-End.field-0-is c.in-Ok-End.ensures.finds in (
      read ++ bytes,
      text,
      Consumes-trans _ _ _ _ _ s.reads consumes,
      s.writes,
      whole_all (Sums g.E.Explainer.has_told c.args.explainer.now c.lines.explainer c.lines.sum)
          (read ++ bytes) (gone ++ c.next_line.new.reader) text lines
          (begins_read read bytes c.lines.reader (gone ++ c.next_line.new.reader) lines s.parts more)
          (ap₂ (λ (x y : List ℕ). x ++ y) none last.1) s.told,
    )

pub returns-in-Ok-Last-clause-ok : goal.returns-in-Ok-Last-clause-ok
returns-in-Ok-Last-clause-ok g c =
    let (read, lines, text, s) = c.lines.invariant in
    let line = c.in-Ok-Last.line in
    let (gone, (bytes, more, consumes), (is, some, last)) =
    found_as _ _ c.lines.reader c.next_line.new.reader (g.R.Source.has_ended c.next_line.new.source) c.in-Ok-Last.field-0 (Last line) c.in-Ok-Last.field-0-is c.in-Ok-Last.ensures.finds in
    on_ok c.answer.result c.answer.ensures.ok (λ told. (
      read ++ bytes,
      text ++ told.0,
      Consumes-trans _ _ _ _ _ s.reads consumes,
      Appends-trans _ _ _ _ _ s.writes told.1,
      whole_last (Sums g.E.Explainer.has_told c.args.explainer.now c.answer.new.explainer c.answer.new.sum)
          read bytes gone c.lines.reader c.next_line.new.reader (text ++ told.0) lines s.parts more last.1 some (one_line line gone is)
          (told.2 c.args.explainer.now lines text gone s.told is),
    ))

pub returns-in-Ok-Last-clause-err : goal.returns-in-Ok-Last-clause-err
returns-in-Ok-Last-clause-err g c =
    let (read, lines, text, s) = c.lines.invariant in
    let line = c.in-Ok-Last.line in
    let at_end = g.R.Source.has_ended c.next_line.new.source in
    let counted = s.told.2.lines in
    let (gone, (bytes, more, consumes), (is, some, last)) =
    found_as _ _ c.lines.reader c.next_line.new.reader at_end c.in-Ok-Last.field-0 (Last line) c.in-Ok-Last.field-0-is c.in-Ok-Last.ensures.finds in
    if_err c.answer.result c.answer.ensures.err (λ fault stop.
    let (part, appends, stops) =
    stops_line (SoFar g.E.Explainer.has_told c.args.explainer.now) fault _ _ at_end (read ++ bytes) (gone ++ c.next_line.new.reader) text gone lines
    (λ t. TellsNext g.E.Explainer.has_told c.lines.explainer c.answer.new.explainer c.lines.sum c.answer.new.sum line t)
    stop (λ t tells. let next = tells c.args.explainer.now lines text gone s.told is in (c.answer.new.explainer, next.0, next.1))
    (next_last at_end gone c.next_line.new.reader (one_line line gone is) some last.0 last.1)
    (begins_read read bytes c.lines.reader (gone ++ c.next_line.new.reader) lines s.parts more) (c.lines.explainer, s.told.0, s.told.1)
    (omega (arith, counted)) in (
      read ++ bytes,
      text ++ part,
      Consumes-trans _ _ _ _ _ s.reads consumes,
      Appends-trans _ _ _ _ _ s.writes appends,
      stops,
    ))

pub lines-preserved : goal.lines-preserved
lines-preserved g c =
    let (read, lines, text, s) = c.lines.invariant in
    let line = c.in-Ok-Line.line in
    let (gone, (bytes, more, consumes), (is, at, whole)) =
    found_as _ _ c.lines.reader c.next_line.new.reader (g.R.Source.has_ended c.next_line.new.source) c.in-Ok-Line.field-0 (Line line) c.in-Ok-Line.field-0-is c.in-Ok-Line.ensures.finds in
    let told = c.in_ok-answer-in-Ok-Line.ensures in
    let (here, appends, tells) = told.ok in (
      read ++ bytes,
      lines ++ is ∷ [],
      text ++ here,
      record {
        parts = begins_more read bytes is c.lines.reader c.next_line.new.reader lines s.parts
            (ap (λ (z : List ℕ). z ++ c.next_line.new.reader) (sym whole) ∙ more) (one_line line is at);
        told = tells c.args.explainer.now lines text is s.told at;
        reads = Consumes-trans _ _ _ _ _ s.reads consumes;
        writes = Appends-trans _ _ _ _ _ s.writes appends;
        failed_reads = c.in-Ok-Line.ensures.failures ∙ s.failed_reads;
        failed_writes = told.writes ∙ s.failed_writes;
      },
    )

pub returns-in_err-answer-in-Ok-Line-clause-err : goal.returns-in_err-answer-in-Ok-Line-clause-err
returns-in_err-answer-in-Ok-Line-clause-err g c =
    let (read, lines, text, s) = c.lines.invariant in
    let line = c.in-Ok-Line.line in
    let at_end = g.R.Source.has_ended c.next_line.new.source in
    let counted = s.told.2.lines in
    let (gone, (bytes, more, consumes), (is, at, whole)) =
    found_as _ _ c.lines.reader c.next_line.new.reader at_end c.in-Ok-Line.field-0 (Line line) c.in-Ok-Line.field-0-is c.in-Ok-Line.ensures.finds in
    let fault = c.in_err-answer-in-Ok-Line.field-0.0 in
    let (part, appends, stops) =
    stops_line (SoFar g.E.Explainer.has_told c.args.explainer.now) fault _ _ at_end (read ++ bytes) (gone ++ c.next_line.new.reader) text is lines
    (λ t. TellsNext g.E.Explainer.has_told c.lines.explainer c.answer-in-Ok-Line.new.explainer c.lines.sum c.answer-in-Ok-Line.new.sum line t)
    c.in_err-answer-in-Ok-Line.ensures.err
    (λ t tells. let next = tells c.args.explainer.now lines text is s.told at in (c.answer-in-Ok-Line.new.explainer, next.0, next.1))
    (next_ended at_end is gone c.next_line.new.reader (one_line line is at) whole)
    (begins_read read bytes c.lines.reader (gone ++ c.next_line.new.reader) lines s.parts more) (c.lines.explainer, s.told.0, s.told.1)
    (omega (arith, counted)) in
    by_fault c.from_residual.result fault _ c.from_residual.ensures (
      read ++ bytes,
      text ++ part,
      Consumes-trans _ _ _ _ _ s.reads consumes,
      Appends-trans _ _ _ _ _ s.writes appends,
      stops,
    )

pub returns-in-Err-goes_on-clause-err : goal.returns-in-Err-goes_on-clause-err
returns-in-Err-goes_on-clause-err g c =
    let (read, lines, text, s) = c.lines.invariant in
    let none = c.in-Err-goes_on.ensures.err in
    let (bytes, more, consumes) = c.in-Err-goes_on.ensures.bytes in (
      read ++ bytes,
      text,
      Consumes-trans _ _ _ _ _ s.reads consumes,
      s.writes,
      stops_input (SoFar g.E.Explainer.has_told c.args.explainer.now) c.in-Err-goes_on.fault c.lines.sum.lines c.at_line-in-Err-goes_on.result
          (g.R.Source.has_ended c.goes_on.new.source) (read ++ bytes) c.goes_on.new.self text lines c.at_line-in-Err-goes_on.ensures
          (begins_read read bytes c.lines.reader c.goes_on.new.self lines s.parts more) (c.lines.explainer, s.told.0, s.told.1) s.told.4
          (leaves_nothing c.in-Err-goes_on.fault c.lines.sum.lines lines c.goes_on.new.self none.0 none.1),
    )

pub returns-in-Ok-true-clause-err : goal.returns-in-Ok-true-clause-err
returns-in-Ok-true-clause-err g c =
    let (read, lines, text, s) = c.lines.invariant in
    let (bytes, more, consumes) = c.in-Ok-true.ensures.bytes in
    let (told, h, sum, short, few) = s.told in
    let counted = sum.lines in (
      read ++ bytes,
      text,
      Consumes-trans _ _ _ _ _ s.reads consumes,
      s.writes,
      (
        lines,
        c.goes_on.new.self,
        begins_read read bytes c.lines.reader c.goes_on.new.self lines s.parts more,
        (c.lines.explainer, s.told.0, s.told.1),
        few,
        (omega (arith, counted, few), c.in-Ok-true.ensures.more c.in-Ok-true.field-0-test),
      ),
    )

pub returns-clause-ok : goal.returns-clause-ok
returns-clause-ok g c =
    let (read, lines, text, s) = c.lines.invariant in
    let next = c.in-Ok-false.ensures in
    let (bytes, more, consumes) = next.bytes in (
      read ++ bytes,
      text,
      Consumes-trans _ _ _ _ _ s.reads consumes,
      s.writes,
      whole_all (Sums g.E.Explainer.has_told c.args.explainer.now c.lines.explainer c.lines.sum)
          (read ++ bytes) c.goes_on.new.self text lines
          (begins_read read bytes c.lines.reader c.goes_on.new.self lines s.parts more) (next.end c.in-Ok-false.field-0-test).0 s.told,
    )
