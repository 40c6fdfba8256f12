use Rattle.std.proofs.Common.{ℕ, [], ◌∷◌, ◌++◌, ◌+◌, length-append, refl, sym, ◌∙◌, ap, arith, take, Err}
use Rattle.std.proofs.KnownBytes.{Appends-nil, Appends-trans, Consumes-nil, Consumes-trans}
use Rattle.bidi_lines.specs.Feeds.{ended}
use Rattle.bidi_lines.specs.Answering.{answer_fault_of}
use Rattle.bidi_lines.specs.declared.answering.LinesFault.TheVariants.{Write}
use Rattle.bidi_lines.proofs.AnsweringLemmas.{answer_stop, answered_now, begins_all, begins_more, begins_read, input_stop, last_stop, line_stop, write_stop}
use Rattle.bidi_lines.proofs.InputLineLemmas.{lent_fault, lent_line, lent_none}
use Rattle.bidi_lines.proofs.ResultLemmas.{by_fault, match_none, match_some}
use Rattle.bidi_lines.proofs.answering.answer_lines.Goals as goal

pub lines-init : goal.lines-init
lines-init g c = (
  [],
  [],
  [],
  record {
    begins = record { front = sym c.new-reader.ensures; each = tt };
    answered = c.requires;
    reads = Consumes-nil _;
    writes = Appends-nil _;
    failed_reads = refl;
    failed_writes = refl;
    count = refl;
    few = omega arith;
  },
)

pub returns-in-Err-clause-err : goal.returns-in-Err-clause-err
returns-in-Err-clause-err g c =
    let (read, lines, text, s) = c.lines.invariant in
    let rest = c.lend_next.follows.lender-at-none in
    let ((bytes, more, consumes), says) = lent_fault _ _ c.lines.reader rest _ c.lend_next.result c.in-Err.fault c.in-Err.is c.lend_next.follows.holds-at-none in (
      read ++ bytes,
      text,
      Consumes-trans _ _ _ _ _ s.reads consumes,
      s.writes,
      input_stop g.A.Answerer.answers c.args.answerer.now c.lines.answerer c.args.most c.lines.count c.in-Err.fault c.at_line.result
          (g.R.Source.has_ended c.lend_next.new.source) (read ++ bytes) rest text lines c.at_line.ensures s.count
          (begins_read read bytes c.lines.reader rest lines s.begins more) s.answered s.few says,
    )

pub returns-in-Ok-None-clause-ok : goal.returns-in-Ok-None-clause-ok
returns-in-Ok-None-clause-ok g c =
    let (read, lines, text, s) = c.lines.invariant in
    let rest = c.lend_next.follows.lender-at-none in
    let (bytes, more, consumes, none) =
    lent_none _ _ c.lines.reader rest _ c.lend_next.result c.in-Ok-None.field-0 c.in-Ok-None.is c.in-Ok-None.field-0-is c.lend_next.follows.holds-at-none in (
      read ++ bytes,
      text,
      Consumes-trans _ _ _ _ _ s.reads consumes,
      s.writes,
      (
        lines,
        begins_all (read ++ bytes) rest lines (begins_read read bytes c.lines.reader rest lines s.begins more) none,
        s.answered,
        s.few,
      ),
    )

pub returns-in_err-text-in-Ok-Some-clause-err : goal.returns-in_err-text-in-Ok-Some-clause-err
returns-in_err-text-in-Ok-Some-clause-err g c =
    let (read, lines, text, s) = c.lines.invariant in
    let rest = c.lend_next.follows.lender-at-none in
    let line = c.in-Ok-Some.line in
    let (bytes, more, consumes, is) =
    lent_line _ _ c.lines.reader rest _ c.lend_next.result c.in-Ok-Some.field-0 line c.in-Ok-Some.is c.in-Ok-Some.field-0-is c.lend_next.follows.holds-at-none in
    let e = c.in_err-text-in-Ok-Some.field-0.0 in
    let counted = s.count in
    by_fault c.from_residual.result (answer_fault_of e) _ c.from_residual.ensures (
      read ++ bytes,
      text,
      Consumes-trans _ _ _ _ _ s.reads consumes,
      s.writes,
      answer_stop g.A.Answerer.answers c.args.answerer.now c.lines.answerer c.args.most e (g.R.Source.has_ended c.lend_next.new.source) (read ++ bytes) line.now
          line.now rest text lines
          (begins_read read bytes c.lines.reader (ended line.now ++ rest) lines s.begins more) s.answered is
          refl (omega (arith, counted))
          (λ worn. c.in_err-text-in-Ok-Some.ensures.worn_out c.args.answerer.now lines text s.answered (ap Err worn)),
    )

pub returns-in_default-clause-err : goal.returns-in_default-clause-err
returns-in_default-clause-err g c =
    let (read, lines, text, s) = c.lines.invariant in
    let rest = c.lend_next.follows.lender-at-none in
    let line = c.in-Ok-Some.line in
    let (bytes, more, consumes, is) =
    lent_line _ _ c.lines.reader rest _ c.lend_next.result c.in-Ok-Some.field-0 line c.in-Ok-Some.is c.in-Ok-Some.field-0-is c.lend_next.follows.holds-at-none in
    let refused = match_none c.in_ok-text-in-Ok-Some.field-0 _ _ (c.in_ok-text-in-Ok-Some.ensures.ok c.args.answerer.now lines text s.answered (ap (λ (n : ℕ). n + 1) s.count)) c.in_default.is in (
      read ++ bytes,
      text,
      Consumes-trans _ _ _ _ _ s.reads consumes,
      s.writes,
      line_stop g.A.Answerer.answers c.args.answerer.now c.lines.answerer c.args.most c.lines.count (g.R.Source.has_ended c.lend_next.new.source) (read ++ bytes)
          line.now line.now rest text lines
          (begins_read read bytes c.lines.reader (ended line.now ++ rest) lines s.begins more) s.answered is
          refl refused s.count s.few,
    )

pub returns-in_err-write_all-in-Ok-Some-clause-err : goal.returns-in_err-write_all-in-Ok-Some-clause-err
returns-in_err-write_all-in-Ok-Some-clause-err g c =
    let (read, lines, text, s) = c.lines.invariant in
    let rest = c.lend_next.follows.lender-at-none in
    let line = c.in-Ok-Some.line in
    let (bytes, more, consumes, is) =
    lent_line _ _ c.lines.reader rest _ c.lend_next.result c.in-Ok-Some.field-0 line c.in-Ok-Some.is c.in-Ok-Some.field-0-is c.lend_next.follows.holds-at-none in
    let answer = c.in-Some.text in
    let now =
    answered_now (g.A.Answerer.answers.has_answered c.args.answerer.now c.answer.new.self) lines line.now line.now text answer.items c.deref.result.now
    refl c.deref.ensures.value
    (match_some c.in_ok-text-in-Ok-Some.field-0 answer _ _ (c.in_ok-text-in-Ok-Some.ensures.ok c.args.answerer.now lines text s.answered (ap (λ (n : ℕ). n + 1) s.count)) c.in-Some.is) in
    let front = c.in_err-write_all-in-Ok-Some.ensures.err in
    let before = s.count in
    by_fault c.from_residual-in_err-write_all-in-Ok-Some.result Write _ c.from_residual-in_err-write_all-in-Ok-Some.ensures (
      read ++ bytes,
      text ++ take front.0 c.deref.result.now,
      Consumes-trans _ _ _ _ _ s.reads consumes,
      Appends-trans _ _ _ _ _ s.writes front.2,
      write_stop g.A.Answerer.answers c.args.answerer.now c.lines.answerer c.answer.new.self c.args.most front.0 (g.R.Source.has_ended c.lend_next.new.source)
          (read ++ bytes) line.now rest text c.deref.result.now lines
          (begins_read read bytes c.lines.reader (ended line.now ++ rest) lines s.begins more) s.answered is now
          (omega (arith, before)) front.1,
    )

pub lines-preserved : goal.lines-preserved
lines-preserved g c =
    let (read, lines, text, s) = c.lines.invariant in
    let rest = c.lend_next.follows.lender-at-none in
    let line = c.in-Ok-Some.line in
    let (bytes, more, consumes, is) =
    lent_line _ _ c.lines.reader rest _ c.lend_next.result c.in-Ok-Some.field-0 line c.in-Ok-Some.is c.in-Ok-Some.field-0-is c.lend_next.follows.holds-at-none in
    let answer = c.in-Some.text in
    let now =
    answered_now (g.A.Answerer.answers.has_answered c.args.answerer.now c.answer.new.self) lines line.now line.now text answer.items c.deref.result.now
    refl c.deref.ensures.value
    (match_some c.in_ok-text-in-Ok-Some.field-0 answer _ _ (c.in_ok-text-in-Ok-Some.ensures.ok c.args.answerer.now lines text s.answered (ap (λ (n : ℕ). n + 1) s.count)) c.in-Some.is) in
    let long = length-append lines (line.now ∷ []) in
    let before = s.count in (
      read ++ bytes,
      lines ++ line.now ∷ [],
      text ++ c.deref.result.now,
      record {
        begins = begins_more read bytes line.now c.lines.reader rest lines s.begins more is;
        answered = now;
        reads = Consumes-trans _ _ _ _ _ s.reads consumes;
        writes = Appends-trans _ _ _ _ _ s.writes c.in_ok-write_all-in-Ok-Some.ensures.ok;
        failed_reads = c.in-Ok-Some.ensures.failures ∙ s.failed_reads;
        failed_writes = c.in_ok-write_all-in-Ok-Some.ensures.counts ∙ s.failed_writes;
        count = omega (arith, long, before);
        few = omega (arith, long, before);
      },
    )

pub returns-in-Err-goes_on-clause-err : goal.returns-in-Err-goes_on-clause-err
returns-in-Err-goes_on-clause-err g c =
    let (read, lines, text, s) = c.lines.invariant in
    let next = c.in-Err-goes_on.ensures in
    let (bytes, more, consumes) = next.bytes in (
      read ++ bytes,
      text,
      Consumes-trans _ _ _ _ _ s.reads consumes,
      s.writes,
      last_stop g.A.Answerer.answers c.args.answerer.now c.lines.answerer c.args.most c.lines.count c.in-Err-goes_on.fault c.at_line-in-Err-goes_on.result
          (g.R.Source.has_ended c.goes_on.new.source) (read ++ bytes) text lines c.at_line-in-Err-goes_on.ensures
          (begins_all (read ++ bytes) c.goes_on.new.self lines
          (begins_read read bytes c.lines.reader c.goes_on.new.self lines s.begins more) next.err.1) s.answered s.few next.err.0,
    )

pub returns-in-Ok-true-clause-err : goal.returns-in-Ok-true-clause-err
returns-in-Ok-true-clause-err g c =
    let (read, lines, text, s) = c.lines.invariant in
    let next = c.in-Ok-true.ensures in
    let (bytes, more, consumes) = next.bytes in
    let counted = s.count in let few = s.few in (
      read ++ bytes,
      text,
      Consumes-trans _ _ _ _ _ s.reads consumes,
      s.writes,
      (
        lines,
        c.goes_on.new.self,
        begins_read read bytes c.lines.reader c.goes_on.new.self lines s.begins more,
        (c.lines.answerer, s.answered),
        few,
        (omega (arith, counted, few), next.more c.in-Ok-true.field-0-test),
      ),
    )

pub returns-clause-ok : goal.returns-clause-ok
returns-clause-ok g c =
    let (read, lines, text, s) = c.lines.invariant in
    let next = c.in-Ok-false.ensures in
    let (bytes, more, consumes) = next.bytes in (
      read ++ bytes,
      text,
      Consumes-trans _ _ _ _ _ s.reads consumes,
      s.writes,
      (
        lines,
        begins_all (read ++ bytes) c.goes_on.new.self lines (begins_read read bytes c.lines.reader c.goes_on.new.self lines s.begins more)
            (next.end c.in-Ok-false.field-0-test).0,
        s.answered,
        s.few,
      ),
    )
