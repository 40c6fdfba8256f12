-- The lines before what the reader holds were answered, and no read or write has failed.
use Rattle.std.proofs.Common.{◌≡◌, ◌-◌, ◌≤◌, ℕ, List, length}
use Rattle.std.specs.Io.KnownBytes.{Appends, Consumes}
use Rattle.bidi_lines.specs.InputLines.{IsLine}
use Rattle.bidi_lines.specs.Stops.{BeginsWith}
use Rattle.bidi_lines.proofs.answering.answer_lines.Given as goal

abbrev pub invariant-lines : goal.invariant-lines
invariant-lines g l = (read : List ℕ) × (lines : List (List ℕ)) × (text : List ℕ) × (record {
  begins : BeginsWith IsLine read lines l.reader;
  answered : g.A.Answerer.answers.has_answered l.initial.answerer l.answerer lines text;
  reads : Consumes (g.R.Source.left l.initial.source) (g.R.Source.left l.source) read;
  writes : Appends (g.W.Sink.contents l.initial.sink) (g.W.Sink.contents l.sink) text;
  failed_reads : g.R.Source.failures l.source ≡ g.R.Source.failures l.initial.source;
  failed_writes : g.W.Sink.failures l.sink ≡ g.W.Sink.failures l.initial.sink;
  count : l.count ≡ length lines;
  few : length lines ≤ l.most;
})

abbrev pub decreases-lines : goal.decreases-lines
decreases-lines g l = l.most - l.count
